use Rattle.std.proofs.Common.{◌∷◌, [], List, ℕ, codes, subst}
use Rattle.wasm_output.specs.Fields.{named, raw, range}
use Rattle.wasm_show.specs.ItemText.{data_kind_fields}
use Rattle.wasm_output.specs.Said.{HasLine}
use Rattle.wasm_output.specs.Tree.{base_of}
use Rattle.wasm_output.proofs.ForCallers.{more_fields}
use Rattle.wasm_show.proofs.items.DataShow.show.Goals as goal

pub returns-clause-says : goal.returns-clause-says
returns-clause-says g c since before h =
    let d = c.args.self.now in
    let kind = c.show_data_kind.ensures.says since before h in (
      kind.0,
      subst (λ (t : List ℕ). HasLine since t (g.O.Tree.writing c.range.new.self)) (more_fields (base_of since.style) before
          (data_kind_fields d.kind kind.0)
          (named (codes "data") (raw d.bytes.now) ∷ named (codes "range") (range d.range.start d.range.end) ∷ []))
          (c.range.ensures.says since _ (c.raw.ensures.says since _ kind.1)),
    )
