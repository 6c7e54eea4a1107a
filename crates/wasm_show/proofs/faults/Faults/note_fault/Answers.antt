use Rattle.std.specs.String.{string_bytes}
use Rattle.std.proofs.Common.{ap, ◌∙◌, refl}
use Rattle.wasm_base.specs.FaultAt.{fault_at}
use Rattle.wasm_output.proofs.ForCallers.{more_none, more_same}
use Rattle.wasm_show.specs.Noted.{found_by, site_of}
use Rattle.wasm_show.specs.Seen.{faulty}
use Rattle.wasm_show.proofs.Noting.{loud, noted_one, or_true, quietly}
use Rattle.wasm_show.proofs.faults.Faults.note_fault.Goals as goal

pub returns-then-not-self : goal.returns-then-not-self
returns-then-not-self g c =
    let old = found_by c.args.self.now in
    let n = faulty (fault_at c.args.error.now) in
    let kept = c.put_fault.ensures.kept in
    noted_one n old _ (more_same _ _ _ _ (loud old n c.if-not-self.true) c.put_fault.ensures.puts)
    (ap (λ t. string_bytes t.prefix) kept) (ap (λ t. t.is_quiet) kept) (λ e. ap (λ t. site_of t.place) kept)
    (λ e. ap (λ t. t.has_found) kept ∙ or_true c.args.self.now.has_found)

pub returns-else-not-self : goal.returns-else-not-self
returns-else-not-self g c =
    let old = found_by c.args.self.now in
    let n = faulty (fault_at c.args.error.now) in
    noted_one n old (record old { has_found = _ }) (more_same _ _ _ _ (quietly old n c.if-not-self.false) (more_none old.output)) refl refl
    (λ e. refl) (λ e. or_true old.has_found)
