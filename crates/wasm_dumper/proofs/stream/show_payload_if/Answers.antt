use Rattle.wasm_dumper.proofs.Common.{report_of, sym, subst}
use Rattle.wasm_dumper.proofs.Numbering.{shows_items_none}
use Rattle.wasm_dumper.specs.Dump.{ShowsItemsIf}
use Rattle.wasm_dumper.proofs.stream.show_payload_if.Goals as goal

pub returns-else-has_items : goal.returns-else-has_items
returns-else-has_items g c begins =
    let w = g.O.Tree.writing c.args.out.now in
    subst (λ b. ShowsItemsIf b c.args.counts.now (report_of c.args.payload.now) w w) (sym c.if-has_items.false)
    (shows_items_none c.args.counts.now (report_of c.args.payload.now) w w (λ o i. i))
