use Rattle.wasm_dumper.proofs.Common.{sym, ◌∙◌, report_of}
use Rattle.wasm_dumper.proofs.Numbering.{shows_chosen, shows_unchosen}
use Rattle.wasm_dumper.proofs.stream.show_chosen.Goals as goal

pub returns-then-chooses : goal.returns-then-chooses
returns-then-chooses g c begins = shows_chosen c.args.shown.only.now c.args.shown.has_bytes c.args.counts.now
    (report_of c.args.payload.now) c.args.part.bytes.now _ _ _ _
    (sym c.chooses.ensures ∙ c.if-chooses.true)
    c.show_bytes.ensures c.show_event.ensures
    (rw c.shows_items.ensures at (c.show_payload_if.ensures begins))

pub returns-else-chooses : goal.returns-else-chooses
returns-else-chooses g c begins = shows_unchosen c.args.shown.only.now c.args.shown.has_bytes c.args.counts.now
    (report_of c.args.payload.now)
    c.args.part.bytes.now _
    (sym c.chooses.ensures ∙ c.if-chooses.false)
