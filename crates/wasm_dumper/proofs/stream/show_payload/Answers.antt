use Rattle.wasm_dumper.proofs.Common.{◌≡◌, [], refl, report_of}
use Rattle.wasm_dumper.proofs.Numbering.{not_custom, shows_none, shows_report}
use Rattle.wasm_dumper.proofs.stream.show_payload.Goals as goal

pub returns-in-CustomSection : goal.returns-in-CustomSection
returns-in-CustomSection g c begins = rw c.in-CustomSection.is (shows_none (λ shown. shown ≡ []) _ _ refl c.show_custom.ensures)

pub returns-in_default : goal.returns-in_default
returns-in_default g c begins = shows_report g.O.Tree.writing c.args.counts.now _ _ (report_of c.args.payload.now)
    (not_custom c.args.payload.now c.in_default.not-CustomSection) (c.walk_items_of.ensures begins)
