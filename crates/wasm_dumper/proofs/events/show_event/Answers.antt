use Rattle.wasm_dumper.proofs.Common.{ℕ, List, Some, sym, ap, subst, Report, report_of, base_of, AddsFirst, numbered_line}
use Rattle.wasm_base.specs.Window.{place}
use Rattle.wasm_dumper.specs.Chosen.{fields_part}
use Rattle.wasm_frames.specs.Frame.{unread}
use Rattle.wasm_frames.specs.SkipNext.{Skip}
use Rattle.wasm_dumper.proofs.Outlines.{custom_line}
use Rattle.wasm_dumper.proofs.events.show_event.Goals as goal

pub returns-in-CustomSection : goal.returns-in-CustomSection
returns-in-CustomSection g c =
    let s = c.in-CustomSection.section in
    let old = g.O.Tree.writing c.args.out.now in
    let new = g.O.Tree.writing c.show_custom_event.new.out in
    let base = base_of old.style in
    let line = custom_line base c.args.counts.now s.name (place s.reader).offset (unread s.reader) (fields_part c.fields_of.result)
    (ap (λ (x : Skip). Some x) (sym c.fields_of.ensures)) in
    subst (λ (r : Report). AddsFirst (numbered_line base c.args.counts.now r) old new) (ap report_of (sym c.in-CustomSection.is))
    (subst (λ (x : List ℕ). AddsFirst x old new) (sym line) c.show_custom_event.ensures)
