use Rattle.wasm_dumper.proofs.Common.{[], report_of}
use Rattle.wasm_base.specs.Features.{all_features}
use Rattle.wasm_base.specs.Window.{window_over}
use Rattle.wasm_dumper.specs.Chosen.{fields_part}
use Rattle.wasm_dumper.proofs.Outlines.{custom_shown}
use Rattle.wasm_dumper.proofs.stream.show_outline.Goals as goal

pub returns : goal.returns
returns g c report bytes is =
    let section = c.args.section.now in
    let payload = c.without_data-payload in
    custom_shown c.args.shown.only.now c.args.shown.has_bytes section report is (window_over all_features section.data_offset [])
    (report_of payload.result) payload.ensures.is c.shows_items.result c.shows_items.ensures (fields_part c.fields.result) c.fields.ensures
    c.args.counts.now bytes (g.O.Tree.writing c.args.out.now) (g.O.Tree.writing c.show_custom_event.new.out)
    (g.O.Tree.writing c.show_payload_if.new.out) c.show_custom_event.ensures (c.show_payload_if.ensures payload.ensures.begins)
