use Rattle.wasm_base.specs.Features.{all_features}
use Rattle.wasm_base.specs.Window.{window_over}
use Rattle.wasm_dumper.proofs.Common.{◌∷◌, [], false, report_of}
use Rattle.wasm_dumper.specs.declared.events.Only.TheVariants.{All}
use Rattle.wasm_dumper.proofs.Outlines.{custom_counted, none_hidden, outline_seen}
use Rattle.wasm_show.proofs.ForCallers.{sees_same}
use Rattle.wasm_dumper.proofs.walks.Steps.pass_skipped.Goals as goal

pub returns-in-Hidden-clause-sees : goal.returns-in-Hidden-clause-sees
returns-in-Hidden-clause-sees g c report is = absurd (none_hidden c.in-Hidden.is_body report (rw c.in-Hidden.is at is))

pub returns-in-Hidden-clause-counts : goal.returns-in-Hidden-clause-counts
returns-in-Hidden-clause-counts g c report is = absurd (none_hidden c.in-Hidden.is_body report (rw c.in-Hidden.is at is))

pub returns-in-Custom-clause-sees : goal.returns-in-Custom-clause-sees
returns-in-Custom-clause-sees g c report is =
    let section = c.in-Custom.section in
    sees_same g.W.Walker.saw g.W.Walker.why _ _ _ _
    (outline_seen g.W.Walker.IS_DEEP c.args.self.now.counts section report (rw c.in-Custom.is at is)
    (window_over all_features section.data_offset []) (report_of c.without_data.result) c.without_data.ensures.is)
    (c.walk_payload.ensures c.without_data.ensures.begins)

pub returns-in-Custom-clause-counts : goal.returns-in-Custom-clause-counts
returns-in-Custom-clause-counts g c report is =
    let section = c.in-Custom.section in
    custom_counted (All ∷ []) false section report (rw c.in-Custom.is at is) (window_over all_features section.data_offset [])
    c.args.self.now.counts
