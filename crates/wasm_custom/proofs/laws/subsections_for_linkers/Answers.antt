use Rattle.std.proofs.Common.{false}
use Rattle.wasm_base.proofs.SubsectionRuns.{runs_give_subsections}
use Rattle.wasm_base.specs.Subsections.{ReadsWindowAs}
use Rattle.wasm_custom.specs.Linking.{linking_parts, linking_subsection_in}
use Rattle.wasm_custom.proofs.laws.subsections_for_linkers.Goals as goal

pub returns : goal.returns
returns c = runs_give_subsections (ReadsWindowAs linking_parts linking_subsection_in) false
