use Rattle.wasm_custom.specs.Dylink0.{dylink_parts, dylink_subsection_in}
use Rattle.wasm_custom.specs.Reloc.{relocation_at}
use Rattle.wasm_show.specs.Lists.{never_lists, plainly, unnumbered}
use Rattle.wasm_show.proofs.Listing.{owes_names, owes_subsections, readings_agree}
use Rattle.wasm_show.proofs.Walking.{sees_nothing}
use Rattle.wasm_show.proofs.custom.walk_known.Goals as goal

pub returns-in-Name : goal.returns-in-Name
returns-in-Name g c = rw c.in-Name.is (c.walk_items.ensures _ (owes_names g.W.Walker.IS_DEEP c.args.level _ _
    (rw c.unwrap.ensures at c.clone.ensures.cases)))

pub returns-in-BranchHints : goal.returns-in-BranchHints
returns-in-BranchHints g c = rw c.in-BranchHints.is c.walk_hints.ensures

pub returns-in-Producers : goal.returns-in-Producers
returns-in-Producers g c = rw c.in-Producers.is c.walk_producers.ensures

pub returns-in-Dylink0 : goal.returns-in-Dylink0
returns-in-Dylink0 g c = rw c.in-Dylink0.is (c.walk_items-in-Dylink0.ensures _
    (owes_subsections g.W.Walker.IS_DEEP c.args.level dylink_parts dylink_subsection_in _ _
    (rw c.unwrap-in-Dylink0.ensures at c.clone-in-Dylink0.ensures.cases)))

pub returns-in-Linking : goal.returns-in-Linking
returns-in-Linking g c = rw c.in-Linking.is c.walk_linking.ensures

pub returns-in-Reloc : goal.returns-in-Reloc
returns-in-Reloc g c =
    let deep = g.W.Walker.IS_DEEP in
    rw c.in-Reloc.is (rw c.entries.ensures at (c.walk_section.ensures (plainly deep c.args.level relocation_at)
    (readings_agree unnumbered (never_lists deep) deep c.args.level _ relocation_at)))

pub returns-in-CoreDump : goal.returns-in-CoreDump
returns-in-CoreDump g c = rw c.in-CoreDump.is (sees_nothing g.W.Walker.saw g.W.Walker.why _)

pub returns-in-CoreDumpStack : goal.returns-in-CoreDumpStack
returns-in-CoreDumpStack g c = rw c.in-CoreDumpStack.is (sees_nothing g.W.Walker.saw g.W.Walker.why _)

pub returns-in-CoreDumpInstances : goal.returns-in-CoreDumpInstances
returns-in-CoreDumpInstances g c = rw c.in-CoreDumpInstances.is (sees_nothing g.W.Walker.saw g.W.Walker.why _)

pub returns-in-CoreDumpModules : goal.returns-in-CoreDumpModules
returns-in-CoreDumpModules g c = rw c.in-CoreDumpModules.is (sees_nothing g.W.Walker.saw g.W.Walker.why _)

pub returns-in-Unknown : goal.returns-in-Unknown
returns-in-Unknown g c = rw c.in-Unknown.is (sees_nothing g.W.Walker.saw g.W.Walker.why _)
