use Rattle.wasm_custom.specs.Linking.{init_function_at, segment_at, symbol_at}
use Rattle.wasm_show.specs.Lists.{never_lists, plainly, unnumbered}
use Rattle.wasm_show.proofs.Listing.{readings_agree}
use Rattle.wasm_show.proofs.Walking.{sees_nothing}
use Rattle.wasm_show.proofs.linking.walk_listed.Goals as goal

pub returns-in-SegmentInfo : goal.returns-in-SegmentInfo
returns-in-SegmentInfo g c =
    let deep = g.W.Walker.IS_DEEP in
    rw c.in-SegmentInfo.is (c.walk_section.ensures (plainly deep c.args.level segment_at)
    (readings_agree unnumbered (never_lists deep) deep c.args.level _ segment_at))

pub returns-in-InitFuncs : goal.returns-in-InitFuncs
returns-in-InitFuncs g c =
    let deep = g.W.Walker.IS_DEEP in
    rw c.in-InitFuncs.is (c.walk_section-in-InitFuncs.ensures (plainly deep c.args.level init_function_at)
    (readings_agree unnumbered (never_lists deep) deep c.args.level _ init_function_at))

pub returns-in-SymbolTable : goal.returns-in-SymbolTable
returns-in-SymbolTable g c =
    let deep = g.W.Walker.IS_DEEP in
    rw c.in-SymbolTable.is (c.walk_section-in-SymbolTable.ensures (plainly deep c.args.level symbol_at)
    (readings_agree unnumbered (never_lists deep) deep c.args.level _ symbol_at))

pub returns-in-ComdatInfo : goal.returns-in-ComdatInfo
returns-in-ComdatInfo g c = rw c.in-ComdatInfo.is c.walk_comdats.ensures

pub returns-in-TargetArch : goal.returns-in-TargetArch
returns-in-TargetArch g c = rw c.in-TargetArch.is (sees_nothing g.W.Walker.saw g.W.Walker.why _)

pub returns-in-Unknown : goal.returns-in-Unknown
returns-in-Unknown g c = rw c.in-Unknown.is (sees_nothing g.W.Walker.saw g.W.Walker.why _)
