use Rattle.wasm_base.specs.Number.{unsigned_at}
use Rattle.wasm_base.specs.declared.fault.NumberKind.TheVariants.{VarU32}
use Rattle.wasm_items.specs.Init.{expression_at}
use Rattle.wasm_show.specs.Lists.{never_lists, plainly, unnumbered}
use Rattle.wasm_show.proofs.Listing.{readings_agree}
use Rattle.wasm_show.proofs.items.walk_elements.Goals as goal

pub returns-in-Functions : goal.returns-in-Functions
returns-in-Functions g c =
    let deep = g.W.Walker.IS_DEEP in
    rw c.in-Functions.is (c.walk_section.ensures (plainly deep c.args.level (unsigned_at VarU32))
    (readings_agree unnumbered (never_lists deep) deep c.args.level _ (unsigned_at VarU32)))

pub returns-in-Expressions : goal.returns-in-Expressions
returns-in-Expressions g c =
    let deep = g.W.Walker.IS_DEEP in
    rw c.in-Expressions.is (c.walk_section-in-Expressions.ensures (plainly deep c.args.level expression_at)
    (readings_agree unnumbered (never_lists deep) deep c.args.level _ expression_at))
