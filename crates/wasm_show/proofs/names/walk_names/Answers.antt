use Rattle.wasm_show.specs.Lists.{indirect_names_seen, names_seen}
use Rattle.wasm_show.proofs.Listing.{of_copy}
use Rattle.wasm_show.proofs.names.walk_names.Goals as goal

pub returns-in-Function : goal.returns-in-Function
returns-in-Function g c = rw c.in-Function.is (c.walk_items.ensures _ (of_copy (names_seen g.W.Walker.IS_DEEP c.args.level) _ _
    (rw c.unwrap.ensures at c.clone.ensures.cases)))

pub returns-in-Types : goal.returns-in-Types
returns-in-Types g c = rw c.in-Types.is (c.walk_items-in-Types.ensures _ (of_copy (names_seen g.W.Walker.IS_DEEP c.args.level) _ _
    (rw c.unwrap-in-Types.ensures at c.clone-in-Types.ensures.cases)))

pub returns-in-Table : goal.returns-in-Table
returns-in-Table g c = rw c.in-Table.is (c.walk_items-in-Table.ensures _ (of_copy (names_seen g.W.Walker.IS_DEEP c.args.level) _ _
    (rw c.unwrap-in-Table.ensures at c.clone-in-Table.ensures.cases)))

pub returns-in-Memory : goal.returns-in-Memory
returns-in-Memory g c = rw c.in-Memory.is (c.walk_items-in-Memory.ensures _ (of_copy (names_seen g.W.Walker.IS_DEEP c.args.level) _ _
    (rw c.unwrap-in-Memory.ensures at c.clone-in-Memory.ensures.cases)))

pub returns-in-Global : goal.returns-in-Global
returns-in-Global g c = rw c.in-Global.is (c.walk_items-in-Global.ensures _ (of_copy (names_seen g.W.Walker.IS_DEEP c.args.level) _ _
    (rw c.unwrap-in-Global.ensures at c.clone-in-Global.ensures.cases)))

pub returns-in-Element : goal.returns-in-Element
returns-in-Element g c = rw c.in-Element.is (c.walk_items-in-Element.ensures _ (of_copy (names_seen g.W.Walker.IS_DEEP c.args.level) _ _
    (rw c.unwrap-in-Element.ensures at c.clone-in-Element.ensures.cases)))

pub returns-in-Data : goal.returns-in-Data
returns-in-Data g c = rw c.in-Data.is (c.walk_items-in-Data.ensures _ (of_copy (names_seen g.W.Walker.IS_DEEP c.args.level) _ _
    (rw c.unwrap-in-Data.ensures at c.clone-in-Data.ensures.cases)))

pub returns-in-Tag : goal.returns-in-Tag
returns-in-Tag g c = rw c.in-Tag.is (c.walk_items-in-Tag.ensures _ (of_copy (names_seen g.W.Walker.IS_DEEP c.args.level) _ _
    (rw c.unwrap-in-Tag.ensures at c.clone-in-Tag.ensures.cases)))

pub returns-in-Local : goal.returns-in-Local
returns-in-Local g c = rw c.in-Local.is (c.walk_items-in-Local.ensures _ (of_copy (indirect_names_seen g.W.Walker.IS_DEEP c.args.level) _ _
    (rw c.unwrap-in-Local.ensures at c.clone-in-Local.ensures.cases)))

pub returns-in-Label : goal.returns-in-Label
returns-in-Label g c = rw c.in-Label.is (c.walk_items-in-Label.ensures _ (of_copy (indirect_names_seen g.W.Walker.IS_DEEP c.args.level) _ _
    (rw c.unwrap-in-Label.ensures at c.clone-in-Label.ensures.cases)))

pub returns-in-Field : goal.returns-in-Field
returns-in-Field g c = rw c.in-Field.is (c.walk_items-in-Field.ensures _ (of_copy (indirect_names_seen g.W.Walker.IS_DEEP c.args.level) _ _
    (rw c.unwrap-in-Field.ensures at c.clone-in-Field.ensures.cases)))

pub returns-in-Parameter : goal.returns-in-Parameter
returns-in-Parameter g c = rw c.in-Parameter.is (c.walk_items-in-Parameter.ensures _
    (of_copy (indirect_names_seen g.W.Walker.IS_DEEP c.args.level) _ _
    (rw c.unwrap-in-Parameter.ensures at c.clone-in-Parameter.ensures.cases)))

pub returns-in-TagParameter : goal.returns-in-TagParameter
returns-in-TagParameter g c = rw c.in-TagParameter.is (c.walk_items-in-TagParameter.ensures _
    (of_copy (indirect_names_seen g.W.Walker.IS_DEEP c.args.level) _ _
    (rw c.unwrap-in-TagParameter.ensures at c.clone-in-TagParameter.ensures.cases)))
