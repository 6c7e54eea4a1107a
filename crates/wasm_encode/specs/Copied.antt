-- What was read can be copied.
use Rattle.wasm_encode.specs.Consumed.{CopiesItsBytes}
use Rattle.wasm_items.specs.Globals.{global_type_at}
use Rattle.wasm_items.specs.Imports.{skipped_item_at, type_ref_at}
use Rattle.wasm_items.specs.Init.{end_of_expression}
use Rattle.wasm_items.specs.Memories.{memory_type_at}
use Rattle.wasm_items.specs.Tables.{table_type_at}
use Rattle.wasm_items.specs.Tags.{tag_type_at}
use Rattle.wasm_items.specs.Values.{heap_type_at, ref_type_at, val_type_at}

-- | the bytes of types, of what is imported and of constant expressions that were read are read as the same wherever
--   they are copied to
-- Copying the bytes of what was read writes it: heap types, types of references, values, tables, memories, globals and
-- tags, what an import is, imports of a bundle that are skipped, constant expressions.
pub record TypesAreCopied : Type 0 where
  pub heap : CopiesItsBytes heap_type_at
  pub reference : CopiesItsBytes ref_type_at
  pub value : CopiesItsBytes val_type_at
  pub table : CopiesItsBytes table_type_at
  pub memory : CopiesItsBytes memory_type_at
  pub global : CopiesItsBytes global_type_at
  pub tag : CopiesItsBytes tag_type_at
  pub imported : CopiesItsBytes type_ref_at
  pub skipped : CopiesItsBytes skipped_item_at
  pub expression : CopiesItsBytes end_of_expression
