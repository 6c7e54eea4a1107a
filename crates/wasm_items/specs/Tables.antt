-- Tables. Core specification, Binary format, Types, Table Types, and Modules, Table Section. That a table may be shared
-- is of the proposal for shared-everything threads.
use Rattle.std.specs.Prelude.{ℕ, ◌==◌, Ok, Err, nat_lt, if◌then◌else◌}
use Rattle.wasm_base.specs.FaultAt.{at_offset}
use Rattle.wasm_base.specs.Name.{byte_at, peeked_byte_at}
use Rattle.wasm_base.specs.Outcome.{Outcome, ◌>>=◌}
use Rattle.wasm_base.specs.Window.{Place, advanced}
use Rattle.wasm_base.specs.declared.fault.Fault.TheVariants.{TableEncoding, TableFlags}
use Rattle.wasm_items.specs.Init.{expression_at}
use Rattle.wasm_items.specs.Limits.{is_shared, is_wide, limits_at}
use Rattle.wasm_items.specs.Values.{ref_type_at}
use Rattle.wasm_items.specs.declared.tables.Table.{Table}
use Rattle.wasm_items.specs.declared.tables.TableInit.TheVariants.{RefNull, Expr}
use Rattle.wasm_items.specs.declared.types.RefType.{RefType}
use Rattle.wasm_items.specs.declared.types.TableType.{TableType}

-- a table type after its flags
unfoldable pub table_after_flags : RefType → (flags : ℕ) → Place → Outcome TableType
table_after_flags element flags p = do
  limits ← limits_at flags p
  Ok (
    record {
      element_type = element;
      table64 = is_wide flags;
      initial = limits.0.0;
      maximum = limits.0.1;
      shared = is_shared flags;
    },
    limits.1,
  )

-- | a table type: the type of its elements, flags below 8, limits; a table: 0x40, 0x00, a table type and an
--   expression, or a table type [`filled_table_at`, `table_at`] <Types, Table Types; Table Section; shared-everything
--   threads>
-- a table type: the type of its elements, flags below 8, limits
unfoldable pub table_type_at : Place → Outcome TableType
table_type_at p = do
  element ← ref_type_at p
  flags ← byte_at element.1
  if nat_lt 7 flags.0 then Err (at_offset TableFlags element.1.offset) else table_after_flags element.0 flags.0 flags.1

-- a table whose elements are initially null
abbrev pub null_table_at : Place → Outcome Table
null_table_at p = do
  ty ← table_type_at p
  Ok (record { ty = ty.0; init = RefNull }, ty.1)

-- a table type, and the expression of its elements
abbrev pub typed_expression_at : Place → Outcome Table
typed_expression_at p = do
  ty ← table_type_at p
  init ← expression_at ty.1
  Ok (record { ty = ty.0; init = Expr (record { reader = init.0 }) }, init.1)

-- a table with an expression, after its first byte: a byte that is 0 comes first
unfoldable pub filled_table_at : Place → Outcome Table
filled_table_at p = do
  version ← byte_at p
  if version.0 == 0x00 then typed_expression_at version.1 else Err (at_offset TableEncoding p.offset)

-- a table: one with an expression begins with 0x40
unfoldable pub table_at : Place → Outcome Table
table_at p = do
  first ← peeked_byte_at p
  if first.0 == 0x40 then filled_table_at (advanced 1 p) else null_table_at p
