-- The bytes of tables. Core specification, Binary format, Modules, Table Section.
use Rattle.std.specs.Prelude.{ℕ, ◌+◌, ◌<◌, ◌^◌, List, ◌∷◌, ◌++◌, length}
use Rattle.wasm_encode.specs.Expressions.{expression_bytes, expression_placed}
use Rattle.wasm_encode.specs.Globals.{IsExpression}
use Rattle.wasm_encode.specs.Limits.{TableFits, table_type_bytes}
use Rattle.wasm_items.specs.Windows.{expression_window}
use Rattle.wasm_items.specs.declared.tables.Table.{Table}
use Rattle.wasm_items.specs.declared.tables.TableInit.{TableInit}
use Rattle.wasm_items.specs.declared.tables.TableInit.TheVariants.{RefNull, Expr}
use Rattle.wasm_items.specs.declared.types.TableType.{TableType}

-- a table without an expression is its type; one with an expression is 0x40, 0x00, its type and the expression
abbrev pub initialized_bytes : TableType → TableInit → List ℕ
initialized_bytes ty RefNull = table_type_bytes ty
initialized_bytes ty (Expr init) = 0x40 ∷ (0x00 ∷ (table_type_bytes ty ++ expression_bytes init))

-- | the bytes of a table: its type, or, if it has an initial value, 0x40, 0x00, its type and that expression; whether
--   it fits: its initial value is null or one constant expression; a table as it is read at an offset
--   [`initialized_bytes`; `TableItemFits`, `InitFits`; `table_placed`, `init_placed`] <Table Section>
-- a table, the bytes of whose expression are copied
unfoldable pub table_bytes : Table → List ℕ
table_bytes table = initialized_bytes table.ty table.init

-- The initial value is null, or one constant expression.
abbrev pub InitFits : TableInit → Type 0
InitFits RefNull = Unit {0}
InitFits (Expr init) = IsExpression (expression_window init)

pub record TableItemFits (table : Table) : Type 0 where
  pub ty : TableFits table.ty
  pub init : InitFits table.init
  pub short : length (table_bytes table) < 2 ^ 32

-- the initial value as it is read with these features, where the table begins at an offset
abbrev pub init_placed : (features offset : ℕ) → TableType → TableInit → TableInit
init_placed features offset ty RefNull = RefNull
init_placed features offset ty (Expr init) =
    Expr (expression_placed features (offset + 2 + length (table_type_bytes ty)) init)

-- the table as it is read with these features at an offset
abbrev pub table_placed : (features offset : ℕ) → Table → Table
table_placed features offset table = record { ty = table.ty; init = init_placed features offset table.ty table.init }
