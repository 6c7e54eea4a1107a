-- The bytes of tables are read as the tables.
use Rattle.std.proofs.Common.{◌≡◌, ℕ, ◌+◌, ◌==◌, Bool, true, false, List, [], ◌∷◌}
use Rattle.std.proofs.Common.{◌++◌, length, Ok, arith, ap, sym, ◌∙◌, refl, subst, append_assoc, length-append}
use Rattle.wasm_base.specs.Item.{ReadsAs}
use Rattle.wasm_base.specs.Window.{Place}
use Rattle.wasm_encode.specs.Expressions.{expression_bytes, expression_placed}
use Rattle.wasm_encode.specs.Limits.{LimitsAllowed, TableFits, limits_bytes, table_flags, table_type_bytes}
use Rattle.wasm_encode.specs.ReadsBack.{spot, Encodes}
use Rattle.wasm_encode.specs.Tables.{InitFits, TableItemFits, init_placed, initialized_bytes, table_bytes, table_placed}
use Rattle.wasm_encode.specs.Types.{heap_bytes, ref_bytes}
use Rattle.wasm_encode.proofs.ExpressionsBack.{copied}
use Rattle.wasm_encode.proofs.LimitsBack.{reads_table_type}
use Rattle.wasm_items.specs.Tables.{filled_table_at, table_at, table_type_at}
use Rattle.wasm_items.specs.declared.init.ConstExpr.{ConstExpr}
use Rattle.wasm_items.specs.declared.tables.Table.{Table}
use Rattle.wasm_items.specs.declared.tables.TableInit.{TableInit}
use Rattle.wasm_items.specs.declared.tables.TableInit.TheVariants.{RefNull, Expr}
use Rattle.wasm_items.specs.declared.types.HeapType.{HeapType}
use Rattle.wasm_items.specs.declared.types.HeapType.TheVariants as Heaps
use Rattle.wasm_items.specs.declared.types.TableType.{TableType}

-- bytes whose first isn't that of a table with an expression
record Typed (bytes : List ℕ) : Type 0 where
  first : ℕ
  rest : List ℕ
  is : bytes ≡ first ∷ rest
  other : (first == 0x40) ≡ false

ref_typed : (nullable : Bool) (heap : HeapType) → Typed (ref_bytes (record { nullable = nullable; heap = heap }))
unfolding ref_bytes heap_bytes
ref_typed false heap = record { first = 0x64; rest = heap_bytes heap; is = refl; other = refl }
ref_typed true Heaps.Func = record { first = 0x70; rest = []; is = refl; other = refl }
ref_typed true Heaps.Extern = record { first = 0x6F; rest = []; is = refl; other = refl }
ref_typed true Heaps.Any = record { first = 0x6E; rest = []; is = refl; other = refl }
ref_typed true Heaps.Eq = record { first = 0x6D; rest = []; is = refl; other = refl }
ref_typed true Heaps.I31 = record { first = 0x6C; rest = []; is = refl; other = refl }
ref_typed true Heaps.Struct = record { first = 0x6B; rest = []; is = refl; other = refl }
ref_typed true Heaps.Array = record { first = 0x6A; rest = []; is = refl; other = refl }
ref_typed true Heaps.Exn = record { first = 0x69; rest = []; is = refl; other = refl }
ref_typed true Heaps.None = record { first = 0x71; rest = []; is = refl; other = refl }
ref_typed true Heaps.NoExtern = record { first = 0x72; rest = []; is = refl; other = refl }
ref_typed true Heaps.NoFunc = record { first = 0x73; rest = []; is = refl; other = refl }
ref_typed true Heaps.NoExn = record { first = 0x74; rest = []; is = refl; other = refl }
ref_typed true (Heaps.Concrete index) = record { first = 0x63; rest = heap_bytes (Heaps.Concrete index); is = refl; other = refl }

type_typed : (ty : TableType) → Typed (table_type_bytes ty)
unfolding table_type_bytes
type_typed ty =
    let t = ref_typed ty.element_type.nullable ty.element_type.heap in
    let more : List ℕ = table_flags ty ∷ limits_bytes ty.initial ty.maximum in
    record { first = t.first; rest = t.rest ++ more; is = ap (λ (bytes : List ℕ). bytes ++ more) t.is; other = t.other }

null_by : (features offset first : ℕ) (rest : List ℕ) (q : Place) (ty : TableType) → (first == 0x40) ≡ false
    → table_type_at (spot features offset (first ∷ rest)) ≡ Ok (ty, q)
    → table_at (spot features offset (first ∷ rest)) ≡ Ok (record { ty = ty; init = RefNull }, q)
unfolding table_at
null_by features offset first rest q ty other e = rw (other, e) refl

filled_by : (features offset : ℕ) (ty : TableType) (init : ConstExpr) (later : List ℕ) → TableFits ty
    → LimitsAllowed features ty.initial ty.maximum → InitFits (Expr init)
    → table_at (spot features offset (initialized_bytes ty (Expr init) ++ later))
    ≡ Ok (
      record { ty = ty; init = init_placed features offset ty (Expr init) },
      spot features (offset + length (initialized_bytes ty (Expr init))) later,
    )
unfolding table_at filled_table_at
filled_by features offset ty init later h allowed i =
    let types : List ℕ = table_type_bytes ty in
    let bytes : List ℕ = expression_bytes init in
    let m : offset + 1 + 1 + length types ≡ offset + 2 + length types = omega arith in
    let n : offset + 1 + 1 + length types + length bytes ≡ offset + length (initialized_bytes ty (Expr init)) =
    omega (arith, length-append types bytes) in
    rw (
      append_assoc types bytes later,
      (reads_table_type ty features h allowed).at (offset + 1 + 1) (bytes ++ later),
      copied init i features (offset + 1 + 1 + length types) later,
    )
    (ap (λ (k : ℕ). Ok (
      record { ty = ty; init = Expr (expression_placed features k init) },
      spot features (offset + 1 + 1 + length types + length bytes) later,
    )) m
    ∙ ap (λ (k : ℕ). Ok (record { ty = ty; init = init_placed features offset ty (Expr init) }, spot features k later)) n)

by_init : (features offset : ℕ) (ty : TableType) (init : TableInit) (later : List ℕ) → TableFits ty
    → LimitsAllowed features ty.initial ty.maximum → InitFits init
    → table_at (spot features offset (initialized_bytes ty init ++ later))
    ≡ Ok (record { ty = ty; init = init_placed features offset ty init }, spot features (offset + length (initialized_bytes ty init)) later)
by_init features offset ty RefNull later h allowed i =
    let t = type_typed ty in
    let q : Place = spot features (offset + length (table_type_bytes ty)) later in
    let w : table_type_bytes ty ++ later ≡ t.first ∷ (t.rest ++ later) = ap (λ (bytes : List ℕ). bytes ++ later) t.is in
    subst (λ (bytes : List ℕ). table_at (spot features offset bytes) ≡ Ok (record { ty = ty; init = RefNull }, q)) (sym w)
    (null_by features offset t.first (t.rest ++ later) q ty t.other
    (subst (λ (bytes : List ℕ). table_type_at (spot features offset bytes) ≡ Ok (ty, q)) w
    ((reads_table_type ty features h allowed).at offset later)))
by_init features offset ty (Expr init) later h allowed i = filled_by features offset ty init later h allowed i

pub table_encodes : (x : Table) (features : ℕ) → TableItemFits x → LimitsAllowed features x.ty.initial x.ty.maximum
    → Encodes (ReadsAs (λ (y : Table). y) table_at) features (λ (offset : ℕ). table_placed features offset x) (table_bytes x)
unfolding table_bytes
table_encodes x features h allowed =
    record { read = λ offset later. by_init features offset x.ty x.init later h.ty allowed h.init }
