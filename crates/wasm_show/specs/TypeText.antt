-- The text of types, in the words of the text format. Core specification, Text format, Types.
use Rattle.std.specs.Prelude.{ℕ, Bool, true, false, List, [], ◌∷◌, ◌++◌, codes, decimal, Option, Some, None}
use Rattle.std.specs.Prelude.{if◌then◌else◌}
use Rattle.std.specs.List.{flat_map}
use Rattle.wasm_items.specs.declared.types.CompositeType.{CompositeType}
use Rattle.wasm_items.specs.declared.types.CompositeType.TheVariants as composites
use Rattle.wasm_items.specs.declared.types.FieldType.{FieldType}
use Rattle.wasm_items.specs.declared.types.FuncType.{FuncType}
use Rattle.wasm_items.specs.declared.types.HeapType.{HeapType}
use Rattle.wasm_items.specs.declared.types.HeapType.TheVariants as heaps
use Rattle.wasm_items.specs.declared.types.RefType.{RefType}
use Rattle.wasm_items.specs.declared.types.StorageType.{StorageType}
use Rattle.wasm_items.specs.declared.types.StorageType.TheVariants as storages
use Rattle.wasm_items.specs.declared.types.SubType.{SubType}
use Rattle.wasm_items.specs.declared.types.ValType.{ValType}
use Rattle.wasm_items.specs.declared.types.ValType.TheVariants as values

-- the word of a heap type that is no index
abbrev pub heap_word : HeapType → List ℕ
heap_word heaps.Func = codes "func"
heap_word heaps.Extern = codes "extern"
heap_word heaps.Any = codes "any"
heap_word heaps.Eq = codes "eq"
heap_word heaps.I31 = codes "i31"
heap_word heaps.Struct = codes "struct"
heap_word heaps.Array = codes "array"
heap_word heaps.Exn = codes "exn"
heap_word heaps.None = codes "none"
heap_word heaps.NoExtern = codes "noextern"
heap_word heaps.NoFunc = codes "nofunc"
heap_word heaps.NoExn = codes "noexn"
heap_word (heaps.Concrete index) = []

abbrev pub heap_text : HeapType → List ℕ
heap_text (heaps.Concrete index) = decimal index
heap_text other = heap_word other

-- how the text of a reference begins
abbrev pub ref_start : (nullable : Bool) → List ℕ
ref_start true = codes "(ref null "
ref_start false = codes "(ref "

abbrev pub ref_text : RefType → List ℕ
ref_text r = ref_start r.nullable ++ (heap_text r.heap ++ codes ")")

-- | the text of a type [`func_text`, `sub_text` and the others there] <Text format, Types>
abbrev pub val_text : ValType → List ℕ
val_text values.I32 = codes "i32"
val_text values.I64 = codes "i64"
val_text values.F32 = codes "f32"
val_text values.F64 = codes "f64"
val_text values.V128 = codes "v128"
val_text (values.Ref r) = ref_text r

abbrev pub storage_text : StorageType → List ℕ
storage_text storages.I8 = codes "i8"
storage_text storages.I16 = codes "i16"
storage_text (storages.Val v) = val_text v

-- the type of what may be mutable
abbrev pub mutable_text : (mutable : Bool) → (ty : List ℕ) → List ℕ
mutable_text true ty = codes "(mut " ++ (ty ++ codes ")")
mutable_text false ty = ty

abbrev pub element_text : FieldType → List ℕ
element_text f = mutable_text f.mutable (storage_text f.storage)

abbrev pub field_type_text : FieldType → List ℕ
field_type_text f = codes "(field " ++ (element_text f ++ codes ")")

-- a text after a blank
abbrev pub after_blank : List ℕ → List ℕ
after_blank text = codes " " ++ text

-- the types of parameters or results, if there are any
abbrev pub types_text : (start : List ℕ) → List ValType → List ℕ
types_text start [] = []
types_text start (ty ∷ later) = start ++ (flat_map (λ v. after_blank (val_text v)) (ty ∷ later) ++ codes ")")

abbrev pub func_text : FuncType → List ℕ
func_text f = codes "(func"
    ++ (types_text (codes " (param") f.params ++ (types_text (codes " (result") f.results ++ codes ")"))

abbrev pub array_text : FieldType → List ℕ
array_text f = codes "(array " ++ (element_text f ++ codes ")")

abbrev pub struct_text : List FieldType → List ℕ
struct_text fields = codes "(struct" ++ (flat_map (λ f. after_blank (field_type_text f)) fields ++ codes ")")

abbrev pub composite_text : CompositeType → List ℕ
composite_text (composites.Func f) = func_text f
composite_text (composites.Array f) = array_text f
composite_text (composites.Struct fields) = struct_text fields

-- how the text of a type begins
abbrev pub sub_start : (is_final : Bool) → List ℕ
sub_start true = codes "(sub final "
sub_start false = codes "(sub "

-- the index of the type that is extended, if there is one
abbrev pub supertype_text : Option ℕ → List ℕ
supertype_text (Some index) = decimal index ++ codes " "
supertype_text None = []

-- | whether a type is final and extends none, so that its text is its composite type's <Text Format, Types>
abbrev pub is_plain : (is_final : Bool) → Option ℕ → Bool
is_plain true None = true
is_plain is_final supertype = false

abbrev pub sub_text : SubType → List ℕ
sub_text s = if is_plain s.is_final s.supertype then composite_text s.composite
    else sub_start s.is_final ++ (supertype_text s.supertype ++ (composite_text s.composite ++ codes ")"))
