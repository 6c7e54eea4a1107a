-- The bytes of element segments. Core specification, Binary format, Modules, Element Section.
use Rattle.std.specs.Prelude.{◌≡◌, ℕ, ◌+◌, ◌<◌, ◌^◌, Bool, true, false, List, [], ◌∷◌, ◌++◌, length, Option, Some, None}
use Rattle.wasm_base.specs.Inner.{after_reading}
use Rattle.wasm_base.specs.Item.{ReadsAs}
use Rattle.wasm_base.specs.Number.{unsigned_at}
use Rattle.wasm_base.specs.Section.{Section}
use Rattle.wasm_base.specs.declared.fault.NumberKind.TheVariants.{VarU32}
use Rattle.wasm_encode.specs.Expressions.{expression_bytes, expression_placed}
use Rattle.wasm_encode.specs.Globals.{IsExpression}
use Rattle.wasm_encode.specs.Limits.{IsBelow, maybe_number}
use Rattle.wasm_encode.specs.Lists.{IsList, list_bytes, list_placed}
use Rattle.wasm_encode.specs.Sections.{ItemsBack}
use Rattle.wasm_encode.specs.Types.{HeapFits, ref_bytes}
use Rattle.wasm_items.specs.Elements.{element_at, funcref}
use Rattle.wasm_items.specs.Init.{end_of_expression}
use Rattle.wasm_items.specs.Windows.{expression_window}
use Rattle.wasm_items.specs.declared.elements.Element.{Element}
use Rattle.wasm_items.specs.declared.elements.ElementItems.{ElementItems}
use Rattle.wasm_items.specs.declared.elements.ElementItems.TheVariants.{Functions, Expressions}
use Rattle.wasm_items.specs.declared.elements.ElementKind.{ElementKind}
use Rattle.wasm_items.specs.declared.elements.ElementKind.TheVariants.{Passive, Active, Declared}
use Rattle.wasm_items.specs.declared.init.ConstExpr.{ConstExpr}
use Rattle.wasm_items.specs.declared.types.RefType.{RefType}

-- the flags of a kind: passive or declared; with the index of a table, or declared
abbrev pub kind_flags : ElementKind → ℕ
kind_flags Passive = 1
kind_flags (Active None offset) = 0
kind_flags (Active (Some table) offset) = 2
kind_flags Declared = 3

-- the flag of elements that are expressions
abbrev pub elements_flag : ElementItems → ℕ
elements_flag (Functions indices) = 0
elements_flag (Expressions ty expressions) = 4

-- an active segment: the index of its table if there is one, and the expression of its offset
abbrev pub kind_bytes : ElementKind → List ℕ
kind_bytes Passive = []
kind_bytes (Active table offset) = maybe_number table ++ expression_bytes offset
kind_bytes Declared = []

-- whether elements have a kind or a type: not those of an active segment without the index of a table
abbrev pub has_type : ElementKind → Bool
has_type Passive = true
has_type (Active None offset) = false
has_type (Active (Some table) offset) = true
has_type Declared = true

-- the kind of the elements, which is that of functions, or their type
abbrev pub type_bytes : (typed : Bool) → ElementItems → List ℕ
type_bytes false items = []
type_bytes true (Functions indices) = 0x00 ∷ []
type_bytes true (Expressions ty expressions) = ref_bytes ty

-- the list of the elements, as a section
abbrev pub list_of : ElementItems → Section
list_of (Functions indices) = indices
list_of (Expressions ty expressions) = expressions

-- the elements: their kind or type if they have one, and their list
abbrev pub elements_bytes : (typed : Bool) → ElementItems → List ℕ
elements_bytes typed items = type_bytes typed items ++ list_bytes (list_of items)

-- | the bytes of an element segment: its flags, for an active one its table and the expression of its offset, then the
--   kind or type of its elements and their list; whether it fits; a segment as it is read at an offset [`kind_flags`,
--   `elements_flag`, `kind_bytes`, `has_type`, `type_bytes`, `elements_bytes`; `ElementFits`, `KindFits`,
--   `ElementsFit`, `IsSpelled`; `element_placed`, `kind_placed`, `elements_placed`] <Element Section>
-- an element segment: flags, its kind, its elements
unfoldable pub element_bytes : Element → List ℕ
element_bytes x = (kind_flags x.kind + elements_flag x.items)
    ∷ (kind_bytes x.kind ++ elements_bytes (has_type x.kind) x.items)

-- An active segment has one constant expression, and the index of its table is a u32.
pub record ActiveFits (table : Option ℕ) (init : ConstExpr) : Type 0 where
  pub index : IsBelow (2 ^ 32) table
  pub offset : IsExpression (expression_window init)

abbrev pub KindFits : ElementKind → Type 0
KindFits Passive = Unit {0}
KindFits (Active table offset) = ActiveFits table offset
KindFits Declared = Unit {0}

-- The list has as many expressions as it counts, and the index of a type is a u32.
pub record ExpressionsFit (ty : RefType) (expressions : Section) : Type 0 where
  pub heap : HeapFits ty.heap
  pub list : IsList end_of_expression expressions

abbrev pub ElementsFit : ElementItems → Type 0
ElementsFit (Functions indices) = IsList (after_reading (unsigned_at VarU32)) indices
ElementsFit (Expressions ty expressions) = ExpressionsFit ty expressions

-- Expressions without a type are read as of type `funcref`.
abbrev pub IsSpelled : (typed : Bool) → ElementItems → Type 0
IsSpelled true items = Unit {0}
IsSpelled false (Functions indices) = Unit {0}
IsSpelled false (Expressions ty expressions) = ty ≡ funcref

pub record ElementFits (x : Element) : Type 0 where
  pub kind : KindFits x.kind
  pub elements : ElementsFit x.items
  pub spelled : IsSpelled (has_type x.kind) x.items
  pub short : length (element_bytes x) < 2 ^ 32

-- the kind as it is read with these features, where what belongs to it begins at an offset
abbrev pub kind_placed : (features offset : ℕ) → ElementKind → ElementKind
kind_placed features offset Passive = Passive
kind_placed features offset (Active table init) =
    Active table (expression_placed features (offset + length (maybe_number table)) init)
kind_placed features offset Declared = Declared

-- the elements as they are read with these features, where their list begins at an offset
abbrev pub elements_placed : (features offset : ℕ) → ElementItems → ElementItems
elements_placed features offset (Functions indices) = Functions (list_placed features offset indices)
elements_placed features offset (Expressions ty expressions) =
    Expressions ty (list_placed features offset expressions)

-- the segment as it is read with these features at an offset
abbrev pub element_placed : (features offset : ℕ) → Element → Element
element_placed features offset x =
    let elements : ℕ = offset + 1 + length (kind_bytes x.kind) in
    record {
      kind = kind_placed features (offset + 1) x.kind;
      items = elements_placed features (elements + length (type_bytes (has_type x.kind) x.items)) x.items;
      range = record { start = offset; end = offset + length (element_bytes x) };
    }

-- | the content of a section of segments is read as its count and exactly these segments, each at its offset, with
--   nothing after them <Element Section>
-- The content of a section of segments, at an offset, is read as its count and exactly these segments, with nothing
-- after them.
abbrev pub ReadsAsSegments : (features offset : ℕ) → List Element → Type 0
ReadsAsSegments features offset segments =
    ItemsBack (ReadsAs (λ (x : Element). x) element_at) features offset element_bytes (element_placed features) segments
