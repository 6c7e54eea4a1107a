-- The bytes of element segments are read as the segments.
use Rattle.std.proofs.Common.{◌≡◌, ℕ, ◌+◌, ◌≤◌, Bool, true, false, List, ◌∷◌, ◌++◌, length, Some, None, Ok}
use Rattle.std.proofs.Common.{arith, ap, ◌∙◌, refl, append_assoc, length-append}
use Rattle.wasm_base.specs.Inner.{after_reading}
use Rattle.wasm_base.specs.Item.{ReadsAs}
use Rattle.wasm_base.specs.Number.{unsigned_at}
use Rattle.wasm_base.specs.Outcome.{Outcome}
use Rattle.wasm_base.specs.Section.{Section}
use Rattle.wasm_base.specs.declared.fault.NumberKind.TheVariants.{VarU32}
use Rattle.wasm_encode.specs.Elements.{ElementFits, ElementsFit, IsSpelled, KindFits}
use Rattle.wasm_encode.specs.Elements.{element_bytes, element_placed, elements_bytes, elements_flag, elements_placed}
use Rattle.wasm_encode.specs.Elements.{has_type, kind_bytes, kind_flags, kind_placed, list_of, type_bytes}
use Rattle.wasm_encode.specs.Expressions.{expression_bytes, expression_placed}
use Rattle.wasm_encode.specs.Lists.{list_bytes, list_placed}
use Rattle.wasm_encode.specs.Numbers.{unsigned_bytes}
use Rattle.wasm_encode.specs.ReadsBack.{spot, Encodes}
use Rattle.wasm_encode.specs.Types.{ref_bytes}
use Rattle.wasm_encode.proofs.CopiedExpressions.{unsigned}
use Rattle.wasm_encode.proofs.ExpressionsBack.{copied}
use Rattle.wasm_encode.proofs.ImportsBack.{reads_kind}
use Rattle.wasm_encode.proofs.ListsBack.{copies_expression, copies_skip, list_back}
use Rattle.wasm_encode.proofs.Moves.{Copies}
use Rattle.wasm_encode.proofs.NumbersBack.{unsigned_at_spot, flags_back}
use Rattle.wasm_encode.proofs.TypesBack.{reads_ref}
use Rattle.wasm_items.specs.Elements.{element_at, element_flags_at, element_kind_at, elements_at, expression_elements_at, funcref}
use Rattle.wasm_items.specs.Elements.{function_elements_at, has_expressions, is_indexed_or_declared, is_not_active, is_typed}
use Rattle.wasm_items.specs.Elements.{skipped_element_kind_at}
use Rattle.wasm_items.specs.Init.{end_of_expression}
use Rattle.wasm_items.specs.declared.elements.Element.{Element}
use Rattle.wasm_items.specs.declared.elements.ElementItems.{ElementItems}
use Rattle.wasm_items.specs.declared.elements.ElementItems.TheVariants.{Functions, Expressions}
use Rattle.wasm_items.specs.declared.elements.ElementKind.{ElementKind}
use Rattle.wasm_items.specs.declared.elements.ElementKind.TheVariants.{Passive, Active, Declared}
use Rattle.wasm_items.specs.declared.exports.ExternalKind.TheVariants.{Func}
use Rattle.wasm_items.specs.declared.types.RefType.{RefType}

-- The list of a segment has no more bytes than the segment.
pub list_few : (x : Element) → length (list_bytes (list_of x.items)) ≤ length (element_bytes x)
unfolding element_bytes
list_few x =
    let ty : List ℕ = type_bytes (has_type x.kind) x.items in
    let list : List ℕ = list_bytes (list_of x.items) in
    omega (arith, length-append (kind_bytes x.kind) (ty ++ list), length-append ty list)

-- ---- flags

abbrev is_inactive : ElementKind → Bool
is_inactive Passive = true
is_inactive (Active table offset) = false
is_inactive Declared = true

abbrev is_indexed : ElementKind → Bool
is_indexed Passive = false
is_indexed (Active None offset) = false
is_indexed (Active (Some table) offset) = true
is_indexed Declared = true

abbrev are_expressions : ElementItems → Bool
are_expressions (Functions indices) = false
are_expressions (Expressions ty expressions) = true

-- flags that say this of a segment
record Flags (flags : ℕ) (kind : ElementKind) (items : ElementItems) : Type 0 where
  inactive : is_not_active flags ≡ is_inactive kind
  indexed : is_indexed_or_declared flags ≡ is_indexed kind
  typed : is_typed flags ≡ has_type kind
  expressions : has_expressions flags ≡ are_expressions items
  most : flags ≤ 7

flags_are : (kind : ElementKind) (items : ElementItems) → Flags (kind_flags kind + elements_flag items) kind items
flags_are Passive (Functions i) =
    record { inactive = refl; indexed = refl; typed = refl; expressions = refl; most = omega arith }
flags_are Passive (Expressions ty e) =
    record { inactive = refl; indexed = refl; typed = refl; expressions = refl; most = omega arith }
flags_are (Active None offset) (Functions i) =
    record { inactive = refl; indexed = refl; typed = refl; expressions = refl; most = omega arith }
flags_are (Active None offset) (Expressions ty e) =
    record { inactive = refl; indexed = refl; typed = refl; expressions = refl; most = omega arith }
flags_are (Active (Some table) offset) (Functions i) =
    record { inactive = refl; indexed = refl; typed = refl; expressions = refl; most = omega arith }
flags_are (Active (Some table) offset) (Expressions ty e) =
    record { inactive = refl; indexed = refl; typed = refl; expressions = refl; most = omega arith }
flags_are Declared (Functions i) =
    record { inactive = refl; indexed = refl; typed = refl; expressions = refl; most = omega arith }
flags_are Declared (Expressions ty e) =
    record { inactive = refl; indexed = refl; typed = refl; expressions = refl; most = omega arith }

flags_read : (flags features offset : ℕ) (later : List ℕ) → flags ≤ 7
    → element_flags_at (spot features offset (flags ∷ later)) ≡ Ok (flags, spot features (offset + 1) later)
unfolding element_flags_at
flags_read flags features offset later h = rw (flags_back 7 flags features offset later h (omega arith)) refl

-- ---- the kind of a segment

-- the same value and place after them
at_end : {A : Type 0} (features m n : ℕ) (make : ℕ → A) (j k : ℕ) (later : List ℕ) → j ≡ k → m ≡ n
    → (let o : Outcome A = Ok (make j, spot features m later) in o) ≡ Ok (make k, spot features n later)
at_end features m n make j k later e f =
    ap (λ (i : ℕ). Ok (make i, spot features m later)) e ∙ ap (λ (i : ℕ). Ok (make k, spot features i later)) f

kind_read : (flags : ℕ) (kind : ElementKind) (items : ElementItems) → Flags flags kind items → KindFits kind
    → (features offset : ℕ) (later : List ℕ)
    → element_kind_at flags (spot features offset (kind_bytes kind ++ later))
    ≡ Ok (kind_placed features offset kind, spot features (offset + length (kind_bytes kind)) later)
unfolding element_kind_at
kind_read flags Passive items is h features offset later =
    rw (is.inactive, is.indexed) (at_end features offset (offset + 0) (λ k. Passive) 0 0 later refl (omega arith))
kind_read flags Declared items is h features offset later =
    rw (is.inactive, is.indexed) (at_end features offset (offset + 0) (λ k. Declared) 0 0 later refl (omega arith))
kind_read flags (Active None init) items is h features offset later =
    let bytes : List ℕ = expression_bytes init in
    rw (is.inactive, is.indexed, copied init h.offset features offset later)
    (at_end features (offset + length bytes) (offset + length bytes) (λ k. Active None (expression_placed features k init)) offset
    (offset + 0) later (omega arith) refl)
kind_read flags (Active (Some table) init) items is h features offset later =
    let index : List ℕ = unsigned_bytes table in
    let bytes : List ℕ = expression_bytes init in
    let there : ℕ = offset + length index in
    rw (
      is.inactive,
      is.indexed,
      append_assoc index bytes later,
      unsigned_at_spot VarU32 features offset table (bytes ++ later) refl h.index,
      copied init h.offset features there later,
    )
    (at_end features (there + length bytes) (offset + length (index ++ bytes))
    (λ k. Active (Some table) (expression_placed features k init)) there there later refl (omega (arith, length-append index bytes)))

-- ---- the elements

functions_kind : (features offset : ℕ) (later : List ℕ)
    → skipped_element_kind_at (spot features offset (0x00 ∷ later)) ≡ Ok (tt, spot features (offset + 1) later)
unfolding skipped_element_kind_at
functions_kind features offset later = rw ((reads_kind Func features).at offset later) refl

copies_indices : Copies (λ s. after_reading (unsigned_at VarU32))
copies_indices = copies_skip (unsigned_at VarU32) (unsigned VarU32)

functions_read : (flags : ℕ) (typed : Bool) (indices : Section) → is_typed flags ≡ typed → ElementsFit (Functions indices)
    → (features offset : ℕ) (later : List ℕ)
    → function_elements_at flags (spot features offset (elements_bytes typed (Functions indices) ++ later))
    ≡ Ok (
      elements_placed features (offset + length (type_bytes typed (Functions indices))) (Functions indices),
      spot features (offset + length (elements_bytes typed (Functions indices))) later,
    )
unfolding function_elements_at
functions_read flags true indices is h features offset later =
    let list : List ℕ = list_bytes indices in
    rw (
      is,
      functions_kind features offset (list ++ later),
      list_back (after_reading (unsigned_at VarU32)) copies_indices indices features (offset + 1) later h,
    )
    (at_end features (offset + 1 + length list) (offset + length (0x00 ∷ list)) (λ k. Functions (list_placed features k indices))
    (offset + 1) (offset + 1) later refl (omega arith))
functions_read flags false indices is h features offset later =
    let list : List ℕ = list_bytes indices in
    rw (is, list_back (after_reading (unsigned_at VarU32)) copies_indices indices features offset later h)
    (at_end features (offset + length list) (offset + length list) (λ k. Functions (list_placed features k indices)) offset (offset + 0)
    later (omega arith) refl)

expressions_read : (flags : ℕ) (typed : Bool) (ty : RefType) (expressions : Section) → is_typed flags ≡ typed
    → ElementsFit (Expressions ty expressions) → IsSpelled typed (Expressions ty expressions) → (features offset : ℕ) (later : List ℕ)
    → expression_elements_at flags (spot features offset (elements_bytes typed (Expressions ty expressions) ++ later))
    ≡ Ok (
      elements_placed features (offset + length (type_bytes typed (Expressions ty expressions))) (Expressions ty expressions),
      spot features (offset + length (elements_bytes typed (Expressions ty expressions))) later,
    )
unfolding expression_elements_at
expressions_read flags true ty expressions is h spelled features offset later =
    let list : List ℕ = list_bytes expressions in
    let first : List ℕ = ref_bytes ty in
    let there : ℕ = offset + length first in
    rw (
      is,
      append_assoc first list later,
      (reads_ref ty features h.heap).at offset (list ++ later),
      list_back end_of_expression copies_expression expressions features there later h.list,
    )
    (at_end features (there + length list) (offset + length (first ++ list))
    (λ k. Expressions ty (list_placed features k expressions)) there there later refl (omega (arith, length-append first list)))
expressions_read flags false ty expressions is h spelled features offset later =
    let list : List ℕ = list_bytes expressions in
    rw (is, list_back end_of_expression copies_expression expressions features offset later h.list, spelled)
    (at_end features (offset + length list) (offset + length list) (λ k. Expressions funcref (list_placed features k expressions)) offset
    (offset + 0) later (omega arith) refl)

elements_read : (flags : ℕ) (kind : ElementKind) (items : ElementItems) → Flags flags kind items → ElementsFit items
    → IsSpelled (has_type kind) items → (features offset : ℕ) (later : List ℕ)
    → elements_at flags (spot features offset (elements_bytes (has_type kind) items ++ later))
    ≡ Ok (
      elements_placed features (offset + length (type_bytes (has_type kind) items)) items,
      spot features (offset + length (elements_bytes (has_type kind) items)) later,
    )
elements_read flags kind (Functions indices) is h spelled features offset later =
    rw is.expressions (functions_read flags (has_type kind) indices is.typed h features offset later)
elements_read flags kind (Expressions ty expressions) is h spelled features offset later =
    rw is.expressions (expressions_read flags (has_type kind) ty expressions is.typed h spelled features offset later)

-- ---- segments

element_read : (x : Element) (features offset : ℕ) (later : List ℕ) → ElementFits x
    → element_at (spot features offset (element_bytes x ++ later))
    ≡ Ok (element_placed features offset x, spot features (offset + length (element_bytes x)) later)
unfolding element_at element_bytes
element_read x features offset later h =
    let flags : ℕ = kind_flags x.kind + elements_flag x.items in
    let is = flags_are x.kind x.items in
    let kind : List ℕ = kind_bytes x.kind in
    let elements : List ℕ = elements_bytes (has_type x.kind) x.items in
    let there : ℕ = offset + 1 + length kind in
    rw (
      append_assoc kind elements later,
      flags_read flags features offset (kind ++ (elements ++ later)) is.most,
      kind_read flags x.kind x.items is h.kind features (offset + 1) (elements ++ later),
      elements_read flags x.kind x.items is h.elements h.spelled features there later,
    )
    (at_end features (there + length elements) (offset + length (flags ∷ (kind ++ elements))) (λ k. record {
      kind = kind_placed features (offset + 1) x.kind;
      items = elements_placed features (there + length (type_bytes (has_type x.kind) x.items)) x.items;
      range = record { start = offset; end = k };
    })
    (there + length elements) (offset + length (flags ∷ (kind ++ elements))) later (omega (arith, length-append kind elements))
    (omega (arith, length-append kind elements)))

pub element_encodes : (x : Element) (features : ℕ) → ElementFits x
    → Encodes (ReadsAs (λ (y : Element). y) element_at) features (λ (offset : ℕ). element_placed features offset x) (element_bytes x)
element_encodes x features h = record { read = λ offset later. element_read x features offset later h }
