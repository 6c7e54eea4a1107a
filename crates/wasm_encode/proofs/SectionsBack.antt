-- The content of a section is read as its items.
use Rattle.std.proofs.Common.{◌≡◌, ℕ, ◌+◌, ◌<◌, ◌^◌, List, [], ◌∷◌, ◌++◌, length, map, All, arith, refl, append-nil}
use Rattle.std.proofs.Common.{append_assoc, length-append, subst, ap, sym, ◌∙◌, take, drop, slice_index_or, ◌≤◌}
use Rattle.std.proofs.lemmas.List.Elements.{All-head, All-tail}
use Rattle.std.proofs.lemmas.List.{take_more, take_all, take-append-drop}
use Rattle.wasm_base.specs.Outcome.{Outcome}
use Rattle.wasm_base.specs.Section.{ItemsOf, as_read}
use Rattle.wasm_base.specs.Window.{Place}
use Rattle.wasm_base.specs.declared.fault.NumberKind.TheVariants.{VarU32}
use Rattle.wasm_encode.specs.Numbers.{unsigned_bytes}
use Rattle.wasm_encode.specs.ReadsBack.{spot}
use Rattle.wasm_encode.specs.Sections.{content_bytes, items_bytes, placed_items, ItemsBack, IsReadBack}
use Rattle.wasm_encode.proofs.NumbersBack.{unsigned_at_spot}

items_of : {T : Type 0} (meaning : Place → Outcome T → Type 0) (features offset : ℕ) (encoded : T → List ℕ)
    (is_allowed : ℕ → T → Type 0) (placed : ℕ → ℕ → T → T) (xs : List T) → All (IsReadBack meaning encoded is_allowed placed) xs
    → All (is_allowed features) xs
    → ItemsOf meaning (length xs) (spot features offset (items_bytes encoded xs))
    (map as_read (placed_items encoded (placed features) offset xs))
items_of meaning features offset encoded is_allowed placed [] back allowed = refl
items_of meaning features offset encoded is_allowed placed (x ∷ xs) back allowed = (
  spot features (offset + length (encoded x)) (items_bytes encoded xs),
  (All-head (IsReadBack meaning encoded is_allowed placed) x xs back features (All-head (is_allowed features) x xs allowed)).read offset
      (items_bytes encoded xs),
  items_of meaning features (offset + length (encoded x)) encoded is_allowed placed xs
      (All-tail (IsReadBack meaning encoded is_allowed placed) x xs back) (All-tail (is_allowed features) x xs allowed),
)

pub items_back : {T : Type 0} (meaning : Place → Outcome T → Type 0) (features offset : ℕ) (encoded : T → List ℕ)
    (is_allowed : ℕ → T → Type 0) (placed : ℕ → ℕ → T → T) (xs : List T) → length xs < 2 ^ 32
    → All (IsReadBack meaning encoded is_allowed placed) xs → All (is_allowed features) xs
    → ItemsBack meaning features offset encoded (placed features) xs
items_back meaning features offset encoded is_allowed placed xs few back allowed = record {
  count = unsigned_at_spot VarU32 features offset (length xs) (items_bytes encoded xs) refl few;
  items = items_of meaning features (offset + length (unsigned_bytes (length xs))) encoded is_allowed placed xs back allowed;
}

-- ---- writing items in a loop

items_append : {T : Type 0} (encoded : T → List ℕ) (xs ys : List T)
    → items_bytes encoded (xs ++ ys) ≡ items_bytes encoded xs ++ items_bytes encoded ys
items_append encoded [] ys = refl
items_append encoded (x ∷ xs) ys = rw (items_append encoded xs ys)
    (sym (append_assoc (encoded x) (items_bytes encoded xs) (items_bytes encoded ys)))

-- one item more
pub more_items : {T : Type 0} (encoded : T → List ℕ) (xs : List T) (i : ℕ) (x : T) → i < length xs → x ≡ slice_index_or xs i x
    → items_bytes encoded (take (i + 1) xs) ≡ items_bytes encoded (take i xs) ++ encoded x
more_items {T} encoded xs i x h e =
    let more : take (i + 1) xs ≡ take i xs ++ x ∷ [] =
    subst (λ (y : T). take (i + 1) xs ≡ take i xs ++ y ∷ []) (sym e) (take_more xs i x h) in
    ap (items_bytes encoded) more ∙ items_append encoded (take i xs) (x ∷ [])
    ∙ ap (λ (bytes : List ℕ). items_bytes encoded (take i xs) ++ bytes) (append-nil (encoded x))

-- the first items have no more bytes than all
pub less_items : {T : Type 0} (encoded : T → List ℕ) (n : ℕ) (xs : List T)
    → length (items_bytes encoded (take n xs)) ≤ length (items_bytes encoded xs)
less_items encoded n xs =
    let e : items_bytes encoded xs ≡ items_bytes encoded (take n xs) ++ items_bytes encoded (drop n xs) =
    ap (items_bytes encoded) (sym (take-append-drop n xs)) ∙ items_append encoded (take n xs) (drop n xs) in
    omega (arith, ap length e, length-append (items_bytes encoded (take n xs)) (items_bytes encoded (drop n xs)))

-- all items but those after them
pub whole_items : {T : Type 0} (encoded : T → List ℕ) (n : ℕ) (xs : List T) → length xs ≤ n
    → items_bytes encoded (take n xs) ≡ items_bytes encoded xs
whole_items encoded n xs h = ap (items_bytes encoded) (take_all n xs h)

-- a list is longer than its items by its count
pub content_longer : {T : Type 0} (encoded : T → List ℕ) (xs : List T)
    → length (content_bytes encoded xs) ≡ length (unsigned_bytes (length xs)) + length (items_bytes encoded xs)
content_longer encoded xs = length-append (unsigned_bytes (length xs)) (items_bytes encoded xs)
