-- What names are after one was added, by the keys of a map.
use Rattle.wasm_output.proofs.Common.{◌≡◌, ℕ, ◌<◌, Bool, true, false, nat_eq, refl, arith, ◌≤◌, List, sym, ap, ◌∙◌, ◌^◌, nat_lt, ◌≢◌}
use Rattle.wasm_output.proofs.Common.{Some, None, UpdatesBy, get_by, is_some, unwrap_or, if◌then◌else◌, key_cmp, names_in, AddsName, named}
use Rattle.wasm_output.proofs.Common.{Number, Option, Space}
use Rattle.std.proofs.Common.{◌⊎◌, cond}
use Rattle.std.proofs.lemmas.Bool.{cases_Bool, false_from_ne_true, le-ltb, lt-ltb, true≢false}
use Rattle.std.proofs.lemmas.Map.Lookups.{exact_pairs, exact_unsigned}
use Rattle.std.proofs.lemmas.Map.Made.{lookup-map_values}
use Rattle.std.proofs.lemmas.Map.Views.{tells_apart}
use Rattle.std.specs.BTreeMap.{BTreeMap, is_at}
use Rattle.std.specs.Option.{option_map}
use Rattle.std.specs.String.{string_bytes}
use Rattle.std.specs.declared.string.String.{String}
use Rattle.wasm_output.specs.ItemNames.{Names, rank_of, key_of, KeepsNames}
use Rattle.wasm_output.specs.declared.numbers.Space.TheVariants.{Types, Functions, Tables, Memories, Tags, Globals, Elements, DataSegments}
use Rattle.wasm_output.specs.declared.numbers.Space.TheVariants.{Symbols}

-- ---- each item has a key of its own

abbrev space_at : ℕ → Space
space_at rank =
    if nat_eq rank 0 then Types
    else if nat_eq rank 1 then Functions
    else if nat_eq rank 2 then Tables
    else if nat_eq rank 3 then Memories
    else if nat_eq rank 4 then Tags
    else if nat_eq rank 5 then Globals
    else if nat_eq rank 6 then Elements
    else if nat_eq rank 7 then DataSegments
    else Symbols

space_of_rank : (space : Space) → space_at (rank_of space) ≡ space
space_of_rank space = grind arith

same_space : (a b : Space) → rank_of a ≡ rank_of b → a ≡ b
same_space a b same = sym (space_of_rank a) ∙ (ap space_at same ∙ space_of_rank b)

abbrev finds : Number → Number → Bool
finds x y = is_at (key_cmp (key_of x)) (key_of y)

finds_itself : (x : Number) → finds x x ≡ true
finds_itself x = grind arith

finds_no_other : (x y : Number) → finds x y ≡ true → x ≡ y
finds_no_other x y found = grind (arith, tells_apart, exact_pairs, exact_unsigned, same_space)

same_or_other : (x y : Number) → (x ≡ y) ⊎ (x ≢ y)
same_or_other x y = grind (arith, cases_Bool, finds_no_other, true≢false, finds_itself)

-- ---- names in a map

pub named_far : (names : Names) (number : Number) → 2 ^ 32 ≤ number.index → named names number ≡ None
unfolding named
named_far names number far = search le-ltb

module _ {A : Type 0} where
  pub named_in : (m : BTreeMap (ℕ × ℕ) (String A)) (number : Number) → number.index < 2 ^ 32
      → named (names_in m) number ≡ option_map string_bytes (get_by (key_cmp (key_of number)) m)
  unfolding named
  named_in m number small = search (lookup-map_values, lt-ltb)

  -- what was got from the map is the item's name
  pub got_name : (m : BTreeMap (ℕ × ℕ) (String A)) (number : Number) (o : Option (String A)) → number.index < 2 ^ 32
      → o ≡ get_by (key_cmp (key_of number)) m → option_map string_bytes o ≡ named (names_in m) number
  got_name m number o small got = ap (option_map string_bytes) got ∙ sym (named_in m number small)

  named_same : (m n : BTreeMap (ℕ × ℕ) (String A)) (number : Number)
      → get_by (key_cmp (key_of number)) n ≡ get_by (key_cmp (key_of number)) m → named (names_in n) number ≡ named (names_in m) number
  unfolding named
  named_same m n number same =
      ap (λ o. if nat_lt number.index (2 ^ 32) then o else None)
      (lookup-map_values string_bytes (is_at (key_cmp (key_of number))) n.entries
      ∙ (ap (option_map string_bytes) same ∙ sym (lookup-map_values string_bytes (is_at (key_cmp (key_of number))) m.entries)))

-- ---- names that stay, and one that is added

pub added_kept : (old new : Names) (number : Number) (text : List ℕ) → AddsName old number text new → KeepsNames old new
added_kept old new number text adds = grind (arith, same_or_other)

has_first : (o : Option (List ℕ)) (name : List ℕ) → is_some o ≡ true → o ≡ Some (unwrap_or o name)
has_first None name some = absurd (true≢false (sym some))
has_first (Some old) name some = refl

mapped_some : {A : Type 0} (o : Option (String A)) → is_some o ≡ true → is_some (option_map string_bytes o) ≡ true
mapped_some o some = grind arith

mapped_none : {A : Type 0} (o : Option (String A)) → is_some o ≡ false → option_map string_bytes o ≡ None
mapped_none o none = grind (arith, true≢false)

module _ {A : Type 0} where
  -- the item has a name
  pub had_name : (m : BTreeMap (ℕ × ℕ) (String A)) (number : Number) (name : List ℕ) → number.index < 2 ^ 32
      → is_some (get_by (key_cmp (key_of number)) m) ≡ true → AddsName (names_in m) number name (names_in m)
  had_name m number name small some = search (has_first, named_in, mapped_some)

  -- it has none, and the map has the name after it was put there
  pub has_name : (m n : BTreeMap (ℕ × ℕ) (String A)) (number : Number) (text : String A) → number.index < 2 ^ 32
      → is_some (get_by (key_cmp (key_of number)) m) ≡ false
      → UpdatesBy key_cmp (key_cmp (key_of number)) m n (Some text) → AddsName (names_in m) number (string_bytes text) (names_in n)
  has_name m n number text small none updates =
      let before = named_in m number small ∙ mapped_none (get_by (key_cmp (key_of number)) m) none in
      let after = named_in n number small ∙ ap (option_map string_bytes) updates.1 in
      record {
        first = after ∙ ap (λ o. Some (unwrap_or o (string_bytes text))) (sym before);
        others = λ other apart. named_same m n other (updates.0 (key_of other)
            ∙ ap (λ b. cond b (Some text) (get_by (key_cmp (key_of other)) m))
            (false_from_ne_true (finds number other) (λ found. apart (sym (finds_no_other number other found)))));
      }
