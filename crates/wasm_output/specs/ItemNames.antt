-- Names of items, each by the item's number.
use Rattle.std.specs.Prelude.{◌≡◌, ◌≢◌, ℕ, ◌^◌, List, map, Option, Some, None, nat_lt, if◌then◌else◌}
use Rattle.std.specs.BTreeMap.{BTreeMap, is_at}
use Rattle.std.specs.Map.{lookup}
use Rattle.std.specs.Option.{unwrap_or}
use Rattle.std.specs.declared.cmp.Ordering.{Ordering}
use Rattle.std.specs.Ordering.{nat_cmp, ordering_then}
use Rattle.std.specs.String.{string_bytes}
use Rattle.std.specs.declared.string.String.{String}
use Rattle.wasm_output.specs.Numbers.{Number}
use Rattle.wasm_output.specs.declared.numbers.Space.{Space}
use Rattle.wasm_output.specs.declared.numbers.Space.TheVariants.{Types, Functions, Tables, Memories, Tags}
use Rattle.wasm_output.specs.declared.numbers.Space.TheVariants.{Globals, Elements, DataSegments, Symbols}

-- ---- keys

-- the rank of an index space among the keys
abbrev pub rank_of : Space → ℕ
rank_of Types = 0
rank_of Functions = 1
rank_of Tables = 2
rank_of Memories = 3
rank_of Tags = 4
rank_of Globals = 5
rank_of Elements = 6
rank_of DataSegments = 7
rank_of Symbols = 8

-- the item with this index in an index space
abbrev pub item : Space → (index : ℕ) → Number
item space index = record { space = space; index = index }

-- the key of an item: the rank of its index space, and its index
abbrev pub key_of : Number → ℕ × ℕ
key_of number = (rank_of number.space, number.index)

-- the order of keys
abbrev pub key_cmp : ℕ × ℕ → ℕ × ℕ → Ordering
key_cmp x y = ordering_then (nat_cmp x.0 y.0) (nat_cmp x.1 y.1)

-- ---- names

-- names by the keys of their items
abbrev pub Names : Type 0
Names = List ((ℕ × ℕ) × List ℕ)

-- those that a map has
abbrev pub names_in : {A : Type 0} → BTreeMap (ℕ × ℕ) (String A) → Names
names_in m = map (λ e. (e.0, string_bytes e.1)) m.entries

-- | the name of an item; names after one was added, and names that were only added to [`AddsName`, `KeepsNames`]
-- the name of an item, if it has one; an index has 32 bits, so nothing has one beyond
unfoldable pub named : Names → Number → Option (List ℕ)
named names number =
    if nat_lt number.index (2 ^ 32) then lookup (is_at (key_cmp (key_of number))) names else None

-- a name was added for an item: the item has its first one, and every other item what it had
pub record AddsName (old : Names) (number : Number) (name : List ℕ) (new : Names) : Type 0 where
  pub first : named new number ≡ Some (unwrap_or (named old number) name)
  pub others : (other : Number) → other ≢ number → named new other ≡ named old other

-- an item that had a name has it still
abbrev pub KeepsNames : Names → Names → Type 0
KeepsNames old new = (number : Number) (name : List ℕ) → named old number ≡ Some name → named new number ≡ Some name
