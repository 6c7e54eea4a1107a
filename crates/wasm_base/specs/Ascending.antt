-- Entries whose indices ascend: one whose index isn't above all that were returned before is refused, and the next one
-- follows. Core specification, Appendix, Custom Sections, Name Section, Name Maps and Subsections.
use Rattle.std.specs.Prelude.{◌≡◌, ℕ, ◌⊎◌, Bool, true, false, ◌&&◌, IsTrue, List, [], ◌∷◌, Option, Some, None, IfSome}
use Rattle.std.specs.Prelude.{Result, Ok, Err, map, nat_lt, if◌then◌else◌}
use Rattle.std.specs.Iterator.{Drains}
use Rattle.wasm_base.specs.FaultAt.{FaultAt, fault_at, at_offset}
use Rattle.wasm_base.specs.Hints.{NotOutOfMemory}
use Rattle.wasm_base.specs.Section.{item_or_fault}
use Rattle.wasm_base.specs.declared.error.Error.{Error}
use Rattle.wasm_base.specs.declared.fault.Fault.{Fault}

-- the state of the entries, and the last index returned
pub record Ascending (S : Type 0) : Type 0 where
  pub entries : S
  pub last : Option ℕ

-- entries of which none was returned yet
abbrev pub none_given : {S : Type 0} → S → Ascending S
none_given entries = record { entries = entries; last = None }

-- | whether an index is above the last one that was returned; an entry that was read, by that: returned, or the fault
--   of the order at its start [`InOrder`] <Appendix, Name Section, Name Maps>
-- whether an index is above the last one returned, if any
abbrev pub is_above : Option ℕ → ℕ → Bool
is_above None index = true
is_above (Some last) index = nat_lt last index

-- An entry that was read is returned if its index is above the last one, and becomes the last one; else it is this
-- fault at its start, and the last one stays.
abbrev pub InOrder : {T : Type 0} → Option ℕ → (index : ℕ) → Fault → (start : ℕ) → T → Result T Error → Option ℕ
    → Type 0
InOrder last index fault start entry (Ok given) after = IsTrue (is_above last index) × (given ≡ entry)
    × (after ≡ Some index)
InOrder last index fault start entry (Err e) after = (is_above last index ≡ false)
    × (fault_at e ≡ at_offset fault start) × (after ≡ last)

-- An entry that was read is refused for its index.
abbrev pub Refuses : {S T : Type 0} → (S → Option (Result T Error) → S → Type 0) → (S → ℕ) → (T → ℕ) → Fault
    → Ascending S → FaultAt → S → Type 0
Refuses {S} {T} next start index fault s refused after = (x : T) × next s.entries (Some (Ok x)) after
    × (is_above s.last (index x) ≡ false) × (refused ≡ at_offset fault (start s.entries))

-- what one call of `next` returns: an entry in order, its own fault, or the order fault
abbrev pub NextInOrder : {S T : Type 0} → (S → Option (Result T Error) → S → Type 0) → (S → ℕ) → (T → ℕ) → Fault
    → Ascending S → Option (Result T Error) → Ascending S → Type 0
NextInOrder next start index fault s None t = next s.entries None t.entries × (t.last ≡ s.last)
NextInOrder next start index fault s (Some (Ok x)) t = next s.entries (Some (Ok x)) t.entries
    × IsTrue (is_above s.last (index x)) × (t.last ≡ Some (index x))
NextInOrder next start index fault s (Some (Err e)) t =
    (next s.entries (Some (Err e)) t.entries ⊎ Refuses next start index fault s (fault_at e) t.entries)
    × (t.last ≡ s.last)

-- | one call of `next` over entries whose indices ascend; what entries result in, one returned exactly if its index
--   is above each that was returned before; that what was returned ascends; all three, for whole runs [`in_order`,
--   `AscendsFrom`, `GivesAscending`] <Appendix, Name Section, Name Maps; this project>
-- one call of `next`, which never returns `OutOfMemory`
pub record NextAscending {S T : Type 0} (next : S → Option (Result T Error) → S → Type 0) (start : S → ℕ)
    (index : T → ℕ) (fault : Fault) (s : Ascending S) (given : Option (Result T Error)) (t : Ascending S) : Type 0 where
  pub order : NextInOrder next start index fault s given t
  pub memory : IfSome given NotOutOfMemory

-- one call of `next`, with the offset at which the returned entry begins
abbrev pub NextAt : {S T : Type 0} → (S → Option (Result T Error) → S → Type 0) → (S → ℕ) → S
    → Option (ℕ × Result T Error) → S → Type 0
NextAt next start s None t = next s None t
NextAt next start s (Some given) t = next s (Some given.1) t × (given.0 ≡ start s)

-- whether an index is above all of these
abbrev pub is_above_all : List ℕ → ℕ → Bool
is_above_all [] index = true
is_above_all (earlier ∷ others) index = nat_lt earlier index && is_above_all others index

-- The results for entries, each with its offset, after those with the earlier indices were returned. An entry without
-- a fault is returned exactly if its index is above all of these; otherwise it is the order fault at its start. An
-- entry with a fault of its own is that fault.
abbrev pub in_order : {T : Type 0} → (T → ℕ) → Fault → (earlier : List ℕ) → List (ℕ × Result T Error)
    → List (Result T FaultAt)
in_order index fault earlier [] = []
in_order index fault earlier ((offset, Ok x) ∷ more) =
    if is_above_all earlier (index x) then Ok x ∷ in_order index fault (index x ∷ earlier) more
    else Err (at_offset fault offset) ∷ in_order index fault earlier more
in_order index fault earlier ((offset, Err e) ∷ more) = Err (fault_at e) ∷ in_order index fault earlier more

-- The indices of the returned entries ascend strictly, from above the last one on, whatever faults are between.
abbrev pub AscendsFrom : {T : Type 0} → (T → ℕ) → Option ℕ → List (Result T Error) → Type 0
AscendsFrom index last [] = Unit {0}
AscendsFrom index last (Ok x ∷ given) = IsTrue (is_above last (index x)) × AscendsFrom index (Some (index x)) given
AscendsFrom index last (Err e ∷ given) = AscendsFrom index last given

-- What `next` returns, by a relation that each call meets: up to the first `None` the results for all entries, in
-- order, with strictly ascending indices; and then only `None`.
pub record GivesAscending {S T : Type 0} (next_entry : S → Option (Result T Error) → S → Type 0) (start : S → ℕ)
    (index : T → ℕ) (fault : Fault) (next : Ascending S → Option (Result T Error) → Ascending S → Type 0) : Type 0 where
  pub entries : (s : S) (given : List (Result T Error)) → Drains next (none_given s) given
      → (all : List (ℕ × Result T Error)) × Drains (NextAt next_entry start) s all
      × (map item_or_fault given ≡ in_order index fault [] all)
  pub ascends : (s : S) (given : List (Result T Error)) → Drains next (none_given s) given
      → AscendsFrom index None given
  pub after : (s t u : Ascending S) (given : Option (Result T Error)) → next s None t → next t given u → given ≡ None
