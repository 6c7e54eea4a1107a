-- Counted items in a window. Core specification, Binary format, Modules, Sections.
use Rattle.std.specs.Prelude.{◌≡◌, ℕ, zero, suc, ◌+◌, ◌-◌, ◌<◌, ◌≤◌, ◌⊎◌, Bool, true, false, List, [], ◌∷◌, ◌++◌}
use Rattle.std.specs.Prelude.{length, Option, Some, None, IfSome, Result, Ok, Err, nat_lt, if◌then◌else◌, map}
use Rattle.std.specs.Iterator.{Drains}
use Rattle.wasm_base.specs.FaultAt.{FaultAt, fault_at, at_offset}
use Rattle.wasm_base.specs.Hints.{NotOutOfMemory, HintsNothing}
use Rattle.wasm_base.specs.Item.{Alike}
use Rattle.wasm_base.specs.Number.{unsigned_at}
use Rattle.wasm_base.specs.Outcome.{Outcome, ◌>>=◌}
use Rattle.wasm_base.specs.Owned.{UnlessMemory, out_of_memory}
use Rattle.wasm_base.specs.Window.{Window, Place, place, KeepsWindow}
use Rattle.wasm_base.specs.declared.error.Error.{Error}
use Rattle.wasm_base.specs.declared.fault.Fault.TheVariants.{SizeMismatch}
use Rattle.wasm_base.specs.declared.fault.NumberKind.TheVariants.{VarU32}

-- a window whose reader is after its count, and the number of items that this count announces
pub record Section : Type 0 where
  pub reader : Window
  pub count : ℕ

-- the section whose count was read, by the reader after the count
abbrev pub section_after : Window → (count : ℕ) → Section
section_after reader count = record { reader = reader; count = count }

-- The section at a place was read: its count, a u32, and its reader is after that. Or the count has this fault.
abbrev pub ReadsSection : Place → Result Section Error → Type 0
ReadsSection p (Ok section) = unsigned_at VarU32 p ≡ Ok (section.count, place section.reader)
ReadsSection p (Err e) = unsigned_at VarU32 p ≡ Err (fault_at e)

-- | the window that a section turns into its own, its count first [`Outcome.GivesResult`] <Modules, Sections>
-- the section that is what a reader has before it: a count, a u32, and the reader after it
unfoldable pub section_in : Window → Result Section FaultAt
section_in w = do
  count ← unsigned_at VarU32 (place w)
  Ok (record { reader = record w { position = w.position + (count.1.offset - (place w).offset) }; count = count.0 })

-- | the items of a window with a count: one after the other by their meaning, up to the count or the first fault;
--   then `SizeMismatch` if there are trailing bytes [`NextItem`, `ItemsOf`, `GivesItems`] <Modules, Sections>
-- the state of an iterator over items: how many were announced, how many of these remain, and whether it is over
pub record Items : Type 0 where
  pub reader : Window
  pub count : ℕ
  pub left : ℕ
  pub ended : Bool

-- an iterator that has not begun
abbrev pub all_items : Section → Items
all_items s = record { reader = s.reader; count = s.count; left = s.count; ended = false }

-- An item remains, and is read by its meaning: the iterator goes on, or ends at its fault.
abbrev pub ReadsItem : {T : Type 0} → (Place → Outcome T → Type 0) → Items → Option (Result T Error) → Items → Type 0
ReadsItem meaning s None t = ⊥
ReadsItem meaning s (Some (Ok x)) t = meaning (place s.reader) (Ok (x, place t.reader)) × (t.left + 1 ≡ s.left)
    × (t.ended ≡ false)
ReadsItem meaning s (Some (Err e)) t = meaning (place s.reader) (Err (fault_at e)) × (t.left + 1 ≡ s.left)
    × (t.ended ≡ true)

-- No item remains: the result is nothing, or one fault if the window has bytes left. Either way the iterator is over.
abbrev pub ReadsEnd : {T : Type 0} → Items → Option (Result T Error) → Items → Type 0
ReadsEnd s None t = (length (place s.reader).rest ≡ 0) × (t ≡ record s { ended = true })
ReadsEnd s (Some (Ok x)) t = ⊥
ReadsEnd s (Some (Err e)) t = (0 < length (place s.reader).rest)
    × (fault_at e ≡ at_offset SizeMismatch (place s.reader).offset) × (t ≡ record s { ended = true })

-- one call of `next`
pub record NextItem {T : Type 0} (meaning : Place → Outcome T → Type 0) (s : Items) (given : Option (Result T Error))
    (t : Items) : Type 0 where
  pub over : s.ended ≡ true → (given ≡ None) × (t ≡ s)
  pub item : s.ended ≡ false → 0 < s.left → ReadsItem meaning s given t
  pub last : s.ended ≡ false → s.left ≡ 0 → ReadsEnd s given t
  pub count : t.count ≡ s.count
  pub keeps : KeepsWindow s.reader t.reader
  pub memory : IfSome given NotOutOfMemory
  pub no_hint : s.left ≡ 0 → IfSome given HintsNothing

-- An iterator is over exactly if its item was a fault.
abbrev pub EndsAtFault : {T : Type 0} → Result T Error → Items → Type 0
EndsAtFault (Ok x) t = t.ended ≡ false
EndsAtFault (Err e) t = t.ended ≡ true

-- | one call of `next` over items that own lists; two runs over them yield the same, up to an `OutOfMemory`
--   [`SameUnlessMemory`] <Modules, Sections; this project>
-- one call of `next` over items that own lists, for which an allocation may fail
pub record NextItemIn {T : Type 0} (meaning : Place → Outcome T → Type 0) (s : Items) (given : Option (Result T Error))
    (t : Items) : Type 0 where
  pub over : s.ended ≡ true → (given ≡ None) × (t ≡ s)
  pub item : s.ended ≡ false → 0 < s.left → ReadsItem (UnlessMemory meaning) s given t
  pub last : s.ended ≡ false → s.left ≡ 0 → ReadsEnd s given t
  pub count : t.count ≡ s.count
  pub keeps : KeepsWindow s.reader t.reader
  pub memory : s.left ≡ 0 → IfSome given NotOutOfMemory
  pub no_hint : s.left ≡ 0 → IfSome given HintsNothing

-- the most results that may still come: one more than the remaining items, for a fault at the end
abbrev pub most_items : Items → ℕ
most_items s = if s.ended then 0 else s.left + 1

-- an item and the offset at which its bytes begin
abbrev pub AtItsOffset : {T : Type 0} → (Place → Outcome T → Type 0) → Place → Outcome (ℕ × T) → Type 0
AtItsOffset meaning before (Ok x) = (x.0.0 ≡ before.offset) × meaning before (Ok (x.0.1, x.1))
AtItsOffset meaning before (Err e) = meaning before (Err e)

-- after the last item: nothing, or one fault if the window has bytes left
abbrev pub at_the_end : {T : Type 0} → Place → List (Result T FaultAt)
at_the_end p = if nat_lt 0 (length p.rest) then Err (at_offset SizeMismatch p.offset) ∷ [] else []

-- The items that a window has from a place on: each by its meaning where the one before ended, as many as are
-- announced or up to the first fault, and then the end.
abbrev pub ItemsOf : {T : Type 0} → (Place → Outcome T → Type 0) → ℕ → Place → List (Result T FaultAt) → Type 0
ItemsOf meaning zero p given = given ≡ at_the_end p
ItemsOf meaning (suc left) p [] = ⊥
ItemsOf meaning (suc left) p (Ok x ∷ given) = (q : Place) × meaning p (Ok (x, q)) × ItemsOf meaning left q given
ItemsOf meaning (suc left) p (Err e ∷ given) = meaning p (Err e) × (given ≡ [])

-- an item, or what its error says
abbrev pub item_or_fault : {T : Type 0} → Result T Error → Result T FaultAt
item_or_fault (Ok x) = Ok x
item_or_fault (Err e) = Err (fault_at e)

-- the item alone, or what its error says
abbrev pub item_alone : {T : Type 0} → Result (ℕ × T) Error → Result T FaultAt
item_alone (Ok x) = Ok x.1
item_alone (Err e) = Err (fault_at e)

-- What calls of `next` return from here up to the first `None`, by a relation that each call meets: the items of the
-- window if the iterator is not over, and nothing if it is. After that `None`, every call returns `None`.
pub record GivesItems {T : Type 0} (next : Items → Option (Result T Error) → Items → Type 0)
    (meaning : Place → Outcome T → Type 0) (s : Items) : Type 0 where
  pub items : s.ended ≡ false → (given : List (Result T Error)) → Drains next s given
      → ItemsOf meaning s.left (place s.reader) (map item_or_fault given)
  pub over : s.ended ≡ true → (given : List (Result T Error)) → Drains next s given → given ≡ []
  pub at_most : (given : List (Result T Error)) → Drains next s given → length given ≤ most_items s
  pub after : (t u : Items) (given : Option (Result T Error)) → next s None t → next t given u → given ≡ None

-- Both were read from one place to another, and the meaning knows no difference between them.
abbrev pub SameItem : {T : Type 0} → (Place → Outcome T → Type 0) → T → T → Type 0
SameItem meaning x y = ((p : Place) × (q : Place) × meaning p (Ok (x, q)) × meaning p (Ok (y, q))) × Alike meaning x y

-- item by item the same, and the same faults
abbrev pub SameItems : {T : Type 0} → (Place → Outcome T → Type 0) → List (Result T FaultAt) → List (Result T FaultAt)
    → Type 0
SameItems meaning [] [] = Unit {0}
SameItems meaning [] (y ∷ ys) = ⊥
SameItems meaning (x ∷ xs) [] = ⊥
SameItems meaning (Ok x ∷ xs) (Ok y ∷ ys) = SameItem meaning x y × SameItems meaning xs ys
SameItems meaning (Ok x ∷ xs) (Err f ∷ ys) = ⊥
SameItems meaning (Err e ∷ xs) (Ok y ∷ ys) = ⊥
SameItems meaning (Err e ∷ xs) (Err f ∷ ys) = (e ≡ f) × SameItems meaning xs ys

-- a run over items: what each call of `next` meets, what counts of its result, and where the run begins
pub record Run (T A : Type 0) : Type 1 where
  pub next : Items → Option A → Items → Type 0
  pub view : A → Result T FaultAt
  pub from : Items

abbrev pub run_over : {T : Type 0} → (Items → Option (Result T Error) → Items → Type 0) → Items → Run T (Result T Error)
run_over next s = record { next = next; view = item_or_fault; from = s }

abbrev pub run_with_offsets : {T : Type 0} → (Items → Option (Result (ℕ × T) Error) → Items → Type 0) → Items
    → Run T (Result (ℕ × T) Error)
run_with_offsets next s = record { next = next; view = item_alone; from = s }

-- The results of two runs, each up to the first `None`, agree in this way.
abbrev pub RunsAgree : {T A B : Type 0} → (List (Result T FaultAt) → List (Result T FaultAt) → Type 0) → Run T A
    → Run T B → Type 0
RunsAgree {T} {A} {B} agree one other = (given : List A) (others : List B) → Drains one.next one.from given
    → Drains other.next other.from others → agree (map one.view given) (map other.view others)

-- Two runs return the same items and the same fault.
abbrev pub GivesTheSame : {T A B : Type 0} → (Place → Outcome T → Type 0) → Run T A → Run T B → Type 0
GivesTheSame meaning one other = RunsAgree (SameItems meaning) one other

-- Two runs return equal lists.
abbrev pub GivesEqual : {T A B : Type 0} → Run T A → Run T B → Type 0
GivesEqual one other = RunsAgree (λ xs ys. xs ≡ ys) one other

-- like `GivesTheSame`, for runs by one relation, from two states of an iterator
abbrev pub SameRuns : {T : Type 0} → (Place → Outcome T → Type 0) → (Items → Option (Result T Error) → Items → Type 0)
    → (s t : Items) → Type 0
SameRuns meaning next s t = GivesTheSame meaning (run_over next s) (run_over next t)

abbrev pub EqualRuns : {T : Type 0} → (Items → Option (Result T Error) → Items → Type 0) → (s t : Items) → Type 0
EqualRuns next s t = GivesEqual (run_over next s) (run_over next t)

-- This holds of the items of a section and of those of a copy of it.
abbrev pub OfCopies : (is_copy : Section → Section → Type 0) (begins : Section → Items → Type 0)
    → ((s t : Items) → Type 0) → Type 0
OfCopies is_copy begins agree = (section copy : Section) → is_copy section copy → (s t : Items) → begins section s
    → begins copy t → agree s t

-- item by item the same, and the same faults, up to an out-of-memory fault in either of them
abbrev pub SameUnlessMemory : {T : Type 0} → (Place → Outcome T → Type 0) → List (Result T FaultAt)
    → List (Result T FaultAt) → Type 0
SameUnlessMemory meaning [] [] = Unit {0}
SameUnlessMemory meaning [] (y ∷ ys) = ⊥
SameUnlessMemory meaning (x ∷ xs) [] = ⊥
SameUnlessMemory meaning (Ok x ∷ xs) (Ok y ∷ ys) = SameItem meaning x y × SameUnlessMemory meaning xs ys
SameUnlessMemory meaning (Ok x ∷ xs) (Err f ∷ ys) = f ≡ out_of_memory
SameUnlessMemory meaning (Err e ∷ xs) (Ok y ∷ ys) = e ≡ out_of_memory
SameUnlessMemory meaning (Err e ∷ xs) (Err f ∷ ys) = (e ≡ f) ⊎ (e ≡ out_of_memory) ⊎ (f ≡ out_of_memory)

-- Two runs over items that own lists return the same items and the same fault, up to an out-of-memory fault.
abbrev pub GivesTheSameUnlessMemory : {T : Type 0} → (Place → Outcome T → Type 0)
    → (Items → Option (Result T Error) → Items → Type 0) → (s t : Items) → Type 0
GivesTheSameUnlessMemory meaning next s t = RunsAgree (SameUnlessMemory meaning) (run_over next s) (run_over next t)

-- as an item that was read
abbrev pub as_read : {T : Type 0} → T → Result T FaultAt
as_read x = Ok x

-- the fault that a walk over items ended at, if it did
abbrev pub fault_of : {T X : Type 0} → Result X Error → List (Result T FaultAt)
fault_of (Ok x) = []
fault_of (Err e) = Err (fault_at e) ∷ []

-- Some items of the window can be read, and this is what comes after them.
abbrev pub WalksTo : {T : Type 0} → (Place → Outcome T → Type 0) → ℕ → Place → List (Result T FaultAt) → Type 0
WalksTo {T} meaning count p end = (items : List T) × ItemsOf meaning count p (map as_read items ++ end)

-- The announced items can all be read, and nothing remains after them; or this is the first fault.
abbrev pub Walks : {T X : Type 0} → (Place → Outcome T → Type 0) → ℕ → Place → Result X Error → Type 0
Walks meaning count p result = WalksTo meaning count p (fault_of result)
