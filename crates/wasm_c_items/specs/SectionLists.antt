-- Lists that C walks, beside iterators over the items of sections.
use Rattle.std.specs.Prelude.{◌≡◌, ℕ, ◌+◌, ◌<◌, ◌^◌, false, List, length, drop, Option, Some, None, Result, Ok, Err}
use Rattle.wasm_base.specs.FaultAt.{fault_at}
use Rattle.wasm_base.specs.Outcome.{Outcome}
use Rattle.wasm_base.specs.Section.{Items, NextItem}
use Rattle.wasm_base.specs.Window.{Place, place}
use Rattle.wasm_base.specs.declared.error.Error.{Error}
use Rattle.wasm_frames.specs.Stored.{is_set}
use Rattle.wasm_c_items.specs.Cursors.{next_by, place_of, start_of}
use Rattle.wasm_c_items.specs.declared.cursors.StoredItems.{StoredItems}

-- | a cursor that is where an iterator over a section is; a call that returns the same as its `next`
--   [`ReturnsTheSame`, `ListsAreSections`] <Modules, Sections>
-- A cursor over a list of these bytes is where an iterator is, with as many remaining items; or both are over.
pub record IsBeside (bytes : List ℕ) (c : StoredItems) (s : Items) : Type 0 where
  pub over : is_set c.is_ended ≡ s.ended
  pub place : s.ended ≡ false → place_of c (drop c.position bytes) ≡ place s.reader
  pub left : s.ended ≡ false → c.remaining ≡ s.left

-- the result of an iterator that was at one place and is at another, as a list returns it
abbrev pub listed_item : {X T : Type 0} → (plain : Place → Outcome X → T) → (p q : Place) → Option (Result X Error)
    → Option T
listed_item plain p q None = None
listed_item plain p q (Some (Ok x)) = Some (plain p (Ok (x, q)))
listed_item plain p q (Some (Err e)) = Some (plain p (Err (fault_at e)))

-- The call returned the same as `next`, and the cursor is beside the iterator again.
pub record ReturnsTheSame {X T : Type 0} (plain : (from : ℕ) → Place → Outcome X → T) (reading : Place → Outcome X)
    (bytes : List ℕ) (c : StoredItems) (s : Items) (given : Option (Result X Error)) (t : Items) : Type 0 where
  pub result : (next_by plain reading bytes c).0
      ≡ listed_item (plain (start_of c)) (place s.reader) (place t.reader) given
  pub beside : IsBeside bytes (next_by plain reading bytes c).1 t

-- A list whose bytes are within the offsets of a stream returns the items of a section with the same bytes and count,
-- one after the other, and the same fault.
abbrev pub ListsAreSections : (X T : Type 0) → Type 0
ListsAreSections X T = (plain : (from : ℕ) → Place → Outcome X → T) (reading : Place → Outcome X) (bytes : List ℕ)
    (c : StoredItems) (s t : Items) (given : Option (Result X Error)) → length bytes < 2 ^ 64
    → c.offset + length (drop c.position bytes) < 2 ^ 64 → IsBeside bytes c s
    → NextItem (λ p outcome. reading p ≡ outcome) s given t → ReturnsTheSame plain reading bytes c s given t
