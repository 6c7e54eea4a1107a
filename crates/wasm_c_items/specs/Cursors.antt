-- Lists of items that C walks.
use Rattle.std.specs.Prelude.{◌≡◌, ℕ, zero, suc, ◌+◌, ◌-◌, ◌^◌, min, Bool, true, false, List, [], ◌∷◌, ◌++◌, length}
use Rattle.std.specs.Prelude.{drop}
use Rattle.std.specs.Prelude.{Option, Some, None, Ok, Err, nat_eq, nat_lt, if◌then◌else◌}
use Rattle.wasm_base.specs.FaultAt.{FaultAt, at_offset}
use Rattle.wasm_base.specs.Outcome.{Outcome}
use Rattle.wasm_base.specs.Subsections.{after_refused, subsection_at}
use Rattle.wasm_base.specs.Window.{Place, Window}
use Rattle.wasm_base.specs.declared.fault.Fault.TheVariants.{IndirectOrder, NameSectionOrder, NamesOrder}
use Rattle.wasm_base.specs.declared.fault.Fault.TheVariants.{OffsetRange, SizeMismatch}
use Rattle.wasm_c_items.specs.Names.{plain_indirect, plain_naming, plain_subsection}
use Rattle.wasm_c_items.specs.Spans.{place_over, read_over}
use Rattle.wasm_frames.specs.Stored.{is_set}
use Rattle.wasm_c_items.specs.declared.cursors.StoredItems.{StoredItems}
use Rattle.wasm_c_items.specs.declared.faults.PlainFault.{PlainFault}
use Rattle.wasm_c_items.specs.declared.names.PlainIndirectNaming.{PlainIndirectNaming}
use Rattle.wasm_c_items.specs.declared.names.PlainNaming.{PlainNaming}
use Rattle.wasm_c_items.specs.declared.names.PlainSubsection.{PlainSubsection}
use Rattle.wasm_custom.specs.Names.{indirect_naming_at, naming_at}

-- | a cursor at the first item of a list; the next item, the end of a list, and the cursor after both [`next_by`,
--   `item_by`, `end_by`]
-- a cursor at the first of this many items, which is at this offset of the stream
abbrev pub starting : (offset position count features : ℕ) → StoredItems
starting offset position count features = record {
  offset = offset;
  position = position;
  remaining = count;
  features = features;
  last = 0;
  has_last = 0;
  is_ended = 0;
}

-- a cursor that returns no more items
abbrev pub ended : StoredItems → StoredItems
ended c = record c { is_ended = 1 }

-- a cursor that has moved to this offset
abbrev pub moved_to : (offset : ℕ) → StoredItems → StoredItems
moved_to offset c = record c {
  offset = offset;
  position = min (c.position + (offset - c.offset)) (2 ^ 64 - 1);
}

-- a cursor after an item, or after the fault of one
abbrev pub after_item : {X : Type 0} → StoredItems → Outcome X → StoredItems
after_item c (Ok x) = record (moved_to x.1.offset c) { remaining = c.remaining - 1 }
after_item c (Err f) = ended c

-- where the next item begins
abbrev pub place_of : StoredItems → List ℕ → Place
place_of c rest = place_over c.features c.offset rest

-- the offset at which the bytes of the list begin, where spans do
abbrev pub start_of : StoredItems → ℕ
start_of c = c.offset - c.position

-- an item at a cursor, or its fault
abbrev pub item_of : {X T : Type 0} → ((from : ℕ) → Place → Outcome X → T) → StoredItems → List ℕ → Outcome X → T
item_of plain c rest outcome = plain (start_of c) (place_of c rest) outcome

-- what a cursor returns after all items: nothing, or that bytes are left
abbrev pub end_by : {X T : Type 0} → ((from : ℕ) → Place → Outcome X → T) → StoredItems → List ℕ
    → Option T × StoredItems
end_by plain c [] = (None, ended c)
end_by plain c (b ∷ bs) = (Some (item_of plain c (b ∷ bs) (Err (at_offset SizeMismatch c.offset))), ended c)

-- the item at which a cursor is, and the cursor after it
abbrev pub item_by : {X T : Type 0} → ((from : ℕ) → Place → Outcome X → T) → (Place → Outcome X) → StoredItems → List ℕ
    → Option T × StoredItems
item_by plain reading c rest = (
  Some (item_of plain c rest (read_over reading c.features c.offset rest)),
  after_item c (read_over reading c.features c.offset rest),
)

-- What one call returns for a list that these are the bytes of, and the cursor after it. As many items come as were
-- announced, up to the first fault.
abbrev pub next_by : {X T : Type 0} → ((from : ℕ) → Place → Outcome X → T) → (Place → Outcome X) → List ℕ → StoredItems
    → Option T × StoredItems
next_by plain reading bytes c = if is_set c.is_ended then (None, c) else
    if nat_eq c.remaining 0 then end_by plain c (drop c.position bytes) else
    item_by plain reading c (drop c.position bytes)

-- whether an index is above that of the last item in order, and the cursor after it; an item with a fault has none
abbrev pub takes : StoredItems → Option ℕ → Bool × StoredItems
takes c None = (true, c)
takes c (Some index) = if is_set c.has_last then
    if nat_lt c.last index then (true, record c { last = index; has_last = 1 }) else (false, c) else
    (true, record c { last = index; has_last = 1 })

-- an item, or the fault of one that is out of order
abbrev pub taken_or_refused : {T : Type 0} → (item refused : T) → Bool × StoredItems → Option T × StoredItems
taken_or_refused item refused (true, c) = (Some item, c)
taken_or_refused item refused (false, c) = (Some refused, c)

-- | an entry whose index or id has to be above the last one [`takes`] <Appendix, Custom Sections>
-- what a call returns whose items have to be in order
abbrev pub in_order : {T : Type 0} → (index : T → Option ℕ) → (refused : FaultAt → T) → FaultAt → Option T × StoredItems
    → Option T × StoredItems
in_order index refused order (None, c) = (None, c)
in_order index refused order (Some item, c) = taken_or_refused item (refused order) (takes c (index item))

-- ---- names and subsections

-- a number of an item that has no fault
abbrev pub unless_fault : PlainFault → ℕ → Option ℕ
unless_fault fault number = if nat_eq fault.kind 0 then Some number else None

abbrev pub naming_index : PlainNaming → Option ℕ
naming_index naming = unless_fault naming.fault naming.index

abbrev pub indirect_index : PlainIndirectNaming → Option ℕ
indirect_index naming = unless_fault naming.fault naming.index

-- what one call returns for a name map
abbrev pub next_namings : List ℕ → StoredItems → Option PlainNaming × StoredItems
next_namings bytes c = in_order naming_index (λ f. item_of plain_naming c [] (Err f)) (at_offset NamesOrder c.offset)
    (next_by plain_naming naming_at bytes c)

-- what one call returns for an indirect name map
abbrev pub next_indirect_namings : List ℕ → StoredItems → Option PlainIndirectNaming × StoredItems
next_indirect_namings bytes c = in_order indirect_index (λ f. item_of plain_indirect c [] (Err f))
    (at_offset IndirectOrder c.offset) (next_by plain_indirect indirect_naming_at bytes c)

-- a subsection that was read at a place, and the cursor after it, or after the bytes of its id and size
abbrev pub subsection_in : StoredItems → Place → Outcome (ℕ × Window) → PlainSubsection × StoredItems
subsection_in c p (Ok x) = (plain_subsection (start_of c) p (Ok x), moved_to x.1.offset c)
subsection_in c p (Err f) = (plain_subsection (start_of c) p (Err f), moved_to (after_refused p).offset c)

-- the subsection at which a cursor is, and the cursor after it
abbrev pub subsection_by : StoredItems → List ℕ → PlainSubsection × StoredItems
subsection_by c rest = if nat_lt (c.offset + length rest) (2 ^ 64) then
    subsection_in c (place_of c rest) (subsection_at (place_of c rest)) else
    (item_of plain_subsection c rest (Err (at_offset OffsetRange c.offset)), ended c)

-- the next subsection, if bytes are left
abbrev pub subsection_or_end : StoredItems → List ℕ → Option PlainSubsection × StoredItems
subsection_or_end c [] = (None, ended c)
subsection_or_end c (b ∷ bs) = (Some (subsection_by c (b ∷ bs)).0, (subsection_by c (b ∷ bs)).1)

-- | the next subsection, and the cursor after it or after its id and size [`next_name_subsection`] <Appendix, Custom
--   Sections; tool conventions>
-- what one call returns for the subsections of a section
abbrev pub next_subsection : List ℕ → StoredItems → Option PlainSubsection × StoredItems
next_subsection bytes c =
    if is_set c.is_ended then (None, c) else subsection_or_end c (drop c.position bytes)

abbrev pub subsection_id : PlainSubsection → Option ℕ
subsection_id subsection = unless_fault subsection.fault subsection.id

-- and for those of a section of names, whose ids ascend
abbrev pub next_name_subsection : List ℕ → StoredItems → Option PlainSubsection × StoredItems
next_name_subsection bytes c = in_order subsection_id (λ f. item_of plain_subsection c [] (Err f))
    (at_offset NameSectionOrder c.offset) (next_subsection bytes c)

-- ---- batches

-- what a call returned, and what the others return
abbrev pub first_then : {C T : Type 0} → (others : C → List T × C) → Option T × C
    → List T × C
first_then others (None, d) = ([], d)
first_then others (Some item, d) = (item ∷ (others d).0, (others d).1)

-- all items that this many calls return, and the cursor after them
abbrev pub items_by : {C T : Type 0} → (next : C → Option T × C) → ℕ → C
    → List T × C
items_by next zero c = ([], c)
items_by next (suc n) c = first_then (λ d. items_by next n d) (next c)

-- | a call stored as many items as single calls return [`items_by`]
-- One call stored as many items as this many calls for one return, and returned how many.
pub record StoresItems {C T : Type 0} (next : C → Option T × C) (old : C) (before : List T)
    (count : ℕ) (new : C) (after : List T) : Type 0 where
  pub items : after ≡ (items_by next (length before) old).0 ++ drop count before
  pub counted : count ≡ length (items_by next (length before) old).0
  pub cursor : new ≡ (items_by next (length before) old).1
