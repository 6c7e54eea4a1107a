-- What is seen of sections, subsections and name maps: their items, the items of lists in these, and faults.
use Rattle.std.specs.Prelude.{◌≡◌, ℕ, zero, suc, ◌<◌, ◌≤◌, false, Bool, List, [], ◌∷◌, ◌++◌, length, nat_eq, nat_lt}
use Rattle.std.specs.Prelude.{Option, Some, None}
use Rattle.std.specs.Prelude.{Result, Ok, Err, bytes_eq, codes, if◌then◌else◌}
use Rattle.wasm_base.specs.Ascending.{Ascending, is_above}
use Rattle.wasm_base.specs.FaultAt.{FaultAt, at_offset, fault_at}
use Rattle.wasm_base.specs.Hints.{is_out_of_memory}
use Rattle.wasm_base.specs.Item.{ReadsAs, outcome_map}
use Rattle.wasm_base.specs.Number.{unsigned_at}
use Rattle.wasm_base.specs.Outcome.{Outcome}
use Rattle.wasm_base.specs.Section.{Items, Section, section_in}
use Rattle.wasm_base.specs.Subsections.{ReadsWindowAs, after_refused, result_map, subsection_at}
use Rattle.wasm_base.specs.Window.{Place, Window, place, whole_window}
use Rattle.wasm_base.specs.declared.error.Error.{Error}
use Rattle.wasm_base.specs.declared.fault.Fault.{Fault}
use Rattle.wasm_base.specs.declared.fault.Fault.TheVariants.{IndirectOrder, NameSectionOrder, NamesOrder, SizeMismatch}
use Rattle.wasm_base.specs.declared.fault.NumberKind.TheVariants.{VarU32}
use Rattle.wasm_custom.specs.BranchHinting.{branch_hint_at, function_hints_at}
use Rattle.wasm_custom.specs.Custom.{Custom}
use Rattle.wasm_custom.specs.Dylink0.{dylink_subsection_in}
use Rattle.wasm_custom.specs.Known.{Known, reading_of}
use Rattle.wasm_custom.specs.Known as Knowns
use Rattle.wasm_custom.specs.Linking.{ComdatParts, LinkingParts, LinkingSection, listed, comdat_at, comdat_parts}
use Rattle.wasm_custom.specs.Linking.{comdat_symbol_at}
use Rattle.wasm_custom.specs.Linking.{init_function_at, linking_parts, linking_subsection_in, segment_at, symbol_at}
use Rattle.wasm_custom.specs.Names.{NameParts, direct, indirect, id_of_parts, indirect_naming_at, name_in, name_parts}
use Rattle.wasm_custom.specs.Names.{naming_at}
use Rattle.wasm_custom.specs.Producers.{FieldParts, field_at, field_parts, field_value_at}
use Rattle.wasm_custom.specs.Reloc.{relocation_at}
use Rattle.wasm_custom.specs.TargetFeatures.{target_feature_at}
use Rattle.wasm_custom.specs.declared.branch_hinting.BranchHintFunction.{BranchHintFunction}
use Rattle.wasm_custom.specs.declared.linking.Comdat.{Comdat}
use Rattle.wasm_custom.specs.declared.linking.Linking.{Linking}
use Rattle.wasm_custom.specs.declared.names.IndirectNaming.{IndirectNaming}
use Rattle.wasm_custom.specs.declared.names.Name.{Name}
use Rattle.wasm_custom.specs.declared.producers.ProducersField.{ProducersField}
use Rattle.wasm_items.specs.Init.{expression_at}
use Rattle.wasm_items.specs.declared.elements.Element.{Element}
use Rattle.wasm_items.specs.declared.elements.ElementItems.{ElementItems}
use Rattle.wasm_items.specs.declared.elements.ElementItems.TheVariants.{Functions, Expressions}
use Rattle.wasm_output.specs.Numbers.{more}
use Rattle.wasm_output.specs.declared.numbers.Space.{Space}
use Rattle.wasm_io.specs.declared.devices.ListError.{ListError}
use Rattle.wasm_show.specs.Seen.{Seen, an_item, faulty}
use Rattle.wasm_show.specs.Walk.{Sees, TakesFault}

-- ---- items

-- an item that was read: its offset, its number, if it has one, and itself
abbrev pub Found : Type 0 → Type 0
Found T = ℕ × Option (Space × ℕ) × T

-- what is seen in a list of items inside an item, if the walk goes into these
abbrev pub if_deep : (deep : Bool) → List Seen → List Seen
if_deep deep seen = if deep then seen else []

-- the level of what is under a level
abbrev pub under : ℕ → ℕ
under level = more level 1

-- what is seen of an item, with its lists
abbrev pub found_seen : {T : Type 0} → (lists : ℕ → T → List Seen) → (deep : Bool) (level : ℕ) → Found T → List Seen
found_seen lists deep level x = an_item level (Some x.0) x.1 ∷ if_deep deep (lists (under level) x.2)

-- the lists of what has none
abbrev pub never_lists : {T : Type 0} → (deep : Bool) (level : ℕ) → T → List Seen
never_lists deep level x = []

-- what is seen of an item, and later; or the fault in its place
abbrev pub or_later : {S : Type 0} → (later : S → Place → List Seen) → Outcome (List Seen × S) → List Seen
or_later later (Ok x) = x.0.0 ++ later x.0.1 x.1
or_later later (Err f) = faulty f ∷ []

-- the fault of a list that has more bytes than its items
abbrev pub of_rest : Place → List Seen
of_rest p = if nat_lt 0 (length p.rest) then faulty (at_offset SizeMismatch p.offset) ∷ [] else []

-- | what is seen of a section's items, one after the other up to the first fault, or that bytes remain after them; of
--   the subsections of a window, each [`subsections_seen`] <Modules, Sections>
-- What is seen of the items that a window has from a place on: each with its lists, and then the first fault in the
-- place of an item, or of the bytes that come after as many as are announced. The reading says what is seen of an item
-- after what came before, and what comes before the next one.
abbrev pub items_seen : {S : Type 0} → (reading : S → Place → Outcome (List Seen × S)) → (left : ℕ) → S → Place
    → List Seen
items_seen reading zero s p = of_rest p
items_seen reading (suc left) s p = or_later (λ t q. items_seen reading left t q) (reading s p)

abbrev pub section_seen : {S : Type 0} → (reading : S → Place → Outcome (List Seen × S)) → S → Section → List Seen
section_seen reading s x = items_seen reading x.count s (place x.reader)

-- of those that an iterator has not given yet
abbrev pub left_seen : {S : Type 0} → (reading : S → Place → Outcome (List Seen × S)) → S → Items → List Seen
left_seen reading s x = if x.ended then [] else items_seen reading x.left s (place x.reader)

-- how items are numbered by how many came before: the number of the next one, and what comes before the one after it
pub record Numbering (S : Type 0) : Type 0 where
  pub number : S → Option (Space × ℕ)
  pub next : S → S

-- not at all
abbrev pub unnumbered : Numbering (Unit {0})
unnumbered = record { number = λ s. None; next = λ s. s }

-- one after the other in this index space
abbrev pub numbered_in : Space → Numbering ℕ
numbered_in space = record { number = λ i. Some (space, i); next = λ i. more i 1 }

-- what is seen of an item at this offset
abbrev pub shown_by : {S T : Type 0} → Numbering S → (lists : ℕ → T → List Seen) → (deep : Bool) (level : ℕ)
    → S → ℕ → T → List Seen × S
shown_by n lists deep level s offset x = (found_seen lists deep level (offset, n.number s, x), n.next s)

-- of what is read so
abbrev pub reading_by : {S A : Type 0} → Numbering S → (lists : ℕ → A → List Seen) → (deep : Bool) (level : ℕ)
    → (Place → Outcome A) → S → Place → Outcome (List Seen × S)
reading_by n lists deep level at s p = outcome_map (λ x. shown_by n lists deep level s p.offset x) (at p)

-- of items without lists and numbers
abbrev pub plainly : {A : Type 0} → (deep : Bool) (level : ℕ) → (Place → Outcome A) → Unit {0} → Place
    → Outcome (List Seen × Unit {0})
plainly deep level at = reading_by unnumbered (never_lists deep) deep level at

abbrev pub plain_seen : {A : Type 0} → (deep : Bool) (level : ℕ) → (Place → Outcome A) → Section → List Seen
plain_seen deep level at s = section_seen (plainly deep level at) tt s

-- The reading says of each item that a meaning allows what is seen of it.
abbrev pub Agrees : {S T : Type 0} → (meaning : Place → Outcome T → Type 0) → (shows : S → ℕ → T → List Seen × S)
    → (reading : S → Place → Outcome (List Seen × S)) → Type 0
Agrees {S} {T} meaning shows reading = (s : S) (p : Place) (o : Outcome T) → meaning p o
    → ReadsAs (λ x. shows s p.offset x) (reading s) p o

-- ---- what an iterator owes

-- What a call of `next_item` returned, by what is to be seen of the remaining items: if it was an item, that comes
-- first, and the later ones are left; if it was a fault of the stream, that one does.
abbrev pub AfterItem : {I T : Type 0} → (owes : I → List Seen → Type 0) → (shows : Found T → List Seen) → List Seen
    → Option (Result (Found T) Error) → I → Type 0
AfterItem owes shows all None t = all ≡ []
AfterItem owes shows all (Some (Ok x)) t = (later : List Seen) × owes t later × (all ≡ shows x ++ later)
AfterItem owes shows all (Some (Err e)) t = is_out_of_memory (fault_at e).fault ≡ false
    → (later : List Seen) × owes t later × (all ≡ faulty (fault_at e) ∷ later)

abbrev pub GivesOwed : {I T : Type 0} → (owes : (deep : Bool) (level : ℕ) → I → List Seen → Type 0)
    → (lists : (deep : Bool) → ℕ → T → List Seen) → I → Option (Result (Found T) Error) → I → Type 0
GivesOwed owes lists s given t = (deep : Bool) (level : ℕ) (all : List Seen) → owes deep level s all
    → AfterItem (owes deep level) (found_seen (lists deep) deep level) all given t

-- Each result leaves fewer later ones.
abbrev pub IsFewer : {I A : Type 0} → (most : I → ℕ) → I → Option A → I → Type 0
IsFewer most s None t = Unit {0}
IsFewer most s (Some x) t = most t < most s

-- A section's iterator owes this.
abbrev pub OwesItems : {S T : Type 0} → (meaning : Place → Outcome T → Type 0) → (shows : S → ℕ → T → List Seen × S)
    → S → Items → List Seen → Type 0
OwesItems {S} meaning shows s x all = (reading : S → Place → Outcome (List Seen × S)) × Agrees meaning shows reading
    × (all ≡ left_seen reading s x)

-- one whose items are numbered so, and have these lists
abbrev pub OwesBy : {S T : Type 0} → (meaning : Place → Outcome T → Type 0) → Numbering S
    → (lists : (deep : Bool) → ℕ → T → List Seen) → (deep : Bool) (level : ℕ) → S → Items → List Seen → Type 0
OwesBy meaning n lists deep level s x all = OwesItems meaning (shown_by n (lists deep) deep level) s x all

-- what is seen of a list of items or faults, in order
abbrev pub list_seen : {A : Type 0} → (deep : Bool) (level : ℕ) → List (Result (ℕ × A) FaultAt) → List Seen
list_seen deep level [] = []
list_seen deep level (Ok x ∷ later) =
    found_seen (never_lists deep) deep level (x.0, None, x.1) ++ list_seen deep level later
list_seen deep level (Err f ∷ later) = faulty f ∷ list_seen deep level later

abbrev pub OwesList : {A : Type 0} → (deep : Bool) (level : ℕ) → List (Result (ℕ × A) FaultAt) → List Seen → Type 0
OwesList deep level list all = all ≡ list_seen deep level list

-- ---- what a walker sees

-- These items are seen, or the fault in the place of one.
abbrev pub SeesFound : {W T : Type 0} → (saw : W → List Seen → W → Type 0) (why : W → Option ListError)
    → (shows : Found T → List Seen) → Result (Found T) Error → (old new : W) → Type 0
SeesFound saw why shows (Ok x) old new = Sees saw why (shows x) old new
SeesFound saw why shows (Err e) old new = TakesFault saw why e old new

-- The items of a section are, by whatever reading agrees with what they mean.
abbrev pub SeesSection : {W T : Type 0} → (meaning : Place → Outcome T → Type 0) → (saw : W → List Seen → W → Type 0)
    → (why : W → Option ListError) → (deep : Bool) (level : ℕ) → Section → (old new : W) → Type 0
SeesSection {W} {T} meaning saw why deep level section old new =
    (reading : Unit {0} → Place → Outcome (List Seen × Unit {0}))
    → Agrees meaning (shown_by unnumbered (never_lists {T = T} deep) deep level) reading
    → Sees saw why (section_seen reading tt section) old new

-- ---- subsections of a window

-- what an iterator gave, with the offset of the item and without a number
abbrev pub with_offset : {T E : Type 0} → (offset : ℕ) → Option (Result T E) → Option (Result (Found T) E)
with_offset offset None = None
with_offset offset (Some (Ok x)) = Some (Ok (offset, None, x))
with_offset offset (Some (Err e)) = Some (Err e)

abbrev pub without_number : {T E : Type 0} → Option (Result (ℕ × T) E) → Option (Result (Found T) E)
without_number None = None
without_number (Some (Ok x)) = Some (Ok (x.0, None, x.1))
without_number (Some (Err e)) = Some (Err e)

-- what is seen of a subsection and of its lists, or its fault, and of later subsections
abbrev pub or_after : (head : Seen) → Result (List Seen) FaultAt → (later : List Seen) → List Seen
or_after head (Ok one) later = (head ∷ one) ++ later
or_after head (Err f) later = faulty f ∷ later

-- After the fault of an id or a size the next subsection begins after the bytes that reading these takes.
abbrev pub or_next : (head : Seen) → (reading : ℕ → Window → Result (List Seen) FaultAt) → (later : Place → List Seen)
    → (after : Place) → Outcome (ℕ × Window) → List Seen
or_next head reading later after (Ok x) = or_after head (reading x.0.0 x.0.1) (later x.1)
or_next head reading later after (Err f) = faulty f ∷ later after

-- an item without a number at a place
abbrev pub item_at : (level : ℕ) → Place → Seen
item_at level p = an_item level (Some p.offset) None

-- What is seen of the subsections that a window has from a place on, one after the other to the end, of which there are
-- at most as many as bytes. The reading says what is seen in the lists of a subsection.
abbrev pub subsections_seen : (level : ℕ) → (reading : ℕ → Window → Result (List Seen) FaultAt) → (most : ℕ) → Place
    → List Seen
subsections_seen level reading zero p = []
subsections_seen level reading (suc most) p = if nat_eq (length p.rest) 0 then []
    else or_next (item_at level p) reading (λ q. subsections_seen level reading most q) (after_refused p)
    (subsection_at p)

abbrev pub window_seen : (level : ℕ) → (reading : ℕ → Window → Result (List Seen) FaultAt) → Window → List Seen
window_seen level reading w = subsections_seen level reading (length (place w).rest) (place w)

-- The reading says of each subsection that a meaning allows what is seen in its lists.
abbrev pub AgreesOnWindows : {T : Type 0} → (meaning : ℕ → Window → Result T FaultAt → Type 0)
    → (seen : T → List Seen) → (reading : ℕ → Window → Result (List Seen) FaultAt) → Type 0
AgreesOnWindows {T} meaning seen reading = (id : ℕ) (w : Window) (o : Result T FaultAt) → meaning id w o
    → ReadsWindowAs seen reading id w o

abbrev pub OwesSubsections : {T : Type 0} → (meaning : ℕ → Window → Result T FaultAt → Type 0)
    → (lists : (deep : Bool) → ℕ → T → List Seen) → (deep : Bool) (level : ℕ) → Window → List Seen → Type 0
OwesSubsections meaning lists deep level w all = (reading : ℕ → Window → Result (List Seen) FaultAt)
    × AgreesOnWindows meaning (λ x. if_deep deep (lists deep (under level) x)) reading × (most : ℕ)
    × (length (place w).rest ≤ most) × (all ≡ subsections_seen level reading most (place w))

-- ---- names

-- an entry if its index is above the last one, with its names, else the fault of the order at its start, and later
-- ones; or its own fault
abbrev pub or_in_order : Fault → (head : Seen) → (last : Option ℕ) → (later : Option ℕ → Place → List Seen)
    → (start : ℕ) → Outcome (ℕ × List Seen) → List Seen
or_in_order order head last later start (Ok x) = if is_above last x.0.0
    then (head ∷ x.0.1) ++ later (Some x.0.0) x.1
    else faulty (at_offset order start) ∷ later last x.1
or_in_order order head last later start (Err f) = faulty f ∷ []

-- What is seen of the entries of a map from a place on; an index that isn't above the ones before is a fault. The
-- reading says of an entry its index and what is seen of its names.
abbrev pub entries_seen : (level : ℕ) → Fault → (reading : Place → Outcome (ℕ × List Seen)) → (left : ℕ)
    → (last : Option ℕ) → Place → List Seen
entries_seen level order reading zero last p = of_rest p
entries_seen level order reading (suc left) last p = or_in_order order (item_at level p) last
    (λ last q. entries_seen level order reading left last q) p.offset (reading p)

abbrev pub map_seen : (level : ℕ) → Fault → (reading : Place → Outcome (ℕ × List Seen)) → Ascending Items → List Seen
map_seen level order reading m = if m.entries.ended then []
    else entries_seen level order reading m.entries.left m.last (place m.entries.reader)

-- an entry of a name map
abbrev pub naming_reading : (deep : Bool) → Place → Outcome (ℕ × List Seen)
naming_reading deep p = outcome_map (λ naming. (naming.index, if_deep deep [])) (naming_at p)

abbrev pub names_seen : (deep : Bool) (level : ℕ) → Ascending Items → List Seen
names_seen deep level m = map_seen level NamesOrder (naming_reading deep) m

-- an entry of an indirect name map
abbrev pub indirect_seen : (deep : Bool) (level : ℕ) → IndirectNaming → List Seen
indirect_seen deep level naming = names_seen deep level naming.names

abbrev pub indirect_reading : (deep : Bool) (level : ℕ) → Place → Outcome (ℕ × List Seen)
indirect_reading deep level p =
    outcome_map (λ naming. (naming.index, if_deep deep (indirect_seen deep (under level) naming)))
    (indirect_naming_at p)

abbrev pub indirect_names_seen : (deep : Bool) (level : ℕ) → Ascending Items → List Seen
indirect_names_seen deep level m = map_seen level IndirectOrder (indirect_reading deep level) m

abbrev pub OwesNamings : (deep : Bool) (level : ℕ) → Ascending Items → List Seen → Type 0
OwesNamings deep level m all = all ≡ names_seen deep level m

abbrev pub OwesIndirect : (deep : Bool) (level : ℕ) → Ascending Items → List Seen → Type 0
OwesIndirect deep level m all = all ≡ indirect_names_seen deep level m

-- the names of a subsection
abbrev pub parts_seen : (deep : Bool) (level : ℕ) → NameParts → List Seen
parts_seen deep level (direct id entries) = names_seen deep level entries
parts_seen deep level (indirect id entries) = indirect_names_seen deep level entries
parts_seen deep level other = []

abbrev pub name_seen : (deep : Bool) (level : ℕ) → Name → List Seen
name_seen deep level name = parts_seen deep level (name_parts name)

-- a subsection of names, by its id, which must be above those of the ones before; or its own fault
abbrev pub or_name : (head : Seen) → (lists : NameParts → List Seen) → (last : Option ℕ)
    → (later : Option ℕ → List Seen) → (start : ℕ) → Result NameParts FaultAt → List Seen
or_name head lists last later start (Ok x) = if is_above last (id_of_parts x)
    then (head ∷ lists x) ++ later (Some (id_of_parts x))
    else faulty (at_offset NameSectionOrder start) ∷ later last
or_name head lists last later start (Err f) = faulty f ∷ later last

abbrev pub or_next_name : (level : ℕ) → (lists : NameParts → List Seen) → (last : Option ℕ)
    → (later : Option ℕ → Place → List Seen) → (from after : Place) → Outcome (ℕ × Window) → List Seen
or_next_name level lists last later from after (Ok head) = or_name (item_at level from) lists last
    (λ last. later last head.1) from.offset (name_in head.0.0 head.0.1)
or_next_name level lists last later from after (Err f) = faulty f ∷ later last after

-- the subsections of names from a place on
abbrev pub subsections_of_names_seen : (level : ℕ) → (lists : NameParts → List Seen) → (most : ℕ)
    → (last : Option ℕ) → Place → List Seen
subsections_of_names_seen level lists zero last p = []
subsections_of_names_seen level lists (suc most) last p = if nat_eq (length p.rest) 0 then []
    else or_next_name level lists last (λ last q. subsections_of_names_seen level lists most last q) p
    (after_refused p) (subsection_at p)

-- the names of a subsection, if the walk goes into lists
abbrev pub lists_of_names : (deep : Bool) (level : ℕ) → NameParts → List Seen
lists_of_names deep level x = if_deep deep (parts_seen deep (under level) x)

abbrev pub name_section_seen : (deep : Bool) (level : ℕ) → Ascending Window → List Seen
name_section_seen deep level s = subsections_of_names_seen level (lists_of_names deep level)
    (length (place s.entries).rest) s.last (place s.entries)

abbrev pub OwesNames : (deep : Bool) (level : ℕ) → Ascending Window → List Seen → Type 0
OwesNames deep level s all = (most : ℕ) × (length (place s.entries).rest ≤ most)
    × (all ≡ subsections_of_names_seen level (lists_of_names deep level) most s.last (place s.entries))

-- ---- lists inside items

-- the values of a producer's field
abbrev pub values_seen : (deep : Bool) (level : ℕ) → FieldParts → List Seen
values_seen deep level field = plain_seen deep level field_value_at field.values

abbrev pub values_of_field : (deep : Bool) (level : ℕ) → ProducersField → List Seen
values_of_field deep level field = values_seen deep level (field_parts field)

-- the hints of a function
abbrev pub hints_seen : (deep : Bool) (level : ℕ) → BranchHintFunction → List Seen
hints_seen deep level function = plain_seen deep level branch_hint_at function.hints

-- the symbols of a comdat
abbrev pub comdat_seen : (deep : Bool) (level : ℕ) → ComdatParts → List Seen
comdat_seen deep level comdat = plain_seen deep level comdat_symbol_at comdat.symbols

abbrev pub symbols_of_comdat : (deep : Bool) (level : ℕ) → Comdat → List Seen
symbols_of_comdat deep level comdat = comdat_seen deep level (comdat_parts comdat)

-- the functions or expressions of an element segment
abbrev pub element_items_seen : (deep : Bool) (level : ℕ) → ElementItems → List Seen
element_items_seen deep level (Functions s) = plain_seen deep level (unsigned_at VarU32) s
element_items_seen deep level (Expressions ty s) = plain_seen deep level expression_at s

abbrev pub element_seen : (deep : Bool) (level : ℕ) → Element → List Seen
element_seen deep level element = element_items_seen deep level element.items

-- items with lists, without numbers
abbrev pub listing : {A : Type 0} → (lists : (deep : Bool) → ℕ → A → List Seen) → (deep : Bool) (level : ℕ)
    → (Place → Outcome A) → Section → List Seen
listing lists deep level at s = section_seen (reading_by unnumbered (lists deep) deep level at) tt s

abbrev pub OwesListing : {A : Type 0} → (lists : (deep : Bool) → ℕ → A → List Seen) → (Place → Outcome A)
    → (deep : Bool) (level : ℕ) → Items → List Seen → Type 0
OwesListing lists at deep level s all = all ≡ left_seen (reading_by unnumbered (lists deep) deep level at) tt s

-- ---- custom sections

-- the items of a list for linkers, by the id of its subsection
abbrev pub listed_seen : (deep : Bool) (level : ℕ) → (id : ℕ) → Section → List Seen
listed_seen deep level id list =
    if nat_eq id 5 then plain_seen deep level segment_at list
    else if nat_eq id 6 then plain_seen deep level init_function_at list
    else if nat_eq id 7 then listing comdat_seen deep level comdat_at list
    else plain_seen deep level symbol_at list

abbrev pub linking_parts_seen : (deep : Bool) (level : ℕ) → LinkingParts → List Seen
linking_parts_seen deep level (listed id list) = listed_seen deep level id list
linking_parts_seen deep level other = []

abbrev pub linking_seen : (deep : Bool) (level : ℕ) → Linking → List Seen
linking_seen deep level l = linking_parts_seen deep level (linking_parts l)

abbrev pub linking_reading : (deep : Bool) (level : ℕ) → ℕ → Window → Result (List Seen) FaultAt
linking_reading deep level id w =
    result_map (λ x. if_deep deep (linking_parts_seen deep (under level) x)) (linking_subsection_in id w)

abbrev pub OwesLinking : (deep : Bool) (level : ℕ) → Window → List Seen → Type 0
OwesLinking deep level w all = (most : ℕ) × (length (place w).rest ≤ most)
    × (all ≡ subsections_seen level (linking_reading deep level) most (place w))

abbrev pub linking_section_seen : (deep : Bool) (level : ℕ) → LinkingSection → List Seen
linking_section_seen deep level s = window_seen level (linking_reading deep level) s.subsections

abbrev pub dylink_reading : (deep : Bool) → ℕ → Window → Result (List Seen) FaultAt
dylink_reading deep id w = result_map (λ x. if_deep deep []) (dylink_subsection_in id w)

abbrev pub dylink_seen : (deep : Bool) (level : ℕ) → Window → List Seen
dylink_seen deep level w = window_seen level (dylink_reading deep) w

-- What is known of a custom section; those of core dumps are read as a whole before they are known.
abbrev pub known_seen : (deep : Bool) (level : ℕ) → Known → List Seen
known_seen deep level (Knowns.names s) = name_section_seen deep level s
known_seen deep level (Knowns.branch_hints s) = listing hints_seen deep level function_hints_at s
known_seen deep level (Knowns.producers s) = listing values_seen deep level field_at s
known_seen deep level (Knowns.dynamic_linking w) = dylink_seen deep level w
known_seen deep level (Knowns.linking s) = linking_section_seen deep level s
known_seen deep level (Knowns.relocations s) = plain_seen deep level relocation_at s.entries
known_seen deep level other = []

-- the features of a module: a count and as many of them
abbrev pub counted_features_seen : (deep : Bool) (level : ℕ) → Result Section FaultAt → List Seen
counted_features_seen deep level (Ok s) = plain_seen deep level target_feature_at s
counted_features_seen deep level (Err f) = faulty f ∷ []

abbrev pub features_seen : (deep : Bool) (level : ℕ) → Custom → List Seen
features_seen deep level x = counted_features_seen deep level (section_in (whole_window (place x.reader)))

-- what was read of a section, or the fault of its reader
abbrev pub read_seen : (deep : Bool) (level : ℕ) → Result Known FaultAt → List Seen
read_seen deep level (Ok known) = known_seen deep level known
read_seen deep level (Err f) = faulty f ∷ []

-- What is seen of a custom section: the features of a module, or what its name and its data say; or the fault at which
-- the reader for its name rejects the data. Of a section with another name nothing is.
abbrev pub custom_seen : (deep : Bool) (level : ℕ) → Custom → List Seen
custom_seen deep level x = if bytes_eq x.name (codes "target_features") then features_seen deep level x
    else read_seen deep level (reading_of x)
