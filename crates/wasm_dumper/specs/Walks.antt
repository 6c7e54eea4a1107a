-- What is seen of a stream, in order: of each report its section and its items.
use Rattle.std.specs.Prelude.{◌≡◌, ℕ, zero, suc, ◌-◌, ◌<◌, ◌≤◌, ◌^◌, Bool, true, false, List, [], ◌∷◌, ◌++◌, length}
use Rattle.std.specs.Prelude.{nat_eq}
use Rattle.std.specs.Prelude.{Option, Some, None, Result, Ok, Err, if◌then◌else◌, ◌⊎◌}
use Rattle.std.specs.Io.KnownBytes.{Consumes}
use Rattle.wasm_base.specs.Features.{all_features}
use Rattle.wasm_base.specs.Item.{outcome_map}
use Rattle.wasm_base.specs.Number.{unsigned_at}
use Rattle.wasm_base.specs.Outcome.{Outcome}
use Rattle.wasm_base.specs.Section.{Items, Section}
use Rattle.wasm_base.specs.Window.{Window, Place, place}
use Rattle.wasm_base.specs.declared.error.Error.{Error}
use Rattle.wasm_base.specs.declared.fault.NumberKind.TheVariants.{VarU32}
use Rattle.wasm_custom.specs.Custom.{Custom}
use Rattle.wasm_dumper.specs.Counting.{Found, after, after_number, count_of, imports_in, no_counts, space_of}
use Rattle.wasm_dumper.specs.Counting.{with_import}
use Rattle.wasm_dumper.specs.Failing.{FailsToRead}
use Rattle.wasm_dumper.specs.declared.counts.Counts.{Counts}
use Rattle.wasm_frames.specs.Along.{ReadingBegins}
use Rattle.wasm_grammar.specs.Content.{Ending, fault}
use Rattle.wasm_grammar.specs.Ids.{type_id, import_id, function_id, table_id, memory_id, tag_id, global_id, export_id}
use Rattle.wasm_grammar.specs.Ids.{element_id, name_of}
use Rattle.wasm_grammar.specs.Reading.{Report, Event, counted, custom_section, last_event, stream_end}
use Rattle.wasm_grammar.specs.Reading.{unknown_section}
use Rattle.wasm_items.specs.Data.{data_at}
use Rattle.wasm_items.specs.Elements.{element_at}
use Rattle.wasm_items.specs.Exports.{export_at}
use Rattle.wasm_items.specs.Globals.{global_at}
use Rattle.wasm_items.specs.Memories.{memory_type_at}
use Rattle.wasm_items.specs.RecGroups.{RecGroupParts, rec_group_at, rec_group_parts}
use Rattle.wasm_items.specs.Tables.{table_at}
use Rattle.wasm_items.specs.Tags.{tag_type_at}
use Rattle.wasm_items.specs.declared.types.RecGroup.{RecGroup}
use Rattle.wasm_io.specs.Calls.{Change, Device, bytes_of}
use Rattle.wasm_io.specs.declared.devices.ListError.{ListError}
use Rattle.wasm_output.specs.Numbers.{more}
use Rattle.wasm_output.specs.declared.numbers.Space.{Space}
use Rattle.wasm_output.specs.declared.numbers.Space.TheVariants.{Types, Functions, Tables, Memories, Tags}
use Rattle.wasm_output.specs.declared.numbers.Space.TheVariants.{Globals, Elements, DataSegments}
use Rattle.wasm_show.specs.Lists.{Agrees, Found as Item, custom_seen, element_seen, items_seen, never_lists}
use Rattle.wasm_show.specs.Lists.{numbered_in, plainly}
use Rattle.wasm_show.specs.Lists.{left_seen, reading_by, section_seen, shown_by}
use Rattle.wasm_show.specs.Seen.{Seen, Site, an_item, custom, enters, faulty, outside, section, unknown}
use Rattle.wasm_show.specs.Walk.{Sees}
use Rattle.wasm_streams.specs.Lists.{IsEndedBy, IsWhole, PassesTop}
use Rattle.wasm_streams.specs.declared.turns.Ended.{Ended}

-- ---- items with their numbers

-- an item or a fault that an iterator gave, with its number
abbrev pub numbered_found : {T E : Type 0} → Space → (index : ℕ) → Option (Result (ℕ × T) E)
    → Option (Result (Item T) E)
numbered_found space index None = None
numbered_found space index (Some (Ok x)) = Some (Ok (x.0, Some (space, index), x.1))
numbered_found space index (Some (Err e)) = Some (Err e)

abbrev pub after_found : {T E : Type 0} → (index : ℕ) → Option (Result (ℕ × T) E) → ℕ
after_found index None = index
after_found index (Some (Ok x)) = more index 1
after_found index (Some (Err e)) = index

-- The items of a section are seen with numbers from this one on, by whatever reading agrees with what they mean.
abbrev pub SeesNumbered : {W T : Type 0} → (meaning : Place → Outcome T → Type 0) → (saw : W → List Seen → W → Type 0)
    → (why : W → Option ListError) → (deep : Bool) → Space → (from : ℕ) → Section → (old new : W) → Type 0
SeesNumbered {W} {T} meaning saw why deep space from s old new = (reading : ℕ → Place → Outcome (List Seen × ℕ))
    → Agrees meaning (shown_by (numbered_in space) (never_lists {T = T} deep) deep 1) reading
    → Sees saw why (section_seen reading from s) old new

-- what is seen of items from a place on, numbered in this index space, where this is their reading
abbrev pub in_space : {A : Type 0} → (deep : Bool) → Space → (from : ℕ) → (Place → Outcome A) → (count : ℕ) → Place
    → List Seen
in_space deep space from at count p =
    items_seen (reading_by (numbered_in space) (never_lists deep) deep 1 at) count from p

-- of element segments
abbrev pub element_reading : (deep : Bool) (level : ℕ) → ℕ → Place → Outcome (List Seen × ℕ)
element_reading deep level = reading_by (numbered_in Elements) (element_seen deep) deep level element_at

abbrev pub elements_seen : (deep : Bool) → (count : ℕ) → Place → List Seen
elements_seen deep count p = items_seen (element_reading deep 1) count 0 p

abbrev pub OwesElements : (deep : Bool) (level : ℕ) → (index : ℕ) → Items → List Seen → Type 0
OwesElements deep level index s all = all ≡ left_seen (element_reading deep level) index s

-- | what is seen of imports, each with its number in its index space, which is how many came before it there; of groups
--   of types, whose types have the numbers [`groups_seen`] <Import Section, Type Section, Indices>
abbrev pub imports_seen : (level : ℕ) → Counts → List Found → List Seen
imports_seen level c [] = []
imports_seen level c (Ok x ∷ later) =
    an_item level (Some x.0) (Some (space_of x.1.ty, count_of c (space_of x.1.ty)))
    ∷ imports_seen level (with_import c (Ok x)) later
imports_seen level c (Err f ∷ later) = faulty f ∷ imports_seen level c later

abbrev pub OwesImports : (level : ℕ) → Counts → List Found → List Seen → Type 0
OwesImports level c list all = all ≡ imports_seen level c list

-- this many types of a group, which have no offsets of their own
abbrev pub types_seen : (first count : ℕ) → List Seen
types_seen first zero = []
types_seen first (suc n) = an_item 2 None (Some (Types, first)) ∷ types_seen (more first 1) n

abbrev pub after_types : (first count : ℕ) → ℕ
after_types first zero = first
after_types first (suc n) = after_types (more first 1) n

-- A group that is written as one is seen before its types; any other is its one type.
abbrev pub grouped : (explicit : Bool) (first offset count : ℕ) → List Seen
grouped true first offset count = an_item 1 (Some offset) None ∷ types_seen first count
grouped false first offset count = an_item 1 (Some offset) (Some (Types, first)) ∷ []

abbrev pub after_grouped : (explicit : Bool) (first count : ℕ) → ℕ
after_grouped true first count = after_types first count
after_grouped false first count = more first 1

abbrev pub group_parts_seen : (first offset : ℕ) → RecGroupParts → List Seen × ℕ
group_parts_seen first offset g =
    (grouped g.explicit first offset (length g.types), after_grouped g.explicit first (length g.types))

abbrev pub group_reading : ℕ → Place → Outcome (List Seen × ℕ)
group_reading first p = outcome_map (λ g. group_parts_seen first p.offset g) (rec_group_at p)

abbrev pub groups_seen : (count : ℕ) → Place → List Seen
groups_seen count p = items_seen group_reading count 0 p

-- what an iterator owes, of which the next type has this number
abbrev pub OwesGroups : ℕ × Items → List Seen → Type 0
OwesGroups x all = all ≡ left_seen group_reading x.0 x.1

abbrev pub group_seen : (first offset : ℕ) → RecGroup → List Seen
group_seen first offset g = grouped g.explicit first offset (length (rec_group_parts g).types)

abbrev pub next_group : (first : ℕ) → RecGroup → ℕ
next_group first g = after_grouped g.explicit first (length (rec_group_parts g).types)

abbrev pub found_group : (first : ℕ) → Item RecGroup → List Seen
found_group first x = group_seen first x.0 x.2

abbrev pub after_group : (first : ℕ) → Result (Item RecGroup) Error → ℕ
after_group first (Ok x) = next_group first x.2
after_group first (Err e) = first

-- ---- reports

-- what is seen of the items of a section that begins with a count, from the place after it on
abbrev pub counted_items : (deep : Bool) → Counts → (id count : ℕ) → Place → List Seen
counted_items deep c id count p =
    if nat_eq id type_id then groups_seen count p
    else if nat_eq id function_id then in_space deep Functions (count_of c Functions) (unsigned_at VarU32) count p
    else if nat_eq id table_id then in_space deep Tables (count_of c Tables) table_at count p
    else if nat_eq id memory_id then in_space deep Memories (count_of c Memories) memory_type_at count p
    else if nat_eq id tag_id then in_space deep Tags (count_of c Tags) tag_type_at count p
    else if nat_eq id global_id then in_space deep Globals (count_of c Globals) global_at count p
    else if nat_eq id export_id then items_seen (plainly deep 1 export_at) count tt p
    else if nat_eq id element_id then elements_seen deep count p
    else in_space deep DataSegments 0 data_at count p

abbrev pub counted_seen : (deep : Bool) → Counts → (id count : ℕ) → Window → List Seen
counted_seen deep c id count w =
    if nat_eq id import_id then imports_seen 1 c (imports_in count w)
    else counted_items deep c id count (after_number (unsigned_at VarU32 (place w)) (place w))

-- the custom section with this name in a window, whose data begins at this offset
abbrev pub custom_of : (name : List ℕ) (data_offset : ℕ) → Window → Custom
custom_of name data_offset w = record { name = name; reader = record w { position = data_offset - w.start } }

-- what is seen of the items of what is reported
abbrev pub items_of_report : (deep : Bool) → Counts → Report → List Seen
items_of_report deep c (counted id count w) = counted_seen deep c id count w
items_of_report deep c (custom_section name data_offset w) = custom_seen deep 1 (custom_of name data_offset w)
items_of_report deep c (stream_end (fault f)) = faulty f ∷ []
items_of_report deep c other = []

-- where what is reported is: in a section by its name, or that its id is unknown
abbrev pub named_site : Option (List ℕ) → Site
named_site (Some name) = section name
named_site None = outside

abbrev pub site_of_report : Report → Seen
site_of_report (counted id count w) = enters (named_site (name_of id))
site_of_report (custom_section name data_offset w) = enters (custom name)
site_of_report (unknown_section id contents from to) = unknown id from
site_of_report other = enters outside

-- | what is seen of what is reported: its section, and its items with their offsets and numbers; of the events of a
--   stream, in order [`events_seen`, `SeesStream`]
abbrev pub report_seen : (deep : Bool) → Counts → Report → List Seen
report_seen deep c report = site_of_report report ∷ items_of_report deep c report

abbrev pub events_seen : (deep : Bool) → Counts → List Event → List Seen
events_seen deep c [] = []
events_seen deep c (e ∷ later) = report_seen deep c e.report ++ events_seen deep (after c e.report) later

-- What the source gave is read as events, of which this is seen. The run ended as they do.
pub record SeenOf (deep : Bool) (input : Change) (how : Ended) (seen : List Seen) : Type 0 where
  pub given : List ℕ
  pub first : List Event
  pub end : Ending
  pub gave : Consumes input.before input.after given
  pub ends : IsEndedBy how end
  pub within : length given < 2 ^ 64 → IsWhole input.before given (first ++ last_event end ∷ [])
  pub past_the_top : 2 ^ 64 ≤ length given → PassesTop given first end
  pub is : seen ≡ events_seen deep no_counts (first ++ last_event end ∷ [])

module _ {W : Type 0} (saw : W → List Seen → W → Type 0) (why : W → Option ListError) (deep : Bool) where
  -- The walker has seen what the stream has, or a beginning of it if it has stopped.
  pub record SeesAll (input : Change) (how : Ended) (old new : W) : Type 0 where
    pub seen : List Seen
    pub of_stream : SeenOf deep input how seen
    pub sees : Sees saw why seen old new

  -- The same, and neither the walker has stopped nor the source failed.
  pub record SeesWhole (input : Device) (how : Ended) (old new : W) : Type 0 where
    pub all : SeesAll (bytes_of input) how old new
    pub going : why new ≡ None
    pub unfailed : input.has_failed ≡ input.had_failed

  -- The walker has seen what these first events of the stream have, or a beginning of it if it has stopped. The walk
  -- ended because it has, or because a read failed.
  pub record SeesFirst (input : Device) (stop : ListError) (old new : W) : Type 0 where
    pub given : List ℕ
    pub first : List Event
    pub gave : Consumes input.before input.after given
    pub begins : length given < 2 ^ 64 → ReadingBegins 0 all_features given first
    pub sees : Sees saw why (events_seen deep no_counts first) old new
    pub because : ((why new ≡ Some stop) × (input.has_failed ≡ input.had_failed))
        ⊎ FailsToRead input given first stop

  -- | what a walker has seen where a walk ends: all that the stream has; or, if the source, the walker or an allocation
  --   failed, what its first events have [`SeesWhole`, `SeesFirst`]
  abbrev pub SeesStream : (input : Device) → Result Ended ListError → (old new : W) → Type 0
  SeesStream input (Ok how) old new = SeesWhole input how old new
  SeesStream input (Err stop) old new = SeesFirst input stop old new
