-- What is seen of items with numbers.
use Rattle.wasm_dumper.proofs.Common.{◌≡◌, ℕ, suc, ◌+◌, Bool, true, false, List, [], ◌∷◌, ◌++◌, Option, Some, None, Result, Ok, Err}
use Rattle.wasm_dumper.proofs.Common.{refl, sym, ap, ◌∙◌, Error, Found, Outcome, Place, Section, Space, VarU32, ReadsAs, arith, fault_at}
use Rattle.wasm_dumper.proofs.Common.{more}
use Rattle.wasm_dumper.proofs.Common.{place, subst, unsigned_at, length}
use Rattle.wasm_base.specs.Section.{AtItsOffset, Items, NextItem, NextItemIn}
use Rattle.wasm_dumper.specs.Counting.{after_number, count_of, imports_in, space_of, with_one}
use Rattle.std.specs.Prelude.{map}
use Rattle.wasm_base.specs.Item.{outcome_map}
use Rattle.wasm_dumper.specs.Walks.{OwesGroups, after_found, after_group, found_group, group_parts_seen, group_reading}
use Rattle.wasm_dumper.specs.Walks.{SeesNumbered, custom_of, imports_seen, in_space, next_group, numbered_found}
use Rattle.wasm_items.specs.RecGroups.{rec_group_at, rec_group_parts}
use Rattle.wasm_items.specs.declared.types.RecGroup.{RecGroup}
use Rattle.std.proofs.Common.{◌-◌}
use Rattle.wasm_custom.specs.Custom.{Custom}
use Rattle.wasm_dumper.specs.declared.counts.Counts.{Counts}
use Rattle.wasm_io.specs.declared.devices.ListError.{ListError}
use Rattle.wasm_frames.specs.Frame.{unread}
use Rattle.wasm_items.specs.Flattened.{NextImport, flattened, found_at}
use Rattle.wasm_items.specs.declared.imports.Import.{Import}
use Rattle.wasm_parser.specs.ParseAnswer.{BeginsAfterCount}
use Rattle.wasm_show.specs.Lists.{AfterItem, Agrees, Found as Item, found_seen, items_seen, left_seen, never_lists, numbered_in}
use Rattle.wasm_show.specs.Lists.{if_deep, reading_by, shown_by, with_offset}
use Rattle.wasm_show.specs.Seen.{Seen, an_item, faulty}
use Rattle.wasm_show.specs.Walk.{Sees}
use Rattle.wasm_show.proofs.ForCallers.{fault_left, item_is, none_is_left, none_owned, owned_fault, owned_is, readings_agree, sees_same}

-- ---- an iterator with the number of its next item

module _ {T : Type 0} (meaning : Place → Outcome T → Type 0) (space : Space) (lists : ℕ → T → List Seen) (deep : Bool) (level : ℕ)
    (reading : ℕ → Place → Outcome (List Seen × ℕ)) (agrees : Agrees meaning (shown_by (numbered_in space) lists deep level) reading)
    {J : Type 0} (owes : J → List Seen → Type 0) (index : ℕ) (s t : Items) (state : J) where
  -- the one after, by what remains where the next number is this
  pub after_numbered : (given : Option (Result (ℕ × T) Error)) → NextItem (AtItsOffset meaning) s given t
      → ((later : List Seen) → later ≡ left_seen reading (after_found index given) t → owes state later)
      → (all : List Seen) → all ≡ left_seen reading index s
      → AfterItem owes (found_seen lists deep level) all (numbered_found space index given) state
  after_numbered None h k all e =
      e ∙ none_is_left meaning (shown_by (numbered_in space) lists deep level) reading agrees index s t _ _ refl refl h
  after_numbered (Some (Ok x)) h k all e = (
    left_seen reading (more index 1) t,
    k _ refl,
    e ∙ item_is meaning (shown_by (numbered_in space) lists deep level) reading agrees index s t _ _ x refl refl h,
  )
  after_numbered (Some (Err f)) h k all e = λ m. (
    left_seen reading index t,
    k _ refl,
    e ∙ fault_left meaning (shown_by (numbered_in space) lists deep level) reading agrees index s t index _ _ f refl refl h,
  )

-- what a call of an iterator returned, by another name
pub passed : {J T : Type 0} (owes : J → List Seen → Type 0) (shows : Item T → List Seen) (all : List Seen)
    (x y : Option (Result (Item T) Error)) (t : J) → x ≡ y → AfterItem owes shows all y t → AfterItem owes shows all x t
passed {J} {T} owes shows all x y t e a = subst (λ (z : Option (Result (Item T) Error)). AfterItem owes shows all z t) (sym e) a

-- ---- imports

pub import_is : (level : ℕ) (c : Counts) (s t : List Found) (x : ℕ × Import) → NextImport {X = ℕ × Import} found_at s (Some (Ok x)) t
    → imports_seen level c s ≡ an_item level (Some x.0) (Some (space_of x.1.ty, count_of c (space_of x.1.ty)))
    ∷ imports_seen level (with_one c (space_of x.1.ty)) t
import_is level c s t x n = ap (imports_seen level c) n.0

pub import_fault : (level : ℕ) (c : Counts) (s t : List Found) (f : Error) → NextImport {X = ℕ × Import} found_at s (Some (Err f)) t
    → imports_seen level c s ≡ faulty (fault_at f) ∷ imports_seen level c t
import_fault level c s t f n = ap (imports_seen level c) n.0

pub no_imports : (level : ℕ) (c : Counts) (s t : List Found) → NextImport {X = ℕ × Import} found_at s None t → imports_seen level c s ≡ []
no_imports level c s t n = ap (imports_seen level c) n.0.0

-- ---- a section whose reader is after its count

pub after_count : {S : Type 0} (reading : S → Place → Outcome (List Seen × S)) (first : S) (s : Section) → BeginsAfterCount s
    → items_seen reading s.count first (place s.reader)
    ≡ items_seen reading s.count first (after_number (unsigned_at VarU32 (place (unread s.reader))) (place (unread s.reader)))
after_count reading first s b =
    ap (λ (o : Outcome ℕ). items_seen reading s.count first (after_number o (place (unread s.reader)))) (sym b)

-- items with numbers, by the reading of what they mean
pub numbered_after_count : {W T A : Type 0} (parts : T → A) (at : Place → Outcome A) (saw : W → List Seen → W → Type 0)
    (why : W → Option ListError) (deep : Bool) (space : Space) (from : ℕ) (s : Section) → BeginsAfterCount s → (old new : W)
    → SeesNumbered {T = T} (ReadsAs parts at) saw why deep space from s old new
    → Sees saw why (in_space deep space from at s.count
    (after_number (unsigned_at VarU32 (place (unread s.reader))) (place (unread s.reader)))) old new
numbered_after_count parts at saw why deep space from s b old new h =
    let reading = reading_by (numbered_in space) (never_lists deep) deep 1 at in
    sees_same saw why _ _ old new (after_count reading from s b)
    (h reading (readings_agree (numbered_in space) (never_lists deep) deep 1 parts at))

pub imports_after_count : (level : ℕ) (c : Counts) (s : Section) → BeginsAfterCount s
    → imports_seen level c (flattened s.count (place s.reader)) ≡ imports_seen level c (imports_in s.count (unread s.reader))
imports_after_count level c s b =
    ap (λ (o : Outcome ℕ). imports_seen level c (flattened s.count (after_number o (place (unread s.reader))))) (sym b)

-- ---- groups of types

pub mapped_length : {A B : Type 0} (f : A → B) (l : List A) → length (map f l) ≡ length l
mapped_length f [] = refl
mapped_length f (x ∷ l) = ap suc (mapped_length f l)

abbrev shows_group : ℕ → ℕ → RecGroup → List Seen × ℕ
shows_group first offset g = group_parts_seen first offset (rec_group_parts g)

groups_agree : Agrees (ReadsAs rec_group_parts rec_group_at) shows_group group_reading
groups_agree first p (Ok x) e = ap (outcome_map (λ g. group_parts_seen first p.offset g)) e
groups_agree first p (Err f) e = ap (outcome_map (λ g. group_parts_seen first p.offset g)) e

module _ (index : ℕ) (s t : Items) where
  next_owed : (given : Option (Result RecGroup Error)) → NextItemIn (ReadsAs rec_group_parts rec_group_at) s given t
      → (found : Result (Item RecGroup) Error) → with_offset (place s.reader).offset given ≡ Some found → (all : List Seen)
      → OwesGroups (index, s) all → AfterItem OwesGroups (found_group index) all (Some found) (after_group index found, t)
  next_owed None h found is all o = absurd (let no : None ≡ Some found = is in cc)
  next_owed (Some (Ok g)) h found is all o =
      let same : Ok ((place s.reader).offset, None, g) ≡ found = cc in
      subst (λ (x : Result (Item RecGroup) Error). AfterItem OwesGroups (found_group index) all (Some x) (after_group index x, t)) same (
        left_seen group_reading (next_group index g) t,
        refl,
        o ∙ owned_is (ReadsAs rec_group_parts rec_group_at) shows_group group_reading groups_agree index s t _ _ g refl refl h,
      )
  next_owed (Some (Err e)) h found is all o =
      let same : Err e ≡ found = cc in
      subst (λ (x : Result (Item RecGroup) Error). AfterItem OwesGroups (found_group index) all (Some x) (after_group index x, t)) same
      (λ m. (
        left_seen group_reading index t,
        refl,
        o ∙ owned_fault (ReadsAs rec_group_parts rec_group_at) shows_group group_reading groups_agree index s t index _ _ e refl refl h m,
      ))

  -- what a call gave
  pub group_found : (given : Option (Result RecGroup Error)) → NextItemIn (ReadsAs rec_group_parts rec_group_at) s given t
      → (found : Result (Item RecGroup) Error) → with_offset (place s.reader).offset given ≡ Some found
      → (next : ℕ) → next ≡ after_group index found → (all : List Seen) → OwesGroups (index, s) all
      → AfterItem OwesGroups (found_group index) all (Some found) (next, t)
  group_found given h found is next e all o =
      subst (λ (n : ℕ). AfterItem OwesGroups (found_group index) all (Some found) (n, t)) (sym e) (next_owed given h found is all o)

  pub no_group : (given : Option (Result RecGroup Error)) → NextItemIn (ReadsAs rec_group_parts rec_group_at) s given t
      → with_offset (place s.reader).offset given ≡ None → (all : List Seen) → OwesGroups (index, s) all → all ≡ []
  no_group None h is all o =
      o ∙ none_owned (ReadsAs rec_group_parts rec_group_at) shows_group group_reading groups_agree index s t _ _ refl refl h
  no_group (Some (Ok g)) h is all o = absurd (let no : Some (Ok ((place s.reader).offset, None, g)) ≡ None = is in cc)
  no_group (Some (Err e)) h is all o = absurd (let no : Some (Err e) ≡ None = is in cc)

-- ---- an import with its number

none_deep : (deep : Bool) → if_deep deep [] ≡ []
none_deep true = refl
none_deep false = refl

pub import_owed : (deep : Bool) (level : ℕ) (c d : Counts) (s t : List Found) (x : ℕ × Import) (space : Space) (index : ℕ) (all : List Seen)
    → NextImport {X = ℕ × Import} found_at s (Some (Ok x)) t → space ≡ space_of x.1.ty → index ≡ count_of c space → d ≡ with_one c space
    → all ≡ imports_seen level c s
    → all ≡ found_seen (never_lists {T = Import} deep) deep level (x.0, Some (space, index), x.1) ++ imports_seen level d t
import_owed deep level c d s t x space index all n space_is index_is counts_are o =
    let own = space_of x.1.ty in
    let line = λ (p : Space) (i : ℕ) (l : List Seen) (k : Counts). an_item level (Some x.0) (Some (p, i)) ∷ (l ++ imports_seen level k t) in
    let index_own : index ≡ count_of c own = index_is ∙ ap (count_of c) space_is in
    let counts_own : d ≡ with_one c own = counts_are ∙ ap (with_one c) space_is in
    o ∙ (import_is level c s t x n ∙ (sym (ap (λ (k : Counts). line own (count_of c own) [] k) counts_own)
    ∙ (sym (ap (λ (i : ℕ). line own i [] d) index_own) ∙ (sym (ap (λ (p : Space). line p index [] d) space_is)
    ∙ sym (ap (λ (l : List Seen). line space index l d) (none_deep deep))))))

-- ---- custom sections

-- one is what is reported of it
pub custom_is : (s : Custom) → custom_of s.name (place s.reader).offset (unread s.reader) ≡ s
custom_is s =
    let at : (s.reader.start + s.reader.position) - s.reader.start ≡ s.reader.position = omega arith in
    ap (λ (n : ℕ). record { name = s.name; reader = record s.reader { position = n } }) at
