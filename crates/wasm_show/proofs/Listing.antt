-- What is seen of the items that iterators give.
use Rattle.std.proofs.Common.{◌≡◌, ℕ, zero, suc, ◌<◌, ◌≤◌, Bool, true, false, List, [], ◌∷◌, ◌++◌, Option, Some, None, Result}
use Rattle.std.proofs.Common.{Ok, Err, refl, sym, ap, ap₂, subst, subst₂, ◌∙◌, arith, length, length-drop}
use Rattle.std.proofs.Common.{nat_eq, nat_lt, inl, inr, ◌⊎◌}
use Rattle.std.specs.Prelude.{if◌then◌else◌}
use Rattle.std.proofs.lemmas.Bool.Decides.{nat_tests}
use Rattle.wasm_base.specs.Ascending.{Ascending, NextAscending, Refuses, is_above}
use Rattle.wasm_base.specs.FaultAt.{FaultAt, at_offset, fault_at}
use Rattle.wasm_base.specs.Hints.{is_out_of_memory}
use Rattle.wasm_base.specs.Item.{ReadsAs, outcome_map}
use Rattle.wasm_base.specs.Outcome.{Outcome}
use Rattle.wasm_base.specs.Owned.{UnlessMemory}
use Rattle.wasm_base.specs.Section.{AtItsOffset, Items, NextItem, NextItemIn}
use Rattle.wasm_base.specs.Subsections.{NextSubsection, ReadsSubsection, ReadsWindowAs, after_refused, result_map, subsection_at}
use Rattle.wasm_base.specs.Window.{KeepsWindow, Place, Window, place}
use Rattle.wasm_base.specs.declared.error.Error.{Error}
use Rattle.wasm_base.specs.declared.fault.Fault.{Fault}
use Rattle.wasm_base.specs.declared.fault.Fault.TheVariants.{NamesOrder, IndirectOrder, NameSectionOrder, SizeMismatch}
use Rattle.wasm_custom.specs.Names.{offset_of_entry, offset_of_subsection, naming_parts, naming_at, index_of, index_of_indirect}
use Rattle.wasm_custom.specs.Names.{indirect_naming_at, NameParts, id_of, name_in, name_parts}
use Rattle.wasm_custom.specs.declared.names.IndirectNaming.{IndirectNaming}
use Rattle.wasm_custom.specs.declared.names.Name.{Name}
use Rattle.wasm_custom.specs.declared.names.Naming.{Naming}
use Rattle.wasm_custom.specs.Linking.{linking_parts, linking_subsection_in}
use Rattle.wasm_custom.specs.declared.linking.Linking.{Linking}
use Rattle.wasm_items.specs.Flattened.{NextImport, found_at}
use Rattle.wasm_items.specs.Imports.{ImportParts}
use Rattle.wasm_items.specs.declared.imports.Import.{Import}
use Rattle.wasm_show.specs.Lists.{AfterItem, Agrees, AgreesOnWindows, Found, Numbering, OwesBy, OwesIndirect, OwesLinking}
use Rattle.wasm_show.specs.Lists.{OwesList, OwesNames, OwesNamings, OwesSubsections, entries_seen, found_seen, if_deep}
use Rattle.wasm_show.specs.Lists.{indirect_reading, indirect_seen, item_at, items_seen, left_seen, linking_parts_seen, linking_reading}
use Rattle.wasm_show.specs.Lists.{linking_seen, list_seen, lists_of_names, map_seen, name_seen, naming_reading, never_lists, of_rest}
use Rattle.wasm_show.specs.Lists.{or_after, or_in_order, or_later, or_name, or_next, or_next_name, reading_by, shown_by}
use Rattle.wasm_show.specs.Lists.{subsections_of_names_seen, name_section_seen, subsections_seen, under, unnumbered, window_seen}
use Rattle.wasm_show.specs.Lists.{with_offset, without_number}
use Rattle.wasm_show.specs.Seen.{Seen, an_item, faulty}

-- What a call of an iterator gave, by what is owed at one level.
abbrev pub Gives : {I T : Type 0} → (owes : I → List Seen → Type 0) → (shows : Found T → List Seen) → I
    → Option (Result (Found T) Error) → I → Type 0
Gives owes shows s given t = (all : List Seen) → owes s all → AfterItem owes shows all given t

-- the fault of a list that has more bytes than its items
rest_of : (p : Place) (f : FaultAt) → 0 < length p.rest → f ≡ at_offset SizeMismatch p.offset → of_rest p ≡ faulty f ∷ []
rest_of p f l e = ap (λ (b : Bool). if b then faulty (at_offset SizeMismatch p.offset) ∷ [] else []) (so l)
    ∙ ap (λ (x : FaultAt). faulty x ∷ []) (sym e)
  where
    so : {a b : ℕ} → a < b → nat_lt a b ≡ true
    so {a} {b} l = grind (arith, nat_tests)

no_rest : (p : Place) → length p.rest ≡ 0 → of_rest p ≡ []
no_rest p e = ap (λ (n : ℕ). if nat_lt 0 n then faulty (at_offset SizeMismatch p.offset) ∷ [] else []) e

-- entries whose indices ascend
module _ {T : Type 0} (meaning : Place → Outcome T → Type 0) (index : T → ℕ) (holds : T → List Seen) (level : ℕ) (order : Fault)
    (reading : Place → Outcome (ℕ × List Seen))
    (agrees : (p : Place) (o : Outcome T) → meaning p o → ReadsAs (λ x. (index x, holds x)) reading p o) where
  abbrev owes_map : Ascending Items → List Seen → Type 0
  owes_map m all = all ≡ map_seen level order reading m

  abbrev from_entry : (left : ℕ) → Option ℕ → Place → List Seen
  from_entry left last p = entries_seen level order reading left last p

  map_by : (s : Ascending Items) (b : Bool) (n : ℕ) (last : Option ℕ) → s.entries.ended ≡ b → s.entries.left ≡ n → s.last ≡ last
      → map_seen level order reading s ≡ (if b then [] else from_entry n last (place s.entries.reader))
  map_by s b n last e m l = subst (λ (y : Option ℕ). map_seen level order reading s
      ≡ (if b then [] else from_entry n y (place s.entries.reader))) l
      (subst₂ (λ (x : Bool) (k : ℕ). map_seen level order reading s ≡ (if x then [] else from_entry k s.last (place s.entries.reader)))
      e m refl)

  above : (b : Bool) (x y : List Seen) → b ≡ true → (if b then x else y) ≡ x
  above b x y e = ap (λ (c : Bool). if c then x else y) e

  below : (b : Bool) (x y : List Seen) → b ≡ false → (if b then x else y) ≡ y
  below b x y e = ap (λ (c : Bool). if c then x else y) e

  module _ (s t : Ascending Items) where
    abbrev start : ℕ
    start = (place s.entries.reader).offset

    abbrev head : Seen
    head = item_at level (place s.entries.reader)

    abbrev in_order_if : (x : T) → (after : Items) → List Seen
    in_order_if x after = if is_above s.last (index x)
        then (head ∷ holds x) ++ from_entry after.left (Some (index x)) (place after.reader)
        else faulty (at_offset order start) ∷ from_entry after.left s.last (place after.reader)

    -- what the next entry is read as
    entry_is : (n : ℕ) (x : T) (after : Items) → NextItem meaning s.entries (Some (Ok x)) after → (b : Bool) → s.entries.ended ≡ b
        → s.entries.left ≡ n → (map_seen level order reading s ≡ in_order_if x after) × (after.ended ≡ false)
    entry_is n x after h true e m = absurd (let f = (h.over e).0 in cc)
    entry_is zero x after h false e m = absurd (h.last e m)
    entry_is (suc n) x after h false e m =
        let item = h.item e (omega (arith, m)) in
        let read = agrees (place s.entries.reader) (Ok (x, place after.reader)) item.0 in
        let left : n ≡ after.left = omega (arith, m, item.1) in (
          map_by s false (suc n) s.last e m refl
              ∙ (ap (or_in_order order head s.last (λ l q. from_entry n l q) start) read
              ∙ ap (λ (k : ℕ). if is_above s.last (index x) then (head ∷ holds x) ++ from_entry k (Some (index x)) (place after.reader)
              else faulty (at_offset order start) ∷ from_entry k s.last (place after.reader)) left),
          item.2,
        )

    ended_is : (m : Ascending Items) → m.entries.ended ≡ true → map_seen level order reading m ≡ []
    ended_is m e = map_by m true m.entries.left m.last e refl refl

    fault_is : (n : ℕ) (f : Error) → NextItem {T = T} meaning s.entries (Some (Err f)) t.entries → (b : Bool)
        → s.entries.ended ≡ b → s.entries.left ≡ n → map_seen level order reading s ≡ faulty (fault_at f) ∷ map_seen level order reading t
    fault_is n f h true e m = absurd (let g = (h.over e).0 in cc)
    fault_is zero f h false e m =
        let end = h.last e m in
        map_by s false zero s.last e m refl ∙ (rest_of (place s.entries.reader) (fault_at f) end.0 end.1
        ∙ ap (λ (fs : List Seen). faulty (fault_at f) ∷ fs) (sym (ended_is t (ap (λ (i : Items). i.ended) end.2))))
    fault_is (suc n) f h false e m =
        let item = h.item e (omega (arith, m)) in
        let read = agrees (place s.entries.reader) (Err (fault_at f)) item.0 in
        map_by s false (suc n) s.last e m refl ∙ (ap (or_in_order order head s.last (λ l q. from_entry n l q) start) read
        ∙ ap (λ (fs : List Seen). faulty (fault_at f) ∷ fs) (sym (ended_is t item.2)))

    none_is : (n : ℕ) (after : Items) → NextItem {T = T} meaning s.entries None after → (b : Bool)
        → s.entries.ended ≡ b → s.entries.left ≡ n → map_seen level order reading s ≡ []
    none_is n after h true e m = map_by s true n s.last e m refl
    none_is zero after h false e m = map_by s false zero s.last e m refl ∙ no_rest (place s.entries.reader) (h.last e m).0
    none_is (suc n) after h false e m = absurd (h.item e (omega (arith, m)))

    -- the entries after one that was read
    later_is : (last : Option ℕ) → t.entries.ended ≡ false → t.last ≡ last
        → map_seen level order reading t ≡ from_entry t.entries.left last (place t.entries.reader)
    later_is last e l = map_by t false t.entries.left last e refl l

    refused_is : (e : Error) → NextItem {T = T} meaning s.entries (Some (Err e)) t.entries
        ⊎ Refuses (NextItem meaning) offset_of_entry index order s (fault_at e) t.entries → t.last ≡ s.last
        → map_seen level order reading s ≡ faulty (fault_at e) ∷ map_seen level order reading t
    refused_is e (inl h) l = fault_is _ e h _ refl refl
    refused_is e (inr (x, h, lower, is)) l =
        let read = entry_is _ x t.entries h _ refl refl in
        read.0 ∙ (below (is_above s.last (index x)) _ _ lower ∙ ap₂ (λ (f : FaultAt) (fs : List Seen). faulty f ∷ fs) (sym is)
        (sym (later_is s.last read.1 l)))

    -- what is seen of an entry
    abbrev shows_entry : Found T → List Seen
    shows_entry x = an_item level (Some x.0) x.1 ∷ holds x.2

    pub after_entry : (given : Option (Result T Error))
        → NextAscending (NextItem meaning) offset_of_entry index order s given t
        → Gives owes_map shows_entry s (with_offset start given) t
    after_entry None a = λ all o. o ∙ none_is _ t.entries a.order.0 _ refl refl
    after_entry (Some (Ok x)) a = λ all o.
        let read = entry_is _ x t.entries a.order.0 _ refl refl in (
          map_seen level order reading t,
          refl,
          o ∙ (read.0 ∙ (above (is_above s.last (index x)) _ _ a.order.1
              ∙ ap (λ (fs : List Seen). (head ∷ holds x) ++ fs) (sym (later_is (Some (index x)) read.1 a.order.2)))),
        )
    after_entry (Some (Err e)) a = λ all o n. (map_seen level order reading t, refl, o ∙ refused_is e a.order.0 a.order.1)

agrees_naming : (deep : Bool) (p : Place) (o : Outcome Naming) → ReadsAs naming_parts naming_at p o
    → ReadsAs (λ x. (index_of x, if_deep deep [])) (naming_reading deep) p o
agrees_naming deep p (Ok x) e = ap (outcome_map (λ naming. (naming.index, if_deep deep []))) e
agrees_naming deep p (Err f) e = ap (outcome_map (λ naming. (naming.index, if_deep deep []))) e

agrees_indirect : (deep : Bool) (level : ℕ) (p : Place) (o : Outcome IndirectNaming)
    → ReadsAs (λ naming. naming) indirect_naming_at p o
    → ReadsAs (λ x. (index_of_indirect x, if_deep deep (indirect_seen deep (under level) x))) (indirect_reading deep level) p o
agrees_indirect deep level p (Ok x) e =
    ap (outcome_map (λ naming. (naming.index, if_deep deep (indirect_seen deep (under level) naming)))) e
agrees_indirect deep level p (Err f) e =
    ap (outcome_map (λ naming. (naming.index, if_deep deep (indirect_seen deep (under level) naming)))) e

-- what a wrapper passes on
pub passes_on : {I T : Type 0} (owes : I → List Seen → Type 0) (shows : Found T → List Seen) (s t : I)
    (x y : Option (Result (Found T) Error)) → x ≡ y → Gives owes shows s y t → Gives owes shows s x t
passes_on {I} {T} owes shows s t x y e g = subst (λ (z : Option (Result (Found T) Error)). Gives owes shows s z t) (sym e) g

pub after_naming : (deep : Bool) (level : ℕ) (s t : Ascending Items) (given : Option (Result Naming Error))
    (x : Option (Result (Found Naming) Error)) → x ≡ with_offset (place s.entries.reader).offset given
    → NextAscending (NextItem (ReadsAs naming_parts naming_at)) offset_of_entry index_of NamesOrder s given t
    → Gives (OwesNamings deep level) (found_seen (never_lists {T = Naming} deep) deep level) s x t
after_naming deep level s t given x e n =
    passes_on (OwesNamings deep level) (found_seen (never_lists {T = Naming} deep) deep level) s t x _ e
    (after_entry (ReadsAs naming_parts naming_at) index_of (λ x. if_deep deep []) level NamesOrder (naming_reading deep)
    (agrees_naming deep) s t given n)

pub after_indirect : (deep : Bool) (level : ℕ) (s t : Ascending Items) (given : Option (Result IndirectNaming Error))
    (x : Option (Result (Found IndirectNaming) Error)) → x ≡ with_offset (place s.entries.reader).offset given
    → NextAscending (NextItem (ReadsAs (λ naming. naming) indirect_naming_at)) offset_of_entry index_of_indirect IndirectOrder s given t
    → Gives (OwesIndirect deep level) (found_seen (indirect_seen deep) deep level) s x t
after_indirect deep level s t given x e n = passes_on (OwesIndirect deep level) (found_seen (indirect_seen deep) deep level) s t x _ e
    (after_entry (ReadsAs (λ naming. naming) indirect_naming_at) index_of_indirect
    (λ x. if_deep deep (indirect_seen deep (under level) x)) level IndirectOrder (indirect_reading deep level)
    (agrees_indirect deep level) s t given n)

-- ---- iterators over subsections

-- a subsection consumes bytes
shorter : (s t : Window) (most : ℕ) → KeepsWindow s t → s.position < t.position → 0 < length (place s).rest
    → length (place s).rest ≤ suc most → length (place t).rest ≤ most
shorter s t most k m z l = omega (arith, length-drop s.position s.bytes, length-drop t.position t.bytes, ap length k.bytes, z, l)

pub fewer_bytes : (s t : Window) → KeepsWindow s t → s.position < t.position → 0 < length (place s).rest
    → length (place t).rest < length (place s).rest
fewer_bytes s t k m l = omega (arith, length-drop s.position s.bytes, length-drop t.position t.bytes, ap length k.bytes, l)

nonzero : (n : ℕ) → 0 < n → nat_eq n 0 ≡ false
nonzero n l = grind (arith, nat_tests)

is_zero : (n : ℕ) → n ≡ 0 → nat_eq n 0 ≡ true
is_zero n l = ap (λ (m : ℕ). nat_eq m 0) l

module _ {T : Type 0} (meaning : ℕ → Window → Result T FaultAt → Type 0) (takes : Bool) (holds : T → List Seen) (level : ℕ)
    (reading : ℕ → Window → Result (List Seen) FaultAt) (agrees : AgreesOnWindows meaning holds reading) (s t : Window) where
  abbrev top : Seen
  top = item_at level (place s)

  abbrev from_place : (most : ℕ) → Place → List Seen
  from_place most q = subsections_seen level reading most q

  abbrev after_head : (most : ℕ) → Outcome (ℕ × Window) → List Seen
  after_head most first = or_next top reading (λ q. from_place most q) (after_refused (place s)) first

  -- a window that has bytes
  some_bytes : (most : ℕ) → 0 < length (place s).rest → from_place (suc most) (place s) ≡ after_head most (subsection_at (place s))
  some_bytes most l = ap (λ (b : Bool). if b then [] else after_head most (subsection_at (place s))) (nonzero _ l)

  abbrev owes_rest : Window → List Seen → Type 0
  owes_rest w all = (most : ℕ) × (length (place w).rest ≤ most) × (all ≡ from_place most (place w))

  read_by : (most : ℕ) (first : Outcome (ℕ × Window)) (x : T) → ReadsSubsection meaning takes (place s) first (Ok x) (place t)
      → after_head most first ≡ (top ∷ holds x) ++ from_place most (place t)
  read_by most (Ok at) x (m, after) =
      ap (λ (r : Result (List Seen) FaultAt). or_after top r (from_place most at.1)) (agrees at.0.0 at.0.1 (Ok x) m)
      ∙ ap (λ (q : Place). (top ∷ holds x) ++ from_place most q) (sym after)
  read_by most (Err f) x (e, after) = cc

  refused_by : (most : ℕ) (first : Outcome (ℕ × Window)) (e : Error) → ReadsSubsection {T = T} meaning takes (place s) first (Err e)
      (place t)
      → is_out_of_memory (fault_at e).fault ≡ false → after_head most first ≡ faulty (fault_at e) ∷ from_place most (place t)
  refused_by most (Ok at) e (inl m, after) n =
      ap (λ (r : Result (List Seen) FaultAt). or_after top r (from_place most at.1)) (agrees at.0.0 at.0.1 (Err (fault_at e)) m)
      ∙ ap (λ (q : Place). faulty (fault_at e) ∷ from_place most q) (sym after)
  refused_by most (Ok at) e (inr m, after) n =
      absurd (let is = ap (λ (f : FaultAt). is_out_of_memory f.fault) m.1 in cc)
  refused_by most (Err f) e (is, after) n =
      let same : f ≡ fault_at e = cc in
      ap₂ (λ (g : FaultAt) (q : Place). faulty g ∷ from_place most q) same (sym after)

  no_bytes : (most : ℕ) → length (place s).rest ≡ 0 → from_place most (place s) ≡ []
  no_bytes zero e = refl
  no_bytes (suc most) e = ap (λ (b : Bool). if b then [] else after_head most (subsection_at (place s))) (is_zero _ e)

  read_after : (most : ℕ) (x : T) (all : List Seen) → NextSubsection meaning takes s (Some (Ok x)) t → length (place s).rest ≤ most
      → all ≡ from_place most (place s) → (later : List Seen) × owes_rest t later × (all ≡ (top ∷ holds x) ++ later)
  read_after zero x all n l e = absurd (omega (arith, l, n.3))
  read_after (suc most) x all n l e = (
    from_place most (place t),
    (most, shorter s t most n.1 n.2 n.3 l, refl),
    e ∙ (some_bytes most n.3 ∙ read_by most _ x n.0),
  )

  refused_after : (most : ℕ) (f : Error) (all : List Seen) → NextSubsection meaning takes s (Some (Err f)) t
      → length (place s).rest ≤ most → all ≡ from_place most (place s) → is_out_of_memory (fault_at f).fault ≡ false
      → (later : List Seen) × owes_rest t later × (all ≡ faulty (fault_at f) ∷ later)
  refused_after zero f all n l e m = absurd (omega (arith, l, n.3))
  refused_after (suc most) f all n l e m = (
    from_place most (place t),
    (most, shorter s t most n.1 n.2 n.3 l, refl),
    e ∙ (some_bytes most n.3 ∙ refused_by most _ f n.0 m),
  )

  -- what is seen of a subsection
  abbrev shows_subsection : Found T → List Seen
  shows_subsection x = an_item level (Some x.0) x.1 ∷ holds x.2

  pub after_subsection : (given : Option (Result T Error)) → NextSubsection meaning takes s given t
      → Gives owes_rest shows_subsection s (with_offset (place s).offset given) t
  after_subsection None n = λ all o. o.2 ∙ no_bytes o.0 n.0
  after_subsection (Some (Ok x)) n = λ all o. read_after o.0 x all n o.1 o.2
  after_subsection (Some (Err e)) n = λ all o m. refused_after o.0 e all n o.1 o.2 m

-- the same, by whatever reading
pub after_any_subsection : {T : Type 0} (meaning : ℕ → Window → Result T FaultAt → Type 0) (takes : Bool)
    (lists : (deep : Bool) → ℕ → T → List Seen) (deep : Bool) (level : ℕ) (s t : Window) (given : Option (Result T Error))
    (x : Option (Result (Found T) Error)) → x ≡ with_offset (place s).offset given → NextSubsection meaning takes s given t
    → Gives (OwesSubsections meaning lists deep level) (found_seen (lists deep) deep level) s x t
after_any_subsection {T} meaning takes lists deep level s t given x e n =
    passes_on (OwesSubsections meaning lists deep level) (found_seen (lists deep) deep level) s t x _ e
    (λ all o. with_reading given n all o)
  where
    holds : T → List Seen
    holds y = if_deep deep (lists deep (under level) y)

    owed : (reading : ℕ → Window → Result (List Seen) FaultAt) → AgreesOnWindows meaning holds reading → (later : List Seen)
        → (most : ℕ) × (length (place t).rest ≤ most) × (later ≡ subsections_seen level reading most (place t))
        → OwesSubsections meaning lists deep level t later
    owed reading agrees later o = (reading, agrees, o.0, o.1, o.2)

    with_reading : (given : Option (Result T Error)) → NextSubsection meaning takes s given t → (all : List Seen)
        → OwesSubsections meaning lists deep level s all
        → AfterItem (OwesSubsections meaning lists deep level) (found_seen (lists deep) deep level) all
        (with_offset (place s).offset given) t
    with_reading None n all o = after_subsection meaning takes holds level o.0 o.1 s t None n all (o.2, o.3, o.4)
    with_reading (Some (Ok y)) n all o =
        let r = after_subsection meaning takes holds level o.0 o.1 s t (Some (Ok y)) n all (o.2, o.3, o.4) in
        (r.0, owed o.0 o.1 r.0 r.1, r.2)
    with_reading (Some (Err f)) n all o = λ m.
        let r = after_subsection meaning takes holds level o.0 o.1 s t (Some (Err f)) n all (o.2, o.3, o.4) m in
        (r.0, owed o.0 o.1 r.0 r.1, r.2)

agrees_linking : (deep : Bool) (level : ℕ) → AgreesOnWindows (ReadsWindowAs linking_parts linking_subsection_in)
    (λ x. if_deep deep (linking_seen deep (under level) x)) (linking_reading deep level)
agrees_linking deep level id w (Ok x) e = ap (result_map (λ x. if_deep deep (linking_parts_seen deep (under level) x))) e
agrees_linking deep level id w (Err f) e = ap (result_map (λ x. if_deep deep (linking_parts_seen deep (under level) x))) e

-- by what holds it
pub wrapped : {I J T : Type 0} (owes : I → List Seen → Type 0) (shows : Found T → List Seen) (held : J → I) (all : List Seen)
    (x : Option (Result (Found T) Error)) (t : J) → AfterItem owes shows all x (held t) → AfterItem (λ j. owes (held j)) shows all x t
wrapped owes shows held all None t a = a
wrapped owes shows held all (Some (Ok y)) t a = a
wrapped owes shows held all (Some (Err f)) t a = a

pub after_linking : {J : Type 0} (held : J → Window) (deep : Bool) (level : ℕ) (s t : J) (takes : Bool)
    (given : Option (Result Linking Error)) (x : Option (Result (Found Linking) Error))
    → x ≡ with_offset (place (held s)).offset given
    → NextSubsection (ReadsWindowAs linking_parts linking_subsection_in) takes (held s) given (held t)
    → Gives (λ j. OwesLinking deep level (held j)) (found_seen (linking_seen deep) deep level) s x t
after_linking held deep level s t takes given x e n all o =
    wrapped (OwesLinking deep level) (found_seen (linking_seen deep) deep level) held all x t
    (passes_on (OwesLinking deep level) (found_seen (linking_seen deep) deep level) (held s) (held t) x _ e
    (after_subsection (ReadsWindowAs linking_parts linking_subsection_in) takes
    (λ x. if_deep deep (linking_seen deep (under level) x)) level (linking_reading deep level) (agrees_linking deep level) (held s)
    (held t) given n) all o)

-- ---- the subsections of a section `name`

module _ (deep : Bool) (level : ℕ) (s t : Ascending Window) where
  abbrev here : Place
  here = place s.entries

  abbrev named : Seen
  named = item_at level here

  abbrev lists : NameParts → List Seen
  lists = lists_of_names deep level

  abbrev holds : Name → List Seen
  holds x = if_deep deep (name_seen deep (under level) x)

  abbrev name_meaning : ℕ → Window → Result Name FaultAt → Type 0
  name_meaning = ReadsWindowAs name_parts name_in

  abbrev later_names : (most : ℕ) → Option ℕ → Place → List Seen
  later_names most last q = subsections_of_names_seen level lists most last q

  abbrev after_name_head : (most : ℕ) → Outcome (ℕ × Window) → List Seen
  after_name_head most first = or_next_name level lists s.last (λ last q. later_names most last q) here (after_refused here) first

  some_names : (most : ℕ) → 0 < length here.rest → later_names (suc most) s.last here ≡ after_name_head most (subsection_at here)
  some_names most l = ap (λ (b : Bool). if b then [] else after_name_head most (subsection_at here)) (nonzero _ l)

  no_names : (most : ℕ) → length here.rest ≡ 0 → later_names most s.last here ≡ []
  no_names zero e = refl
  no_names (suc most) e = ap (λ (b : Bool). if b then [] else after_name_head most (subsection_at here)) (is_zero _ e)

  abbrev name_if : (most : ℕ) → Name → Place → List Seen
  name_if most x after = if is_above s.last (id_of x) then (named ∷ holds x) ++ later_names most (Some (id_of x)) after
      else faulty (at_offset NameSectionOrder here.offset) ∷ later_names most s.last after

  -- a name that was read, in order or not
  name_read : (most : ℕ) (first : Outcome (ℕ × Window)) (x : Name) (after : Place)
      → ReadsSubsection name_meaning false here first (Ok x) after → after_name_head most first ≡ name_if most x after
  name_read most (Ok at) x after (m, e) =
      ap (λ (r : Result NameParts FaultAt). or_name named lists s.last (λ last. later_names most last at.1) here.offset r) m
      ∙ ap (λ (q : Place). name_if most x q) (sym e)
  name_read most (Err f) x after (m, e) = cc

  name_refused : (most : ℕ) (first : Outcome (ℕ × Window)) (e : Error) (after : Place)
      → ReadsSubsection {T = Name} name_meaning false here first (Err e) after
      → after_name_head most first ≡ faulty (fault_at e) ∷ later_names most s.last after
  name_refused most (Ok at) e after (inl m, k) =
      ap (λ (r : Result NameParts FaultAt). or_name named lists s.last (λ last. later_names most last at.1) here.offset r) m
      ∙ ap (λ (q : Place). faulty (fault_at e) ∷ later_names most s.last q) (sym k)
  name_refused most (Ok at) e after (inr m, k) = absurd (let no : false ≡ true = m.0 in cc)
  name_refused most (Err f) e after (is, k) =
      let same : f ≡ fault_at e = cc in
      ap₂ (λ (g : FaultAt) (q : Place). faulty g ∷ later_names most s.last q) same (sym k)

  in_order_so : (b : Bool) (x y : List Seen) → b ≡ true → (if b then x else y) ≡ x
  in_order_so b x y e = ap (λ (c : Bool). if c then x else y) e

  out_of_order : (b : Bool) (x y : List Seen) → b ≡ false → (if b then x else y) ≡ y
  out_of_order b x y e = ap (λ (c : Bool). if c then x else y) e

  read_name_after : (most : ℕ) (x : Name) (all : List Seen) → NextSubsection name_meaning false s.entries (Some (Ok x)) t.entries
      → is_above s.last (id_of x) ≡ true → t.last ≡ Some (id_of x) → length here.rest ≤ most → all ≡ later_names most s.last here
      → (later : List Seen) × OwesNames deep level t later × (all ≡ (named ∷ holds x) ++ later)
  read_name_after zero x all n above last l e = absurd (omega (arith, l, n.3))
  read_name_after (suc most) x all n above last l e = (
    later_names most t.last (place t.entries),
    (most, shorter s.entries t.entries most n.1 n.2 n.3 l, refl),
    e ∙ (some_names most n.3 ∙ (name_read most _ x (place t.entries) n.0 ∙ (in_order_so _ _ _ above
        ∙ ap (λ (y : Option ℕ). (named ∷ holds x) ++ later_names most y (place t.entries)) (sym last)))),
  )

  refused_name_after : (most : ℕ) (f : Error) (all : List Seen)
      → NextSubsection {T = Name} name_meaning false s.entries (Some (Err f)) t.entries
      ⊎ Refuses (NextSubsection name_meaning false) offset_of_subsection id_of NameSectionOrder s (fault_at f) t.entries
      → t.last ≡ s.last → length here.rest ≤ most → all ≡ later_names most s.last here
      → (later : List Seen) × OwesNames deep level t later × (all ≡ faulty (fault_at f) ∷ later)
  refused_name_after zero f all (inl n) last l e = absurd (omega (arith, l, n.3))
  refused_name_after zero f all (inr (x, n, below, is)) last l e = absurd (omega (arith, l, n.3))
  refused_name_after (suc most) f all (inl n) last l e = (
    later_names most t.last (place t.entries),
    (most, shorter s.entries t.entries most n.1 n.2 n.3 l, refl),
    e ∙ (some_names most n.3 ∙ (name_refused most _ f (place t.entries) n.0
        ∙ ap (λ (y : Option ℕ). faulty (fault_at f) ∷ later_names most y (place t.entries)) (sym last))),
  )
  refused_name_after (suc most) f all (inr (x, n, below, is)) last l e = (
    later_names most t.last (place t.entries),
    (most, shorter s.entries t.entries most n.1 n.2 n.3 l, refl),
    e ∙ (some_names most n.3 ∙ (name_read most _ x (place t.entries) n.0 ∙ (out_of_order _ _ _ below
        ∙ ap₂ (λ (g : FaultAt) (y : Option ℕ). faulty g ∷ later_names most y (place t.entries)) (sym is) (sym last)))),
  )

  after_name_by : (given : Option (Result Name Error))
      → NextAscending (NextSubsection name_meaning false) offset_of_subsection id_of NameSectionOrder s given t
      → Gives (OwesNames deep level) (found_seen (name_seen deep) deep level) s (with_offset here.offset given) t
  after_name_by None n = λ all o. o.2 ∙ no_names o.0 n.order.0.0
  after_name_by (Some (Ok x)) n = λ all o. read_name_after o.0 x all n.order.0 n.order.1 n.order.2 o.1 o.2
  after_name_by (Some (Err e)) n = λ all o m. refused_name_after o.0 e all n.order.0 n.order.1 o.1 o.2

  pub after_name : (given : Option (Result Name Error)) (x : Option (Result (Found Name) Error))
      → x ≡ with_offset here.offset given
      → NextAscending (NextSubsection name_meaning false) offset_of_subsection id_of NameSectionOrder s given t
      → Gives (OwesNames deep level) (found_seen (name_seen deep) deep level) s x t
  after_name given x e n =
      passes_on (OwesNames deep level) (found_seen (name_seen deep) deep level) s t x _ e (after_name_by given n)

-- ---- iterators over items

module _ {S T : Type 0} (meaning : Place → Outcome T → Type 0) (shows : S → ℕ → T → List Seen × S)
    (reading : S → Place → Outcome (List Seen × S)) (agrees : Agrees meaning shows reading) where
  left_by : (i : S) (s : Items) (b : Bool) (k : ℕ) → s.ended ≡ b → s.left ≡ k
      → left_seen reading i s ≡ (if b then [] else items_seen reading k i (place s.reader))
  left_by i s b k e m = subst₂ (λ (x : Bool) (j : ℕ). left_seen reading i s ≡ (if x then [] else items_seen reading j i (place s.reader)))
      e m refl

  -- an iterator that is over owes nothing
  over_is : (i : S) (t : Items) → t.ended ≡ true → left_seen reading i t ≡ []
  over_is i t e = left_by i t true t.left e refl

  module _ (i : S) (s t : Items) where
    read_is : (k : ℕ) (x : T) → reading i (place s.reader) ≡ Ok (shows i (place s.reader).offset x, place t.reader)
        → s.ended ≡ false → s.left ≡ suc k → k ≡ t.left → t.ended ≡ false → left_seen reading i s
        ≡ (shows i (place s.reader).offset x).0 ++ left_seen reading (shows i (place s.reader).offset x).1 t
    read_is k x read e m left ended =
        let here = shows i (place s.reader).offset x in
        left_by i s false (suc k) e m ∙ (ap (or_later (λ j q. items_seen reading k j q)) read ∙ ap (λ (l : List Seen). here.0 ++ l)
        (ap (λ (j : ℕ). items_seen reading j here.1 (place t.reader)) left ∙ sym (left_by here.1 t false t.left ended refl)))

    pub item_is : (b : Bool) (k : ℕ) (x : ℕ × T) → s.ended ≡ b → s.left ≡ k → NextItem (AtItsOffset meaning) s (Some (Ok x)) t
        → left_seen reading i s ≡ (shows i x.0 x.1).0 ++ left_seen reading (shows i x.0 x.1).1 t
    item_is true k x e m h = absurd (let f = (h.over e).0 in cc)
    item_is false zero x e m h = absurd (h.last e m)
    item_is false (suc k) x e m h =
        let item = h.item e (omega (arith, m)) in
        let read = agrees i (place s.reader) (Ok (x.1, place t.reader)) item.0.1 in
        read_is k x.1 read e m (omega (arith, m, item.1)) item.2
        ∙ ap (λ (o : ℕ). (shows i o x.1).0 ++ left_seen reading (shows i o x.1).1 t) (sym item.0.0)

    pub none_is_left : (b : Bool) (k : ℕ) → s.ended ≡ b → s.left ≡ k → NextItem {T = ℕ × T} (AtItsOffset meaning) s None t
        → left_seen reading i s ≡ []
    none_is_left true k e m h = left_by i s true k e m
    none_is_left false zero e m h = left_by i s false zero e m ∙ no_rest (place s.reader) (h.last e m).0
    none_is_left false (suc k) e m h = absurd (h.item e (omega (arith, m)))

    pub fault_left : (j : S) (b : Bool) (k : ℕ) (f : Error) → s.ended ≡ b → s.left ≡ k
        → NextItem {T = ℕ × T} (AtItsOffset meaning) s (Some (Err f)) t
        → left_seen reading i s ≡ faulty (fault_at f) ∷ left_seen reading j t
    fault_left j true k f e m h = absurd (let x = (h.over e).0 in cc)
    fault_left j false zero f e m h =
        let end = h.last e m in
        left_by i s false zero e m ∙ (rest_of (place s.reader) (fault_at f) end.0 end.1
        ∙ ap (λ (l : List Seen). faulty (fault_at f) ∷ l) (sym (over_is j t (ap (λ (x : Items). x.ended) end.2))))
    fault_left j false (suc k) f e m h =
        let item = h.item e (omega (arith, m)) in
        left_by i s false (suc k) e m ∙ (ap (or_later (λ u q. items_seen reading k u q))
        (agrees i (place s.reader) (Err (fault_at f)) item.0)
        ∙ ap (λ (l : List Seen). faulty (fault_at f) ∷ l) (sym (over_is j t item.2)))

    -- ---- of items that own lists

    pub owned_is : (b : Bool) (k : ℕ) (x : T) → s.ended ≡ b → s.left ≡ k → NextItemIn meaning s (Some (Ok x)) t
        → left_seen reading i s ≡ (shows i (place s.reader).offset x).0 ++ left_seen reading (shows i (place s.reader).offset x).1 t
    owned_is true k x e m h = absurd (let f = (h.over e).0 in cc)
    owned_is false zero x e m h = absurd (h.last e m)
    owned_is false (suc k) x e m h =
        let item = h.item e (omega (arith, m)) in
        read_is k x (agrees i (place s.reader) (Ok (x, place t.reader)) item.0) e m (omega (arith, m, item.1)) item.2

    pub none_owned : (b : Bool) (k : ℕ) → s.ended ≡ b → s.left ≡ k → NextItemIn {T = T} meaning s None t → left_seen reading i s ≡ []
    none_owned true k e m h = left_by i s true k e m
    none_owned false zero e m h = left_by i s false zero e m ∙ no_rest (place s.reader) (h.last e m).0
    none_owned false (suc k) e m h = absurd (h.item e (omega (arith, m)))

    fault_of_item : (k : ℕ) (f : Error) → UnlessMemory {A = T} meaning (place s.reader) (Err (fault_at f))
        → is_out_of_memory (fault_at f).fault ≡ false
        → or_later (λ u q. items_seen reading k u q) (reading i (place s.reader)) ≡ faulty (fault_at f) ∷ []
    fault_of_item k f (inr read) sure = ap (or_later (λ u q. items_seen reading k u q)) (agrees i (place s.reader) (Err (fault_at f)) read)
    fault_of_item k f (inl e) sure = absurd (let is = ap (λ (x : FaultAt). is_out_of_memory x.fault) e in cc)

    pub owned_fault : (j : S) (b : Bool) (k : ℕ) (f : Error) → s.ended ≡ b → s.left ≡ k
        → NextItemIn {T = T} meaning s (Some (Err f)) t → is_out_of_memory (fault_at f).fault ≡ false
        → left_seen reading i s ≡ faulty (fault_at f) ∷ left_seen reading j t
    owned_fault j true k f e m h sure = absurd (let x = (h.over e).0 in cc)
    owned_fault j false zero f e m h sure =
        let end = h.last e m in
        left_by i s false zero e m ∙ (rest_of (place s.reader) (fault_at f) end.0 end.1
        ∙ ap (λ (l : List Seen). faulty (fault_at f) ∷ l) (sym (over_is j t (ap (λ (x : Items). x.ended) end.2))))
    owned_fault j false (suc k) f e m h sure =
        let item = h.item e (omega (arith, m)) in
        left_by i s false (suc k) e m ∙ (fault_of_item k f item.0 sure
        ∙ ap (λ (l : List Seen). faulty (fault_at f) ∷ l) (sym (over_is j t item.2)))

-- a reading that says of an item what is seen of it agrees with what the item means
pub readings_agree : {S X Y : Type 0} (n : Numbering S) (lists : ℕ → Y → List Seen) (deep : Bool) (level : ℕ) (view : X → Y)
    (at : Place → Outcome Y)
    → Agrees (ReadsAs view at) (shown_by n (λ l x. lists l (view x)) deep level) (reading_by n lists deep level at)
readings_agree n lists deep level view at s p (Ok x) e = ap (outcome_map (λ y. shown_by n lists deep level s p.offset y)) e
readings_agree n lists deep level view at s p (Err f) e = ap (outcome_map (λ y. shown_by n lists deep level s p.offset y)) e

-- ---- of items without numbers

module _ {T : Type 0} (meaning : Place → Outcome T → Type 0) (lists : (deep : Bool) → ℕ → T → List Seen) (deep : Bool) (level : ℕ)
    (s t : Items) where
  -- by one reading
  module _ (reading : Unit {0} → Place → Outcome (List Seen × Unit {0}))
      (agrees : Agrees meaning (shown_by unnumbered (lists deep) deep level) reading) where
    abbrev owes_read : Items → List Seen → Type 0
    owes_read x all = all ≡ left_seen reading tt x

    pub after_read : (given : Option (Result (ℕ × T) Error)) → NextItem (AtItsOffset meaning) s given t
        → Gives owes_read (found_seen (lists deep) deep level) s (without_number given) t
    after_read None h = λ all o.
        o ∙ none_is_left meaning (shown_by unnumbered (lists deep) deep level) reading agrees tt s t _ _ refl refl h
    after_read (Some (Ok x)) h = λ all o. (
      left_seen reading tt t,
      refl,
      o ∙ item_is meaning (shown_by unnumbered (lists deep) deep level) reading agrees tt s t _ _ x refl
          refl h,
    )
    after_read (Some (Err f)) h = λ all o m. (
      left_seen reading tt t,
      refl,
      o ∙ fault_left meaning (shown_by unnumbered (lists deep) deep level) reading agrees tt s t tt _ _ f
          refl refl h,
    )

  pub after_item : (given : Option (Result (ℕ × T) Error)) → NextItem (AtItsOffset meaning) s given t
      → Gives (OwesBy meaning unnumbered lists deep level tt) (found_seen (lists deep) deep level) s (without_number given) t
  after_item None h = λ all o. after_read o.0 o.1 None h all o.2
  after_item (Some (Ok x)) h = λ all o.
      let r = after_read o.0 o.1 (Some (Ok x)) h all o.2 in
      (r.0, (o.0, o.1, r.1), r.2)
  after_item (Some (Err f)) h = λ all o m.
      let r = after_read o.0 o.1 (Some (Err f)) h all o.2 m in
      (r.0, (o.0, o.1, r.1), r.2)

  after_owned_by : (given : Option (Result T Error)) → NextItemIn meaning s given t
      → Gives (OwesBy meaning unnumbered lists deep level tt) (found_seen (lists deep) deep level) s
      (with_offset (place s.reader).offset given) t
  after_owned_by None h = λ all o. o.2 ∙ none_owned meaning (shown_by unnumbered (lists deep) deep level) o.0 o.1 tt s t _ _ refl refl h
  after_owned_by (Some (Ok x)) h = λ all o. (
    left_seen o.0 tt t,
    (o.0, o.1, refl),
    o.2 ∙ owned_is meaning (shown_by unnumbered (lists deep) deep level) o.0 o.1 tt s t _ _ x refl
        refl h,
  )
  after_owned_by (Some (Err f)) h = λ all o m. (
    left_seen o.0 tt t,
    (o.0, o.1, refl),
    o.2 ∙ owned_fault meaning (shown_by unnumbered (lists deep) deep level) o.0 o.1 tt s t tt _ _ f refl refl h m,
  )

  pub after_owned : (given : Option (Result T Error)) (x : Option (Result (Found T) Error))
      → x ≡ with_offset (place s.reader).offset given → NextItemIn meaning s given t
      → Gives (OwesBy meaning unnumbered lists deep level tt) (found_seen (lists deep) deep level) s x t
  after_owned given x e h = passes_on (OwesBy meaning unnumbered lists deep level tt) (found_seen (lists deep) deep level) s t x _ e
      (after_owned_by given h)

-- an iterator over imports
pub after_import : (deep : Bool) (level : ℕ) (s t : List (Result (ℕ × ImportParts) FaultAt)) (given : Option (Result (ℕ × Import) Error))
    → NextImport {X = ℕ × Import} found_at s given t
    → Gives (OwesList deep level) (found_seen (never_lists {T = Import} deep) deep level) s (without_number given) t
after_import deep level s t None h = λ all o. o ∙ ap (list_seen deep level) h.0.0
after_import deep level s t (Some (Ok x)) h = λ all o. (list_seen deep level t, refl, o ∙ ap (list_seen deep level) h.0)
after_import deep level s t (Some (Err f)) h = λ all o k. (list_seen deep level t, refl, o ∙ ap (list_seen deep level) h.0)

-- ---- what a copy of a section owes

-- what the items of a copy owe
pub of_copy : {I : Type 0} (owed : I → List Seen) (copy all : I) → copy ≡ all → owed all ≡ owed copy
of_copy owed copy all e = ap owed (sym e)

pub owes_names : (deep : Bool) (level : ℕ) (copy all : Ascending Window) → copy ≡ all
    → OwesNames deep level copy (name_section_seen deep level all)
owes_names deep level copy all e = subst (λ (m : Ascending Window). OwesNames deep level m (name_section_seen deep level all)) (sym e)
    (length (place all.entries).rest, omega arith, refl)

pub owes_linking : (deep : Bool) (level : ℕ) (copy all : Window) → copy ≡ all
    → OwesLinking deep level copy (window_seen level (linking_reading deep level) all)
owes_linking deep level copy all e =
    subst (λ (w : Window). OwesLinking deep level w (window_seen level (linking_reading deep level) all)) (sym e)
    (length (place all).rest, omega arith, refl)

window_agrees : {X Y : Type 0} (deep : Bool) (level : ℕ) (view : X → Y) (reading : ℕ → Window → Result Y FaultAt)
    → AgreesOnWindows (ReadsWindowAs view reading) (λ x. if_deep deep (never_lists {T = X} deep (under level) x))
    (λ id w. result_map (λ y. if_deep deep []) (reading id w))
window_agrees deep level view reading id w (Ok x) e = ap (result_map (λ y. if_deep deep [])) e
window_agrees deep level view reading id w (Err f) e = ap (result_map (λ y. if_deep deep [])) e

pub owes_subsections : {X Y : Type 0} (deep : Bool) (level : ℕ) (view : X → Y) (reading : ℕ → Window → Result Y FaultAt)
    (copy all : Window) → copy ≡ all → OwesSubsections (ReadsWindowAs view reading) never_lists deep level copy
    (window_seen level (λ id w. result_map (λ y. if_deep deep []) (reading id w)) all)
owes_subsections deep level view reading copy all e =
    subst (λ (w : Window). OwesSubsections (ReadsWindowAs view reading) never_lists deep level w
    (window_seen level (λ id w. result_map (λ y. if_deep deep []) (reading id w)) all)) (sym e) (
      (λ id w. result_map (λ y. if_deep deep []) (reading id w)),
      window_agrees deep level view reading,
      length (place all).rest,
      omega arith,
      refl,
    )
