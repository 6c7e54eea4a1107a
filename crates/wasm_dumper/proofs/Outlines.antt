-- What is shown of a part that was skipped, by its first fields, is what is shown of its event.
use Rattle.wasm_dumper.proofs.Common.{◌≡◌, ℕ, Bool, true, false, List, [], ◌∷◌, ◌++◌, Some, None, Option, refl, sym, ap, subst, subst₂, ◌∙◌}
use Rattle.wasm_dumper.proofs.Common.{list_any, if◌then◌else◌, nat_eq, import_id, Report, counted, Writing, Base, base_of, AddsFirst}
use Rattle.wasm_dumper.proofs.Common.{append_assoc, numbered_line, is_chosen, after, shows_items, ShowsItemsIf, Counts, Only}
use Rattle.std.proofs.Common.{Ok, Result, not, ◌&&◌, ◌||◌, bytes_eq, codes}
use Rattle.std.specs.List.{starts_with}
use Rattle.std.specs.String.{string_bytes}
use Rattle.wasm_base.specs.Window.{Window, place, whole_window}
use Rattle.wasm_custom.specs.Known.{Known, read_by_name, reading_of, readings, relocations_in, unknown}
use Rattle.wasm_dumper.specs.Chosen.{is_chosen_by, outlined_text, section_words, size_text}
use Rattle.wasm_dumper.specs.Dump.{ShowsReport}
use Rattle.wasm_dumper.specs.Hiding.{ReportsOutline, after_hidden, has_imports, has_symbols, is_body_head, is_hidden, is_known, is_outlined}
use Rattle.wasm_dumper.specs.Hiding.{outlined_part}
use Rattle.wasm_dumper.specs.declared.hidden.CustomOutline.{CustomOutline}
use Rattle.wasm_dumper.specs.declared.hidden.Outline.TheVariants.{Custom, Hidden}
use Rattle.wasm_base.specs.FaultAt.{FaultAt}
use Rattle.wasm_dumper.specs.Walks.{custom_of, report_seen}
use Rattle.wasm_dumper.specs.declared.events.Only.TheVariants.{All}
use Rattle.wasm_show.specs.Lists.{custom_seen, features_seen, read_seen}
use Rattle.wasm_show.specs.Seen.{Seen, enters}
use Rattle.wasm_show.specs.Seen as Seen
use Rattle.wasm_frames.specs.SkipNext.{Skip, custom, report_with, skip_in}
use Rattle.wasm_grammar.specs.Reading.{code_entry, custom_section, unknown_section}
use Rattle.wasm_lines.specs.Listing.{skip_text}
use Rattle.wasm_dumper.proofs.Numbering.{no_bytes, shows_chosen, shows_unchosen}
use Rattle.wasm_lines.proofs.ForCallers.{skipped_text}

-- ---- a part by its first fields as by its report

abbrev skip_or : Skip → Option Skip → Skip
skip_or s (Some x) = x
skip_or s None = s

none_of : (a b c : Bool) → not a && (not b && not c) ≡ true → (a ≡ false) × (c ≡ false)
none_of true b c e = cc
none_of false true c e = cc
none_of false false true e = cc
none_of false false false e = (refl, refl)

hidden_by : (only : List Only) (s : Skip) (x : Option Skip) → x ≡ Some s → is_hidden only s.head ≡ true
    → (has_imports (skip_or s x).head ≡ false)
    × (list_any (λ choice. is_chosen_by choice (report_with (skip_or s x).head)) only ≡ false)
hidden_by only s x e h = none_of (has_imports (skip_or s x).head) (has_symbols (skip_or s x).head)
    (list_any (λ choice. is_chosen_by choice (report_with (skip_or s x).head)) only)
    (subst (λ (y : Option Skip). is_hidden only (skip_or s y).head ≡ true) (sym e) h)

not_chosen : (only : List Only) (r : Report) (s : Skip) → skip_in r ≡ Some s → is_hidden only s.head ≡ true → is_chosen only r ≡ false
not_chosen only (custom_section text at window) s e h = (hidden_by only s (skip_in (custom_section text at window)) e h).1
not_chosen only (counted id count window) s e h = (hidden_by only s (skip_in (counted id count window)) e h).1
not_chosen only (unknown_section id contents from to) s e h = (hidden_by only s (skip_in (unknown_section id contents from to)) e h).1
not_chosen only (code_entry window) s e h = (hidden_by only s (skip_in (code_entry window)) e h).1
not_chosen only _ s e h = cc

counted_as : (only : List Only) (c : Counts) (r : Report) (s : Skip) → skip_in r ≡ Some s → is_hidden only s.head ≡ true
    → after c r ≡ after_hidden c (is_body_head s.head)
counted_as only c (custom_section text at window) s e h = ap (λ (x : Option Skip). after_hidden c (is_body_head (skip_or s x).head)) e
counted_as only c (unknown_section id contents from to) s e h =
    ap (λ (x : Option Skip). after_hidden c (is_body_head (skip_or s x).head)) e
counted_as only c (code_entry window) s e h = ap (λ (x : Option Skip). after_hidden c (is_body_head (skip_or s x).head)) e
counted_as only c (counted id count window) s e h =
    let no : nat_eq id import_id ≡ false = (hidden_by only s (skip_in (counted id count window)) e h).0 in
    rw no (ap (λ (x : Option Skip). after_hidden c (is_body_head (skip_or s x).head)) e)
counted_as only c _ s e h = cc

-- ---- a part of which nothing is shown

module _ (only : List Only) (has_bytes is_body : Bool) (r : Report) (o : ReportsOutline only has_bytes (Hidden is_body) r) where
  unchosen : is_chosen only r ≡ false
  unchosen = not_chosen only r o.0 o.1 o.2.0

  pub hidden_shown : (c : Counts) (bytes : List ℕ) (w : Writing) → ShowsReport only has_bytes c r bytes w w
  hidden_shown c bytes w = shows_unchosen only has_bytes c r bytes w unchosen

  pub hidden_counted : (c c' : Counts) → c' ≡ after_hidden c is_body → c' ≡ after c r
  hidden_counted c c' e = e ∙ (ap (after_hidden c) o.2.1 ∙ sym (counted_as only c r o.0 o.1 o.2.0))

-- ---- the line of a custom section

-- it is that of its first fields
pub custom_line : (base : Base) (c : Counts) (text : List ℕ) (at : ℕ) (w : Window) (s : Skip) → skip_in (custom_section text at w) ≡ Some s
    → numbered_line base c (custom_section text at w) ≡ outlined_text base s ++ codes "\n"
custom_line base c text at w s e =
    let size = λ (x : Skip). size_text (Some (record { start = x.from; end = x.to })) in
    let same = ap (λ (x : Option Skip). skip_or s x) e in
    ap (λ (t : List ℕ). t ++ (section_words (custom_section text at w) ++ codes "\n"))
    (skipped_text base (custom_section text at w) s e)
    ∙ (ap (λ (x : Skip). skip_text base s ++ (size x ++ codes "\n")) same
    ∙ sym (append_assoc (skip_text base s) (size s) (codes "\n")))

-- whatever its content is, its items have no numbers
items_alike : (has_items : Bool) (c : Counts) (text : List ℕ) (at : ℕ) (v w : Window) (old new : Writing)
    → ShowsItemsIf has_items c (custom_section text at v) old new → ShowsItemsIf has_items c (custom_section text at w) old new
items_alike true c text at v w old new s = s
items_alike false c text at v w old new s = s

-- ---- names that are not known

either_false : (a b : Bool) → a || b ≡ false → (a ≡ false) × (b ≡ false)
either_false true b e = cc
either_false false b e = (refl, e)

both_true : (a b : Bool) → a && b ≡ true → (a ≡ true) × (b ≡ true)
both_true true b e = (refl, e)
both_true false b e = cc

unread : (rows : List (List ℕ × (Window → Result Known FaultAt))) (name : List ℕ) (w : Window)
    → list_any (λ row. bytes_eq name row.0) rows ≡ false
    → starts_with nat_eq name (codes "reloc.") ≡ false → read_by_name rows name w ≡ Ok unknown
unread [] name w e n = ap (λ (b : Bool). if b then relocations_in w else Ok unknown) n
unread (row ∷ rows) name w e n =
    let (first, later) = either_false (bytes_eq name row.0) (list_any (λ row. bytes_eq name row.0) rows) e in
    ap (λ (b : Bool). if b then row.1 w else read_by_name rows name w) first ∙ unread rows name w later n

unknown_seen : (deep : Bool) (level : ℕ) (name : List ℕ) (at : ℕ) (w : Window) → is_known name ≡ false
    → custom_seen deep level (custom_of name at w) ≡ []
unknown_seen deep level name at w e =
    let features = bytes_eq name (codes "target_features") in
    let relocations = starts_with nat_eq name (codes "reloc.") in
    let (rows, others) = either_false (list_any (λ row. bytes_eq name row.0) readings) (features || relocations) e in
    let (no_features, no_relocations) = either_false features relocations others in
    let section = custom_of name at w in
    ap (λ (b : Bool). if b then features_seen deep level section else read_seen deep level (reading_of section)) no_features
    ∙ ap (read_seen deep level) (unread readings name (whole_window (place section.reader)) rows no_relocations)

-- ---- a custom section of which the first fields are shown

-- its report, but for its content
reported : (r : Report) (s : Skip) (text : List ℕ) (at : ℕ) → skip_in r ≡ Some s → s.head ≡ custom text at
    → (window : Window) × (r ≡ custom_section text at window)
reported (custom_section name offset window) s text at e h =
    let same : custom name offset ≡ custom text at = ap (λ (x : Option Skip). (skip_or s x).head) e ∙ h in
    (window, cc)
reported (counted id count window) s text at e h =
    let same = ap (λ (x : Option Skip). (skip_or s x).head) e ∙ h in cc
reported (unknown_section id contents from to) s text at e h =
    let same = ap (λ (x : Option Skip). (skip_or s x).head) e ∙ h in cc
reported (code_entry window) s text at e h =
    let same = ap (λ (x : Option Skip). (skip_or s x).head) e ∙ h in cc
reported _ s text at e h = cc

module _ (only : List Only) (c : Counts) (text : List ℕ) (at : ℕ) (s : Skip) (v w : Window)
    (e : skip_in (custom_section text at w) ≡ Some s) where
  shown_so : (has_bytes : Bool) (bytes : List ℕ) (old mid new : Writing) → is_outlined only has_bytes text ≡ true
      → AddsFirst (outlined_text (base_of old.style) s ++ codes "\n") old mid
      → ShowsItemsIf (shows_items only) c (custom_section text at v) mid new
      → ShowsReport only has_bytes c (custom_section text at w) bytes old new
  shown_so true bytes old mid new o a b = cc
  shown_so false bytes old mid new o a b = shows_chosen only false c (custom_section text at w) bytes old old mid new
      (both_true (not (shows_items only && is_known text)) (is_chosen only (custom_section text at w)) o).1 (λ o i. no_bytes o old i)
      (rw (custom_line (base_of old.style) c text at w s e) a)
      (items_alike (shows_items only) c text at v w mid new b)

module _ (only : List Only) (has_bytes : Bool) (section : CustomOutline) (r : Report)
    (o : ReportsOutline only has_bytes (Custom section) r) (v : Window) where
  abbrev name : List ℕ
  name = string_bytes section.name

  of_section : skip_in r ≡ Some (outlined_part section)
  of_section = o.1 ∙ ap (λ (s : Skip). Some s) o.2.1

  -- the report without data, whether items are shown, and the first fields, each as it was passed
  pub custom_shown : (empty : Report) → empty ≡ custom_section name section.data_offset v → (has_items : Bool)
      → has_items ≡ shows_items only → (s : Skip) → s ≡ outlined_part section → (c : Counts) (bytes : List ℕ) (old mid new : Writing)
      → AddsFirst (outlined_text (base_of old.style) s ++ codes "\n") old mid → ShowsItemsIf has_items c empty mid new
      → ShowsReport only has_bytes c r bytes old new
  custom_shown empty empty_is has_items items_are s is_part c bytes old mid new a b =
      let (w, is) = reported r (outlined_part section) name section.data_offset of_section refl in
      subst (λ (x : Report). ShowsReport only has_bytes c x bytes old new) (sym is)
      (shown_so only c name section.data_offset (outlined_part section) v w (sym (ap skip_in is) ∙ of_section) has_bytes bytes old mid new
      o.2.0 (subst (λ (x : Skip). AddsFirst (outlined_text (base_of old.style) x ++ codes "\n") old mid) is_part a)
      (subst₂ (λ (x : Bool) (y : Report). ShowsItemsIf x c y mid new) items_are empty_is b))

  pub custom_counted : (c : Counts) → c ≡ after c r
  custom_counted c =
      let (w, is) = reported r (outlined_part section) name section.data_offset of_section refl in
      ap (λ (x : Report). after c x) (sym is)

-- ---- what a walk sees of a part that was skipped

not_true : (b : Bool) → not b ≡ true → b ≡ false
not_true true e = cc
not_true false e = refl

-- no part is hidden
pub none_hidden : (is_body : Bool) (r : Report) → ReportsOutline (All ∷ []) false (Hidden is_body) r → ⊥
none_hidden is_body r o = absurd (let no : true ≡ false = (hidden_by (All ∷ []) o.0 (skip_in r) o.1 o.2.0).1 in cc)

-- a section whose name is not known has no items
pub outline_seen : (deep : Bool) (c : Counts) (section : CustomOutline) (r : Report) → ReportsOutline (All ∷ []) false (Custom section) r
    → (v : Window) (empty : Report) → empty ≡ custom_section (string_bytes section.name) section.data_offset v
    → report_seen deep c empty ≡ report_seen deep c r
outline_seen deep c section r o v empty empty_is =
    let name = string_bytes section.name in
    let (w, is) = reported r (outlined_part section) name section.data_offset (o.1 ∙ ap (λ (s : Skip). Some s) o.2.1) refl in
    let unknown = not_true (is_known name) (both_true _ _ o.2.0).0 in
    let one = λ (l : List Seen). enters (Seen.custom name) ∷ l in
    ap (report_seen deep c) empty_is ∙ (ap one (unknown_seen deep 1 name section.data_offset v unknown
    ∙ sym (unknown_seen deep 1 name section.data_offset w unknown)) ∙ ap (report_seen deep c) (sym is))
