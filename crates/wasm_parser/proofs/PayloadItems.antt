-- The items of payloads are those of their windows.
use Rattle.wasm_parser.proofs.Common.{◌≡◌, ℕ, refl, ap, subst, ReadsAs, Outcome, Section, Window, Place, place, Report, counted, counted_by}
use Rattle.wasm_parser.proofs.Common.{BeginsAfterCount}
use Rattle.wasm_base.proofs.Runs.{runs_give_items, runs_give_owned_items}
use Rattle.wasm_base.specs.Section.{all_items, GivesItems, NextItem, NextItemIn}
use Rattle.wasm_items.specs.RecGroups.{rec_group_parts, rec_group_at}
use Rattle.wasm_frames.specs.Frame.{unread}
use Rattle.wasm_parser.specs.PayloadItems.{NextOf, GivesWindow, GivesTypes}

abbrev window_in : Report → Window → Window
window_in (counted id count w) other = w
window_in report other = other

abbrev count_in : Report → ℕ
count_in (counted id count w) = count
count_in report = 0

-- a section with its reader after its count, of which this count and window are reported
gives_window : {T : Type 0} (next : NextOf T) (meaning : Place → Outcome T → Type 0) (id other count : ℕ) (w : Window) (s : Section)
    → GivesItems next meaning (all_items s) → counted_by id s ≡ counted other count w → BeginsAfterCount s
    → GivesWindow next meaning count w s
gives_window next meaning id other count w s runs e b =
    let n : s.count ≡ count = ap count_in e in
    let v : unread s.reader ≡ w = ap (λ (r : Report). window_in r w) e in
    subst (λ (x : ℕ). GivesWindow next meaning x w s) n (rw (← v) (λ given d. (place s.reader, b, runs.items refl given d)))

-- a payload of a kind of section whose window and count are reported
module _ {T : Type 0} (meaning : Place → Outcome T → Type 0) (own id count : ℕ) (w : Window) (s : Section)
    (e : counted_by own s ≡ counted id count w) (b : BeginsAfterCount s) where
  pub gives : GivesWindow (NextItem meaning) meaning count w s
  gives = gives_window (NextItem meaning) meaning own id count w s (runs_give_items meaning (all_items s)) e b

pub gives_types : GivesTypes (NextItemIn (ReadsAs rec_group_parts rec_group_at))
gives_types id count w s (e, b) = search (gives_window, runs_give_owned_items)
