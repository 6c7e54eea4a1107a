-- Counted items that are skipped, and the section that they form.
use Rattle.std.proofs.Common.{◌≡◌, ℕ, suc, ◌+◌, ◌-◌, ◌<◌, ◌≤◌, List, take, Result, Ok, Err, IfOk, refl, sym, ap, arith, ◌∙◌}
use Rattle.wasm_base.proofs.OwnBytes.{cut_number}
use Rattle.wasm_base.specs.FaultAt.{FaultAt, fault_at}
use Rattle.wasm_base.specs.Number.{Number, read, bad, short, number, in_window, unsigned_at}
use Rattle.wasm_base.specs.Outcome.{Outcome, Gives}
use Rattle.wasm_base.specs.Section.{Section, ReadsSection}
use Rattle.wasm_base.specs.Window.{Window, Place, place, advanced, window_between, KeepsWindow}
use Rattle.wasm_base.specs.declared.error.Error.{Error}
use Rattle.wasm_base.specs.declared.fault.NumberKind.TheVariants.{VarU32}
use Rattle.wasm_base.specs.Inner.{all_skipped_at, section_between, inner_section_at}

module _ (pass : Place → Outcome (Unit {0})) where
  -- one more was passed
  pub one_passed : (count i : ℕ) (p next : Place) (whole : Outcome (Unit {0})) → i < count → all_skipped_at pass (count - i) p ≡ whole
      → pass p ≡ Ok (tt, next) → all_skipped_at pass (count - (i + 1)) next ≡ whole
  one_passed count i p next whole lt so_far one =
      let k : count - i ≡ suc (count - (i + 1)) = omega arith in
      let step : all_skipped_at pass (suc (count - (i + 1))) p ≡ whole = rw k at so_far in
      rw one at step

  -- one could not be passed
  pub not_passed : (count i : ℕ) (p : Place) (whole : Outcome (Unit {0})) (e : FaultAt) → i < count → all_skipped_at pass (count - i) p
      ≡ whole → pass p ≡ Err e → whole ≡ Err e
  not_passed count i p whole e lt so_far one =
      let k : count - i ≡ suc (count - (i + 1)) = omega arith in
      let step : all_skipped_at pass (suc (count - (i + 1))) p ≡ whole = rw k at so_far in
      sym (rw one at step)

-- a window by its parts
window_is : (w : Window) (f s : ℕ) (b : List ℕ) (k : ℕ) → w.features ≡ f → w.start ≡ s → w.bytes ≡ b → w.position ≡ k → w
    ≡ record { features = f; start = s; bytes = b; position = k }
window_is w f s b k hf hs hb hk =
    let parts : Window = record { features = w.features; start = w.start; bytes = w.bytes; position = w.position } in
    let whole : Window = record { features = f; start = s; bytes = b; position = k } in
    let e : parts ≡ whole = rw (hf, hs, hb, hk) refl in
    e

-- what a count says of the bytes before the place after it
record Counted (p : Place) (count : ℕ × Place) : Type 0 where
  used : ℕ
  number_is : number VarU32 p.rest ≡ read count.0 used
  after : count.1 ≡ advanced used p

counted_by : (p : Place) (count : ℕ × Place) (n : Number) → number VarU32 p.rest ≡ n → in_window p n ≡ Ok count → Counted p count
counted_by p count (read v k) e h =
    let z : (v, advanced k p) ≡ count = cc in
    record { used = k; number_is = e ∙ ap (λ (c : ℕ × Place). read c.0 k) z; after = sym (ap (λ (c : ℕ × Place). c.1) z) }
counted_by p count (bad f i) e h = cc
counted_by p count short e h = cc

counted : (p : Place) (count : ℕ × Place) → unsigned_at VarU32 p ≡ Ok count → Counted p count
unfolding unsigned_at
counted p count h = counted_by p count (number VarU32 p.rest) refl h

-- The count of the window from a place to a later one is the count at that place.
counted_in_window : (p q : Place) (count : ℕ × Place) → Counted p count → count.1.offset ≤ q.offset
    → unsigned_at VarU32 (place (window_between p q)) ≡ Ok (count.0, advanced (count.1.offset - p.offset) (place (window_between p q)))
unfolding unsigned_at
counted_in_window p q count c le =
    let passed : count.1.offset ≡ p.offset + c.used = ap (λ (w : Place). w.offset) c.after in
    let k : c.used ≡ count.1.offset - p.offset = omega arith in
    let n : number VarU32 (take (q.offset - p.offset) p.rest) ≡ read count.0 c.used =
    cut_number VarU32 p.rest count.0 c.used (q.offset - p.offset) c.number_is (omega arith) in
    rw (n, k) refl

same_count : (m n : ℕ) (p q : Place) (a b : Outcome ℕ) → a ≡ Ok (m, p) → b ≡ Ok (n, q) → a ≡ b → (m ≡ n) × (p ≡ q)
same_count m n p q a b ea eb e =
    let one : ℕ × Place = (m, p) in
    let other : ℕ × Place = (n, q) in
    let here : Outcome ℕ = Ok one in
    let there : Outcome ℕ = Ok other in
    let z : here ≡ there = sym ea ∙ e ∙ eb in
    let y : one ≡ other = cc in
    (ap (λ (c : ℕ × Place). c.0) y, ap (λ (c : ℕ × Place). c.1) y)

-- A reader that goes on is not before where it was.
pub not_before : (old new : Window) → KeepsWindow old new → (place old).offset ≤ (place new).offset
not_before old new kept = omega (arith, kept.start, kept.forward)

module _ (p q : Place) (count : ℕ × Place) (counts : unsigned_at VarU32 p ≡ Ok count) (le : count.1.offset ≤ q.offset) where
  -- The section of the window is the one that the items between the places are.
  inner_section : (s : Section) → KeepsWindow (window_between p q) s.reader → unsigned_at VarU32 (place (window_between p q))
      ≡ Ok (s.count, place s.reader) → section_between p count q ≡ s
  inner_section s kept reads =
      let same = same_count count.0 s.count (advanced (count.1.offset - p.offset) (place (window_between p q))) (place s.reader) _ _
      (counted_in_window p q count (counted p count counts) le) reads refl in
      let there : p.offset + 0 + (count.1.offset - p.offset) ≡ s.reader.start + s.reader.position = ap (λ (w : Place). w.offset) same.1 in
      let position : s.reader.position ≡ count.1.offset - p.offset = omega (arith, there, kept.start) in
      let reader = window_is s.reader p.features p.offset (take (q.offset - p.offset) p.rest) (count.1.offset - p.offset) kept.features
      kept.start kept.bytes position in
      let read : Section = record { reader = s.reader; count = s.count } in
      let e : section_between p count q ≡ read = rw (reader, same.0) refl in
      e

  -- There is one.
  no_refusal : (e : FaultAt) → unsigned_at VarU32 (place (window_between p q)) ≡ Err e → ⊥
  no_refusal e refused =
      let here : Outcome ℕ = Ok (count.0, advanced (count.1.offset - p.offset) (place (window_between p q))) in
      let there : Outcome ℕ = Err e in
      let z : here ≡ there = sym (counted_in_window p q count (counted p count counts) le) ∙ refused in
      cc

-- A section that is made of the window of a count and the items after it is what passing over them says.
pub inner_read : (pass : Place → Outcome (Unit {0})) (p q : Place) (count : ℕ × Place) (result : Result Section Error)
    → unsigned_at VarU32 p ≡ Ok count → all_skipped_at pass count.0 count.1 ≡ Ok (tt, q) → count.1.offset ≤ q.offset
    → ReadsSection (place (window_between p q)) result → IfOk result (λ (s : Section). KeepsWindow (window_between p q) s.reader)
    → Gives {X = Section} (λ s. s) result q (inner_section_at pass p)
unfolding inner_section_at
inner_read pass p q count (Ok s) counts passed le reads kept = rw (counts, passed, inner_section p q count counts le s kept reads) refl
inner_read pass p q count (Err e) counts passed le reads kept = absurd (no_refusal p q count counts le (fault_at e) reads)
