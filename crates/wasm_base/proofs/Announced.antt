-- Lists inside an item that was read, which have all the items that they announce.
use Rattle.std.proofs.Common.{◌≡◌, ℕ, zero, suc, ◌+◌, ◌-◌, false, List, [], ◌∷◌, length, take, drop, nat_lt, Result, Ok, Err, refl, sym, ap}
use Rattle.std.proofs.Common.{subst, arith, ◌∙◌, le-ltb}
use Rattle.std.specs.Prelude.{map}
use Rattle.std.proofs.lemmas.List.{drop-take}
use Rattle.wasm_base.proofs.OwnBytes.{cut, OwnAt, Own, own_nothing, own_both, own_number}
use Rattle.wasm_base.proofs.Runs.{runs_give_items}
use Rattle.wasm_base.specs.Announced.{AreCounted, GivesAnnounced}
use Rattle.wasm_base.specs.FaultAt.{FaultAt}
use Rattle.wasm_base.specs.Inner.{all_skipped_at, section_between, inner_section_at, after_reading}
use Rattle.wasm_base.specs.Item.{ReadsAs}
use Rattle.wasm_base.specs.Number.{unsigned_at}
use Rattle.wasm_base.specs.Outcome.{Outcome, ◌>>=◌}
use Rattle.wasm_base.specs.Section.{Section, NextItem, ItemsOf, all_items, at_the_end, item_or_fault}
use Rattle.wasm_base.specs.Window.{Window, Place, place, advanced}
use Rattle.wasm_base.specs.declared.error.Error.{Error}
use Rattle.wasm_base.specs.declared.fault.NumberKind.TheVariants.{VarU32}

-- what a reading in two steps says of both
pub record InSteps {A B : Type 0} (first : Outcome A) (next : A × Place → Outcome B) (x : B × Place) : Type 0 where
  pub between : A × Place
  pub one : first ≡ Ok between
  pub other : next between ≡ Ok x

pub in_steps : {A B : Type 0} (first : Outcome A) (next : A × Place → Outcome B) (x : B × Place) → (first >>= next) ≡ Ok x
    → InSteps first next x
in_steps (Ok r) next x e = record { between = r; one = refl; other = e }
in_steps (Err f) next x e = cc

pub read_as : {A : Type 0} (x y : A × Place) → (let o : Outcome A = Ok x in o) ≡ Ok y → x ≡ y
read_as x y e = cc

-- Where passing over an item comes to a place, reading it comes to that place too.
pub record Follows {B : Type 0} (pass : Place → Outcome (Unit {0})) (reading : Place → Outcome B) : Type 0 where
  pub reads : (p q : Place) → pass p ≡ Ok (tt, q) → (x : B) × (reading p ≡ Ok (x, q))

pub own_all : (pass : Place → Outcome (Unit {0})) → Own pass → (count : ℕ) → Own (all_skipped_at pass count)
own_all pass own zero = own_nothing tt
own_all pass own (suc count) = own_both pass (λ a p. all_skipped_at pass count p) own (λ a. own_all pass own count)

ends : {T : Type 0} (features offset : ℕ) (rest : List ℕ) (given : List (Result T FaultAt)) → length rest ≡ 0 → given
    ≡ at_the_end (record { features = features; offset = offset; rest = rest }) → given ≡ []
ends {T} features offset rest given none e =
    let t : nat_lt 0 (length rest) ≡ false = le-ltb 0 (length rest) (omega (arith, none)) in
    e ∙ (rw t refl)

-- the place in the window of a list, after its count
window_place : (p c e : Place) (k m : ℕ) → c ≡ advanced k p → c.offset ≡ p.offset + k → e.offset ≡ c.offset + m
    → (let w : Window = record {
      features = p.features;
      start = p.offset;
      bytes = take (e.offset - p.offset) p.rest;
      position = c.offset - p.offset;
    } in place w) ≡ cut m c
window_place p c e k m is at end =
    let o : p.offset + (c.offset - p.offset) ≡ c.offset = omega (arith, at) in
    let j : c.offset - p.offset ≡ k = omega (arith, at) in
    let n : e.offset - p.offset ≡ k + m = omega (arith, at, end) in
    let r : drop (c.offset - p.offset) (take (e.offset - p.offset) p.rest) ≡ take m c.rest =
    rw (j, n) (drop-take k m p.rest) ∙ ap (λ (w : Place). take m w.rest) (sym is) in
    let f : p.features ≡ c.features = ap (λ (w : Place). w.features) (sym is) in
    λ i. record { features = f i; offset = o i; rest = r i }

module _ {T B : Type 0} (pass : Place → Outcome (Unit {0})) (own : Own pass) (view : T → B) (reading : Place → Outcome B)
    (follows : Follows pass reading) where
  -- The items of a window that ends where passing over them does.
  all_read : (count m : ℕ) (p e : Place) (given : List (Result T FaultAt)) → all_skipped_at pass count p ≡ Ok (tt, e) → e.offset
      ≡ p.offset + m → ItemsOf (ReadsAs view reading) count (cut m p) given → AreCounted count given
  all_read zero m p e given passed moved items =
      let same : p ≡ e = ap (λ (r : Unit {0} × Place). r.1) (read_as (tt, p) (tt, e) passed) in
      let z : m ≡ 0 = omega (arith, moved, ap (λ (w : Place). w.offset) same) in
      let none : length (take m p.rest) ≡ 0 = rw z refl in
      rw (ends p.features p.offset (take m p.rest) given none items) tt
  all_read (suc count) m p e [] passed moved items = items
  all_read (suc count) m p e (x ∷ given) passed moved items = by
      x given items (all_read count later.used steps.between.1 e given steps.other (ap (λ (w : Place). w.offset) later.after))
    where
      steps : InSteps (pass p) (λ r. all_skipped_at pass count r.1) (tt, e)
      steps = in_steps (pass p) (λ r. all_skipped_at pass count r.1) (tt, e) passed

      one : OwnAt pass p tt steps.between.1
      one = own.at p tt steps.between.1 steps.one

      later : OwnAt (all_skipped_at pass count) steps.between.1 tt e
      later = (own_all pass own count).at steps.between.1 tt e steps.other

      used : m ≡ one.used + later.used
      used = omega (arith, moved, ap (λ (w : Place). w.offset) one.after, ap (λ (w : Place). w.offset) later.after)

      here : (y : B) × (reading (cut m p) ≡ Ok (y, cut later.used steps.between.1))
      here = follows.reads (cut m p) (cut later.used steps.between.1) (one.alone m later.used used)

      by : (x : Result T FaultAt) (given : List (Result T FaultAt)) → ItemsOf (ReadsAs view reading) (suc count) (cut m p) (x ∷ given)
          → (ItemsOf (ReadsAs view reading) count (cut later.used steps.between.1) given → AreCounted count given)
          → AreCounted (suc count) (x ∷ given)
      by (Err f) given items again = absurd (let z = sym here.1 ∙ items.0 in cc)
      by (Ok x) given items again =
          let left : B × Place = (here.0, cut later.used steps.between.1) in
          let right : B × Place = (view x, items.0) in
          let both : left ≡ right = read_as left right (sym here.1 ∙ items.1) in
          again (subst (λ (q : Place). ItemsOf (ReadsAs view reading) count q given) (sym (ap (λ (r : B × Place). r.1) both)) items.2)

  -- The items of the section that a list is.
  inner_read : (p q : Place) (s : Section) (given : List (Result T FaultAt)) → inner_section_at pass p ≡ Ok (s, q)
      → ItemsOf (ReadsAs view reading) s.count (place s.reader) given → AreCounted s.count given
  unfolding inner_section_at
  inner_read p q s given e items =
      let counted = in_steps (unsigned_at VarU32 p) (λ c. all_skipped_at pass c.0 c.1 >>= λ end.
      let o : Outcome Section = Ok (section_between p c end.1, end.1) in o) (s, q) e in
      let count : ℕ × Place = counted.between in
      let passed = in_steps (all_skipped_at pass count.0 count.1)
      (λ end. let o : Outcome Section = Ok (section_between p count end.1, end.1) in o) (s, q) counted.other in
      let end : Place = passed.between.1 in
      let both : (section_between p count end, end) ≡ (s, q) = read_as (section_between p count end, end) (s, q) passed.other in
      let same : section_between p count end ≡ s = ap (λ (r : Section × Place). r.0) both in
      let number = (own_number VarU32).at p count.0 count.1 counted.one in
      let all = (own_all pass own count.0).at count.1 tt end passed.one in
      let after : count.1.offset ≡ p.offset + number.used = ap (λ (w : Place). w.offset) number.after in
      let last : end.offset ≡ count.1.offset + all.used = ap (λ (w : Place). w.offset) all.after in
      let there : place (section_between p count end).reader ≡ cut all.used count.1 =
      window_place p count.1 end number.used all.used number.after after last in
      let moved : ItemsOf (ReadsAs view reading) count.0 (cut all.used count.1) given =
      subst (λ (w : Place). ItemsOf (ReadsAs view reading) count.0 w given) there
      (subst (λ (z : Section). ItemsOf (ReadsAs view reading) z.count (place z.reader) given) (sym same) items) in
      let as_counted : AreCounted count.0 given = all_read count.0 all.used count.1 end given passed.one last moved in
      subst (λ (z : Section). AreCounted z.count given) same as_counted

  unmapped : (count : ℕ) (given : List (Result T Error)) → AreCounted count (map item_or_fault given) → AreCounted count given
  unmapped zero [] h = h
  unmapped zero (x ∷ given) h = h
  unmapped (suc count) [] h = h
  unmapped (suc count) (Ok x ∷ given) h = unmapped count given h
  unmapped (suc count) (Err e ∷ given) h = h

  pub announced : (p q : Place) (s : Section) → inner_section_at pass p ≡ Ok (s, q) → GivesAnnounced (NextItem (ReadsAs view reading)) s
  announced p q s e given run = unmapped s.count given (inner_read p q s (map item_or_fault given) e
      ((runs_give_items (ReadsAs view reading) (all_items s)).items refl given run))

-- What was skipped by its own reading can be read.
pub after_follows : {A : Type 0} (reading : Place → Outcome A) → Follows (after_reading reading) reading
after_follows {A} reading = record {
  reads = λ p q e. let s = in_steps (reading p) (λ r. let o : Outcome (Unit {0}) = Ok (tt, r.1) in o)
      (tt, q) e in (
        s.between.0,
        s.one ∙ ap (λ (r : Unit {0} × Place). let o : Outcome A = Ok (s.between.0, r.1) in o)
            (read_as (tt, s.between.1) (tt, q) s.other),
      );
}
