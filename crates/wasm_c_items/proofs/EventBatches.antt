-- Events that calls of a parser store one after the other.
use Rattle.std.proofs.Common.{◌≡◌, ◌∙◌, ◌+◌, ◌-◌, ◌<◌, ◌≤◌, ◌^◌, ◌∷◌, ◌++◌, ℕ, suc, min, Bool, true, false, List, [], length, take, drop}
use Rattle.std.proofs.Common.{nat_eq, refl, sym, ap, arith, append_assoc, drop-drop, subst}
use Rattle.std.proofs.Math.ListN.{set}
use Rattle.std.proofs.lemmas.List.{append-nil, drop-set-lt, length-set, take_more_set}
use Rattle.wasm_frames.specs.ParserState.{ParserState}
use Rattle.wasm_c_items.specs.EventBatches.{OthersFollow, ParsesEach, StoresEvents}
use Rattle.wasm_c_items.specs.Events.{ParsesPlain}
use Rattle.wasm_c_items.specs.declared.events.PlainEvent.{PlainEvent}

-- So many events were stored, and what comes next are all others.
pub record Stored (eof : Bool) (old : ParserState) (bytes : List ℕ) (before : List PlainEvent) (count left at : ℕ) (p : ParserState)
    (rest : List ℕ) (out : List PlainEvent) : Type 0 where
  pub is_left : count + left ≡ length out
  pub same : length out ≡ length before
  pub others : drop count out ≡ drop count before
  pub so_far : (events : List PlainEvent) (new : ParserState) → ParsesEach eof left at p rest events new
      → ParsesEach eof (length before) 0 old bytes (take count out ++ events) new

pub starts : (eof : Bool) (p : ParserState) (bytes : List ℕ) (out : List PlainEvent)
    → Stored eof p bytes out 0 (length out) 0 p bytes out
starts eof p bytes out = record { is_left = omega arith; same = refl; others = refl; so_far = λ events new h. h }

-- the others after one more
others : (n : ℕ) (xs ys : List PlainEvent) (item : PlainEvent) → drop n xs ≡ drop n ys
    → drop (n + 1) (set xs n item) ≡ drop (n + 1) ys
others n xs ys item e = drop-set-lt (n + 1) xs n item (omega arith)
    ∙ (sym (drop-drop 1 n xs) ∙ (ap (λ (l : List PlainEvent). drop 1 l) e ∙ drop-drop 1 n ys))

-- the events so far after one more
more : (count : ℕ) (out events : List PlainEvent) (event : PlainEvent) → count < length out
    → take count out ++ (event ∷ events) ≡ take (count + 1) (set out count event) ++ events
more count out events event within = sym (append_assoc (take count out) (event ∷ []) events)
    ∙ ap (λ (x : List PlainEvent). x ++ events) (sym (take_more_set out count event within))

-- an event that consumed something
pub goes_on : (eof : Bool) (old p q : ParserState) (bytes rest : List ℕ) (before out : List PlainEvent) (count left at : ℕ)
    (event : PlainEvent) → ParsesPlain at p eof rest event q → nat_eq event.consumed 0 ≡ false
    → Stored eof old bytes before count (suc left) at p rest out
    → Stored eof old bytes before (count + 1) left (min (at + event.consumed) (2 ^ 64 - 1)) q (drop event.consumed rest)
    (set out count event)
goes_on eof old p q bytes rest before out count left at event parses some s =
    let within : count < length out = omega (arith, s.is_left) in
    record {
      is_left = omega (arith, s.is_left, length-set out count event);
      same = length-set out count event ∙ s.same;
      others = others count out before event s.others;
      so_far = λ events new h. subst (λ (l : List PlainEvent). ParsesEach eof (length before) 0 old bytes l new)
          (more count out events event within) (s.so_far (event ∷ events) new (record {
            after = q;
            parses = parses;
            then = subst (λ (b : Bool). OthersFollow b events new (λ x. ParsesEach eof left (min (at + event.consumed) (2 ^ 64 - 1)) x
                (drop event.consumed rest) events new) q) (sym some) h;
          }));
    }

-- `goes_on`, by the number of unfilled elements
pub goes_on_at : (eof : Bool) (old p q : ParserState) (bytes rest : List ℕ) (before out : List PlainEvent) (count at : ℕ)
    (event : PlainEvent) → ParsesPlain at p eof rest event q → nat_eq event.consumed 0 ≡ false → count < length out
    → Stored eof old bytes before count (length out - count) at p rest out
    → Stored eof old bytes before (count + 1) (length (set out count event) - (count + 1))
    (min (at + event.consumed) (2 ^ 64 - 1)) q (drop event.consumed rest) (set out count event)
goes_on_at eof old p q bytes rest before out count at event parses some within s =
    let before_it : length out - count ≡ suc (length (set out count event) - (count + 1)) =
    omega (arith, length-set out count event, within) in
    goes_on eof old p q bytes rest before out count (length (set out count event) - (count + 1)) at event parses some
    (subst (λ (n : ℕ). Stored eof old bytes before count n at p rest out) before_it s)

-- an event that consumed nothing
pub ends_at : (eof : Bool) (old p q : ParserState) (bytes rest : List ℕ) (before out : List PlainEvent) (count at : ℕ)
    (event : PlainEvent) → ParsesPlain at p eof rest event q → nat_eq event.consumed 0 ≡ true → count < length out
    → Stored eof old bytes before count (length out - count) at p rest out
    → StoresEvents eof old bytes before (count + 1) q (set out count event)
ends_at eof old p q bytes rest before out count at event parses last within s =
    let left = length out - (count + 1) in
    let one_more : length out - count ≡ suc left = omega (arith, within) in
    record {
      within = omega (arith, within, s.same);
      events = subst (λ (l : List PlainEvent). ParsesEach eof (length before) 0 old bytes l q)
          (more count out [] event within ∙ append-nil (take (count + 1) (set out count event)))
          (s.so_far (event ∷ []) q (subst (λ (n : ℕ). ParsesEach eof n at p rest (event ∷ []) q) (sym one_more) (record {
            after = q;
            parses = parses;
            then = subst (λ (b : Bool). OthersFollow b [] q (λ x. ParsesEach eof left (min (at + event.consumed) (2 ^ 64 - 1)) x
                (drop event.consumed rest) [] q) q) (sym last) (refl, refl);
          })));
      same = length-set out count event ∙ s.same;
      others = others count out before event s.others;
    }

-- no room for more
pub is_full : (eof : Bool) (old p : ParserState) (bytes rest : List ℕ) (before out : List PlainEvent) (count at : ℕ)
    → count ≤ length out → length out ≤ count → Stored eof old bytes before count (length out - count) at p rest out
    → StoresEvents eof old bytes before count p out
is_full eof old p bytes rest before out count at within full s =
    let none : length out - count ≡ 0 = omega (arith, full) in
    record {
      within = omega (arith, within, s.same);
      events = subst (λ (l : List PlainEvent). ParsesEach eof (length before) 0 old bytes l p) (append-nil (take count out))
          (s.so_far [] p (subst (λ (n : ℕ). ParsesEach eof n at p rest [] p) (sym none) refl));
      same = s.same;
      others = s.others;
    }
