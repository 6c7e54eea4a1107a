-- Items that calls of a cursor store one after the other.
use Rattle.std.proofs.Common.{◌≡◌, ℕ, zero, suc, ◌+◌, ◌<◌, List, [], ◌∷◌, ◌++◌, length, take, drop, Option, Some, None, refl, sym, ap}
use Rattle.std.proofs.Common.{◌∙◌, ◌-◌, ◌≤◌, arith, append_assoc, drop-drop, subst}
use Rattle.std.proofs.Math.ListN.{set}
use Rattle.std.proofs.lemmas.List.{append-nil, drop-set-lt, length-set, length-take-le, take-append-drop, take_more_set}
use Rattle.wasm_c_items.specs.Cursors.{StoresItems, first_then, items_by}

-- So many items were stored, and this many calls more may store one each.
pub record Stored {C T : Type 0} (next : C → Option T × C) (old : C) (before : List T)
    (count left : ℕ) (c : C) (out : List T) : Type 0 where
  pub is_left : count + left ≡ length out
  pub same : length out ≡ length before
  pub rest : drop count out ≡ drop count before
  pub items : (items_by next (length before) old).0 ≡ take count out ++ (items_by next left c).0
  pub cursor : (items_by next (length before) old).1 ≡ (items_by next left c).1

pub starts : {C T : Type 0} (next : C → Option T × C) (c : C) (out : List T)
    → Stored next c out 0 (length out) c out
starts next c out = record { is_left = omega arith; same = refl; rest = refl; items = refl; cursor = refl }

-- a call that returns an item, and the calls after it
more : {C T : Type 0} (next : C → Option T × C) (m : ℕ) (c d : C) (item : T)
    → next c ≡ (Some item, d) → items_by next (suc m) c ≡ (item ∷ (items_by next m d).0, (items_by next m d).1)
more {C} {T} next m c d item e = ap (λ (o : Option T × C). first_then (λ x. items_by next m x) o) e

-- a call that returns none
none : {C T : Type 0} (next : C → Option T × C) (m : ℕ) (c d : C)
    → next c ≡ (None, d) → items_by next (suc m) c ≡ ([], d)
none {C} {T} next m c d e = ap (λ (o : Option T × C). first_then (λ x. items_by next m x) o) e

-- the others after one more
others : {T : Type 0} (n : ℕ) (xs ys : List T) (item : T) → drop n xs ≡ drop n ys
    → drop (n + 1) (set xs n item) ≡ drop (n + 1) ys
others {T} n xs ys item e = drop-set-lt (n + 1) xs n item (omega arith)
    ∙ (sym (drop-drop 1 n xs) ∙ (ap (λ (l : List T). drop 1 l) e ∙ drop-drop 1 n ys))

pub goes_on : {C T : Type 0} (next : C → Option T × C) (old c d : C) (before out : List T)
    (count left : ℕ) (item : T) → next c ≡ (Some item, d) → Stored next old before count (suc left) c out
    → Stored next old before (count + 1) left d (set out count item)
goes_on {C} {T} next old c d before out count left item e s =
    let within : count < length out = omega (arith, s.is_left) in
    record {
      is_left = omega (arith, s.is_left, length-set out count item);
      same = length-set out count item ∙ s.same;
      rest = others count out before item s.rest;
      items = s.items ∙ (ap (λ (x : List T × C). take count out ++ x.0) (more next left c d item e)
          ∙ (sym (append_assoc (take count out) (item ∷ []) (items_by next left d).0)
          ∙ ap (λ (x : List T). x ++ (items_by next left d).0) (sym (take_more_set out count item within))));
      cursor = s.cursor ∙ ap (λ (x : List T × C). x.1) (more next left c d item e);
    }

-- `goes_on`, by the number of unfilled elements
pub goes_on_at : {C T : Type 0} {next : C → Option T × C} {old c d : C} {before out : List T}
    {count : ℕ} {item : T} → next c ≡ (Some item, d) → count < length out
    → Stored next old before count (length out - count) c out
    → Stored next old before (count + 1) (length (set out count item) - (count + 1)) d (set out count item)
goes_on_at {C} {T} {next} {old} {c} {d} {before} {out} {count} {item} e within s =
    let before_it : length out - count ≡ suc (length (set out count item) - (count + 1)) =
    omega (arith, length-set out count item, within) in
    goes_on next old c d before out count (length (set out count item) - (count + 1)) item e
    (subst (λ (n : ℕ). Stored next old before count n c out) before_it s)

-- what was stored is all
stored : {C T : Type 0} (next : C → Option T × C) (old d : C) (before out : List T) (count : ℕ)
    → count ≤ length out → drop count out ≡ drop count before
    → (items_by next (length before) old).0 ≡ take count out → (items_by next (length before) old).1 ≡ d
    → StoresItems next old before count d out
stored {C} {T} next old d before out count within rest items cursor = record {
  items = sym (take-append-drop count out) ∙ (ap (λ (l : List T). take count out ++ l) rest
      ∙ ap (λ (l : List T). l ++ drop count before) (sym items));
  counted = sym (ap (λ (l : List T). length l) items ∙ length-take-le count out within);
  cursor = sym cursor;
}

-- a list that has ended
pub ends : {C T : Type 0} (next : C → Option T × C) (old c d : C) (before out : List T)
    (count left : ℕ) → next c ≡ (None, d) → Stored next old before count (suc left) c out
    → StoresItems next old before count d out
ends {C} {T} next old c d before out count left e s = stored next old d before out count (omega (arith, s.is_left)) s.rest
    (s.items ∙ (ap (λ (x : List T × C). take count out ++ x.0) (none next left c d e) ∙ append-nil (take count out)))
    (s.cursor ∙ ap (λ (x : List T × C). x.1) (none next left c d e))

-- `ends`, by the number of unfilled elements
pub ends_at : {C T : Type 0} (next : C → Option T × C) (old c d : C) (before out : List T) (count : ℕ)
    → next c ≡ (None, d) → count < length out → Stored next old before count (length out - count) c out
    → StoresItems next old before count d out
ends_at {C} {T} next old c d before out count e within s =
    let before_it : length out - count ≡ suc (length out - (count + 1)) = omega (arith, within) in
    ends next old c d before out count (length out - (count + 1)) e
    (subst (λ (n : ℕ). Stored next old before count n c out) before_it s)

-- no room for more
pub is_full : {C T : Type 0} (next : C → Option T × C) (old c : C) (before out : List T)
    (count : ℕ) → Stored next old before count zero c out → StoresItems next old before count c out
is_full next old c before out count s = stored next old c before out count (omega (arith, s.is_left)) s.rest
    (s.items ∙ append-nil (take count out)) s.cursor
