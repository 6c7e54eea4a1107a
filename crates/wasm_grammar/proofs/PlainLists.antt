-- Laws of lists, whatever they hold.
use Rattle.wasm_grammar.proofs.Common.{arith, ◌≡◌, ◌⊎◌, inl, inr, Bool, true, false, cond, List, [], ◌∷◌, ◌++◌, refl, ap, and_parts}
use Rattle.wasm_grammar.proofs.Common.{and_from, All-nil, All-cons, All-head, All-tail, All, Any, filter, list_all, list_any}
use Rattle.std.proofs.Common.{slice_index_or}
use Rattle.std.proofs.lemmas.Bool.{or_parts}
use Rattle.std.proofs.lemmas.List.Folds.{Any-from_list_any, list_any-from_Any}

module _ {X : Type 0} where
  -- a test that each element passes says something of each
  pub all_of : (p : X → Bool) (P : X → Type 0) → ((x : X) → p x ≡ true → P x) → (xs : List X) → list_all p xs ≡ true → All P xs
  all_of p P h [] e = All-nil P
  all_of p P h (x ∷ xs) e =
      let q : ((p x ≡ true) × (list_all p xs ≡ true)) = and_parts (p x) (list_all p xs) e in
      All-cons P x xs (h x q.0) (all_of p P h xs q.1)

  -- each element passes a test for what is said of each
  pub all_to : (p : X → Bool) (P : X → Type 0) → ((x : X) → P x → p x ≡ true) → (xs : List X) → All P xs → list_all p xs ≡ true
  all_to p P h [] a = refl
  all_to p P h (x ∷ xs) a = and_from (p x) (list_all p xs) (h x (All-head P x xs a)) (all_to p P h xs (All-tail P x xs a))

  -- a test that an element passes says something of one
  pub any_of : (p : X → Bool) (P : X → Type 0) → ((x : X) → p x ≡ true → P x) → (xs : List X) → list_any p xs ≡ true → Any P xs
  any_of p P h xs e =
      let a : Any (λ x. p x ≡ true) xs = Any-from_list_any p xs e in
      (a.0, a.1, a.2, a.3, h a.1 a.4)

  -- an element passes a test for what is said of one
  pub any_to : (p : X → Bool) (P : X → Type 0) → ((x : X) → P x → p x ≡ true) → (xs : List X) → Any P xs → list_any p xs ≡ true
  any_to p P h xs a = list_any-from_Any p xs (a.0, a.1, a.2, a.3, h a.1 a.4)

  -- what holds of each holds of each of the first
  pub all_prefix : (P : X → Type 0) (xs ys : List X) → All P (xs ++ ys) → All P xs
  all_prefix P [] ys a = All-nil P
  all_prefix P (x ∷ xs) ys a = All-cons P x xs (All-head P x (xs ++ ys) a) (all_prefix P xs ys (All-tail P x (xs ++ ys) a))

  -- what holds of any holds of each of a list
  pub each_of : (P : X → Type 0) → ((x : X) → P x) → (xs : List X) → All P xs
  each_of P h xs = λ k d l. h (slice_index_or xs k d)

  -- a test that the elements which go don't pass
  abbrev pub Spares : (p q : X → Bool) → X → Type 0
  Spares p q x = p x ≡ true → q x ≡ true

  -- where two tests of which the second spares the first are made, the first decides
  filter_step : (p q : X → Bool) (x : X) (xs : List X) → Spares p q x → filter p (filter q xs) ≡ filter p xs → (b c : Bool) → p x ≡ b → q x
      ≡ c
      → filter p (cond c (x ∷ filter q xs) (filter q xs)) ≡ cond b (x ∷ filter p xs) (filter p xs)
  filter_step p q x xs e f b c g h = grind arith

  pub filter_twice : (p q : X → Bool) (xs : List X) → All (Spares p q) xs → filter p (filter q xs) ≡ filter p xs
  filter_twice p q [] a = refl
  filter_twice p q (x ∷ xs) a = filter_step p q x xs (All-head (Spares p q) x xs a) (filter_twice p q xs (All-tail (Spares p q) x xs a))
      (p x) (q x) refl refl

  -- a test that no element passes says something of each
  pub none_of : (p : X → Bool) (P : X → Type 0) → ((x : X) → p x ≡ false → P x) → (xs : List X) → list_any p xs ≡ false → All P xs
  none_of p P h [] e = All-nil P
  none_of p P h (x ∷ xs) e =
      let q : ((p x ≡ false) × (list_any p xs ≡ false)) = or_parts (p x) (list_any p xs) e in
      All-cons P x xs (h x q.0) (none_of p P h xs q.1)

  -- where one list's last element is, or an earlier one, in another list
  pub split_last : (xs earlier later : List X) (x y : X) → xs ++ x ∷ [] ≡ earlier ++ y ∷ later
      → ((earlier ≡ xs) × (y ≡ x)) ⊎ ((more : List X) × (xs ≡ earlier ++ y ∷ more))
  split_last [] [] later x y e = inl (refl, cc)
  split_last [] (z ∷ []) later x y e = let q : [] ≡ y ∷ later = cc in cc
  split_last [] (z ∷ w ∷ earlier) later x y e = let q : [] ≡ w ∷ earlier ++ y ∷ later = cc in cc
  split_last (z ∷ xs) [] later x y e = let q : z ≡ y = cc in inr (xs, ap (λ (w : X). w ∷ xs) q)
  split_last (z ∷ xs) (w ∷ earlier) later x y e =
      let h : z ≡ w = cc in
      let t : xs ++ x ∷ [] ≡ earlier ++ y ∷ later = cc in
      split_step z w xs earlier x y h (split_last xs earlier later x y t)
    where
      split_step : (z w : X) (xs earlier : List X) (x y : X) → z ≡ w → ((earlier ≡ xs) × (y ≡ x))
          ⊎ ((more : List X) × (xs ≡ earlier ++ y ∷ more))
          → ((w ∷ earlier ≡ z ∷ xs) × (y ≡ x)) ⊎ ((more : List X) × (z ∷ xs ≡ w ∷ earlier ++ y ∷ more))
      split_step z w xs earlier x y h (inl a) = let b : earlier ≡ xs = a.0 in inl (cc, a.1)
      split_step z w xs earlier x y h (inr a) = let b : xs ≡ earlier ++ y ∷ a.0 = a.1 in inr (a.0, cc)
