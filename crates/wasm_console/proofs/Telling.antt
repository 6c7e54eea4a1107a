-- Two texts that are written one after the other.
use Rattle.std.proofs.Common.{◌≡◌, ◌∙◌, ◌++◌, ◌+◌, ◌-◌, ◌≤◌, ◌∷◌, [], ℕ, List, Option, length, take, take_all, drop, get_or, Result}
use Rattle.std.proofs.Common.{Ok, Err, Bor, OnErr, ap, arith, le_refl, refl, subst, sym}
use Rattle.std.proofs.lemmas.List.{append_assoc, take-append-drop}
use Rattle.std.proofs.Math.Seq.{take-append_seam, take-append-add}
use Rattle.std.proofs.KnownBytes.{Appends-trans}
use Rattle.std.specs.Io.KnownBytes.{Appends}
use Rattle.wasm_console.specs.Messages.{joined}
use Rattle.wasm_io.specs.declared.devices.Failed.{Failed}

-- the start of a text is the start of it and another
start_of : (n : ℕ) (first second : List ℕ) → take (length (take n first)) (first ++ second) ≡ take n first
start_of n first second =
    ap (take (length (take n first))) (ap (λ (x : List ℕ). x ++ second) (sym (take-append-drop n first))
    ∙ append_assoc (take n first) (drop n first) second) ∙ take-append_seam (take n first) (drop n first ++ second)

pub first_cut : (r : Result (Unit {0}) Failed) (a b : Option (List ℕ)) (first second : List ℕ) → (n : ℕ) × Appends a b (take n first)
    → OnErr r ((n : ℕ) × Appends a b (take n (first ++ second)))
first_cut (Ok done) a b first second p = tt
first_cut (Err e) a b first second (n, p) = (length (take n first), subst (Appends a b) (sym (start_of n first second)) p)

pub second_cut : (r : Result (Unit {0}) Failed) (a b c : Option (List ℕ)) (first second : List ℕ) → Appends a b first
    → OnErr r ((n : ℕ) × Appends b c (take n second)) → OnErr r ((n : ℕ) × Appends a c (take n (first ++ second)))
second_cut (Ok done) a b c first second w p = tt
second_cut (Err e) a b c first second w (n, p) = (
  length first + n,
  subst (Appends a c) (sym (take-append-add first second n)) (Appends-trans a b c first (take n second) w p),
)

-- texts are the first one and the later ones
joined_front : (rest : List (Bor (List ℕ))) (d : Bor (List ℕ)) → 1 ≤ length rest
    → joined rest ≡ (get_or rest 0 d).now ++ joined (take (length rest - 1) (drop 1 rest))
joined_front [] d some = absurd (omega (arith, some))
joined_front (part ∷ later) d some =
    let one : length (part ∷ later) - 1 ≡ length later = omega arith in
    rw (one, take_all (length later) later (le_refl (length later))) refl

-- Some of the texts were written, and these are left.
module _ (a b c : Option (List ℕ)) (all written : List ℕ) (rest : List (Bor (List ℕ))) (d : Bor (List ℕ)) (some : 1 ≤ length rest)
    (parts : all ≡ written ++ joined rest) (wrote : Appends a b written) where
  abbrev pub later : List (Bor (List ℕ))
  later = take (length rest - 1) (drop 1 rest)

  -- and the next one
  pub one_more : all ≡ (written ++ (get_or rest 0 d).now) ++ joined later
  one_more = parts ∙ (ap (λ (x : List ℕ). written ++ x) (joined_front rest d some)
      ∙ sym (append_assoc written (get_or rest 0 d).now (joined later)))

  pub wrote_more : Appends b c (get_or rest 0 d).now → Appends a c (written ++ (get_or rest 0 d).now)
  wrote_more p = Appends-trans a b c written (get_or rest 0 d).now wrote p

  -- but a prefix of the next one
  pub cut_within : (r : Result (Unit {0}) Failed) → (n : ℕ) × Appends b c (take n (get_or rest 0 d).now)
      → OnErr r ((n : ℕ) × Appends a c (take n all))
  cut_within r cut = subst (λ (x : List ℕ). OnErr r ((n : ℕ) × Appends a c (take n x)))
      (sym (parts ∙ ap (λ (x : List ℕ). written ++ x) (joined_front rest d some)))
      (second_cut r a b c written ((get_or rest 0 d).now ++ joined later) wrote
      (first_cut r b c (get_or rest 0 d).now (joined later) cut))
