-- The bytes that a reading consumed are read as the same wherever they are copied to, by readers whose features agree in some way.
use Rattle.std.proofs.Common.{◌≡◌, ℕ, ◌+◌, Bool, true, false, cond, List, [], ◌++◌, length}
use Rattle.std.proofs.Common.{arith, ap, sym, ◌∙◌, Ok, Err, refl, subst, append_assoc, length-append}
use Rattle.wasm_base.proofs.OwnBytes.{same_read}
use Rattle.wasm_base.specs.FaultAt.{FaultAt}
use Rattle.wasm_base.specs.Outcome.{Outcome, ◌>>=◌}
use Rattle.wasm_base.specs.Window.{Place}
use Rattle.wasm_encode.specs.ReadsBack.{spot}
use Rattle.wasm_encode.proofs.Readings.{Reads, reads_then, reads_nothing}

-- What was read by a reading that knows a start: the bytes that it consumed are read as the same from every start.
pub record Moved {A : Type 0} (Kept : ℕ → ℕ → Type 0) (reading : ℕ → Place → Outcome A) (f o : ℕ) (bytes : List ℕ) (x : A) (q : Place)
    : Type 0 where
  pub taken : List ℕ
  pub rest : List ℕ
  pub split : bytes ≡ taken ++ rest
  pub after : q ≡ spot f (o + length taken) rest
  pub reads : (start g : ℕ) → Kept f g → Reads (reading start) g x taken

pub record Moves {A : Type 0} (Kept : ℕ → ℕ → Type 0) (reading : ℕ → Place → Outcome A) : Type 0 where
  pub at : (start f o : ℕ) (bytes : List ℕ) (x : A) (q : Place) → reading start (spot f o bytes) ≡ Ok (x, q)
      → Moved Kept reading f o bytes x q

-- the same for readers with any features
abbrev pub Any : (f g : ℕ) → Type 0
Any f g = Unit {0}

abbrev pub Copies : {A : Type 0} → (ℕ → Place → Outcome A) → Type 0
Copies reading = Moves Any reading

module _ {Kept : ℕ → ℕ → Type 0} where
  -- What is so for any features is so for these.
  pub moves : {A : Type 0} {reading : ℕ → Place → Outcome A} → Copies reading → Moves Kept reading
  moves c = record {
    at = λ s f o bytes x q e.
        let a = c.at s f o bytes x q e in
        record { taken = a.taken; rest = a.rest; split = a.split; after = a.after; reads = λ t g k. a.reads t g tt };
  }

  pub nothing : {A : Type 0} (x : A) → Moves Kept (λ s p. Ok (x, p))
  nothing x = record {
    at = λ s f o bytes y q e. let z = same_read x y (spot f o bytes) q e in record {
      taken = [];
      rest = bytes;
      split = refl;
      after = sym z.1 ∙ (let k : o ≡ o + 0 = omega arith in ap (λ (j : ℕ). spot f j bytes) k);
      reads = λ t g k. subst (λ z. Reads (λ p. Ok (x, p)) g z []) z.0 (reads_nothing g x);
    };
  }

  pub fails : {A : Type 0} (fault : ℕ → FaultAt) → Moves {A = A} Kept (λ s p. Err (fault s))
  fails fault = record { at = λ s f o bytes x q e. absurd (let z = e in cc) }

  pub in_turn : {A B : Type 0} (first : ℕ → Place → Outcome A) (next : ℕ → A → Place → Outcome B) → Moves Kept first
      → ((a : A) → Moves Kept (λ s. next s a)) → Moves Kept (λ s p. first s p >>= λ r. next s r.0 r.1)
  in_turn {A} {B} first next one two = record { at = λ s f o bytes x q e. by s f o bytes x q (first s (spot f o bytes)) refl e }
    where
      by : (s f o : ℕ) (bytes : List ℕ) (x : B) (q : Place) (r : Outcome A) → first s (spot f o bytes) ≡ r
          → (r >>= λ z. next s z.0 z.1) ≡ Ok (x, q) → Moved Kept (λ s p. first s p >>= λ z. next s z.0 z.1) f o bytes x q
      by s f o bytes x q (Err g) is e = cc
      by s f o bytes x q (Ok r) is e =
          let a = one.at s f o bytes r.0 r.1 is in
          let there : next s r.0 (spot f (o + length a.taken) a.rest) ≡ Ok (x, q) =
          subst (λ (p : Place). next s r.0 p ≡ Ok (x, q)) a.after e in
          let b = (two r.0).at s f (o + length a.taken) a.rest x q there in
          let n : o + length a.taken + length b.taken ≡ o + length (a.taken ++ b.taken) = omega (arith, length-append a.taken b.taken) in
          record {
            taken = a.taken ++ b.taken;
            rest = b.rest;
            split = a.split ∙ (ap (λ (bs : List ℕ). a.taken ++ bs) b.split ∙ sym (append_assoc a.taken b.taken b.rest));
            after = b.after ∙ ap (λ (k : ℕ). spot f k b.rest) n;
            reads = λ t g k. reads_then (first t) (next t) g r.0 x a.taken b.taken (a.reads t g k) (b.reads t g k);
          }

  pub either : {A : Type 0} (b : Bool) (f g : ℕ → Place → Outcome A) → Moves Kept f → Moves Kept g
      → Moves Kept (λ s p. cond b (f s p) (g s p))
  either true f g one other = one
  either false f g one other = other

  -- a reading that starts here
  pub here : {A : Type 0} (reading : ℕ → Place → Outcome A) → Moves Kept reading → Moves Kept (λ s p. reading p.offset p)
  here reading one = record {
    at = λ s f o bytes x q e.
        let a = one.at o f o bytes x q e in
        record {
          taken = a.taken;
          rest = a.rest;
          split = a.split;
          after = a.after;
          reads = λ t g k. record { at = λ p later. (a.reads p g k).at p later };
        };
  }
