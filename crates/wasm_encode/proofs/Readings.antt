-- Readings of bytes that encode a value, and how they are put together.
use Rattle.std.proofs.Common.{◌≡◌, ℕ, ◌+◌, Bool, true, false, cond, List, [], ◌∷◌, ◌++◌, length, arith, ap, ◌∙◌, Ok, Err}
use Rattle.std.proofs.Common.{refl, append_assoc, length-append, nat_lt, ◌≤◌}
use Rattle.std.proofs.lemmas.Bool.{le-ltb}
use Rattle.wasm_base.specs.FaultAt.{FaultAt}
use Rattle.wasm_base.specs.Item.{ReadsAs}
use Rattle.wasm_base.specs.Name.{byte_at}
use Rattle.wasm_base.specs.Outcome.{Outcome, ◌>>=◌}
use Rattle.wasm_base.specs.Window.{Place}
use Rattle.wasm_encode.specs.ReadsBack.{spot, Encodes}

-- These bytes are read as this value, wherever they are and whatever comes after them, and reading consumes exactly them.
pub record Reads {A : Type 0} (reading : Place → Outcome A) (features : ℕ) (value : A) (bytes : List ℕ) : Type 0 where
  pub at : (offset : ℕ) (later : List ℕ) → reading (spot features offset (bytes ++ later))
      ≡ Ok (value, spot features (offset + length bytes) later)

-- the same value at places that are the same
pub same_spot : {A : Type 0} (features m n : ℕ) (value : A) (later : List ℕ) → m ≡ n
    → (let o : Outcome A = Ok (value, spot features m later) in o) ≡ Ok (value, spot features n later)
same_spot features m n value later e = ap (λ (k : ℕ). Ok (value, spot features k later)) e

-- no bytes
pub reads_nothing : {A : Type 0} (features : ℕ) (value : A) → Reads (λ p. Ok (value, p)) features value []
reads_nothing features value = record { at = λ offset later. same_spot features offset (offset + 0) value later (omega arith) }

pub reads_byte : (features byte : ℕ) → Reads byte_at features byte (byte ∷ [])
reads_byte features byte = record { at = λ offset later. refl }

-- one reading and then another
pub reads_then : {A B : Type 0} (first : Place → Outcome A) (next : A → Place → Outcome B) (features : ℕ) (x : A) (y : B)
    (bytes more : List ℕ)
    → Reads first features x bytes → Reads (next x) features y more
    → Reads (λ p. first p >>= λ r. next r.0 r.1) features y (bytes ++ more)
reads_then {A} {B} first next features x y bytes more one two = record {
  at = λ offset later.
      let e : offset + length bytes + length more ≡ offset + length (bytes ++ more) = omega (arith, length-append bytes more) in
      rw (append_assoc bytes more later, one.at offset (more ++ later))
      (two.at (offset + length bytes) later
      ∙ same_spot features (offset + length bytes + length more) (offset + length (bytes ++ more)) y later e);
}

-- one reading, and a value made of what it read
pub reads_as : {A B : Type 0} (reading : Place → Outcome A) (make : A → B) (features : ℕ) (x : A) (bytes : List ℕ)
    → Reads reading features x bytes → Reads (λ p. reading p >>= λ r. Ok (make r.0, r.1)) features (make x) bytes
reads_as reading make features x bytes one = record { at = λ offset later. rw (one.at offset later) refl }

pub reads_cond : {A : Type 0} (test : Bool) (f g : Place → Outcome A) (features : ℕ) (x : A) (bytes : List ℕ)
    → Reads (cond test f g) features x bytes
    → Reads (λ p. cond test (f p) (g p)) features x bytes
reads_cond true f g features x bytes r = r
reads_cond false f g features x bytes r = r

-- a byte of flags, which is at most a number, and what follows it
pub reads_flags : {A : Type 0} (most : ℕ) (fault : Place → FaultAt) (next : Place → ℕ → Place → Outcome A) (features flags : ℕ) (x : A)
    (bytes : List ℕ) → flags ≤ most → ((q : Place) → Reads (next q flags) features x bytes)
    → Reads (λ q. byte_at q >>= λ b. cond (nat_lt most b.0) (Err (fault q)) (next q b.0 b.1)) features x (flags ∷ bytes)
reads_flags most fault next features flags x bytes h r = record {
  at = λ offset later.
      let e : offset + 1 + length bytes ≡ offset + length (flags ∷ bytes) = omega arith in
      rw (le-ltb most flags h) ((r (spot features offset (flags ∷ (bytes ++ later)))).at (offset + 1) later
      ∙ same_spot features (offset + 1 + length bytes) (offset + length (flags ∷ bytes)) x later e);
}

-- what is read of these bytes is the item, as far as its view goes
pub encodes_so : {X Y : Type 0} (view : X → Y) (reading : Place → Outcome Y) (features : ℕ) (x : X) (bytes : List ℕ)
    → Reads reading features (view x) bytes → Encodes (ReadsAs view reading) features (λ (offset : ℕ). x) bytes
encodes_so view reading features x bytes r = record { read = r.at }
