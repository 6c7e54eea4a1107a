-- A page of which not all could be written.
use Rattle.std.proofs.Common.{◌≡◌, ℕ, List, [], take, drop, Option, Err, sym, subst}
use Rattle.std.proofs.lemmas.List.{take-append-drop}
use Rattle.std.specs.Io.KnownBytes.{Appends}
use Rattle.wasm_io.specs.Page.{WritesHead, IsCut, WritesOut}
use Rattle.wasm_io.specs.declared.devices.ListError.{ListError}
use Rattle.wasm_io.specs.declared.devices.ListError.TheVariants.{Input, Output, Memory}

-- the first `n` of the bytes that are not written yet
pub first_bytes : (taken written : Option (List ℕ)) (waiting bytes : List ℕ) (n : ℕ) → bytes ≡ waiting
    → Appends taken written (take n bytes) → WritesHead taken written waiting
first_bytes taken written waiting bytes n e a = record {
  moved = take n waiting;
  unwritten = drop n waiting;
  parts = sym (take-append-drop n waiting);
  wrote = subst (λ (x : List ℕ). Appends taken written (take n x)) e a;
}

-- what could not be written out was cut
pub cut_of : (taken written : Option (List ℕ)) (waiting : List ℕ) (e : ListError) → WritesOut taken written waiting [] (Err e)
    → IsCut taken written waiting e
cut_of taken written waiting Output w = w
cut_of taken written waiting Input w = absurd w
cut_of taken written waiting Memory w = absurd w
