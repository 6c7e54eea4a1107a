-- Reading a source to its end.
use Rattle.std.proofs.Common.{◌≡◌, ℕ, List, ◌++◌, Option, Vec, Result, Err, sym, subst}
use Rattle.std.specs.Io.KnownBytes.{Consumes}
use Rattle.std.proofs.KnownBytes.{Consumes-kept, Consumes-trans}
use Rattle.wasm_io.specs.declared.devices.ListError.{ListError}
use Rattle.wasm_io.specs.declared.devices.ListError.TheVariants.{Input, Output, Memory}
use Rattle.wasm_console.specs.Strips.{ReadsPiece, ReadsAll}

refused : (A : Type 0) (source mid rest : Option (List ℕ)) (given before after : List ℕ) (why : ListError) → Consumes source mid given
    → ReadsPiece mid rest before (Err why) after → ReadsAll {A = A} source rest (Err why)
refused A source mid rest given before after Input g r = (given, Consumes-kept source mid rest given g r)
refused A source mid rest given before after Memory g (piece, r) = (given ++ piece, Consumes-trans source mid rest given piece g r)
refused A source mid rest given before after Output g r = absurd r

-- a read after others failed
pub given_up : {A : Type 0} (source mid rest : Option (List ℕ)) (given before after : List ℕ) (why : ListError) → Consumes source mid given
    → ReadsPiece mid rest before (Err why) after
    → (r : Result (Vec ℕ A) ListError) → r ≡ Err why → ReadsAll source rest r
given_up {A} source mid rest given before after why g p r e = subst (λ (x : Result (Vec ℕ A) ListError). ReadsAll source rest x) (sym e)
    (refused A source mid rest given before after why g p)
