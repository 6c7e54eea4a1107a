-- Steps of a run.
use Rattle.std.proofs.Common.{◌≡◌, ℕ, Result, Ok, Err, IfOk, refl, subst}
use Rattle.std.specs.declared.alloc.AllocError.{AllocError}
use Rattle.wasm_commands.specs.Runs.{Allocates, Makes, Run}

-- what was allocated, and that nothing else was done
pub granted : {S A : Type 0} (P : A → Type 0) (made : Result A AllocError) (a : A) (old new : Run S)
    → Allocates made (Ok a) old new → IfOk made P → (new ≡ old) × P a
granted P (Ok b) a old new s p = (s.1, subst P (let is = s.0 in cc) p)
granted P (Err e) a old new s p = absurd (let is = s.answers in cc)

-- the same as one step
pub makes : {S A : Type 0} (has : A → Type 0) (made : Result A AllocError) (result : Result A ℕ) (old new : Run S)
    → Allocates made result old new → IfOk made has → Makes has result old new
makes has (Ok a) result old new s p = rw s.0 (p, s.1)
makes has (Err e) result old new s p = rw s.answers (record { answers = refl; tells = s.tells })
