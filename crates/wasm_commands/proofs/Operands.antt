-- Operands of commands.
use Rattle.std.proofs.Common.{◌≡◌, ℕ, ◌<◌, ◌≤◌, codes, [], ◌∷◌, List, length, get_or, Err, ap, arith}
use Rattle.std.specs.Borrow.{Bor}
use Rattle.wasm_commands.specs.Messages.{complaint_text}
use Rattle.wasm_commands.specs.Parsing.{texts}
use Rattle.wasm_commands.specs.RewriteCommands.{TakesOnly, TakesNamed}
use Rattle.wasm_commands.specs.Runs.{Run, Tells}
use Rattle.wasm_commands.specs.declared.messages.Complaint.TheVariants.{Extra}
use Rattle.wasm_commands.specs.declared.options.Verb.{Verb}
use Rattle.wasm_commands.specs.declared.options.Verb.TheVariants.{Extract}
use Rattle.wasm_commands.specs.Messages.{about_word}

-- a second file
pub takes_extra : {S : Type 0} (verb : Verb) (operands : List (Bor (List ℕ))) (d : Bor (List ℕ)) (status : ℕ) (old new : Run S)
    → 2 ≤ length operands → status ≡ 2 → Tells (complaint_text (Extra verb (get_or operands 1 d))) old new
    → TakesOnly verb (texts operands) (Err status) old new
takes_extra verb [] d status old new some is told = absurd (omega (arith, some))
takes_extra verb (name ∷ []) d status old new some is told = absurd (omega (arith, some))
takes_extra verb (name ∷ (extra ∷ more)) d status old new some is told = record { answers = ap Err is; tells = told }

-- `extract` without the name of a section, and with a second file
module _ {S : Type 0} (operands : List (Bor (List ℕ))) (status : ℕ) (old new : Run S) (is : status ≡ 2) where
  pub takes_none : length operands < 1 → Tells (about_word Extract (codes "needs ") (codes "NAME") []) old new
      → TakesNamed (texts operands) (Err status) old new
  takes_none = by_cases operands
    where
      by_cases : (xs : List (Bor (List ℕ))) → length xs < 1 → Tells (about_word Extract (codes "needs ") (codes "NAME") []) old new
          → TakesNamed (texts xs) (Err status) old new
      by_cases [] none told = record { answers = ap Err is; tells = told }
      by_cases (x ∷ xs) none told = absurd (omega (arith, none))

  pub takes_third : (d : Bor (List ℕ)) → 3 ≤ length operands
      → Tells (complaint_text (Extra Extract (get_or operands 2 d))) old new → TakesNamed (texts operands) (Err status) old new
  takes_third d = by_cases operands
    where
      by_cases : (xs : List (Bor (List ℕ))) → 3 ≤ length xs → Tells (complaint_text (Extra Extract (get_or xs 2 d))) old new
          → TakesNamed (texts xs) (Err status) old new
      by_cases [] some told = absurd (omega (arith, some))
      by_cases (x ∷ []) some told = absurd (omega (arith, some))
      by_cases (x ∷ (y ∷ [])) some told = absurd (omega (arith, some))
      by_cases (x ∷ (y ∷ (z ∷ more))) some told = record { answers = ap Err is; tells = told }
