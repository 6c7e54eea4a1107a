-- The arguments of a program.
use Rattle.std.specs.Prelude.{◌≡◌, ℕ, Bool, true, false, List, [], drop, map, string_bytes, Result, Ok, Err}
use Rattle.std.specs.IoError.{error_kind}
use Rattle.std.specs.declared.io.Error.{Error}
use Rattle.std.specs.declared.io.ErrorKind.{ErrorKind}
use Rattle.std.specs.declared.io.ErrorKind.TheVariants.{InvalidData}
use Rattle.wasm_console.specs.declared.arguments.Given.{Given}
use Rattle.wasm_console.specs.declared.arguments.Given.TheVariants.{Words, NotUtf8, Nothing}

-- whether one of the arguments is not valid UTF-8, so that there are none
abbrev pub is_not_utf8 : ErrorKind → Bool
is_not_utf8 InvalidData = true
is_not_utf8 _ = false

-- These are the arguments after the program's own name.
abbrev pub AreWords : {A : Type 0} → (A → List (List ℕ)) → Result A Error → List (List ℕ) → Type 0
AreWords words (Ok arguments) given = given ≡ drop 1 (words arguments)
AreWords words (Err e) given = ⊥

-- The arguments could not be had since one of them is not UTF-8.
abbrev pub IsNotUtf8 : {A : Type 0} → Result A Error → Type 0
IsNotUtf8 (Ok arguments) = ⊥
IsNotUtf8 (Err e) = is_not_utf8 (error_kind e) ≡ true

-- An allocation may fail where the arguments are fetched, or stored.
abbrev pub WantsMemory : {A : Type 0} → (A → List (List ℕ)) → Result A Error → Type 0
WantsMemory words (Ok arguments) = ¬ (drop 1 (words arguments) ≡ [])
WantsMemory words (Err e) = is_not_utf8 (error_kind e) ≡ false

-- | the arguments of a program: those after its name, that one is not valid UTF-8, or that an allocation failed
--   [`AreWords`, `IsNotUtf8`, `WantsMemory`]
-- What was stored are the arguments, unless an allocation failed.
abbrev pub IsGiven : {A : Type 0} → (A → List (List ℕ)) → Result A Error → Given → Type 0
IsGiven words arguments (Words stored) = AreWords words arguments (map string_bytes stored.items)
IsGiven words arguments NotUtf8 = IsNotUtf8 arguments
IsGiven words arguments Nothing = WantsMemory words arguments
