-- What becomes of bytes that wait to be written.
use Rattle.std.specs.Prelude.{◌≡◌, ℕ, List, [], ◌++◌, Option, Result, Ok, Err}
use Rattle.std.specs.Io.KnownBytes.{Appends}
use Rattle.wasm_io.specs.declared.devices.ListError.{ListError}
use Rattle.wasm_io.specs.declared.devices.ListError.TheVariants.{Input, Output, Memory}

-- A sink received a prefix of these bytes, and the others are unwritten.
pub record WritesHead (taken written : Option (List ℕ)) (bytes : List ℕ) : Type 0 where
  pub moved : List ℕ
  pub unwritten : List ℕ
  pub parts : bytes ≡ moved ++ unwritten
  pub wrote : Appends taken written moved

-- A page was abandoned, since the sink or an allocation failed: a prefix of the waiting bytes was written.
abbrev pub IsCut : (taken written : Option (List ℕ)) (waiting : List ℕ) → ListError → Type 0
IsCut taken written waiting Output = WritesHead taken written waiting
IsCut taken written waiting Memory = WritesHead taken written waiting
IsCut taken written waiting Input = ⊥

-- | bytes that wait to be written: all were, or the sink failed at some; others were put after them, or the sink or
--   an allocation failed; a sink received a prefix of bytes [`Puts`, `IsCut`, `WritesHead`]
-- All bytes that waited were written; or the sink failed, and no growth was asked for.
abbrev pub WritesOut : (taken written : Option (List ℕ)) (waiting new : List ℕ) → Result (Unit {0}) ListError → Type 0
WritesOut taken written waiting new (Ok done) = Appends taken written waiting × (new ≡ [])
WritesOut taken written waiting new (Err Output) = WritesHead taken written waiting
WritesOut taken written waiting new (Err Input) = ⊥
WritesOut taken written waiting new (Err Memory) = ⊥

-- Some bytes were written, and those that now wait are the others and the new ones.
pub record PutsBytes (taken written : Option (List ℕ)) (waiting bytes new : List ℕ) : Type 0 where
  pub moved : List ℕ
  pub writes : Appends taken written moved
  pub waits : waiting ++ bytes ≡ moved ++ new

-- Bytes were put after those that waited.
abbrev pub Puts : (taken written : Option (List ℕ)) (waiting bytes new : List ℕ) → Result (Unit {0}) ListError → Type 0
Puts taken written waiting bytes new (Ok done) = PutsBytes taken written waiting bytes new
Puts taken written waiting bytes new (Err e) = IsCut taken written waiting e
