-- Texts of faults.
use Rattle.std.specs.Prelude.{◌≡◌, ◌≢◌, ℕ, ◌++◌, Bool, List, length, take, drop}
use Rattle.wasm_base.specs.Message.{message_of}
use Rattle.wasm_base.specs.declared.fault.Fault.{Fault}
use Rattle.wasm_frames.specs.Answer.{Answer, GivesAnswer, refuses}
use Rattle.wasm_frames.specs.ParserState.{ParserState}
use Rattle.wasm_c_items.specs.Faults.{fault_code}

-- | the first bytes of a text over others; the text of a fault, and of the fault that has a number [`SaysText`,
--   `Says`, `SaysMessage`]
-- these bytes, the first of them overwritten with a prefix of a text
abbrev pub written_over : (text old : List ℕ) → List ℕ
written_over text old = take (length old) text ++ drop (length text) old

-- This text was written, of this many bytes.
abbrev pub SaysText : (text old : List ℕ) (size : ℕ) (new : List ℕ) → Type 0
SaysText text old size new = (size ≡ length text) × (new ≡ written_over text old)

-- Nothing was written.
abbrev pub SaysNothing : (old : List ℕ) (size : ℕ) (new : List ℕ) → Type 0
SaysNothing old size new = (size ≡ 0) × (new ≡ old)

-- A fault's text was written; for any other result, nothing.
abbrev pub Says : Answer → (old : List ℕ) (size : ℕ) (new : List ℕ) → Type 0
Says (refuses f) old size new = SaysText (message_of f.fault) old size new
Says other old size new = SaysNothing old size new

-- The text of the fault that has this number was written; where no fault has it, nothing.
pub record SaysMessage (kind : ℕ) (old : List ℕ) (size : ℕ) (new : List ℕ) : Type 0 where
  pub of : (f : Fault) → fault_code f ≡ kind → SaysText (message_of f) old size new
  pub none : ((f : Fault) → fault_code f ≢ kind) → SaysNothing old size new

-- The text of the fault that a parser returns here was written, or nothing.
pub record SaysFault (p : ParserState) (eof : Bool) (bytes old : List ℕ) (size : ℕ) (new : List ℕ)
    : Type 0 where
  pub answer : Answer
  pub after : ParserState
  pub answers : GivesAnswer p eof bytes answer after
  pub says : Says answer old size new
