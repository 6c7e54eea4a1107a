-- What is done with an input that is stripped, and can be read only once.
use Rattle.std.specs.Prelude.{◌≡◌, ◌⊎◌, ℕ, ◌<◌, Bool, true, false, List, [], ◌++◌, length, codes, take, Option}
use Rattle.std.specs.Prelude.{Vec, Result, Ok, Err}
use Rattle.std.specs.Io.KnownBytes.{Appends, Consumes, IsAtEnd, Keeps}
use Rattle.wasm_base.specs.FaultAt.{FaultAt, fault_at}
use Rattle.wasm_base.specs.Message.{error_text}
use Rattle.wasm_base.specs.declared.error.Error.{Error}
use Rattle.wasm_grammar.specs.Accepted.{IsAccepted}
use Rattle.wasm_io.specs.Calls.{input_failed, output_failed, Device}
use Rattle.wasm_edits.specs.Stripped.{IsStripped, EndsWithFault}
use Rattle.wasm_streams.specs.declared.turns.Ended.{Ended}
use Rattle.wasm_streams.specs.declared.turns.Ended.TheVariants.{End, Fault}
use Rattle.wasm_io.specs.declared.devices.ListError.{ListError}
use Rattle.wasm_io.specs.declared.devices.ListError.TheVariants.{Input, Output, Memory}
use Rattle.wasm_io.specs.Messages.{Says}
use Rattle.wasm_console.specs.Devices.{IsUntouched}
use Rattle.wasm_console.specs.Endings.{GivesUpAs}

-- what one read gave, which was put after the bytes before; nothing at the end of the source
abbrev pub ReadsPiece : (source rest : Option (List ℕ)) (before : List ℕ) → Result Bool ListError → (after : List ℕ)
    → Type 0
ReadsPiece source rest before (Ok true) after =
    (piece : List ℕ) × Consumes source rest piece × (0 < length piece) × (after ≡ before ++ piece)
ReadsPiece source rest before (Ok false) after = Consumes source rest [] × IsAtEnd rest × (after ≡ before)
ReadsPiece source rest before (Err Input) after = Keeps source rest
ReadsPiece source rest before (Err Memory) after = (piece : List ℕ) × Consumes source rest piece
ReadsPiece source rest before (Err Output) after = ⊥

-- what the source gave: all that it had left, or some of it before it failed or an allocation did
abbrev pub ReadsAll : {A : Type 0} → (source rest : Option (List ℕ)) → Result (Vec ℕ A) ListError → Type 0
ReadsAll source rest (Ok bytes) = Consumes source rest bytes.items × IsAtEnd rest
ReadsAll source rest (Err Input) = (given : List ℕ) × Consumes source rest given
ReadsAll source rest (Err Memory) = (given : List ℕ) × Consumes source rest given
ReadsAll source rest (Err Output) = ⊥

-- The stream without the sections that do not stay was written, as far as the output took it; nothing of a stream that
-- isn't accepted, whose reading ends with this fault.
abbrev pub WritesStripped : (keeps : List ℕ → Bool) (stream : List ℕ) (taken written : Option (List ℕ))
    → Result Ended ListError → Type 0
WritesStripped keeps stream taken written (Ok End) =
    (kept : List ℕ) × IsStripped keeps stream kept × Appends taken written kept
WritesStripped keeps stream taken written (Ok (Fault e)) =
    (¬ IsAccepted stream) × EndsWithFault stream e × (written ≡ taken)
WritesStripped keeps stream taken written (Err Output) =
    (kept : List ℕ) × IsStripped keeps stream kept × (n : ℕ) × Appends taken written (take n kept)
WritesStripped keeps stream taken written (Err Input) = ⊥
WritesStripped keeps stream taken written (Err Memory) = ⊥

-- The source gave all that it had left, which was stripped.
pub record StripsAll (keeps : List ℕ → Bool) (input output : Device) (how : Result Ended ListError) : Type 0 where
  pub given : List ℕ
  pub gave : Consumes input.before input.after given
  pub at_end : IsAtEnd input.after
  pub writes : WritesStripped keeps given output.before output.after how

-- The source failed, or an allocation for what it gave: nothing was written.
pub record CannotRead (input output : Device) : Type 0 where
  pub given : List ℕ
  pub gave : Consumes input.before input.after given
  pub none : output.after ≡ output.before

abbrev pub StripsAs : (keeps : List ℕ → Bool) (input output : Device) → Result Ended ListError → Type 0
StripsAs keeps input output (Ok how) = StripsAll keeps input output (Ok how)
StripsAs keeps input output (Err Output) = StripsAll keeps input output (Err Output)
StripsAs keeps input output (Err Input) = CannotRead input output
StripsAs keeps input output (Err Memory) = CannotRead input output

-- | an input that is stripped and can be read only once: all that it has is read before anything is written
--   [`WritesStripped`, `ReadsAll`]
-- an input that was stripped, and whether each device has failed
pub record StripsInput (keeps : List ℕ → Bool) (input output : Device) (how : Result Ended ListError) : Type 0 where
  pub strips : StripsAs keeps input output how
  pub source : input.has_failed ≡ input_failed how input.had_failed
  pub sink : output.has_failed ≡ output_failed how output.had_failed

-- The run says what the fault of the stream is.
pub record TellsFault (f : FaultAt) (errors : Device) (status : ℕ) : Type 0 where
  pub answers : status ≡ 1
  pub says : Says errors (error_text f ++ codes "\n")

-- The text of the fault is the message, unless an allocation failed.
abbrev pub Refuses : Error → (errors : Device) (status : ℕ) → Type 0
Refuses e errors status = TellsFault (fault_at e) errors status ⊎ GivesUpAs Memory errors status

-- what a run says of a stream that ended so, and its status
abbrev pub AnswersAs : Result Ended ListError → (errors : Device) (status : ℕ) → Type 0
AnswersAs (Ok End) errors status = (status ≡ 0) × IsUntouched errors
AnswersAs (Ok (Fault e)) errors status = Refuses e errors status
AnswersAs (Err why) errors status = GivesUpAs why errors status
