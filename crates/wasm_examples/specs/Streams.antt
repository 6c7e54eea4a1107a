-- What a walk over the parts of a stream finds, with all features and from offset 0.
use Rattle.std.specs.Prelude.{◌≡◌, ℕ, List, [], ◌∷◌, ◌++◌, map, Option, Some, None, Result, Ok, Err, MatchResult}
use Rattle.wasm_base.specs.FaultAt.{FaultAt, fault_at}
use Rattle.wasm_base.specs.declared.error.Error.{Error}
use Rattle.wasm_grammar.specs.Content.{Ending, fault, ended}
use Rattle.wasm_grammar.specs.Reading.{Report, start_section, stream_end, Event, last_event, Reading}
use Rattle.wasm_parser.specs.ParseAll.{event_report}
use Rattle.wasm_base.specs.Features.{all_features}
use Rattle.wasm_examples.specs.Folding.{after_all}

-- how a walk over all parts ends: at an offset, or at a fault
abbrev pub ending_of : Result ℕ Error → Ending
ending_of (Ok offset) = ended offset
ending_of (Err e) = fault (fault_at e)

-- | how a stream's reading ends, and which function it names as the start [`IsStartOf`]
-- The stream's reading ends at this offset, with no fault; or at this fault.
abbrev pub IsEndOf : List ℕ → Result ℕ Error → Type 0
IsEndOf stream result = (before : List Event) × Reading stream 0 all_features
    (before ++ last_event (ending_of result) ∷ [])

-- the function that is known to start a module after a part of it; or the fault at which the stream stops
abbrev pub started : (known : Option ℕ) → Report → Result (Option ℕ) FaultAt
started known (start_section func from to) = Ok (Some func)
started known (stream_end (fault f)) = Err f
started known other = Ok known

-- The stream's reading names this function as the start, the last one of its start sections, or stops at this fault.
abbrev pub IsStartOf : List ℕ → Result (Option ℕ) Error → Type 0
IsStartOf stream result = (events : List Event) → Reading stream 0 all_features events
    → MatchResult result (λ start. after_all started None (map event_report events) ≡ Ok start)
    (λ e. after_all started None (map event_report events) ≡ Err (fault_at e))
