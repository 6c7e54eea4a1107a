-- What a caller that writes a text of events does after a step.
use Rattle.std.specs.Prelude.{ℕ, List, [], if◌then◌else◌}
use Rattle.wasm_base.specs.FaultAt.{fault_at}
use Rattle.wasm_grammar.specs.Content.{fault}
use Rattle.wasm_frames.specs.Answer.{is_end}
use Rattle.wasm_grammar.specs.Reading.{Report, stream_end}
use Rattle.wasm_streams.specs.Step.{Told, Part, Request, Stop}
use Rattle.wasm_streams.specs.declared.turns.Ended.TheVariants as how
use Rattle.wasm_streams.specs.declared.turns.Turn.{Turn}
use Rattle.wasm_streams.specs.declared.turns.Turn.TheVariants as turn

-- what is written for a result, by what it reports; nothing for a request
abbrev pub text_after : (text_of : Report → List ℕ) → Told → List ℕ
text_after text_of (Request hint) = []
text_after text_of (Part report bytes) = text_of report
text_after text_of (Stop e) = text_of (stream_end (fault (fault_at e)))

-- what is done after a result: at the end of the stream, and at a fault, the text ends
abbrev pub turn_after : Told → Turn
turn_after (Request hint) = turn.Read
turn_after (Part report bytes) = if is_end report then turn.End how.End else turn.Advance
turn_after (Stop e) = turn.End (how.Fault e)
