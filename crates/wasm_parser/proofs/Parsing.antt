-- What a call of `parse` returns is what the parser of frames returns.
use Rattle.wasm_parser.proofs.Common.{ℕ, Bool, List, Ok, sym, subst, ParseAnswer, ParserState, Parsed}
use Rattle.wasm_parser.proofs.Common.{IsPayload, Payload, Report}
use Rattle.wasm_frames.specs.Answer.{GivesAnswer, GivesFrame, reports}
use Rattle.wasm_frames.specs.declared.next.NextFrame.TheVariants as frames

-- the payload of a frame is returned as the frame is
module _ (p new : ParserState) (eof : Bool) (rest : List ℕ) where
  pub payload_given : (frame : Report) (consumed : ℕ) (payload : Payload) → GivesFrame p eof rest (frames.Parsed frame consumed) new
      → IsPayload frame payload → ParseAnswer p eof rest (Ok (Parsed consumed payload)) new
  payload_given frame consumed payload gives is = record {
    gives = subst (λ (r : Report). GivesAnswer p eof rest (reports r consumed) new) (sym is.0) gives;
    items = is.1;
  }
