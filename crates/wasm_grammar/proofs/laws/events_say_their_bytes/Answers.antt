use Rattle.wasm_grammar.proofs.frames.SectionEvents.{events_say_their_bytes}
use Rattle.wasm_grammar.proofs.laws.events_say_their_bytes.Goals as goal

pub returns : goal.returns
returns c = events_say_their_bytes
