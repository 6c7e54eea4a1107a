use Rattle.wasm_grammar.proofs.readings.BodyCounts as bodies
use Rattle.wasm_grammar.proofs.laws.bodies_follow_their_count.Goals as goal

pub returns : goal.returns
returns c = bodies.bodies_follow
