use Rattle.wasm_grammar.proofs.readings.Readings.{Grown, grows}
use Rattle.wasm_grammar.proofs.laws.tiles_stand_alone.Goals as goal

pub returns : goal.returns
returns c = λ start tiles rest t f e. let g : Grown start tiles rest t = grows start tiles rest t f e in
    (g.some, g.stays, (g.rest, g.split))
