use Rattle.std.proofs.Common.{[], refl}
use Rattle.wasm_grammar.proofs.readings.Readings.{Onward, reads_all}
use Rattle.wasm_grammar.proofs.laws.some_reading.Goals as goal

pub returns : goal.returns
returns c = λ stream start features. let r : Onward stream start [] = reads_all stream start in
    (_, record { tiles = r.tiles; end = r.end; reads = r.reads; listed = refl })
