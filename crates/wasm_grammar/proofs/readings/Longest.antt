-- The tiles of a reading are the longest faultless tiling.
use Rattle.wasm_grammar.proofs.Common.{◌∙◌}
use Rattle.wasm_grammar.specs.Laws.{LongestTiling}
use Rattle.wasm_grammar.proofs.readings.Readings.{Onward, onward, reads_same}

pub longest : LongestTiling
longest stream start tiles others end rest r f w =
    let o : Onward stream start others = onward stream start others rest f w in
    (o.later, (reads_same stream start tiles o.tiles end o.end r o.reads).0 ∙ o.begins)
