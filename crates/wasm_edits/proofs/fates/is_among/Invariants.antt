use Rattle.wasm_edits.proofs.Common.{◌≡◌, false, take}
use Rattle.wasm_edits.specs.Fates.{is_among}
use Rattle.wasm_edits.proofs.fates.is_among.Given as goal

abbrev pub invariant-loop-pattern : goal.invariant-loop-pattern
invariant-loop-pattern l = is_among l.name (take l.pattern-index l.patterns) ≡ false
