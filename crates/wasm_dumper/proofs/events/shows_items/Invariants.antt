use Rattle.wasm_dumper.proofs.Common.{◌≡◌, false, list_any}
use Rattle.std.proofs.Common.{take}
use Rattle.wasm_dumper.specs.Chosen.{is_parts}
use Rattle.wasm_dumper.proofs.events.shows_items.Given as goal

abbrev pub invariant-loop-choice : goal.invariant-loop-choice
invariant-loop-choice l = list_any is_parts (take l.choice-index l.only) ≡ false
