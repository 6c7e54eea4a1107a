use Rattle.wasm_dumper.proofs.Common.{◌≡◌, false, option_map, list_any}
use Rattle.std.proofs.Common.{take}
use Rattle.wasm_dumper.specs.Chosen.{is_chosen_with}
use Rattle.wasm_dumper.proofs.events.is_chosen_by_any.Given as goal

abbrev pub invariant-loop-choice : goal.invariant-loop-choice
invariant-loop-choice l =
    list_any (λ choice. is_chosen_with choice l.section (option_map (λ text. text.now) l.name))
    (take l.choice-index l.only) ≡ false
