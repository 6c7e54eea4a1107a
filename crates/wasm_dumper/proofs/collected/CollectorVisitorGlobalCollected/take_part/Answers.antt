use Rattle.wasm_dumper.proofs.Collecting.{takes}
use Rattle.wasm_dumper.proofs.DumpTurns.{part_is_no_request}
use Rattle.wasm_dumper.proofs.collected.CollectorVisitorGlobalCollected.take_part.Goals as goal

pub returns-clause-takes : goal.returns-clause-takes
returns-clause-takes c = takes _ _ _ _ _ (part_is_no_request _ _) c.add_payload.result
    (record { named = c.add_payload.ensures.keeps; linked = c.add_payload.ensures.linked })
