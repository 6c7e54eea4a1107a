use Rattle.wasm_examples.proofs.Common.{arith}
use Rattle.wasm_examples.proofs.Ending.{begun, goes_on, moved, ends, stops}
use Rattle.wasm_examples.proofs.streams.end_of.Goals as goal

pub parts-init : goal.parts-init
parts-init c = rw c.new-parser.ensures (begun c.args.bytes.now)

pub returns-in-End : goal.returns-in-End
returns-in-End c =
    ends c.parts.invariant (omega arith) (rw c.in-Ok-Parsed.field-0-is at c.in-Ok-Parsed.ensures.answers) c.in-End.is

pub parts-preserved : goal.parts-preserved
parts-preserved c = rw c.split_at.ensures.back (moved c.parts.invariant (omega arith)
    (rw c.in-Ok-Parsed.field-0-is at c.in-Ok-Parsed.ensures.answers) (goes_on _ c.in_default.not-End))

pub returns-in-Err : goal.returns-in-Err
returns-in-Err c = stops c.parts.invariant (omega arith) c.in-Err.ensures.answers
