use Rattle.wasm_streams.proofs.Common.{arith}
use Rattle.wasm_frames.proofs.ForCallers.{asks_for_some}
use Rattle.wasm_frames.specs.Answer.{answer_in}
use Rattle.wasm_streams.proofs.Beside.{enough, undecided}
use Rattle.wasm_streams.proofs.ahead.missing.Goals as goal

pub returns-in-NeedMoreData-clause-decided : goal.returns-in-NeedMoreData-clause-decided
returns-in-NeedMoreData-clause-decided c = grind (arith, undecided)

pub returns-in-Parsed-clause-enough : goal.returns-in-Parsed-clause-enough
returns-in-Parsed-clause-enough c = λ _. enough c.answers_last.ensures c.args.parser.now c.args.bytes.now (answer_in c.next.result)
    c.next.new.self (rw c.copy-trial.ensures at c.next.ensures) (λ r. rw c.in-Parsed.is at r)

pub returns-in-Fault-clause-enough : goal.returns-in-Fault-clause-enough
returns-in-Fault-clause-enough c = λ _. enough c.answers_last.ensures c.args.parser.now c.args.bytes.now (answer_in c.next.result)
    c.next.new.self (rw c.copy-trial.ensures at c.next.ensures) (λ r. rw c.in-Fault.is at r)

pub returns-in-NeedMoreData-clause-enough : goal.returns-in-NeedMoreData-clause-enough
returns-in-NeedMoreData-clause-enough c =
    let some = asks_for_some _ _ _ _ _ c.in-NeedMoreData.ensures in
    λ none. absurd (omega (arith, some, none))
