use Rattle.wasm_frames.specs.Answer.{answer_in}
use Rattle.wasm_c_items.proofs.parsing.write_next_fault.Goals as goal

pub returns : goal.returns
returns c = record {
  answer = answer_in c.next.result;
  after = _;
  answers = c.next.ensures.answers;
  says = c.write_fault.ensures;
}
