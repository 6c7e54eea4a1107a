use Rattle.wasm_frames.proofs.Common.{refl, ◌∙◌, arith, is_lacking, numbers_of}
use Rattle.wasm_frames.proofs.Results.{functions_alone, data_count_alone, nothing_lacks}
use Rattle.wasm_frames.proofs.stored.StoredParser.end.Goals as goal

pub returns-then-lacks-clause-answers : goal.returns-then-lacks-clause-answers
returns-then-lacks-clause-answers g c =
    functions_alone (numbers_of c.args.self.now) c.new.result (omega arith) c.requires
    (c.if-lacks.ensures ∙ (λ i. is_lacking (c.functions.ensures i) (c.codes.ensures i))) c.new.ensures.report

pub returns-then-lacks-2-clause-answers : goal.returns-then-lacks-2-clause-answers
returns-then-lacks-2-clause-answers g c =
    data_count_alone (numbers_of c.args.self.now) c.new-then-lacks-2.result (omega arith) c.requires
    (c.if-lacks.ensures ∙ (λ i. is_lacking (c.functions.ensures i) (c.codes.ensures i)))
    (c.if-lacks-2.ensures ∙ (λ i. is_lacking (c.data_counts.ensures i) (c.datas.ensures i))) c.new-then-lacks-2.ensures.report

pub returns-clause-answers : goal.returns-clause-answers
returns-clause-answers g c = rw c.end.ensures
    (nothing_lacks _ _ _ refl (omega arith) c.requires (c.if-lacks.ensures ∙ (λ i. is_lacking (c.functions.ensures i) (c.codes.ensures i)))
    (c.if-lacks-2.ensures ∙ (λ i. is_lacking (c.data_counts.ensures i) (c.datas.ensures i))) refl)
