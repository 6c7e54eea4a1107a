use Rattle.wasm_output.proofs.Common.{◌++◌, codes, offset_text}
use Rattle.wasm_output.proofs.Saying.{says_both}
use Rattle.wasm_output.proofs.lines.TextLines.offsets.Goals as goal

pub returns-clause-says : goal.returns-clause-says
returns-clause-says g c =
    says_both (λ base. offset_text base c.args.start) (λ base. codes ".." ++ offset_text base c.args.end) _ _ _
    c.offset.ensures.says
    (says_both (λ base. codes "..") (λ base. offset_text base c.args.end) _ _ _ c.bytes.ensures.says c.offset-2.ensures.says)
