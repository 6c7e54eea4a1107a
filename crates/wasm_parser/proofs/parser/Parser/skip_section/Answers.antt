use Rattle.wasm_parser.proofs.Common.{◌+◌, ap, ◌∙◌, skipped_state, numbers_of}
use Rattle.wasm_frames.proofs.SkippedLaws.{skips_section, in_code_where_skippable}
use Rattle.wasm_parser.proofs.parser.Parser.skip_section.Goals as goal

pub returns-clause-skips : goal.returns-clause-skips
returns-clause-skips c =
    let p = numbers_of c.self.inside.stored in
    skips_section c.args.self.now _ (in_code_where_skippable c.args.self.now.in_code c.args.self.now.code_bytes c.requires)
    ((λ i. record p { offset = p.offset + c.from.ensures i; bodies = 0; code_bytes = 0 }) ∙ ap skipped_state c.self.view_is)
