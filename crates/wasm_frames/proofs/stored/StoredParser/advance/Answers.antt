use Rattle.wasm_frames.proofs.Common.{◌∙◌, ap, numbers_of, ParserState}
use Rattle.wasm_frames.specs.StateAfter.{state_after_section}
use Rattle.wasm_frames.proofs.Passing.{after_items, after_start}
use Rattle.wasm_frames.proofs.stored.StoredParser.advance.Goals as goal

pub returns-in-Items-clause-state : goal.returns-in-Items-clause-state
returns-in-Items-clause-state c = c.pass_counted.ensures.state
    ∙ after_items (numbers_of c.args.self.now) c.args.end c.args.frame.now _ _ c.in-Items.ensures.is
    c.id-in-Items.ensures c.count-in-Items.ensures

pub returns-in-Start-clause-state : goal.returns-in-Start-clause-state
returns-in-Start-clause-state c = c.close.ensures.state
    ∙ (ap (λ (p : ParserState). state_after_section p c.args.end) c.learn_rank.ensures.state
    ∙ after_start (numbers_of c.args.self.now) c.args.end c.args.frame.now _ 0 c.in-Start.ensures.is c.id-in-Start.ensures)
