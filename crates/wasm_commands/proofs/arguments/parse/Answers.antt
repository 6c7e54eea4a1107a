use Rattle.wasm_commands.proofs.Parsing.{stepped}
use Rattle.wasm_commands.proofs.arguments.parse.Goals as goal

pub words-preserved : goal.words-preserved
words-preserved c = stepped c.args.verb c.args.words.now c.words.rest.now c.in-Argument.after.now c.word-item.result
    c.as_str.result.now c.words.parsed.items c.in-Argument.argument c.words.invariant c.word-item.is
    c.in-len1-up.len_at_least c.as_str.ensures.value c.in-Argument.ensures.0 c.push.new.self.items
    c.in_ok-push-in-Argument.ensures.items
