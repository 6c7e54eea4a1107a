use Rattle.std.proofs.lemmas.Str.{IsUtf8-from_ascii}
use Rattle.wasm_base.proofs.utf8.is_utf8.Goals as goal

pub returns-then-are_few_ascii : goal.returns-then-are_few_ascii
returns-then-are_few_ascii c = (λ yes. IsUtf8-from_ascii c.args.bytes.now (c.are_few_ascii.ensures yes), λ is. c.if-are_few_ascii.true)
