use Rattle.std.proofs.Common.{inl, inr}
use Rattle.wasm_commands.proofs.Steps.{granted}
use Rattle.wasm_commands.specs.Parsing.{texts}
use Rattle.wasm_commands.specs.RewriteCommands.{AreAdditions}
use Rattle.wasm_commands.proofs.runner.Runner.additions_in.Goals as goal

pub once-requires : goal.once-requires
once-requires g c = (granted (AreAdditions (texts c.in-Some.field-0.words.now)) c.parse_additions.result c.in_ok-parsed.parsed _ _
    c.in_ok-parsed.ensures c.parse_additions.ensures).1

pub returns : goal.returns
returns g c =
    let made = granted (AreAdditions (texts c.in-Some.field-0.words.now)) c.parse_additions.result c.in_ok-parsed.parsed _ _
    c.in_ok-parsed.ensures c.parse_additions.ensures in
    let are = c.in-Some.ensures in
    inr (record {
      words = texts c.in-Some.field-0.words.now;
      file = c.in-Some.field-0.file.now;
      are = are.0;
      some = are.1;
      takes = inl (tt, c.allocated.new.self, made.0, c.once.ensures);
    })
