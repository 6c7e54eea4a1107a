use Rattle.std.proofs.Common.{◌≡◌, inl, map, string_bytes}
use Rattle.wasm_commands.proofs.FirstWords.{wrong_is}
use Rattle.wasm_commands.proofs.Steps.{granted}
use Rattle.wasm_commands.specs.ArgumentLists.{arguments_of}
use Rattle.wasm_commands.specs.Parsing.{parsed_of}
use Rattle.wasm_commands.proofs.commands.run_verb.Goals as goal

pub returns-in-Ok-Ok : goal.returns-in-Ok-Ok
returns-in-Ok-Ok g c =
    let parsed = granted (λ p. parsed_of p ≡ arguments_of c.args.verb (map string_bytes c.args.words.now)) c.parse.result
    c.in-Ok-Ok.field-0 _ _
    c.in-Ok-Ok.ensures c.parse.ensures in
    inl (tt, c.allocated.new.self, parsed.0, rw (← parsed.1, c.in-Ok-Ok.field-0-is) c.run_parsed.ensures)

pub returns-in-Ok-Err : goal.returns-in-Ok-Err
returns-in-Ok-Err g c =
    let parsed = granted (λ p. parsed_of p ≡ arguments_of c.args.verb (map string_bytes c.args.words.now)) c.parse.result
    c.in-Ok-Err.field-0 _ _
    c.in-Ok-Err.ensures c.parse.ensures in
    inl (
      tt,
      c.allocated.new.self,
      parsed.0,
      rw (← parsed.1, c.in-Ok-Err.field-0-is, wrong_is c.args.verb c.in-Ok-Err.refusal) c.refuse.ensures,
    )
