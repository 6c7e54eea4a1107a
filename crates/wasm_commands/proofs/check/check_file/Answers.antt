use Rattle.std.proofs.Common.{◌≡◌, inl, inr, refl, string_bytes}
use Rattle.wasm_commands.proofs.Steps.{granted}
use Rattle.wasm_commands.specs.Checks.{prefix_text}
use Rattle.wasm_commands.proofs.check.check_file.Goals as goal

pub returns-in-Ok-open : goal.returns-in-Ok-open
returns-in-Ok-open g c =
    let made = granted (λ p. string_bytes p ≡ prefix_text c.args.name.now) c.prefix_of.result c.in-Ok.prefix _ _ c.in-Ok.ensures
    c.prefix_of.ensures in
    inl (tt, c.allocated.new.self, made.0, inl (c.in-Ok-open.input, c.open.new.self, c.in-Ok-open.ensures, c.check_input.ensures))

pub returns-in-Err-open : goal.returns-in-Err-open
returns-in-Err-open g c =
    let made = granted (λ p. string_bytes p ≡ prefix_text c.args.name.now) c.prefix_of.result c.in-Ok.prefix _ _ c.in-Ok.ensures
    c.prefix_of.ensures in
    inl (tt, c.allocated.new.self, made.0, inr (c.in-Err-open.status, refl, c.in-Err-open.ensures))
