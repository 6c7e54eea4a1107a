use Rattle.std.proofs.Common.{◌≡◌, inl}
use Rattle.wasm_commands.proofs.Steps.{granted}
use Rattle.wasm_commands.specs.Parsing.{texts}
use Rattle.wasm_commands.specs.RewriteCommands.{no_setting, wrong_setting}
use Rattle.wasm_commands.proofs.producers.settings_of.Goals as goal

pub settings_in-requires : goal.settings_in-requires
settings_in-requires g c = (granted (λ p. wrong_setting p ≡ no_setting (texts c.args.words.now)) c.parse_settings.result
    c.in_ok-parsed.parsed _ _ c.in_ok-parsed.ensures c.parse_settings.ensures).1

pub returns : goal.returns
returns g c =
    let parsed = granted (λ p. wrong_setting p ≡ no_setting (texts c.args.words.now)) c.parse_settings.result
    c.in_ok-parsed.parsed _ _ c.in_ok-parsed.ensures c.parse_settings.ensures in
    inl (tt, c.allocated.new.self, parsed.0, c.settings_in.ensures)
