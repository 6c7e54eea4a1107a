use Rattle.std.proofs.Common.{rules, inl}
use Rattle.wasm_commands.proofs.Steps.{makes}
use Rattle.wasm_commands.proofs.producers.change.Goals as goal

pub returns-in_err-data : goal.returns-in_err-data
returns-in_err-data g c = inl (
  c.in_ok-changed.changed,
  c.allocated.new.self,
  makes _ c.new_data.result _ _ _ c.in_ok-changed.ensures c.new_data.ensures,
  (search rules),
)

pub returns : goal.returns
returns g c = inl (
  c.in_ok-changed.changed,
  c.allocated.new.self,
  makes _ c.new_data.result _ _ _ c.in_ok-changed.ensures c.new_data.ensures,
  inl (c.in_ok-data.«data», c.sound.new.self, c.in_ok-data.ensures, c.write_new.ensures),
)
