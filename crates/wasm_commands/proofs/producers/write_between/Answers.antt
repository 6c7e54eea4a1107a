use Rattle.std.proofs.Common.{append-nil, inl}
use Rattle.wasm_commands.proofs.producers.write_between.Goals as goal

pub returns : goal.returns
returns g c = inl (
  tt,
  c.encoded.new.self,
  c.in_ok-section.ensures.allots,
  rw (c.as_slice.ensures.value, c.in_ok-section.ensures.encodes, append-nil c.args.around.after.now) at c.write_to.ensures,
)
