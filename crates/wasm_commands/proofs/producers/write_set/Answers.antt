use Rattle.std.proofs.Common.{inl, inr, ◌<◌, ◌^◌, length, arith}
use Rattle.wasm_edits.proofs.ForCallers.{stream_of}
use Rattle.wasm_commands.proofs.Setting.{appended, replaced}
use Rattle.wasm_commands.proofs.producers.write_set.Goals as goal

pub returns-in-Ok-None : goal.returns-in-Ok-None
returns-in-Ok-None g c =
    let l : length c.args.bytes.now < 2 ^ 64 = omega arith in
    let none = rw (c.in-Ok-None.is, c.in-Ok-None.field-0-is) at c.find_first.ensures in
    inr (inl (record {
      bytes = _;
      none = none;
      appends = appended c.args.new c.args.bytes.now c.requires (stream_of c.args.bytes.now c.type_inv.bytes l) none;
      writes = c.write_between-in-Ok-None.ensures;
    }))

pub returns-in-Ok-Some : goal.returns-in-Ok-Some
returns-in-Ok-Some g c = inl (record {
  bytes = _;
  replaces = replaced c.args.new c.args.bytes.now c.in-Ok-Some.around
      (rw (c.in-Ok-Some.is, c.in-Ok-Some.field-0-is) at c.find_first.ensures);
  writes = c.write_between.ensures;
})
