use Rattle.std.proofs.Common.{inl}
use Rattle.wasm_commands.proofs.Editing.{ok_if_complete}
use Rattle.wasm_commands.proofs.runner.Runner.write_target.Goals as goal

pub returns : goal.returns
returns g c = inl (
  c.in_ok-written.written,
  c.create.new.self,
  c.in_ok-written.ensures,
  record {
    written = c.writes_all-is_complete.new.output;
    is_complete = c.writes_all-is_complete.result;
    writes = c.writes_all-is_complete.ensures;
    middle = c.end_target-ended.new.self;
    ended = c.end_target-ended.result;
    ends = c.end_target-ended.ensures;
    closes = rw (ok_if_complete c.args.target.now _ _ _ _ c.end_target-ended.ensures) at c.close.ensures;
  },
)
