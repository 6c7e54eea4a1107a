use Rattle.std.proofs.Common.{inl}
use Rattle.wasm_commands.proofs.Editing.{ok_if_whole, whole_written}
use Rattle.wasm_commands.proofs.runner.Runner.edit_target.Goals as goal

pub returns : goal.returns
returns g c = inl (
  c.in_ok-written.written,
  c.create.new.self,
  c.in_ok-written.ensures,
  record {
    written = c.edit_into-edited.new.output;
    edited = c.edit_into-edited.result;
    writes = c.edit_into-edited.ensures;
    whole = whole_written g.S.System g.S.Input.Source c.create.new.self.system c.args.edits.now c.args.original.now _ _
        c.edit_into-edited.ensures;
    middle = c.end_file-ended.new.self;
    ended = c.end_file-ended.result;
    ends = c.end_file-ended.ensures;
    closes = rw (ok_if_whole c.args.original.now.way.name.now c.args.target.now _ _ _ _ c.end_file-ended.ensures) at c.close.ensures;
  },
)
