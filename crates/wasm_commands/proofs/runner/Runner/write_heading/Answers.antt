use Rattle.std.proofs.Common.{true, false, refl}
use Rattle.wasm_commands.specs.Runs.{run_of}
use Rattle.wasm_commands.proofs.runner.Runner.write_heading.Goals as goal

pub returns-then-writes_all : goal.returns-then-writes_all
returns-then-writes_all g c = rw (← c.self.view_is) (record {
  is_complete = true;
  middle = run_of g.W.Write.contents g.E.Sink.taken g.E.Sink.has_failed c.self.inside.system c.writes_all.new.output c.self.inside.errors;
  writes = rw (c.if-writes_all.true, c.as_bytes.ensures.value) at c.writes_all.ensures;
  only = record { system = refl; said = refl };
  ends = (refl, refl);
})

pub returns : goal.returns
returns g c = rw (← c.self.view_is) (record {
  is_complete = false;
  middle = run_of g.W.Write.contents g.E.Sink.taken g.E.Sink.has_failed c.self.inside.system c.writes_all.new.output c.self.inside.errors;
  writes = rw (c.if-writes_all.false, c.as_bytes.ensures.value) at c.writes_all.ensures;
  only = record { system = refl; said = refl };
  ends = c.fail.ensures;
})
