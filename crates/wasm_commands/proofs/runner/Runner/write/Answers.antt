use Rattle.std.proofs.Common.{true, false, refl}
use Rattle.wasm_commands.specs.Runs.{run_of}
use Rattle.wasm_commands.proofs.runner.Runner.write.Goals as goal

pub returns-then-forwards_all : goal.returns-then-forwards_all
returns-then-forwards_all g c = rw (← c.self.view_is) (record {
  is_complete = true;
  middle = run_of g.W.Write.contents g.E.Sink.taken g.E.Sink.has_failed c.self.inside.system c.forwards_all.new.output c.self.inside.errors;
  writes = rw c.if-forwards_all.true at c.forwards_all.ensures.writes;
  all = rw c.if-forwards_all.true at c.forwards_all.ensures.all;
  only = record { system = refl; said = refl };
  ends = (refl, refl);
})

pub returns : goal.returns
returns g c = rw (← c.self.view_is) (record {
  is_complete = false;
  middle = run_of g.W.Write.contents g.E.Sink.taken g.E.Sink.has_failed c.self.inside.system c.forwards_all.new.output c.self.inside.errors;
  writes = rw c.if-forwards_all.false at c.forwards_all.ensures.writes;
  all = rw c.if-forwards_all.false at c.forwards_all.ensures.all;
  only = record { system = refl; said = refl };
  ends = c.fail.ensures;
})
