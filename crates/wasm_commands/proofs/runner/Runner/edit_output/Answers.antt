use Rattle.std.proofs.Common.{Ok, Err, ap, refl}
use Rattle.wasm_commands.specs.Runs.{run_of}
use Rattle.wasm_commands.proofs.runner.Runner.edit_output.Goals as goal

pub returns-in-Ok : goal.returns-in-Ok
returns-in-Ok g c = rw (← c.self.view_is) (record {
  middle = run_of g.W.Write.contents g.E.Sink.taken g.E.Sink.has_failed
      c.self.inside.system c.edit_original.new.output c.self.inside.errors;
  edited = Ok c.in-Ok.how;
  writes = c.in-Ok.ensures;
  only = record { system = refl; said = refl };
  ends = record {
    flushed = c.flushed-how.result;
    middle = run_of g.W.Write.contents g.E.Sink.taken g.E.Sink.has_failed
        c.self.inside.system c.flushed-how.new.output c.self.inside.errors;
    keeps = c.flushed-how.ensures.keeps;
    flushes = c.flushed-how.ensures.ends;
    only = record { system = refl; said = refl };
    ends = c.end.ensures;
  };
})

pub returns-in-Err : goal.returns-in-Err
returns-in-Err g c = rw (← c.self.view_is) (record {
  middle = run_of g.W.Write.contents g.E.Sink.taken g.E.Sink.has_failed
      c.self.inside.system c.edit_original.new.output c.self.inside.errors;
  edited = Err c.in-Err.cause;
  writes = c.in-Err.ensures;
  only = record { system = refl; said = refl };
  ends = record { answers = ap Err c.refuse.ensures.status; tells = c.refuse.ensures.tells };
})
