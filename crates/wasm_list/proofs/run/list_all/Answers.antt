use Rattle.std.proofs.Common.{Ok, refl}
use Rattle.wasm_streams.specs.declared.turns.Ended.TheVariants.{End, Fault}
use Rattle.wasm_list.proofs.run.list_all.Goals as goal

pub returns-in-Ok-End : goal.returns-in-Ok-End
returns-in-Ok-End g c = record {
  how = Ok End;
  runs = record {
    lists = rw c.in-Ok-End.field-0-is at c.in-Ok-End.ensures;
    answers = refl;
    reports = record { bytes = refl; failed = refl };
  };
}

pub returns-in-Ok-Fault : goal.returns-in-Ok-Fault
returns-in-Ok-Fault g c = record {
  how = Ok (Fault c.in-Ok-Fault.field-0-0);
  runs = record {
    lists = rw c.in-Ok-Fault.field-0-is at c.in-Ok-Fault.ensures;
    answers = refl;
    reports = record { bytes = refl; failed = refl };
  };
}
