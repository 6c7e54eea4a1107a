use Rattle.wasm_output.proofs.Common.{◌≡◌, length, Adds}
use Rattle.wasm_output.specs.Written.{objects}
use Rattle.wasm_output.proofs.objects.Objects.put_string.Given as goal

abbrev pub invariant-runs : goal.invariant-runs
invariant-runs g l = record {
  adds : Adds (objects l.initial.self) (objects l.self);
  spot : l.self.spot ≡ l.initial.self.spot;
}

abbrev pub decreases-runs : goal.decreases-runs
decreases-runs g l = length l.rest
