use Rattle.std.proofs.Common.{◌≡◌, ◌∙◌, ap, false, true}
use Rattle.std.specs.Option.{is_some}
use Rattle.wasm_show.specs.Noted.{found_by}
use Rattle.wasm_show.proofs.Seeing.{no_memory}
use Rattle.wasm_show.proofs.faults.FaultsWalker.take_fault.Goals as goal

pub returns-in_default : goal.returns-in_default
returns-in_default g c = record {
  one = λ m. record {
    goes = λ e since done d. c.note_fault.ensures e (found_by since) done d;
    stays = λ is. absurd (let no : false ≡ true = c.if-is_some.ensures ∙ (ap is_some c.stopped.ensures ∙ is) in cc);
  };
  none = λ m. absurd (no_memory _ (λ e. c.in_default.not-OutOfMemory (c.fault.ensures ∙ e)) m);
  stops = λ m. absurd (no_memory _ (λ e. c.in_default.not-OutOfMemory (c.fault.ensures ∙ e)) m);
}
