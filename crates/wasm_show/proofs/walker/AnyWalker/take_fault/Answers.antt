use Rattle.std.proofs.Common.{◌∷◌, [], ◌∙◌, false, true, ◌≡◌}
use Rattle.wasm_base.specs.FaultAt.{fault_at}
use Rattle.wasm_show.specs.Seen.{faulty}
use Rattle.wasm_show.proofs.Seeing.{no_memory, shows_none, shows_told}
use Rattle.wasm_show.proofs.walker.AnyWalker.take_fault.Goals as goal

pub returns-in_default : goal.returns-in_default
returns-in_default g c = record {
  one = λ m. record {
    goes = λ e since done d. shows_told done (faulty (fault_at c.args.error.now) ∷ []) _ _ _ d
        (shows_none _ _ c.fault-in_default.ensures);
    stays = λ is. absurd (let no : false ≡ true = c.if-has_stopped.ensures ∙ is in cc);
  };
  none = λ m. absurd (no_memory _ (λ e. c.in_default.not-OutOfMemory (c.fault.ensures ∙ e)) m);
  stops = λ m. absurd (no_memory _ (λ e. c.in_default.not-OutOfMemory (c.fault.ensures ∙ e)) m);
}
