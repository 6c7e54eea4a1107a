use Rattle.std.proofs.Common.{◌∙◌, append-nil, refl, sym}
use Rattle.wasm_base.specs.FaultAt.{fault_at}
use Rattle.wasm_show.specs.Seen.{faulty}
use Rattle.wasm_show.proofs.Seeing.{no_memory, offset_more}
use Rattle.wasm_show.proofs.offsets.OffsetsWalker.take_fault.Goals as goal

pub returns-in_default : goal.returns-in_default
returns-in_default c = record {
  one = λ m. record {
    goes = λ e since done d. offset_more done (faulty (fault_at c.args.error.now)) since c.args.self.now c.args.self.now d
        (λ n. (n, sym (append-nil _)));
    stays = λ is. refl;
  };
  none = λ m. absurd (no_memory _ (λ e. c.in_default.not-OutOfMemory (c.fault.ensures ∙ e)) m);
  stops = λ m. absurd (no_memory _ (λ e. c.in_default.not-OutOfMemory (c.fault.ensures ∙ e)) m);
}
