use Rattle.wasm_dumper.proofs.Common.{◌≡◌, ℕ, Bool, false, List, Result, Ok, Err, Option, Error, ListError, FailsWithin}
use Rattle.std.specs.Prelude.{IfErr}
use Rattle.wasm_streams.specs.Passing.{GivesUp}
use Rattle.wasm_streams.proofs.ForCallers.{dropped_before}
use Rattle.wasm_dumper.proofs.hidden.drop_part.Goals as goal

fails_so : (source rest taken written : Option (List ℕ)) (stays : Bool) (size : ℕ) (held waiting left new : List ℕ)
    (r : Result (Option Error) ListError) → stays ≡ false
    → IfErr r (λ e. GivesUp source rest taken written stays size held waiting e left new)
    → IfErr r (λ e. FailsWithin source rest size held e)
fails_so source rest taken written stays size held waiting left new (Ok fault) s w = tt
fails_so source rest taken written stays size held waiting left new (Err e) s w =
    let (is, wrote, fewer) = dropped_before taken written stays size waiting w.passed left new held w.given e w.ends w.parts s in
    record { is = is; given = w.given; gave = w.gave; fewer = fewer }

pub returns-clause-fails : goal.returns-clause-fails
returns-clause-fails g c = fails_so _ _ _ _ _ _ _ _ _ _ _ c.requires.drops c.pass_part.ensures.cut
