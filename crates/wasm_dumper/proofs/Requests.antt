-- What is known of a source where a read failed after a request for more input.
use Rattle.wasm_dumper.proofs.Common.{◌≡◌, ℕ, List, [], ◌++◌, Bool, false, Err, Option, Consumes-trans, Cursor, Error, FailsWithin}
use Rattle.wasm_dumper.proofs.Common.{Event, Feed, Input, ListError, Only, Skips, fault, input_failed, last_event, lending, refl, seen}
use Rattle.wasm_dumper.proofs.Common.{subst, sym}
use Rattle.std.proofs.KnownBytes.{Consumes-kept, Consumes-nil}
use Rattle.wasm_base.specs.FaultAt.{at_offset}
use Rattle.wasm_base.specs.Features.{all_features}
use Rattle.wasm_base.specs.declared.fault.Fault.TheVariants.{UnexpectedEof}
use Rattle.wasm_dumper.proofs.Dumping.{source}
use Rattle.wasm_dumper.specs.Failing.{FailsAfter}
use Rattle.wasm_dumper.specs.declared.hidden.Skipped.{Skipped}
use Rattle.wasm_io.specs.declared.devices.ListError.TheVariants.{Memory, Output}
use Rattle.wasm_parser.proofs.ForCallers.{answers_go_along}
use Rattle.wasm_streams.specs.Lists.{Refills}
use Rattle.wasm_streams.specs.Passing.{held_by}
use Rattle.wasm_streams.specs.Progress.{Asks}
use Rattle.wasm_streams.proofs.ForCallers.{begins, begins_with, reads_short}

-- a read that was given up
module _ (full rest : Option (List ℕ)) (f : Feed) (events : List Event) (a : Asks full rest f events) (rest' : Option (List ℕ))
    (had has : Bool) where
  pub not_filled : (g : Feed) (e : ListError) → Refills rest rest' f g (Err e) → has ≡ input_failed {A = Unit {0}} (Err e) had
      → FailsAfter full (source rest rest' had has) events e
  not_filled g Input k h =
      let (end, reading) = answers_go_along.cut_short 0 all_features a.reached.given f.state f.held events f.eof a.hint
      a.reached.is_along a.undecided in
      record {
        given = a.reached.given;
        gave = Consumes-kept full rest rest' a.reached.given a.reached.gave k;
        begins = begins full rest f events a.reached;
        because = (h, last_event end, reading);
      }
  not_filled g Memory k h = record {
    given = a.reached.given ++ k.0;
    gave = Consumes-trans full rest rest' a.reached.given k.0 a.reached.gave k.1;
    begins = begins_with full rest f events a.reached k.0;
    because = h;
  }
  not_filled g Output k h = absurd k

-- an allocation failed, and nothing was read
pub without_memory : (full rest : Option (List ℕ)) (f : Feed) (events : List Event) → Asks full rest f events → (had : Bool)
    (e : ListError) → e ≡ Memory → FailsAfter full (source rest rest had had) events e
without_memory full rest f events a had e is =
    subst (λ (x : ListError). FailsAfter full (source rest rest had had) events x) (sym is)
    (not_filled full rest f events a rest had had f Memory ([], Consumes-nil rest) refl)

-- the source failed within a part that was skipped
pub failed_within : (only : List Only) (has_bytes : Bool) (full rest : Option (List ℕ)) (cur : Cursor) (stored chunk : List ℕ)
    (events : List Event) (a : Asks full rest (lending stored chunk cur) events) (part : Skipped) (skipped : Cursor)
    → Skips only has_bytes cur (seen stored chunk) part skipped → (rest' : Option (List ℕ)) (had has : Bool) (e : ListError)
    → FailsWithin rest rest' part.passing.size (held_by skipped stored chunk) e → has ≡ input_failed {A = Option Error} (Err e) had
    → FailsAfter full (source rest rest' had has) events e
failed_within only has_bytes full rest cur stored chunk events a part skipped h rest' had has e w s =
    let failed_so : has ≡ input_failed {A = Option Error} (Err Input) had = rw w.is at s in
    subst (λ (x : ListError). FailsAfter full (source rest rest' had has) events x) (sym w.is) (record {
      given = a.reached.given ++ w.given;
      gave = Consumes-trans full rest rest' a.reached.given w.given a.reached.gave w.gave;
      begins = begins_with full rest (lending stored chunk cur) events a.reached w.given;
      because = (
        failed_so,
        last_event (fault (at_offset UnexpectedEof part.passing.from)),
        reads_short (λ head. false) full rest events cur stored chunk a part.passing skipped h.skips w.given w.fewer,
      );
    })
