-- What edits do at each turn of their run.
use Rattle.wasm_edits.proofs.Common.{◌≡◌, ℕ, Bool, All, List, [], Ok, Err, refl, ◌∙◌, Option, Result, Consumes-nil, ListError, Error, Feed}
use Rattle.wasm_edits.proofs.EditProgress.{advanced, cut, cut_page, gave_up_at_once, streamed}
use Rattle.wasm_edits.specs.EditStream.{TakesPiece, editor}
use Rattle.wasm_edits.specs.Edits.{CanBeMade}
use Rattle.wasm_edits.specs.declared.edits.Edit.{Edit}
use Rattle.wasm_streams.specs.Step.{Told}
use Rattle.wasm_streams.specs.Turns.{turn_after}
use Rattle.wasm_streams.specs.Visits.{GivesOut, MeetsRequest, Taken, TakesStep}
use Rattle.wasm_streams.specs.Writers.{Writer, writer_stages}
use Rattle.wasm_streams.specs.declared.turns.Ended.{Ended}
use Rattle.wasm_streams.specs.declared.turns.Turn.{Turn}
use Rattle.wasm_streams.specs.declared.turns.Turn.TheVariants as turn
use Rattle.wasm_streams.proofs.ForCallers.{MeetsBy, input_kept, meets, sink_then}
use Rattle.wasm_io.specs.Calls.{Device, bytes_of, from_to, input_failed, output_failed}
use Rattle.wasm_io.specs.declared.devices.ListError.TheVariants.{Memory}

module _ {V W : Type 0} (edits : V → List Edit) (page : V → List ℕ) (taken : W → Option (List ℕ)) (failed : W → Bool) where
  abbrev pub writer : Writer V W (List Edit)
  writer = editor edits page taken failed

  pub takes : (old new : V) (before after : W) (x : Told) (result : Result (Unit {0}) ListError) → All CanBeMade (edits old)
      → edits new ≡ edits old → TakesPiece (edits old) (taken before) (taken after) (page old) (page new) x result
      → failed after ≡ output_failed result (failed before) → TakesStep (writer_stages writer) old before x result new after
  takes old new before after x (Ok done) fits kept puts f first start input e g same going moves = by (turn_after x) refl
    where
      by : (next : Turn) → next ≡ turn_after x → Taken (writer_stages writer) first start input e g (Ok next) new after
      by turn.Advance t =
          let (p, less) = advanced (edits first) input.before input.after (taken start) (taken before) e (page old) going.progress g x moves
          (taken after) (page new) (rw going.same at puts) t in
          (record { progress = p; same = kept ∙ going.same; sink = f ∙ going.sink }, less)
      by turn.Read t = tt
      by (turn.End how) t = record {
        whole = λ written a. streamed (edits first) input.before input.after (taken start) (taken before) e (page old) going.progress g x
            moves (taken after) (page new) (rw going.same at puts) (rw going.same at fits) how t written a;
        cut = λ written why c. cut_page (edits first) input.before input.after (taken start) (taken before) e (page old) going.progress g x
            moves (taken after) (page new) (rw going.same at puts) written why c;
        sink = f ∙ going.sink;
      }
  takes old new before after x (Err why) fits kept c f first start input e g same going moves = record {
    ends = cut (edits first) input.before input.after (taken start) (taken before) e (page old) going.progress g x moves (taken after) why
        (rw going.same at c);
    source = same ∙ input_kept (taken before) (taken after) _ why c input.had_failed;
    sink = sink_then {A = Ended} (Err why) (failed start) (failed before) (failed after) f going.sink;
  }

  pub requests : (old new : V) (before after : W) (input : Device) (f g : Feed) (result : Result (Option Error) ListError)
      → edits new ≡ edits old
      → MeetsBy writer (edits old) (bytes_of input) (from_to (taken before) (taken after)) f (page old) g (page new) result
      → input.has_failed ≡ input_failed result input.had_failed → failed after ≡ output_failed result (failed before)
      → MeetsRequest (writer_stages writer) old before input f result new after g
  requests old new before after input f g result same m source sink =
      meets writer old new before after input f g result same m source sink

  pub gives_out : (old : V) (before : W) → GivesOut (writer_stages writer) old before Memory before
  gives_out old before first start input f same going = record {
    ends = gave_up_at_once (edits first) input.before input.after (taken start) (taken before) f (page old) going.progress input.after []
        (Consumes-nil input.after);
    source = same;
    sink = going.sink;
  }
