-- What a visitor that writes a text on a page does at each turn.
use Rattle.wasm_streams.proofs.Common.{◌≡◌, ℕ, ◌<◌, Bool, List, [], Ok, Err, None, Some, refl, ap, ◌∙◌, Option, Error, Feed}
use Rattle.wasm_streams.proofs.Common.{weight, Ended, Fault, Input, IsCut, ListError}
use Rattle.std.specs.Prelude.{Result}
use Rattle.wasm_streams.specs.Feed.{new_feed}
use Rattle.wasm_streams.specs.Progress.{Progress, Wants}
use Rattle.wasm_streams.specs.Visits.{MayBegin, Met, MeetsRequest, since}
use Rattle.wasm_streams.specs.Writers.{RunEnds, Writer, writer_stages}
use Rattle.wasm_base.specs.Features.{all_features}
use Rattle.wasm_io.specs.Calls.{Change, Device, bytes_of, device_of, from_to, input_failed, output_failed}
use Rattle.wasm_io.specs.declared.devices.ListError.TheVariants.{Memory, Output}
use Rattle.wasm_streams.proofs.Progress.{begun, wanted}
use Rattle.wasm_streams.proofs.Reached.{nothing_read}

-- no page is cut by a source
pub input_kept : (taken written : Option (List ℕ)) (page : List ℕ) (e : ListError) → IsCut taken written page e
    → (b : Bool) → b ≡ input_failed {A = Ended} (Err e) b
input_kept taken written page Input c b = absurd c
input_kept taken written page Output c b = refl
input_kept taken written page Memory c b = refl

-- a sink had not failed before a call
pub sink_then : {A : Type 0} (result : Result A ListError) (old mid new : Bool) → new ≡ output_failed result mid → mid ≡ old
    → new ≡ output_failed result old
sink_then result old mid new f same = f ∙ ap (λ (b : Bool). output_failed result b) same

module _ {V W K : Type 0} (w : Writer V W K) where
  -- a run begins with an empty page
  pub may_begin : (first : V) (start : W) (full : Option (List ℕ)) (had : Bool) → w.text (w.by first) [] ≡ [] → w.page first ≡ []
      → MayBegin (writer_stages w) first start full had
  may_begin first start full had none empty = record {
    progress = rw empty (begun (w.text (w.by first)) none full (w.taken start) (new_feed 0 all_features) (nothing_read full));
    same = refl;
    sink = refl;
  }

  -- the page was cut
  pub cut_short : (first : V) (start : W) (input : Device) (before after : W) (page : List ℕ) (e : ListError)
      → input.has_failed ≡ input.had_failed → IsCut (w.taken before) (w.taken after) page e
      → w.failed after ≡ output_failed {A = Ended} (Err e) (w.failed before) → w.failed before ≡ w.failed start
      → w.ends (w.by first) (bytes_of input) (from_to (w.taken start) (w.taken after)) (Err e)
      → RunEnds (w.ends (w.by first)) input (device_of w.taken w.failed start after) (Err e)
  cut_short first start input before after page e same c f sink ends = record {
    ends = ends;
    source = same ∙ input_kept (w.taken before) (w.taken after) page e c input.had_failed;
    sink = sink_then {A = Ended} (Err e) (w.failed start) (w.failed before) (w.failed after) f sink;
  }

  -- what one request did, in terms of the text
  abbrev pub MetBy : (by : K) (input output : Change) (old new : Feed) (page : List ℕ) → Result (Option Error) ListError → Type 0
  MetBy by input output old new page (Ok None) = Progress (w.text by) input output new page × (weight new < weight old)
  MetBy by input output old new page (Ok (Some e)) = w.ends by input output (Ok (Fault e))
  MetBy by input output old new page (Err e) = w.ends by input output (Err e)

  abbrev pub MeetsBy : (by : K) (input output : Change) (old : Feed) (waiting : List ℕ) (new : Feed) (page : List ℕ)
      → Result (Option Error) ListError → Type 0
  MeetsBy by input output old waiting new page result = (source taken : Option (List ℕ))
      → Wants (w.text by) (from_to source input.before) (from_to taken output.before) old waiting
      → MetBy by (from_to source input.after) (from_to taken output.after) old new page result

  -- a request was met
  pub meets : (old new : V) (before after : W) (input : Device) (f g : Feed) (result : Result (Option Error) ListError)
      → w.by new ≡ w.by old → MeetsBy (w.by old) (bytes_of input) (from_to (w.taken before) (w.taken after)) f (w.page old) g
      (w.page new) result
      → input.has_failed ≡ input_failed result input.had_failed → w.failed after ≡ output_failed result (w.failed before)
      → MeetsRequest (writer_stages w) old before input f result new after g
  meets old new before after input f g result by m source sink first start full had e hint mid going moves =
      met result (rw going.same at (m full (w.taken start) (rw going.same wants))) source sink
    where
      -- nothing is written for a request
      wants : Wants (w.text (w.by first)) (from_to full input.before) (from_to (w.taken start) (w.taken before)) f (w.page old)
      wants = wanted (w.text (w.by first)) full input.before (w.taken start) (w.taken before) e (w.page old) going.progress f hint moves

      met : (result : Result (Option Error) ListError)
          → MetBy (w.by first) (from_to full input.after) (from_to (w.taken start) (w.taken after)) f g (w.page new) result
          → input.has_failed ≡ input_failed result input.had_failed → w.failed after ≡ output_failed result (w.failed before)
          → Met (writer_stages w) first start (since full had input) f g result new after
      met (Ok None) (p, less) source sink = (record { progress = p; same = by ∙ going.same; sink = sink ∙ going.sink }, less)
      met (Ok (Some e)) ends source sink = record { ends = ends; source = source ∙ mid; sink = sink ∙ going.sink }
      met (Err e) ends source sink = record {
        ends = ends;
        source = source ∙ ap (λ (b : Bool). input_failed {A = Ended} (Err e) b) mid;
        sink = sink_then {A = Ended} (Err e) (w.failed start) (w.failed before) (w.failed after) sink going.sink;
      }
