-- What a listing does at each turn of its run.
use Rattle.wasm_lines.proofs.Common.{◌≡◌, ℕ, Bool, List, [], Ok, Err, Some, None, refl, ◌∙◌, Option, Result, Consumes-nil}
use Rattle.wasm_lines.proofs.Common.{cut, line_of, ListError, Error, Feed}
use Rattle.wasm_lines.specs.ListStream.{TakesTurn, lister}
use Rattle.wasm_streams.proofs.ForCallers.{MetBy, cut_short, end_cut, line_advanced, listed_all, meets, no_memory}
use Rattle.wasm_streams.specs.Progress.{ReadOn, ReadsOnAnywhere}
use Rattle.wasm_streams.specs.Step.{Part, Told}
use Rattle.wasm_streams.specs.Turns.{turn_after}
use Rattle.wasm_streams.specs.Visits.{GivesOut, MeetsRequest, Taken, TakesStep}
use Rattle.wasm_streams.specs.Writers.{Writer, writer_stages}
use Rattle.wasm_grammar.specs.Reading.{Report}
use Rattle.wasm_streams.specs.declared.turns.Turn.{Turn}
use Rattle.wasm_streams.specs.declared.turns.Turn.TheVariants as turn
use Rattle.wasm_io.specs.Calls.{Change, Device, bytes_of, from_to, input_failed, output_failed}
use Rattle.wasm_io.specs.Page.{Puts}
use Rattle.wasm_io.specs.declared.devices.ListError.TheVariants.{Memory}

-- the line of a part was put
pub line_taken : (taken written : Option (List ℕ)) (waiting new : List ℕ) (report : Report) (bytes : List ℕ)
    (result : Result (Unit {0}) ListError) → Puts taken written waiting (line_of report) new result
    → TakesTurn taken written waiting new (Part report bytes) result
line_taken taken written waiting new report bytes (Ok done) puts = puts
line_taken taken written waiting new report bytes (Err e) cut = cut

module _ {V W : Type 0} (page : V → List ℕ) (taken : W → Option (List ℕ)) (failed : W → Bool) where
  abbrev pub writer : Writer V W (Unit {0})
  writer = lister page taken failed

  pub takes : (old new : V) (before after : W) (x : Told) (result : Result (Unit {0}) ListError)
      → TakesTurn (taken before) (taken after) (page old) (page new) x result → failed after ≡ output_failed result (failed before)
      → TakesStep (writer_stages writer) old before x result new after
  takes old new before after x (Ok done) puts f first start input e g same going moves = by (turn_after x) refl
    where
      by : (next : Turn) → next ≡ turn_after x → Taken (writer_stages writer) first start input e g (Ok next) new after
      by turn.Advance t =
          let (p, less) = line_advanced line_of input.before input.after (taken start) (taken before) e (page old) going.progress g x moves
          (taken after) (page new) puts t in
          (record { progress = p; same = refl; sink = f ∙ going.sink }, less)
      by turn.Read t = tt
      by (turn.End how) t = record {
        whole = λ written a. listed_all line_of input.before input.after (taken start) (taken before) e (page old) going.progress g x moves
            (taken after) (page new) puts how t written a;
        cut = λ written why c. end_cut line_of input.before input.after (taken start) (taken before) e (page old) going.progress g x moves
            (taken after) (page new) puts how t written why c;
        sink = f ∙ going.sink;
      }
  takes old new before after x (Err why) c f first start input e g same going moves =
      cut_short writer first start input before after (page old) why same c f going.sink
      (cut line_of input.before input.after (taken start) (taken before) e (page old) going.progress (taken after) why c)

  pub requests : (old new : V) (before after : W) (input : Device) (f g : Feed) (result : Result (Option Error) ListError)
      → ReadsOnAnywhere line_of (bytes_of input) (from_to (taken before) (taken after)) f (page old) g (page new) result
      → input.has_failed ≡ input_failed result input.had_failed → failed after ≡ output_failed result (failed before)
      → MeetsRequest (writer_stages writer) old before input f result new after g
  requests old new before after input f g result reads source sink =
      meets writer old new before after input f g result refl (λ full start wants. met _ _ result (reads full start wants)) source sink
    where
      met : (source sink : Change) (result : Result (Option Error) ListError) → ReadOn line_of source sink f g (page new) result
          → MetBy writer tt source sink f g (page new) result
      met source sink (Ok None) r = r
      met source sink (Ok (Some e)) r = r
      met source sink (Err e) r = r

  pub gives_out : (old : V) (before : W) → GivesOut (writer_stages writer) old before Memory before
  gives_out old before first start input f same going = record {
    ends = no_memory line_of input.before input.after (taken start) (taken before) f (page old) going.progress input.after []
        (Consumes-nil input.after);
    source = same;
    sink = going.sink;
  }
