-- What is written of a stream in which a section is set.
use Rattle.std.proofs.Common.{◌≡◌, ℕ, Bool, true, false, List, [], ◌∷◌, ◌++◌, Some, None, Ok, refl, sym, ap, ◌∙◌}
use Rattle.std.proofs.Common.{IsTrue, ◌↔◌}
use Rattle.std.proofs.lemmas.List.Elements.{All-cons, All-nil}
use Rattle.wasm_base.specs.Features.{all_features}
use Rattle.wasm_edits.proofs.ForCallers.{edits_so}
use Rattle.wasm_edits.specs.Edited.{IsEdited}
use Rattle.wasm_edits.specs.Edits.{CanBeMade, bytes_as, edited_bytes, report_fate}
use Rattle.wasm_edits.specs.Encoded.{Fits, encoded_section}
use Rattle.wasm_edits.specs.declared.edits.Edit.TheVariants as edit
use Rattle.wasm_edits.specs.declared.encoding.NewSection.{NewSection}
use Rattle.wasm_frames.proofs.ForCallers.{end_consumes_all}
use Rattle.wasm_grammar.specs.EventRanges.{consumed_by}
use Rattle.wasm_grammar.specs.Reading.{Event, Report, Stream, version, counted, start_section, data_count_section, code_start}
use Rattle.wasm_grammar.specs.Reading.{code_entry, custom_section, unknown_section, stream_end}
use Rattle.wasm_commands.specs.FirstNamed.{FindsFirst, ReplacesFirst}
use Rattle.wasm_commands.specs.declared.around.Around.{Around}

-- a section that does not fit
pub no_fit : (new : NewSection) (fits : Bool) → IsTrue fits ↔ Fits new → fits ≡ false → ¬ Fits new
no_fit new true i is = absurd cc
no_fit new false i is = λ f. let t : false ≡ true = i.1 f in cc

-- the section is written in place of the first one with its name
pub replaced : (new : NewSection) (stream : List ℕ) (around : Around) → FindsFirst new.name.now stream (Ok (Some around))
    → ReplacesFirst new stream (around.before.now ++ (encoded_section new ++ around.after.now))
replaced new stream around r = record {
  events = r.events;
  offset = r.offset;
  reading = r.reading;
  first = r.found.first;
  event = r.found.event;
  is_first = r.found.is_first;
  after = around.after.now;
  whole = r.found.whole;
  bytes = ap (λ (xs : List ℕ). xs ++ (encoded_section new ++ around.after.now)) r.found.front;
}

module _ (new : NewSection) where
  -- an edit that appends leaves what is there
  stays : (r : Report) (bytes : List ℕ) → bytes_as (report_fate (edit.Append new ∷ []) r) bytes ≡ bytes
  stays (version num encoding from to) bytes = refl
  stays (counted id count window) bytes = refl
  stays (start_section func from to) bytes = refl
  stays (data_count_section count from to) bytes = refl
  stays (code_start count from to size) bytes = refl
  stays (code_entry window) bytes = refl
  stays (custom_section name data_offset window) bytes = refl
  stays (unknown_section id contents from to) bytes = refl
  stays (stream_end end) bytes = refl

  all_stay : (events : List Event) → edited_bytes (edit.Append new ∷ []) events ≡ consumed_by events
  all_stay [] = refl
  all_stay (e ∷ events) = ap (λ (xs : List ℕ). xs ++ edited_bytes (edit.Append new ∷ []) events) (stays e.report e.consumed)
      ∙ ap (λ (xs : List ℕ). e.consumed ++ xs) (all_stay events)

  -- or after all sections
  pub appended : (stream : List ℕ) → Fits new → Stream stream 0 → FindsFirst new.name.now stream (Ok None)
      → IsEdited (edit.Append new ∷ []) stream (stream ++ (encoded_section new ++ []))
  appended stream fits s r = edits_so (edit.Append new ∷ []) stream stream
      (All-cons CanBeMade (edit.Append new) [] fits (All-nil CanBeMade)) s (record {
        events = r.events;
        offset = r.offset;
        reading = r.reading;
        written = end_consumes_all stream 0 all_features r.events r.offset r.reading ∙ sym (all_stay r.events);
      })
