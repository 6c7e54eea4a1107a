-- Streams that are written with edits, devices that are left alone, and what a status says.
use Rattle.std.proofs.Common.{◌≡◌, Vec, Global, ℕ, Bool, true, false, List, ◌++◌, Option, Some, None, Result, Ok, Err, ap}
use Rattle.std.proofs.Common.{refl, subst, sym, is_ok}
use Rattle.std.proofs.Common.{length, take, take_all, le_refl, All, IsTrue, ◌↔◌}
use Rattle.std.specs.Io.KnownBytes.{Appends, Consumes, Keeps}
use Rattle.std.proofs.KnownBytes.{Appends-kept, Appends-trans}
use Rattle.wasm_base.specs.FaultAt.{fault_at}
use Rattle.wasm_base.specs.declared.error.Error.{Error}
use Rattle.wasm_base.specs.declared.fault.Fault.TheVariants.{OutOfMemory}
use Rattle.wasm_edits.specs.EditStream.{EditsParts, EditsSource, EndsEdit, WritesNew, ended_by}
use Rattle.wasm_edits.specs.Edits.{CanBeMade, edited_bytes, new_bytes}
use Rattle.wasm_edits.specs.declared.edits.Edit.{Edit}
use Rattle.wasm_edits.specs.Stripped.{EndsWithFault, RefusesToStrip}
use Rattle.wasm_grammar.specs.Accepted.{IsAccepted}
use Rattle.wasm_io.specs.Calls.{Device}
use Rattle.wasm_io.specs.declared.devices.ListError.{ListError}
use Rattle.wasm_io.specs.declared.devices.ListError.TheVariants.{Input, Output, Memory}
use Rattle.wasm_io.specs.declared.devices.source.Source.{Ghosts as SourceOf}
use Rattle.wasm_streams.specs.declared.turns.Ended.{Ended}
use Rattle.wasm_streams.specs.declared.turns.Ended.TheVariants.{End, Fault}
use Rattle.wasm_commands.specs.Rewrites.{EditsBy, EditsFile, EditsOriginal, EndsFile, EndsTarget, GoesOnAs, IsWritten, WritesAll}
use Rattle.wasm_commands.specs.Rewrites.{input_device, is_whole}
use Rattle.wasm_commands.specs.Runs.{Run}
use Rattle.wasm_commands.specs.declared.reasons.Cause.{Cause}
use Rattle.wasm_commands.specs.declared.rewriting.Original.{Original}
use Rattle.wasm_commands.specs.declared.system.System.{Ghosts as SystemOf}

-- a stream that is refused, but not since memory ran out
pub not_accepted : (stream : List ℕ) (e : Error) → RefusesToStrip stream e → ((fault_at e).fault ≡ OutOfMemory → ⊥)
    → (¬ IsAccepted stream) × EndsWithFault stream e
not_accepted stream e r n =
    let refused : ¬ IsAccepted stream = λ a. n (ap (λ f. f.fault) (r.memory a)) in (refused, r.fault refused)

-- ---- a stream that was written to its end

-- what was written of the sections that are appended
new_written : (edits : List Edit) (output : Device) (r : Result (Unit {0}) ListError) → WritesNew edits output r → Ok End ≡ ended_by r
    → Appends output.before output.after (new_bytes edits)
new_written edits output (Ok done) w is = w.writes
new_written edits output (Err e) w is = absurd cc

-- a source that was edited to its end
module _ (edits : List Edit) (input output : Device) (middle : Option (List ℕ)) (failed : Bool) where
  all_parts : (parts : Result Ended ListError) → EditsParts edits input (record output { after = middle; has_failed = failed }) parts
      → EndsEdit edits parts (record output { before = middle; had_failed = failed }) (Ok End)
      → (stream : List ℕ) × Consumes input.before input.after stream × WritesAll edits stream output
  all_parts (Ok End) e ends =
      let s = e.ends in (
        s.given,
        s.gave,
        record {
          bytes = (edited_bytes edits s.first ++ s.partial) ++ new_bytes edits;
          is_edited = s.is_edited refl;
          wrote = Appends-trans output.before middle output.after (edited_bytes edits s.first ++ s.partial) (new_bytes edits) s.wrote
              (new_written edits (record output { before = middle; had_failed = failed }) ends.0 ends.1 ends.2);
        },
      )
  all_parts (Ok (Fault f)) e ends = absurd (let is = ends.2 in cc)
  all_parts (Err why) e ends = absurd (let is = ends.2 in cc)

pub all_edited : (edits : List Edit) (input output : Device) → EditsSource edits input output (Ok End)
    → (stream : List ℕ) × Consumes input.before input.after stream × WritesAll edits stream output
all_edited edits input output s = all_parts edits input output s.middle s.failed s.parts s.edited s.ends

-- the second reading of a file that was edited to its end
all_again : (edits : List Edit) (checked : Result Ended ListError) (second output : Device)
    → GoesOnAs edits checked second output (Ok End) → EditsSource edits second output (Ok End)
all_again edits (Ok End) second output g = g
all_again edits (Ok (Fault f)) second output g = absurd (let is = g.2 in cc)
all_again edits (Err why) second output g = absurd (let is = g.2 in cc)

-- a stream that was written to its end, by what is held of it
module _ {S I O : Type 0} (calls : SystemOf S I O) (sources : SourceOf I) (system : S) (edits : List Edit)
    (original : Original) (output : Device) where
  by_checked : (is_checked : Bool) → original.held ≡ None
      → EditsFile calls sources system edits original.way.name.now is_checked output (Ok End)
      → IsWritten calls sources system edits original output
  by_checked true is e =
      let all = all_edited edits (input_device sources e.opened e.rest) output e.writes in
      record {
        stream = all.0;
        given = rw is (record { opened = e.opened; rest = e.rest; opens = e.opens; gave = all.1 });
        written = all.2;
      }
  by_checked false is e =
      let again = all_again edits e.writes.checked (input_device sources e.opened.second e.rest.second) output e.writes.goes_on in
      let all = all_edited edits (input_device sources e.opened.second e.rest.second) output again in
      record {
        stream = all.0;
        given = rw is (record { opened = e.opened.second; rest = e.rest.second; opens = e.reopens; gave = all.1 });
        written = all.2;
      }

  by_held : (held : Option (Vec ℕ Global)) → original.held ≡ held
      → EditsBy calls sources system edits original held output (Ok End)
      → IsWritten calls sources system edits original output
  by_held None is e = by_checked original.is_checked is e
  by_held (Some held) is e =
      let w = e.writes in
      record {
        stream = held.items;
        given = rw is refl;
        written = record { bytes = w.0; is_edited = λ s. w.1; wrote = w.2 };
      }

  pub whole_written : (edited : Result (Result Ended ListError) Cause)
      → EditsOriginal calls sources system edits original output edited → is_whole edited ≡ true
      → IsWritten calls sources system edits original output
  whole_written (Ok (Ok End)) e is = by_held original.held refl e
  whole_written (Ok (Ok (Fault f))) e is = absurd cc
  whole_written (Ok (Err why)) e is = absurd cc
  whole_written (Err cause) e is = absurd cc

-- a command goes on after it has written a file exactly if the stream was written to its end
pub ok_if_whole : {S : Type 0} (name target : List ℕ) (edited : Result (Result Ended ListError) Cause) (result : Result (Unit {0}) ℕ)
    (old new : Run S) → EndsFile name target edited result old new → is_ok result ≡ is_whole edited
ok_if_whole name target (Ok (Ok End)) result old new e = rw e.0 refl
ok_if_whole name target (Ok (Ok (Fault f))) result old new e = rw e.answers refl
ok_if_whole name target (Ok (Err Input)) result old new e = rw e.stops.answers refl
ok_if_whole name target (Ok (Err Output)) result old new e = rw e.stops.answers refl
ok_if_whole name target (Ok (Err Memory)) result old new e = rw e.stops.answers refl
ok_if_whole name target (Err cause) result old new e = rw e.answers refl

pub ok_if_complete : {S : Type 0} (target : List ℕ) (is_complete : Bool) (result : Result (Unit {0}) ℕ) (old new : Run S)
    → EndsTarget target is_complete result old new → is_ok result ≡ is_complete
ok_if_complete target true result old new e = rw e.0 refl
ok_if_complete target false result old new e = rw e.stops.answers refl

-- ---- bytes that were written as they are

-- all bytes were written, and then the output failed
pub all_but_flushed : (a b c : Option (List ℕ)) (bytes : List ℕ) → Appends a b bytes → Keeps b c → (n : ℕ) × Appends a c (take n bytes)
all_but_flushed a b c bytes w k = (
  length bytes,
  subst (Appends a c) (sym (take_all (length bytes) bytes (le_refl (length bytes)))) (Appends-kept a b c bytes w k),
)

-- ---- edits that cannot be made

pub not_all_fit : (edits : List Edit) (fits : Bool) → IsTrue fits ↔ All CanBeMade edits → fits ≡ false → ¬ All CanBeMade edits
not_all_fit edits true i is = absurd cc
not_all_fit edits false i is = λ all. let t : false ≡ true = i.1 all in cc
