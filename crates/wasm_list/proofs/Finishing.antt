-- A run of the program, and then its end.
use Rattle.std.proofs.Common.{◌≡◌, ◌⊎◌, ℕ, ◌<◌, Bool, List, Option, Result, Ok, Err, refl, sym, ◌∙◌, take, subst, arith, inl}
use Rattle.std.proofs.Common.{inr}
use Rattle.std.specs.Io.KnownBytes.{Appends, Keeps}
use Rattle.wasm_lines.specs.ListStream.{Lists}
use Rattle.wasm_io.specs.Calls.{Device, from_to}
use Rattle.std.proofs.KnownBytes.{Appends-kept}
use Rattle.wasm_console.specs.Devices.{over, Follows, IsUntouched}
use Rattle.wasm_io.specs.Messages.{Says}
use Rattle.wasm_console.specs.Endings.{RunsUsage, FlushesOutput, FailsToFlush, LeavesAlone, Finishes, status_for}
use Rattle.wasm_list.specs.ListCommands.{Asked}
use Rattle.wasm_list.specs.ListRuns.{RunsListingAs, Runs, EndsAs, ListsAll, RunsThenFlushes, RunsWhole, usage}
use Rattle.wasm_streams.specs.declared.turns.Ended.{Ended}
use Rattle.wasm_streams.specs.declared.turns.Ended.TheVariants.{End, Fault}
use Rattle.wasm_io.specs.declared.devices.ListError.{ListError}

lists_kept : (source rest taken written kept : Option (List ℕ)) (how : Ended) → Lists (from_to source rest) (from_to taken written) (Ok how)
    → Keeps written kept
    → Lists (from_to source rest) (from_to taken kept) (Ok how)
lists_kept source rest taken written kept how h k = record {
  given = h.given;
  first = h.first;
  end = h.end;
  gave = h.gave;
  listed = Appends-kept taken written kept _ h.listed k;
  ends = h.ends;
  within = h.within;
  past_the_top = h.past_the_top;
}

below_two : (how : Ended) → status_for (Ok how) < 2
below_two End = omega arith
below_two (Fault e) = omega arith

-- nothing was said, and then this
said : (first second : Device) (message : List ℕ) → Follows first second → IsUntouched first → Says second message
    → Says (over first second) message
said first second message f u s =
    let same : second.before ≡ first.before = f.bytes ∙ u.bytes in
    record {
      some = (s.some.0, subst (λ (b : Option (List ℕ)). Appends b second.after (take s.some.0 message)) same s.some.1);
      all = λ e. subst (λ (b : Option (List ℕ)). Appends b second.after message) same (s.all e);
    }

-- this was said, and then nothing
said_before : (first second : Device) (message : List ℕ) → Follows first second → Says first message → IsUntouched second
    → Says (over first second) message
said_before first second message f s u =
    let same : first.after ≡ second.after = sym (u.bytes ∙ f.bytes) in
    let kept : second.has_failed ≡ first.has_failed = u.failed ∙ f.failed in
    record {
      some = (s.some.0, subst (λ (a : Option (List ℕ)). Appends first.before a (take s.some.0 message)) same s.some.1);
      all = λ e. subst (λ (a : Option (List ℕ)). Appends first.before a message) same (s.all (sym kept ∙ e));
    }

untouched_twice : (first second : Device) → Follows first second → IsUntouched first → IsUntouched second → IsUntouched (over first second)
untouched_twice first second f u v = record { bytes = v.bytes ∙ (f.bytes ∙ u.bytes); failed = v.failed ∙ (f.failed ∙ u.failed) }

-- the listing ended, and the output was then flushed, or failed
passes_on : (first second first_errors second_errors : Device) (how : Ended) (forwarded : Bool) (status result : ℕ) → Follows first second
    → Follows first_errors second_errors
    → first.has_failed ≡ first.had_failed → IsUntouched first_errors → status ≡ status_for (Ok how)
    → FlushesOutput status forwarded second second_errors result ⊎ FailsToFlush second second_errors result
    → EndsAs (Ok how) forwarded (over first second) (over first_errors second_errors) result
passes_on first second first_errors second_errors how forwarded status result f fe sink silent answers (inl h) = inl (record {
  answers = h.answers ∙ answers;
  all = h.all;
  sink = h.sink ∙ (f.failed ∙ sink);
  silent = untouched_twice first_errors second_errors fe silent h.silent;
})
passes_on first second first_errors second_errors how forwarded status result f fe sink silent answers (inr h) = inr (record {
  answers = h.answers;
  sink = h.sink;
  says = said first_errors second_errors _ fe silent h.says;
})

-- a run that listed its input, and then its end
listed_all : (input first second first_errors second_errors : Device) (forwarded : Bool) (status result : ℕ) → Follows first second
    → Follows first_errors second_errors
    → (how : Result Ended ListError) → RunsListingAs how input first first_errors status
    → Finishes status forwarded second second_errors result
    → ListsAll forwarded input (over first second) (over first_errors second_errors) result
listed_all input first second first_errors second_errors forwarded status result f fe (Ok how) r finish = record {
  how = Ok how;
  lists = lists_kept _ _ _ _ _ how r.lists.ends (subst (λ (b : Option (List ℕ)). Keeps b second.after) f.bytes finish.keeps);
  source = r.lists.source;
  ends = passes_on first second first_errors second_errors how forwarded status result f fe r.lists.sink r.reports r.answers
      (finish.ended (subst (λ (n : ℕ). n < 2) (sym r.answers) (below_two how)));
}
listed_all input first second first_errors second_errors forwarded status result f fe (Err why) r finish =
    let alone : LeavesAlone status second second_errors result = finish.given_up (omega (arith, r.answers)) in
    let kept : second.after ≡ first.after = alone.sink.bytes ∙ f.bytes in
    record {
      how = Err why;
      lists = subst (λ (a : Option (List ℕ)). Lists (from_to input.before input.after) (from_to first.before a) (Err why)) (sym kept)
          r.lists.ends;
      source = r.lists.source;
      ends = record {
        answers = alone.answers ∙ r.answers;
        sink = alone.sink.failed ∙ (f.failed ∙ r.lists.sink);
        says = said_before first_errors second_errors _ fe r.reports alone.silent;
      };
    }

-- a run that refused its arguments, and then its end
refused_all : (input first second first_errors second_errors : Device) (forwarded : Bool) (status result : ℕ) → Follows first second
    → Follows first_errors second_errors
    → RunsUsage usage input first first_errors status → Finishes status forwarded second second_errors result
    → RunsUsage usage input (over first second) (over first_errors second_errors) result
refused_all input first second first_errors second_errors forwarded status result f fe r finish =
    let alone : LeavesAlone status second second_errors result = finish.given_up (omega (arith, r.answers)) in
    record {
      source = r.source;
      sink = untouched_twice first second f r.sink alone.sink;
      answers = alone.answers ∙ r.answers;
      says = said_before first_errors second_errors _ fe r.says alone.silent;
    }

-- a run, and then its end
flushed_after : (runs : (output errors : Device) (status : ℕ) → Type 0) (first second first_errors second_errors : Device)
    (forwarded : Bool) (status result : ℕ) → Follows first second → Follows first_errors second_errors → runs first first_errors status
    → Finishes status forwarded second second_errors result
    → RunsThenFlushes runs forwarded (over first second) (over first_errors second_errors) result
flushed_after runs first second first_errors second_errors forwarded status result f fe ran finish = record {
  written = first;
  passes_on = second;
  said = first_errors;
  said_last = second_errors;
  first = status;
  follows = (f, fe);
  devices = (refl, refl);
  ran = ran;
  ends = finish;
}

pub program : {asked : Asked} {input first second first_errors second_errors : Device} {forwarded : Bool} {status result : ℕ}
    → Follows first second → Follows first_errors second_errors
    → Runs asked input first first_errors status → Finishes status forwarded second second_errors result
    → RunsWhole asked forwarded input (over first second) (over first_errors second_errors) result
program {asked} {input} {first} {second} {first_errors} {second_errors} {forwarded} {status} {result} f fe runs finish = record {
  lists = λ c. let r = runs.lists c in listed_all input first second first_errors second_errors forwarded status result f fe r.how
      r.runs finish;
  strips = λ c. flushed_after _ first second first_errors second_errors forwarded status result f fe (runs.strips c) finish;
  refuses = λ c. refused_all input first second first_errors second_errors forwarded status result f fe (runs.refuses c) finish;
}
