-- What a walker that writes faults has seen of an input, and has written.
use Rattle.std.proofs.Common.{◌≡◌, ◌∙◌, ℕ, Bool, true, false, List, [], ◌∷◌, ◌++◌, Option, Some, None, append-nil, append_assoc, ap, refl}
use Rattle.std.proofs.Common.{Err, Ok, Result, subst, sym}
use Rattle.std.specs.Io.KnownBytes.{Appends, Keeps}
use Rattle.std.specs.Prelude.{IfOk}
use Rattle.wasm_commands.specs.Checks.{ChecksFirst, ChecksInput, ChecksWhole, ReadsFirst, ReadsInput, ReadsOn}
use Rattle.wasm_dumper.specs.Counting.{no_counts}
use Rattle.wasm_dumper.specs.Walks.{SeesFirst, SeesWhole, events_seen}
use Rattle.wasm_grammar.specs.Reading.{last_event}
use Rattle.wasm_streams.specs.declared.turns.Ended.{Ended}
use Rattle.wasm_io.specs.Calls.{Change, Device, bytes_of, from_to}
use Rattle.wasm_io.specs.Page.{IsCut, PutsBytes, WritesHead}
use Rattle.wasm_io.specs.declared.devices.ListError.{ListError}
use Rattle.wasm_io.specs.declared.devices.ListError.TheVariants.{Input, Memory, Output}
use Rattle.wasm_output.specs.Said.{PutsMore, PutsText, as_writing}
use Rattle.wasm_show.specs.Noted.{HasNoted, Noted, found_by, lines_since}
use Rattle.wasm_show.specs.Seen.{Seen, Site, last_site, lines_of, outside, seen_line, site_after}
use Rattle.wasm_show.specs.Walk.{HasSeen}
use Rattle.wasm_show.specs.declared.faults.Faults.{Faults}
use Rattle.wasm_show.proofs.ForCallers.{noted_nothing, noted_same}

module _ {W : Type 0} (old mid : Faults W) (new : Noted) (puts : PutsMore [] (found_by mid).output new.output)
    (out : new.output.why ≡ None → new.output.waiting ≡ []) where
  abbrev saw : Faults W → List Seen → Faults W → Type 0
  saw since seen now = HasNoted (found_by since) seen (found_by now)

  abbrev why : Faults W → Option ListError
  why t = t.output.why

  -- it has seen nothing yet
  nothing : HasSeen saw why old [] old
  nothing = record { done = []; left = []; is = refl; did = noted_nothing (found_by old); rest = λ e. refl }

  -- what was seen was put
  put : (seen : List Seen) → HasNoted (found_by old) seen (found_by mid)
      → PutsText old.output.why new.output.why (lines_since (found_by old) seen) (as_writing (found_by old).output)
      (as_writing new.output)
  put seen h = subst (λ (t : List ℕ). PutsText old.output.why new.output.why t (as_writing (found_by old).output) (as_writing new.output))
      (append-nil (lines_since (found_by old) seen)) (puts (found_by old).output (lines_since (found_by old) seen) h.puts)

  -- one that has walked on, and was then written out
  pub reads_on : (input : Device) (how : Ended) → SeesWhole saw why true input how old mid
      → new ≡ record (found_by mid) { output = new.output } → new.output.why ≡ None
      → ReadsOn (bytes_of input) (found_by old) new new.has_found
  reads_on input how f same going =
      let h = f.all.sees old [] nothing in
      let all : h.done ≡ f.all.seen = sym (append-nil h.done) ∙ (ap (λ (l : List Seen). h.done ++ l) (sym (h.rest f.going)) ∙ h.is) in
      let noted = subst (λ (l : List Seen). HasNoted (found_by old) l (found_by mid)) all h.did in
      record {
        how = how;
        seen = f.all.seen;
        of_stream = f.all.of_stream;
        has = noted_same (found_by old) (found_by mid) new f.all.seen f.going puts same noted;
        going = going;
        out = out going;
        is = refl;
      }

  -- one that has stopped once all was seen
  pub reads_all : (input : Device) (how : Ended) → SeesWhole saw why true input how old mid
      → ReadsFirst (bytes_of input) (found_by old) new
  reads_all input how f =
      let h = f.all.sees old [] nothing in
      let o = f.all.of_stream in
      let events = o.first ++ last_event o.end ∷ [] in
      record {
        first = events;
        gave = record {
          given = o.given;
          gave = o.gave;
          begins = λ l. record { events = events; more = []; reading = (o.within l).reading; begins = sym (append-nil events) };
        };
        seen = h.done;
        left = h.left;
        is = h.is ∙ o.is;
        puts = put h.done h.did;
        out = out;
      }

  -- a walk that failed
  pub reads_first : (input : Device) (stop : ListError) → SeesFirst saw why true input stop old mid
      → ReadsFirst (bytes_of input) (found_by old) new
  reads_first input stop f =
      let h = f.sees old [] nothing in
      record {
        first = f.first;
        gave = record { given = f.given; gave = f.gave; begins = f.begins };
        seen = h.done;
        left = h.left;
        is = h.is;
        puts = put h.done h.did;
        out = out;
      }

-- the lines of a beginning begin the lines of all
lines_begin : (prefix : List ℕ) (site : Site) (a b : List Seen)
    → lines_of prefix site (a ++ b) ≡ lines_of prefix site a ++ lines_of prefix (last_site site a) b
lines_begin prefix site [] b = refl
lines_begin prefix site (n ∷ a) b =
    ap (λ (t : List ℕ). seen_line prefix site n ++ t) (lines_begin prefix (site_after site n) a b)
    ∙ sym (append_assoc (seen_line prefix site n) (lines_of prefix (site_after site n) a)
    (lines_of prefix (last_site (site_after site n) a) b))

since_begin : (since : Noted) (is_quiet : Bool) → since.is_quiet ≡ is_quiet → (a b : List Seen)
    → (more : List ℕ) × (lines_since since (a ++ b) ≡ lines_since since a ++ more)
since_begin since true q a b = ([], rw q refl)
since_begin since false q a b =
    (lines_of since.prefix (last_site since.site a) b, rw q (lines_begin since.prefix since.site a b))

-- a longer text
longer : (taken written : Option (List ℕ)) (a b more : List ℕ) → b ≡ a ++ more → WritesHead taken written a → WritesHead taken written b
longer taken written a b more is h = record {
  moved = h.moved;
  unwritten = h.unwritten ++ more;
  parts = is ∙ (ap (λ (t : List ℕ). t ++ more) h.parts ∙ append_assoc h.moved h.unwritten more);
  wrote = h.wrote;
}

-- where nothing waited, a prefix of the text was written when the output stopped; or all of it, where nothing waits
head_of_cut : (taken written : Option (List ℕ)) (waiting text : List ℕ) (e : ListError) → waiting ≡ []
    → IsCut taken written (waiting ++ text) e → WritesHead taken written text
head_of_cut taken written waiting text Input none x = absurd x
head_of_cut taken written waiting text Memory none x = rw none at x
head_of_cut taken written waiting text Output none x = rw none at x

head_of_all : (taken written : Option (List ℕ)) (waiting text new : List ℕ) → waiting ≡ [] → new ≡ []
    → PutsBytes taken written waiting text new → WritesHead taken written text
head_of_all taken written waiting text new none out x =
    let waits : text ≡ x.moved ++ [] = rw (none, out) at x.waits in
    record { moved = x.moved; unwritten = []; parts = waits; wrote = x.writes }

-- where nothing waited at first, what was written begins the lines of what the first events have
written_first : (input : Change) (old new : Noted) (r : ReadsFirst input old new) → old.output.why ≡ None → old.output.waiting ≡ []
    → WritesHead old.output.taken new.output.taken (lines_since old (events_seen true no_counts r.first))
written_first input old new r going none =
    let (more, is) = since_begin old old.is_quiet refl r.seen r.left in
    longer old.output.taken new.output.taken (lines_since old r.seen) _ more
    (ap (λ (l : List Seen). lines_since old l) (sym r.is) ∙ is) (by old.output.why new.output.why going refl r.puts)
  where
    by : (was now : Option ListError) → was ≡ None → new.output.why ≡ now
        → PutsText was now (lines_since old r.seen) (as_writing old.output) (as_writing new.output)
        → WritesHead old.output.taken new.output.taken (lines_since old r.seen)
    by None None e w p = head_of_all old.output.taken new.output.taken old.output.waiting (lines_since old r.seen) new.output.waiting none
        (r.out w) p.puts
    by None (Some x) e w p = head_of_cut old.output.taken new.output.taken old.output.waiting (lines_since old r.seen) x none p.cut
    by (Some y) now e w p = cc

appends_kept : (a b c : Option (List ℕ)) (bytes : List ℕ) → Appends a b bytes → Keeps b c → Appends a c bytes
appends_kept None b c bytes p q = tt
appends_kept (Some x) None c bytes p q = absurd p
appends_kept (Some x) (Some y) None bytes p q = absurd q
appends_kept (Some x) (Some y) (Some z) bytes p q = q ∙ p

appended : (taken written : Option (List ℕ)) (text new : List ℕ) → new ≡ [] → PutsBytes taken written [] text new
    → Appends taken written text
appended taken written text new out x =
    let waits : text ≡ x.moved ++ [] = rw out at x.waits in
    subst (Appends taken written) (sym (waits ∙ append-nil x.moved)) x.writes

-- ---- a check, whose output is flushed at the end

-- what a walker has noted that has seen nothing
abbrev fresh : (taken : Option (List ℕ)) (failed : Bool) (prefix : List ℕ) (is_quiet : Bool) → Noted
fresh taken failed prefix is_quiet = record {
  output = record { taken = taken; waiting = []; has_failed = failed; why = None };
  prefix = prefix;
  is_quiet = is_quiet;
  site = outside;
  has_found = false;
}

module _ (input : Change) (before after : Option (List ℕ)) (failed : Bool) (prefix : List ℕ) (is_quiet : Bool) (new : Noted)
    (keeps : Keeps new.output.taken after) where
  abbrev lines : List Seen → List ℕ
  lines seen = lines_since (fresh before failed prefix is_quiet) seen

  -- all was written
  wrote_all : (found : Bool) (r : ReadsOn input (fresh before failed prefix is_quiet) new found) → Appends before after (lines r.seen)
  wrote_all found r = appends_kept before new.output.taken after (lines r.seen)
      (appended before new.output.taken (lines r.seen) new.output.waiting r.out (by new.output.why r.going r.has.puts)) keeps
    where
      by : (now : Option ListError) → now ≡ None
          → PutsText None now (lines r.seen) (as_writing (fresh before failed prefix is_quiet).output) (as_writing new.output)
          → PutsBytes before new.output.taken [] (lines r.seen) new.output.waiting
      by None e p = p.puts
      by (Some x) e p = cc

  by_found : (found : Result Bool ListError) → ReadsInput input (fresh before failed prefix is_quiet) new found
      → ChecksFirst prefix is_quiet input (from_to before after)
  by_found (Ok found) r =
      let o = r.of_stream in
      let events = o.first ++ last_event o.end ∷ [] in
      record {
        first = events;
        gave = record {
          given = o.given;
          gave = o.gave;
          begins = λ l. record { events = events; more = []; reading = (o.within l).reading; begins = sym (append-nil events) };
        };
        lines = record {
          moved = lines r.seen;
          unwritten = [];
          parts = ap lines (sym o.is) ∙ sym (append-nil (lines r.seen));
          wrote = wrote_all found r;
        };
      }
  by_found (Err why) r =
      let h = written_first input (fresh before failed prefix is_quiet) new r refl refl in
      record {
        first = r.first;
        gave = r.gave;
        lines = record {
          moved = h.moved;
          unwritten = h.unwritten;
          parts = h.parts;
          wrote = appends_kept before new.output.taken after h.moved h.wrote keeps;
        };
      }

  pub checks : (found flushed : Result Bool ListError) → ReadsInput input (fresh before failed prefix is_quiet) new found
      → IfOk flushed (λ b. found ≡ Ok b) → ChecksInput prefix is_quiet input (from_to before after) flushed
  checks found (Err why) r same = by_found found r
  checks found (Ok b) r same = whole (subst (ReadsInput input (fresh before failed prefix is_quiet) new) same r)
    where
      whole : ReadsOn input (fresh before failed prefix is_quiet) new b → ChecksWhole prefix is_quiet input (from_to before after) b
      whole r = record {
        how = r.how;
        seen = r.seen;
        of_stream = r.of_stream;
        lines = wrote_all b r;
        is = r.is ∙ r.has.found r.going;
      }
