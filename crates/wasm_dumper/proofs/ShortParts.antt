-- A part that was skipped by its first fields, and dropped; and the end of a source within it.
use Rattle.wasm_dumper.proofs.Common.{◌≡◌, ℕ, ◌+◌, ◌^◌, ◌<◌, Bool, true, false, List, [], ◌∷◌, ◌++◌, Some, None, refl, ap, arith}
use Rattle.wasm_dumper.proofs.Common.{length, Option, append_assoc, length-append, drop, fault_at, Error, seen, lending, Feed, pushed}
use Rattle.wasm_dumper.proofs.Common.{weight}
use Rattle.wasm_dumper.proofs.Common.{Moves, Cursor, Stop, fault, Event, Skips, Only}
use Rattle.std.proofs.Common.{nat_lt}
use Rattle.std.proofs.lemmas.Bool.Decides.{nat_tests}
use Rattle.std.specs.Io.KnownBytes.{IsAtEnd}
use Rattle.wasm_base.specs.FaultAt.{at_offset}
use Rattle.wasm_base.specs.declared.fault.Fault.TheVariants.{UnexpectedEof}
use Rattle.wasm_dumper.specs.Hiding.{DropsPart}
use Rattle.wasm_dumper.specs.declared.hidden.Skipped.{Skipped}
use Rattle.wasm_streams.specs.Beside.{unseen}
use Rattle.wasm_streams.specs.Passing.{SkipsHere, held_by}
use Rattle.wasm_streams.specs.Progress.{Asks, Reached}
use Rattle.wasm_grammar.specs.Grammar.{final, verdict}
use Rattle.wasm_frames.specs.ParserState.{grammar_of}
use Rattle.wasm_frames.specs.SkipNext.{Head, skip_in}
use Rattle.wasm_streams.proofs.ForCallers.{arrived, is_short, past, same_held}

module _ (only : List Only) (has_bytes : Bool) (full rest : Option (List ℕ)) (cur : Cursor) (stored chunk : List ℕ) (events : List Event)
    (asks : Asks full rest (lending stored chunk cur) events) (part : Skipped) (skipped : Cursor)
    (h : Skips only has_bytes cur (seen stored chunk) part skipped) (rest' : Option (List ℕ)) (cut : Option Error) (left : List ℕ)
    (x : DropsPart rest rest' part.passing (held_by skipped stored chunk) cut left) where
  abbrev stays : Head → Bool
  stays head = false

  abbrev sk : SkipsHere stays cur (seen stored chunk) part.passing skipped
  sk = h.skips

  -- it was dropped, and is the next event
  pub came : cut ≡ None → (new : Feed) → new.state ≡ skipped.parser → new.held ≡ left → new.eof ≡ skipped.is_finished
      → (e : Event) × (skip_in e.report ≡ Some sk.skip) × (e.consumed ≡ x.part) × Reached full rest' new (events ++ e ∷ [])
      × (weight new < weight (lending stored chunk cur))
  came n new state held eof = past stays full rest events cur stored chunk asks part.passing skipped sk x.fetched x.part left x.parts
      (rw n at x.ends) rest' x.gave new state held eof

  -- the source ended within the part: all that arrived is the fault
  module _ (error : Error) (cuts : cut ≡ Some error) where
    ends : (length x.part < part.passing.size) × IsAtEnd rest' × (left ≡ [])
        × (fault_at error ≡ at_offset UnexpectedEof part.passing.from)
    ends = rw cuts at x.ends

    abbrev feed : Feed
    feed = record (pushed (lending stored chunk cur) x.fetched) { eof = true }

    abbrev first : List ℕ
    first = drop cur.mark (seen stored chunk)

    within : cur.parser.offset + length (first ++ (unseen stored chunk ++ x.fetched)) < sk.skip.to
    within =
        let few = is_short stays full rest events cur stored chunk asks part.passing skipped sk x.fetched x.part left x.parts
        ends.0 ends.2 in
        let s = ap (λ (l : List ℕ). length l)
        (same_held stays full rest events cur stored chunk asks part.passing skipped sk x.fetched) in
        let n = length-append first (unseen stored chunk ++ x.fetched) in
        let m = length-append (unseen stored chunk) x.fetched in
        let l = length-append first (unseen stored chunk) in
        let z = sk.size in
        omega (arith, s, n, m, l, z, few)

    joined : (first ++ unseen stored chunk) ++ x.fetched ≡ first ++ (unseen stored chunk ++ x.fetched)
    joined = append_assoc first (unseen stored chunk) x.fetched

    refused : verdict (grammar_of cur.parser) feed.held ≡ final (fault (fault_at error))
    refused = rw (joined, ends.3, sk.from) (sk.skips.short (unseen stored chunk ++ x.fetched) within)

    below : nat_lt (cur.parser.offset + length feed.held) (2 ^ 64) ≡ true
    below =
        let l = ap (λ (y : List ℕ). length y) joined in
        let f = sk.skips.fits in
        grind (arith, nat_tests, l, f, within)

    pub fault_step : Moves feed (Stop error) feed
    fault_step = record {
      parses = record { answer = rw (below, refused) refl; state = refl };
      shows = refl;
      stored = refl;
      eof = refl;
      wants_more = refl;
    }

    pub reached_short : Reached full rest' feed events
    reached_short = arrived full rest (lending stored chunk cur) events asks rest' x.fetched true x.gave (λ _. ends.1)
