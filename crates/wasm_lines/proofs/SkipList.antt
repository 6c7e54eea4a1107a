-- How far a listing has come after a part that was skipped.
use Rattle.wasm_lines.proofs.Common.{◌≡◌, ℕ, Bool, true, false, List, [], ◌∷◌, ◌++◌, length, Some, refl, sym, append-nil, ◌<◌, ap, ◌∙◌, Err}
use Rattle.wasm_lines.proofs.Common.{Option, None, Consumes-trans, Appends, fault_at, Error, fault, last_event, line_of, listing_by}
use Rattle.wasm_lines.proofs.Common.{skip_is}
use Rattle.wasm_lines.proofs.Common.{from_to, IsCut, PutsBytes, ListError, AtEnd, arrived, cut, cut_within, is_short, past, puts_more, seen}
use Rattle.wasm_lines.proofs.Common.{lending, Feed, pushed, GivesUp, SkipsHere, held_by, Progress, Wants, weight, Cursor, Passing, Fault}
use Rattle.std.proofs.Common.{codes}
use Rattle.std.proofs.KnownBytes.{Appends-trans}
use Rattle.std.specs.Io.KnownBytes.{IsAtEnd}
use Rattle.wasm_base.specs.FaultAt.{at_offset}
use Rattle.wasm_base.specs.declared.fault.Fault.TheVariants.{UnexpectedEof}
use Rattle.wasm_lines.specs.Dropping.{DropsHere}
use Rattle.wasm_lines.specs.declared.listing.Dropped.{Dropped}
use Rattle.wasm_streams.specs.Lists.{IsListed, ListsBy}
use Rattle.wasm_streams.specs.Passing.{PassesPart}
use Rattle.wasm_grammar.specs.Reading.{stream_end}
use Rattle.wasm_lines.specs.Listing.{skip_text}
use Rattle.wasm_frames.specs.SkipNext.{Head}
use Rattle.wasm_io.specs.declared.digits.Base.TheVariants.{Decimal}
use Rattle.wasm_streams.proofs.ForCallers.{cut_at_end, dropped_before, listed_to_end, none_put, one_more, reads_short}
use Rattle.wasm_lines.proofs.ForCallers.{skipped_text}

-- the bytes of a step are those that it sees
pub dropped_here : {old : Cursor} {stored chunk items rest bytes : List ℕ} {d : Dropped} {new : Cursor} → bytes ≡ seen items rest
    → items ≡ stored → rest ≡ chunk → DropsHere old bytes d new → DropsHere old (seen stored chunk) d new
dropped_here read items_are rest_is h = rw (sym rest_is, sym items_are, sym read) h

-- A caller has written the page, and the parser has skipped a part that is dropped.
abbrev stays_if : Head → Bool
stays_if head = false

module _ {source rest taken written : Option (List ℕ)} {c : Cursor} (stored chunk : List ℕ)
    (w : Wants (listing_by line_of) (from_to source rest) (from_to taken written) (lending stored chunk c) []) {dropped : Dropped}
    {skipped : Cursor} (h : DropsHere c (seen stored chunk) dropped skipped) {waiting : List ℕ} (nothing : waiting ≡ []) where
  abbrev passing : Passing
  passing = dropped.passing

  abbrev k : SkipsHere stays_if c (seen stored chunk) passing skipped
  k = h.skips

  -- the source failed within the part
  pub given_up : {rest' written' : Option (List ℕ)} {e : ListError} {left page : List ℕ}
      → GivesUp rest rest' written written' passing.stays passing.size (held_by skipped stored chunk) waiting e left page
      → ListsBy line_of (from_to source rest') (from_to taken written') (Err e)
  given_up {rest'} {written'} {e} {left} {page} g =
      let (is, wrote, fewer) = dropped_before written written' passing.stays passing.size waiting g.passed left page
      (held_by skipped stored chunk) g.given e g.ends g.parts k.stays in
      let all = w.puts.waits ∙ append-nil w.puts.moved in
      rw is (record {
        given = w.asks.reached.given ++ g.given;
        events = w.events;
        last = last_event (fault (at_offset UnexpectedEof passing.from));
        gave = Consumes-trans source rest rest' w.asks.reached.given g.given w.asks.reached.gave g.gave;
        listed = rw (all, sym (append-nil w.puts.moved)) (Appends-trans taken written written' w.puts.moved [] w.puts.writes
            (wrote nothing));
        reading = reads_short stays_if source rest w.events c stored chunk w.asks passing skipped k g.given fewer;
      })

  -- the part was passed, or the source ended within it
  module _ {rest' mid : Option (List ℕ)} {how_cut : Option Error} {left page : List ℕ}
      (x : PassesPart rest rest' written mid passing skipped stored chunk waiting how_cut left page) where
    none : (x.puts.moved ≡ []) × (page ≡ [])
    none = none_put written mid passing.stays waiting x.part page x.puts k.stays nothing

    -- nothing was written meanwhile
    abbrev so_far : (eof : Bool) → (eof ≡ true → IsAtEnd rest')
        → Progress (listing_by line_of) (from_to source rest') (from_to taken mid) (record (pushed
        (lending stored chunk c) x.fetched) { eof = eof }) []
    so_far eof end = record {
      events = w.events;
      reached = arrived source rest (lending stored chunk c) w.events w.asks rest' x.fetched eof x.gave end;
      puts = rw (append-nil (listing_by line_of w.events)) at (puts_more taken written mid [] (listing_by line_of w.events) [] [] []
          w.puts (record { moved = []; writes = rw none.0 at x.puts.writes; waits = refl }));
    }

    -- the line of the part, or of the fault, could not be put
    pub line_cut : (written' : Option (List ℕ)) (e : ListError) → IsCut mid written' page e
        → ListsBy line_of (from_to source rest') (from_to taken written') (Err e)
    line_cut written' e v = cut line_of source rest' taken mid (record (pushed (lending stored chunk c) x.fetched) { eof = false }) []
        (so_far false (λ n. absurd (let no : true ≡ false = sym n in cc))) written' e (rw none.1 at v)

    -- the line of the part was put
    pub line_put : {written' : Option (List ℕ)} {page' : List ℕ} {new : Feed} → how_cut ≡ None
        → PutsBytes mid written' page (skip_text Decimal (skip_is dropped.part) ++ codes "\n") page'
        → new.state ≡ skipped.parser → new.held ≡ left → new.eof ≡ skipped.is_finished
        → Progress (listing_by line_of) (from_to source rest') (from_to taken written') new page' × (weight new < weight
        (lending stored chunk c))
    line_put {written'} {page'} {new} n v state held eof =
        let (e, says, is, after, less) = past stays_if source rest w.events c stored chunk w.asks passing skipped k x.fetched x.part left
        x.parts (rw n at x.ends) rest' x.gave new state held eof in
        let before = so_far false (λ n. absurd (let no : true ≡ false = sym n in cc)) in
        let line = skip_text Decimal (skip_is dropped.part) ++ codes "\n" in
        let same : line ≡ line_of e.report =
        ap (λ (t : List ℕ). t ++ codes "\n") (h.line ∙ sym (skipped_text Decimal e.report k.skip says)) in (
          record {
            events = w.events ++ e ∷ [];
            reached = after;
            puts = rw (one_more line_of w.events e, sym same) (puts_more taken mid written' []
                (listing_by line_of w.events) [] line page' before.puts
                (rw none.1 at v));
          },
          less,
        )

    -- the source ended within the part
    module _ {error : Error} (cuts : how_cut ≡ Some error) {written' : Option (List ℕ)} {page' : List ℕ}
        (v : PutsBytes mid written' page (line_of (stream_end (fault (fault_at error)))) page') where
      ends : (length x.part < passing.size) × IsAtEnd rest' × (left ≡ []) × (fault_at error ≡ at_offset UnexpectedEof passing.from)
      ends = rw cuts at x.ends

      at_end : AtEnd (w.asks.reached.given ++ x.fetched) w.events true (Fault error) (fault (fault_at error))
      at_end = cut_within stays_if source rest w.events c stored chunk w.asks passing skipped k x.fetched (is_short stays_if source rest
          w.events c stored chunk w.asks passing skipped k x.fetched x.part left x.parts ends.0 ends.2) error ends.3

      put : PutsBytes mid written' [] (line_of (stream_end (fault (fault_at error)))) page'
      put = rw none.1 at v

      pub listed_short : {written'' : Option (List ℕ)} → Appends written' written'' page'
          → IsListed line_of (from_to source rest') (from_to taken written'') (Fault error)
      listed_short {written''} u = listed_to_end line_of source rest' taken mid
          (record (pushed (lending stored chunk c) x.fetched) { eof = true }) [] (so_far true (λ _. ends.1)) (Fault error) (fault
          (fault_at error)) at_end
          (line_of (stream_end (fault (fault_at error)))) refl written' page' put written'' u

      pub short_cut : (written'' : Option (List ℕ)) (e : ListError) → IsCut written' written'' page' e
          → ListsBy line_of (from_to source rest') (from_to taken written'') (Err e)
      short_cut written'' e u = cut_at_end line_of source rest' taken mid
          (record (pushed (lending stored chunk c) x.fetched) { eof = true }) [] (so_far true (λ _. ends.1)) (Fault error) (fault
          (fault_at error)) at_end
          (line_of (stream_end (fault (fault_at error)))) refl written' page' put written'' e u
