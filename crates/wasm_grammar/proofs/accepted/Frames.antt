-- A stream whose reading ends at its end is accepted.
use Rattle.wasm_grammar.proofs.Common.{arith, ◌≡◌, List, [], ◌∷◌, refl, ℕ, ◌+◌, length, ◌<◌, sym, nat_eq, append-nil, All, IsMatched}
use Rattle.wasm_grammar.proofs.Common.{IsAccepted, header_bytes, ended, Tile, version, tile, verdict, header_grammar, Reads, bytes_of}
use Rattle.wasm_grammar.proofs.Common.{context_of, bodies_left, bytes_left, encoding_of, Encoding}
use Rattle.wasm_grammar.proofs.PlainLists.{all_prefix}
use Rattle.wasm_grammar.proofs.accepted.Endings.{end_from}
use Rattle.wasm_grammar.proofs.accepted.Headers.{HeaderParts, header_parts}
use Rattle.wasm_grammar.proofs.accepted.Knows.{knows_header}
use Rattle.wasm_grammar.proofs.accepted.States.{Settled, Pending, settles, in_order_none, whole_settled, code_pending, body_pending}
use Rattle.wasm_grammar.proofs.accepted.Tiles.{made, header_version}
use Rattle.wasm_grammar.proofs.frames.OpenSections.{Goes, closed_at, sections_of_tiles}
use Rattle.wasm_grammar.proofs.readings.Endings.{header_end, inside_end}

-- a header alone
header_settled : (start : ℕ) (t : Tile) → All (λ b. b < 256) t.bytes → verdict (header_grammar start) t.bytes ≡ tile t → Settled (t ∷ [])
header_settled start t a h =
    let p : HeaderParts t = header_parts start t.bytes t a h in
    let e : Encoding = p.encoding in
    let r : Settled (made (version (header_version e) e) (header_bytes e) ∷ []) = record {
      frames = [];
      joined = sym (append-nil (header_bytes e));
      knows = knows_header e (header_bytes e);
      sections = in_order_none e;
      closed = refl;
    } in
    rw p.is r

-- whole sections, and a prefix of a code section, go on
accepted_goes : (start : ℕ) → Goes start Settled Pending
accepted_goes start = record {
  header = λ t a h. header_settled start t a h;
  section = λ u ts o t h q s w. whole_settled (u ∷ ts) o t q s w;
  start_of_code = λ u ts o t h q s k. code_pending (u ∷ ts) o t q s k;
  body = λ u ts t h q p. body_pending (u ∷ ts) t q p;
  closes = settles;
  closed = λ ts q. q.closed;
}

-- a stream of bytes whose reading ends at the end is accepted
pub reads_accepted : (stream : List ℕ) (start p : ℕ) (ts : List Tile) → All (λ b. b < 256) stream → Reads stream start ts (ended p)
    → IsAccepted stream
reads_accepted stream start p [] a r = absurd (header_end start r.rest p r.stops)
reads_accepted stream start p (t ∷ ts) a r =
    let us : List Tile = t ∷ ts in
    let (b, d, e) = inside_end (nat_eq (bodies_left us + bytes_left us) 0) (context_of us) (bodies_left us) (bytes_left us)
    (start + length (bytes_of us)) r.rest p r.stops in
    let f : All (λ b. b < 256) (bytes_of us) = all_prefix (λ b. b < 256) (bytes_of us) r.rest (rw r.whole at a) in
    let q : Settled us = closed_at start Settled Pending (accepted_goes start) us
    (sections_of_tiles start Settled Pending (accepted_goes start) t ts r.faultless f) b in
    let m : (IsMatched (encoding_of us) 3 10 q.frames × IsMatched (encoding_of us) 12 11 q.frames) =
    end_from (encoding_of us) q.frames (context_of us) q.knows (start + length (bytes_of us)) p e in
    grind (arith, append-nil)
