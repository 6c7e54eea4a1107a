-- What tiles say of the frames that they make, tile by tile.
use Rattle.wasm_grammar.proofs.Common.{arith, ◌≡◌, true, false, List, [], ◌∷◌, ◌++◌, ap, ℕ, ◌+◌, length, sym, ◌∙◌, nat_eq, eqb-true, lt-ltb}
use Rattle.wasm_grammar.proofs.Common.{and_comm, and_from, list_all-append, SectionFrame, frame_count, kind_of, Tile, version, section}
use Rattle.wasm_grammar.proofs.Common.{code_start, code_entry, section_grammar, body_grammar, code_id, bytes_of, context_of, bodies_left}
use Rattle.wasm_grammar.proofs.Common.{bytes_left, grammar, is_start, Encoding, Module}
use Rattle.wasm_grammar.proofs.accepted.Counts.{one_count, counts_of, counts_push, Knows}
use Rattle.wasm_grammar.proofs.accepted.Tiles.{made, IsWhole, header_version, not_code}

-- what may come after tiles that are at the end of a section
pub grammar_closed : (start : ℕ) (ts : List Tile) → is_start ts ≡ false → nat_eq (bodies_left ts + bytes_left ts) 0 ≡ true
    → grammar start ts ≡ section_grammar (context_of ts) (start + length (bytes_of ts))
grammar_closed start ts e f = grind arith

-- what may come after tiles that are within a code section
pub grammar_open : (start : ℕ) (ts : List Tile) → is_start ts ≡ false → nat_eq (bodies_left ts + bytes_left ts) 0 ≡ false
    → grammar start ts ≡ body_grammar (bodies_left ts) (bytes_left ts) (start + length (bytes_of ts))
grammar_open start ts e f = grind arith

-- after a header there is no frame yet
pub knows_header : (encoding : Encoding) (bytes : List ℕ) → Knows encoding []
    (context_of (made (version (header_version encoding) encoding) bytes ∷ []))
knows_header encoding bytes = search (and_from, lt-ltb)

-- a body says nothing
pub knows_body : (encoding : Encoding) (fs : List SectionFrame) (ts : List Tile) (content bytes : List ℕ)
    → Knows encoding fs (context_of ts) → Knows encoding fs (context_of (made (code_entry content) bytes ∷ ts))
knows_body encoding fs ts content bytes k = grind (arith, lt-ltb)

-- counts with those of one more frame are the counts of all frames
counts_more : (encoding : Encoding) (n : ℕ) (fs : List SectionFrame) (f : SectionFrame) (old new : List ℕ) → old ≡ counts_of encoding n fs
    → new ≡ one_count encoding n f ++ old → new ≡ counts_of encoding n (fs ++ f ∷ [])
counts_more encoding n fs f old new e h = h ∙ (ap (λ (x : List ℕ). one_count encoding n f ++ x) e ∙ sym (counts_push encoding n fs f))

-- a section that is one tile says what its frame says
pub knows_section : (encoding : Encoding) (fs : List SectionFrame) (ts : List Tile) (f : SectionFrame) (bytes : List ℕ)
    (w : IsWhole (kind_of encoding f.id)) → Knows encoding fs (context_of ts)
    → Knows encoding (fs ++ f ∷ []) (context_of (made (section w.0 f.id f.sized.content) bytes ∷ ts))
knows_section encoding fs ts f bytes w k = grind (arith, list_all-append, and_comm, counts_more, eqb-true, not_code)

-- the head of a code section says what its frame says
pub knows_code : (fs : List SectionFrame) (ts : List Tile) (f : SectionFrame) (count width size : ℕ) (bytes : List ℕ) → f.id ≡ code_id
    → frame_count f ≡ count → Knows Module fs (context_of ts)
    → Knows Module (fs ++ f ∷ []) (context_of (made (code_start count width size) bytes ∷ ts))
knows_code fs ts f count width size bytes z c k = grind (arith, list_all-append, and_comm, counts_more)
