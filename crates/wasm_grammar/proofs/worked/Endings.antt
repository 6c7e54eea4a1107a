-- Worked suffixes that decide, by computation.
use Rattle.wasm_grammar.proofs.Common.{List, [], ◌∷◌, refl, number, items, wrong_content, Tile, code_start, verdict, header_grammar}
use Rattle.wasm_grammar.proofs.Common.{section_grammar, body_grammar, deciding_ending, waiting}
use Rattle.wasm_grammar.specs.WorkedEndings.{WorkedEndings}
use Rattle.wasm_grammar.proofs.worked.Streams.{head, section_tile}

-- the tiles of a module up to its body
abbrev before_body : List Tile
before_body = record { shape = code_start 1 1 3; bytes = 0x0a ∷ 4 ∷ 1 ∷ [] } ∷ section_tile items 3 (1 ∷ 0 ∷ []) ∷ head ∷ []

pub worked_endings : WorkedEndings
unfolding verdict waiting deciding_ending header_grammar section_grammar body_grammar number wrong_content
worked_endings = record {
  nothing = ([], (tt, refl), refl, refl);
  magic_alone = ([], (tt, refl), refl, refl);
  no_section = (head ∷ [], ((tt, refl), refl), refl, refl);
  magic_begun = (head ∷ [], ((tt, refl), refl), refl, refl);
  no_length = (head ∷ [], ((tt, refl), refl), refl, refl);
  no_content = (head ∷ [], ((tt, refl), refl), refl, refl);
  no_count = (head ∷ [], ((tt, refl), refl), refl, refl);
  no_size = (before_body, ((((tt, refl), refl), refl), refl), refl, refl);
  no_body = (before_body, ((((tt, refl), refl), refl), refl), refl, refl);
}
