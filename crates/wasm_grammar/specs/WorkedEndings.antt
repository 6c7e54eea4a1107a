-- Worked prefixes of streams, what is waited for after them, and the suffixes that decide.
use Rattle.std.specs.Prelude.{◌≡◌, ℕ, List, [], ◌∷◌, ◌++◌}
use Rattle.wasm_base.specs.Header.{magic}
use Rattle.wasm_grammar.specs.Grammar.{Tile}
use Rattle.wasm_grammar.specs.Tiling.{grammar}
use Rattle.wasm_grammar.specs.Undecided.{deciding_ending, IsTiledBy}
use Rattle.wasm_grammar.specs.Waiting.{wants, waiting}
use Rattle.wasm_grammar.specs.Worked.{m}

-- After this front of a stream that starts at offset 0, the bytes so far are fewer than the bound, `hint` more are
-- requested, and this suffix decides.
abbrev pub WaitsSo : (front came : List ℕ) (bound hint : ℕ) (ending : List ℕ) → Type 0
WaitsSo front came bound hint ending = (tiles : List Tile) × IsTiledBy 0 front tiles
    × (waiting (grammar 0 tiles) came ≡ wants bound hint) × (deciding_ending (grammar 0 tiles) came ≡ ending)

-- five bytes after which no number has ended
abbrev pub too_long : List ℕ
too_long = 0x80 ∷ 0x80 ∷ 0x80 ∷ 0x80 ∷ 0x80 ∷ []

-- a module with a function section of one function, up to the start of its code section
abbrev pub to_its_body : List ℕ
to_its_body = m ++ 3 ∷ 2 ∷ 1 ∷ 0 ∷ 0x0a ∷ 4 ∷ 1 ∷ []

-- one of each kind of waiting
pub record WorkedEndings : Type 0 where
  pub nothing : WaitsSo [] [] 4 4 (0 ∷ 0 ∷ 0 ∷ 0 ∷ [])
  pub magic_alone : WaitsSo [] magic 8 4 (0 ∷ 0 ∷ 0 ∷ 0 ∷ [])
  pub no_section : WaitsSo m [] 4 1 too_long
  pub magic_begun : WaitsSo m (0 ∷ []) 4 3 (0x61 ∷ 0x73 ∷ 0x6d ∷ [])
  pub no_length : WaitsSo m (1 ∷ []) 6 1 too_long
  pub no_content : WaitsSo m (1 ∷ 2 ∷ []) 4 2 (0 ∷ 0 ∷ [])
  pub no_count : WaitsSo m (10 ∷ 1 ∷ []) 7 1 too_long
  pub no_size : WaitsSo to_its_body [] 5 1 too_long
  pub no_body : WaitsSo to_its_body (2 ∷ []) 3 2 (0 ∷ 0 ∷ [])
