-- Texts: names without the limit of names. Core specification, Binary format, Values, Names.
use Rattle.std.specs.Prelude.{◌≡◌, ℕ, ◌<◌, ◌^◌, true, List, length}
use Rattle.std.specs.Str.{is_utf8}

-- | a text, which has no limit of names: its size is a `u32` <Values, Names>
-- The text is UTF-8, and its size is a u32.
pub record TextFits (text : List ℕ) : Type 0 where
  pub utf8 : is_utf8 text ≡ true
  pub short : length text < 2 ^ 32
