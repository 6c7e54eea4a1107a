-- The bytes of names. Core specification, Binary format, Values, Names.
use Rattle.std.specs.Prelude.{◌≡◌, ℕ, ◌≤◌, true, List, ◌++◌, length}
use Rattle.std.specs.Str.{is_utf8}
use Rattle.wasm_base.specs.Name.{name_limit}
use Rattle.wasm_encode.specs.Numbers.{unsigned_bytes}

-- | a name with its size; a name within the limit of names [`NameFits`] <Values, Names>
-- a name: its size and its text
abbrev pub name_bytes : List ℕ → List ℕ
name_bytes text = unsigned_bytes (length text) ++ text

-- The name is text, and not above the limit of names.
pub record NameFits (text : List ℕ) : Type 0 where
  pub utf8 : is_utf8 text ≡ true
  pub short : length text ≤ name_limit
