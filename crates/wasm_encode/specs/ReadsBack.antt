-- Bytes that are read as a given value.
use Rattle.std.specs.Prelude.{ℕ, ◌+◌, List, ◌++◌, length, Ok}
use Rattle.wasm_base.specs.Outcome.{Outcome}
use Rattle.wasm_base.specs.Window.{Place}

-- a place with these features, at this offset, and with these bytes to the end of its window
abbrev pub spot : (features offset : ℕ) → List ℕ → Place
spot features offset bytes = record { features = features; offset = offset; rest = bytes }

-- | bytes that encode a value: wherever they are and whatever comes after them, they are read as the value, and reading
--   consumes exactly them
-- The bytes encode a value for readers with these features: wherever they are and whatever comes after them, they are
-- read as the value, and reading consumes exactly them. What a value that holds offsets is depends on where it is.
pub record Encodes {T : Type 0} (meaning : Place → Outcome T → Type 0) (features : ℕ) (value : ℕ → T) (bytes : List ℕ)
    : Type 0 where
  pub read : (offset : ℕ) (later : List ℕ) → meaning (spot features offset (bytes ++ later))
      (Ok (value offset, spot features (offset + length bytes) later))
