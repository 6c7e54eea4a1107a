-- Items that fit after some bytes.
use Rattle.std.specs.Prelude.{ℕ, ◌+◌, ◌<◌, List, length, All}
use Rattle.wasm_encode.specs.Sections.{items_bytes}

-- | items that fit, and with this many bytes before them have fewer than a bound
-- Each item fits. With this many bytes before them, they have fewer than the bound.
pub record ItemsFit {T : Type 0} (before bound : ℕ) (encoded : T → List ℕ) (is_encodable : T → Type 0) (xs : List T)
    : Type 0 where
  pub each : All is_encodable xs
  pub short : before + length (items_bytes encoded xs) < bound
