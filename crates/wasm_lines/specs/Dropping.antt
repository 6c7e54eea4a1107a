-- A part that a listing skips.
use Rattle.std.specs.Prelude.{◌≡◌, ℕ, false, List, Option, Some, None}
use Rattle.wasm_lines.specs.Listing.{skip_text}
use Rattle.wasm_io.specs.declared.digits.Base.TheVariants.{Decimal}
use Rattle.wasm_frames.specs.SkipNext.{skip_is}
use Rattle.wasm_streams.specs.Passing.{SkipsHere, SkipsNothing}
use Rattle.wasm_streams.specs.declared.cursor.Cursor.{Cursor}
use Rattle.wasm_lines.specs.declared.listing.Dropped.{Dropped}

-- The parser skipped a part that is dropped, whose line is known.
pub record DropsHere (old : Cursor) (bytes : List ℕ) (dropped : Dropped) (new : Cursor) : Type 0 where
  pub skips : SkipsHere (λ head. false) old bytes dropped.passing new
  pub line : skip_text Decimal (skip_is dropped.part) ≡ skip_text Decimal skips.skip

abbrev pub DropsIfAny : Cursor → (bytes : List ℕ) → Option Dropped → Cursor → Type 0
DropsIfAny old bytes (Some dropped) new = DropsHere old bytes dropped new
DropsIfAny old bytes None new = SkipsNothing old bytes × (new ≡ old)
