-- Bytes that are skipped.
use Rattle.std.specs.Prelude.{◌≡◌, ℕ, ◌-◌, take, Some, Result, Ok, Err, if◌then◌else◌}
use Rattle.wasm_base.specs.FaultAt.{at_offset}
use Rattle.wasm_base.specs.Inner.{after_reading, all_skipped_at}
use Rattle.wasm_base.specs.Name.{bytes_at, is_above, name_limit}
use Rattle.wasm_base.specs.Number.{unsigned_at}
use Rattle.wasm_base.specs.Outcome.{Outcome, ◌>>=◌}
use Rattle.wasm_base.specs.Window.{Window, Place, place, KeepsWindow}
use Rattle.wasm_base.specs.declared.error.Error.{Error}
use Rattle.wasm_base.specs.declared.fault.Fault.TheVariants.{StringSize}
use Rattle.wasm_base.specs.declared.fault.NumberKind.TheVariants.{VarU32}

-- n bytes, whatever they are
abbrev pub skipped_at : ℕ → Place → Outcome (Unit {0})
skipped_at n p = do
  bytes ← bytes_at n p
  Ok (tt, bytes.1)

-- | a name that is skipped: its size and as many bytes, whatever they are [`skipped_at`] <Values, Names; this
--   project>
-- a size of at most a name's limit, and that many bytes, which need not be UTF-8
unfoldable pub skipped_name_at : Place → Outcome (Unit {0})
skipped_name_at p = do
  size ← unsigned_at VarU32 p
  if is_above (Some name_limit) size.0 then Err (at_offset StringSize (size.1.offset - 1)) else skipped_at size.0 size.1

-- | *n* `u32` numbers that are skipped, one after the other <Values, Integers; this project>
-- `count` u32 numbers, one after the other, whatever their values are
abbrev pub skipped_numbers_at : (count : ℕ) → Place → Outcome (Unit {0})
skipped_numbers_at count = all_skipped_at (after_reading (unsigned_at VarU32)) count

-- | the window of the next bytes; a call that keeps the window and never goes back; the bytes that it skipped are the
--   window that is returned [`NeverGoesBack`, `Skips`]
-- the window of the next n bytes
abbrev pub window_of : ℕ → Place → Window
window_of n p = record { features = p.features; start = p.offset; bytes = take n p.rest; position = 0 }

-- What a call may do with a reader, from one window to another: it keeps the window, and never goes back.
abbrev pub NeverGoesBack : (Window → Result (Unit {0}) Error → Window → Type 0) → Type 0
NeverGoesBack calls = (old new : Window) (given : Result (Unit {0}) Error) → calls old given new → KeepsWindow old new

-- The call skipped these bytes of the window, which are the window that is returned; or it returned this error.
abbrev pub Skips : (Window → Result (Unit {0}) Error → Window → Type 0) → Window → Result Window Error → Window
    → Type 0
Skips calls old (Ok window) new = calls old (Ok tt) new
    × (window ≡ window_of (new.position - old.position) (place old))
Skips calls old (Err e) new = calls old (Err e) new
