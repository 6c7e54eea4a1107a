-- Events that one call stores.
use Rattle.std.specs.Prelude.{◌≡◌, ℕ, zero, suc, ◌+◌, ◌-◌, ◌^◌, ◌≤◌, min, Bool, true, false, nat_eq}
use Rattle.std.specs.Prelude.{List, [], ◌∷◌, length, take, drop}
use Rattle.wasm_frames.specs.ParserState.{ParserState}
use Rattle.wasm_c_items.specs.Events.{ParsesPlain}
use Rattle.wasm_c_items.specs.declared.events.PlainEvent.{PlainEvent}

-- The next event, and what holds of the parser after it.
pub record ParsesFirst (base : ℕ) (old : ParserState) (eof : Bool) (bytes : List ℕ) (event : PlainEvent)
    (Then : ParserState → Type 0) : Type 0 where
  pub after : ParserState
  pub parses : ParsesPlain base old eof bytes event after
  pub then : Then after

-- No events come after one that consumed nothing, and else these.
abbrev pub OthersFollow : (is_last : Bool) (events : List PlainEvent) (new : ParserState)
    → (Others : ParserState → Type 0) → ParserState → Type 0
OthersFollow true events new Others p = (events ≡ []) × (new ≡ p)
OthersFollow false events new Others p = Others p

-- | events were returned one after the other, up to one that consumed nothing; their number was stored
--   [`StoresEvents`]
-- These are the next events of a parser that was at `old` and is then at `new`: as many as there is room for, or up to
-- one that consumed nothing. The first of the bytes is at `base` in memory.
abbrev pub ParsesEach : (eof : Bool) → (room base : ℕ) → (old : ParserState) → (bytes : List ℕ)
    → (events : List PlainEvent) → (new : ParserState) → Type 0
ParsesEach eof zero base old bytes [] new = new ≡ old
ParsesEach eof zero base old bytes (event ∷ events) new = ⊥
ParsesEach eof (suc room) base old bytes [] new = ⊥
ParsesEach eof (suc room) base old bytes (event ∷ events) new = ParsesFirst base old eof bytes event
    (OthersFollow (nat_eq event.consumed 0) events new (λ p. ParsesEach eof room
    (min (base + event.consumed) (2 ^ 64 - 1)) p (drop event.consumed bytes) events new))

-- So many events were stored, and the rest of the room is as it was.
pub record StoresEvents (eof : Bool) (old : ParserState) (bytes : List ℕ) (before : List PlainEvent) (count : ℕ)
    (new : ParserState) (after : List PlainEvent) : Type 0 where
  pub within : count ≤ length before
  pub events : ParsesEach eof (length before) 0 old bytes (take count after) new
  pub same : length after ≡ length before
  pub others : drop count after ≡ drop count before
