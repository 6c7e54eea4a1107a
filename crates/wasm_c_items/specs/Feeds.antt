-- A feeder over memory of the caller.
use Rattle.std.specs.Prelude.{◌≡◌, ℕ, ◌+◌, ◌<◌, Bool, true, false, List, ◌++◌, length, take, drop}
use Rattle.wasm_frames.specs.ParserState.{ParserState}
use Rattle.wasm_c_items.specs.Events.{ParsesPlain}
use Rattle.wasm_frames.specs.Stored.{is_set, parser_of}
use Rattle.wasm_c_items.specs.declared.events.PlainEvent.{PlainEvent}
use Rattle.wasm_c_items.specs.declared.feeding.StoredFeed.{StoredFeed}

-- | what a feeder holds in a storage; a step, and a push, of it [`StepsPlain`, `PushesPlain`]
-- the bytes of the storage that were pushed and not consumed
abbrev pub held_in : StoredFeed → (storage : List ℕ) → List ℕ
held_in f storage = drop f.mark (take f.end storage)

-- The feeder holds nothing, and is here.
abbrev pub IsNewFeed : StoredFeed → ParserState → Type 0
IsNewFeed f p = (parser_of f.parser ≡ p) × (f.mark ≡ 0) × (f.end ≡ 0) × (is_set f.is_finished ≡ false)

-- The stream of the feeder ends after what it holds.
abbrev pub IsFinished : (old new : StoredFeed) → Type 0
IsFinished old new = new ≡ record old { is_finished = 1 }

-- The feeder's parser returned this for the held bytes, and the feeder then holds the bytes after those consumed.
pub record StepsPlain (old : StoredFeed) (storage : List ℕ) (event : PlainEvent) (new : StoredFeed) : Type 0 where
  pub parses : ParsesPlain old.mark (parser_of old.parser) (is_set old.is_finished) (held_in old storage) event
      (parser_of new.parser)
  pub goes_on : held_in new storage ≡ drop event.consumed (held_in old storage)
  pub finished : new.is_finished ≡ old.is_finished

-- A chunk was appended to the held bytes, and nothing else changed.
pub record Holds (old : StoredFeed) (before piece : List ℕ) (new : StoredFeed) (after : List ℕ) : Type 0 where
  pub holds : held_in new after ≡ held_in old before ++ piece
  pub room : length after ≡ length before
  pub parser : new.parser ≡ old.parser
  pub finished : new.is_finished ≡ old.is_finished

-- The chunk was appended to the held bytes; or there is no room for both, and nothing changed.
abbrev pub PushesPlain : (old : StoredFeed) (before piece : List ℕ) → Bool → (new : StoredFeed) (after : List ℕ)
    → Type 0
PushesPlain old before piece true new after = Holds old before piece new after
PushesPlain old before piece false new after =
    (length before < length (held_in old before) + length piece) × (new ≡ old) × (after ≡ before)
