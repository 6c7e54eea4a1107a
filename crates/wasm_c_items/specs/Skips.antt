-- Skipping a section or body by its first fields.
use Rattle.std.specs.Prelude.{◌≡◌, ℕ, List, length, Option, Some, None}
use Rattle.wasm_frames.specs.ParserState.{ParserState}
use Rattle.wasm_frames.specs.SkipNext.{Head, custom, Skip, SkipsNext, report_with, skip_of, state_after_skip}
use Rattle.wasm_c_items.specs.Events.{placed_event, report_event, request_event}
use Rattle.wasm_c_items.specs.declared.events.PlainEvent.{PlainEvent}

-- the offset of the data of a custom section; that of items is not known
abbrev pub data_of : Head → ℕ
data_of (custom text data_offset) = data_offset
data_of other = 0

-- a part of a stream by its first fields, and the offsets between which its content is
abbrev pub part_event : Skip → PlainEvent
part_event skip = record (report_event (report_with skip.head)) {
  start = skip.from;
  end = skip.to;
  data_offset = data_of skip.head;
}

-- | what a parser skipped, as an event; a parser skipped this, and is then here [`SkipsPlain`] <Modules, Sections>
-- what was skipped at this offset, of which this many bytes are held, or a request that asks for nothing
abbrev pub skip_event : (offset held : ℕ) → Option Skip → PlainEvent
skip_event offset held (Some skip) = placed_event 0 offset held (part_event skip)
skip_event offset held None = request_event 0 0

-- The parser skipped the part that begins with these bytes, or nothing, and is then in this state.
pub record SkipsPlain (old : ParserState) (bytes : List ℕ) (event : PlainEvent) (new : ParserState) : Type 0 where
  pub is_event : event ≡ skip_event old.offset (length bytes) (skip_of old bytes)
  pub state : new ≡ state_after_skip old (skip_of old bytes)
  pub skips : SkipsNext old bytes (skip_of old bytes) new
