-- The results of a parser as plain numbers.
use Rattle.std.specs.Prelude.{◌≡◌, ℕ, ◌+◌, ◌-◌, ◌^◌, min, Bool, List, length, Ok, Err}
use Rattle.wasm_base.specs.FaultAt.{FaultAt}
use Rattle.wasm_base.specs.Number.{unsigned_at}
use Rattle.wasm_base.specs.Outcome.{Outcome}
use Rattle.wasm_base.specs.Window.{place, range_of}
use Rattle.wasm_base.specs.declared.fault.NumberKind.TheVariants.{VarU32}
use Rattle.wasm_grammar.specs.Content.{fault, ended}
use Rattle.wasm_grammar.specs.Ids.{start_id, data_count_id, code_id, custom_id}
use Rattle.wasm_grammar.specs.Reading.{Report, version, counted, start_section, data_count_section, code_start}
use Rattle.wasm_grammar.specs.Reading.{code_entry, custom_section, unknown_section, stream_end}
use Rattle.wasm_grammar.specs.declared.encoding.Encoding.{Encoding}
use Rattle.wasm_grammar.specs.declared.encoding.Encoding.TheVariants.{Module, Component}
use Rattle.wasm_frames.specs.Answer.{Answer, AsksForSome, Consumes, FaultsWithin, GivesAnswer, asks, refuses, reports}
use Rattle.wasm_frames.specs.AsksWhereOpen.{AsksWhereOpen}
use Rattle.wasm_frames.specs.GivesNextEvent.{GivesNextEvent}
use Rattle.wasm_frames.specs.ParserState.{ParserState}
use Rattle.wasm_c_items.specs.Faults.{no_fault, plain_fault}
use Rattle.wasm_c_items.specs.declared.events.Origin.{Origin}
use Rattle.wasm_c_items.specs.declared.events.PlainEvent.{PlainEvent}

-- an event that says nothing
abbrev pub silent : PlainEvent
silent = record {
  kind = 0;
  id = 0;
  count = 0;
  size = 0;
  start = 0;
  end = 0;
  data_offset = 0;
  at = 0;
  consumed = 0;
  hint = 0;
  name_size = 0;
  fault = no_fault;
}

-- an event of this kind with these offsets
abbrev pub event_between : (kind id from to : ℕ) → PlainEvent
event_between kind id from to = record silent { kind = kind; id = id; start = from; end = to }

abbrev pub encoding_code : Encoding → ℕ
encoding_code Module = 0
encoding_code Component = 1

-- a fault
abbrev pub fault_event : (base : ℕ) → FaultAt → PlainEvent
fault_event base f = record (event_between 10 0 f.offset f.offset) { at = base; fault = plain_fault f }

-- the start of a code section, whose bodies come after its count
abbrev pub code_event : (count from to size : ℕ) → PlainEvent
code_event count from to size =
    record (event_between 5 code_id from to) { count = count; size = size; data_offset = to - size }

-- the offset after the count with which a section begins; 0 if it does not begin with one
abbrev pub first_item : Outcome ℕ → ℕ
first_item (Ok first) = first.1.offset
first_item (Err f) = 0

-- what was reported
abbrev pub report_event : Report → PlainEvent
report_event (version num encoding from to) =
    record (event_between 1 (encoding_code encoding) from to) { count = num }
report_event (counted id count window) =
    record (event_between 2 id (range_of window).start (range_of window).end) {
      count = count;
      data_offset = first_item (unsigned_at VarU32 (place window));
    }
report_event (start_section func from to) = record (event_between 3 start_id from to) { count = func }
report_event (data_count_section count from to) = record (event_between 4 data_count_id from to) { count = count }
report_event (code_start count from to size) = code_event count from to size
report_event (code_entry window) = event_between 6 code_id (range_of window).start (range_of window).end
report_event (custom_section name data_offset window) =
    record (event_between 7 custom_id (range_of window).start (range_of window).end) {
      data_offset = data_offset;
      name_size = length name;
    }
report_event (unknown_section id contents from to) = event_between 8 id from to
report_event (stream_end (ended offset)) = event_between 9 0 offset offset
report_event (stream_end (fault f)) = fault_event 0 f

-- an event that was read at this offset, whose byte is at `base` in memory, and what it consumed
abbrev pub placed_event : (base offset consumed : ℕ) → PlainEvent → PlainEvent
placed_event base offset consumed event = record event {
  at = min (base + (event.start - offset)) (2 ^ 64 - 1);
  consumed = consumed;
}

abbrev pub placed_at : Origin → PlainEvent → PlainEvent
placed_at o event = placed_event o.base o.offset o.consumed event

-- a request for more bytes
abbrev pub request_event : (base hint : ℕ) → PlainEvent
request_event base hint = record silent { at = base; hint = hint }

-- | what a parser returned, as plain numbers [`report_event`]
-- what a parser returned at this offset, whose byte is at `base` in memory
abbrev pub answer_event : (base offset : ℕ) → Answer → PlainEvent
answer_event base offset (asks hint) = request_event base hint
answer_event base offset (reports report consumed) = placed_event base offset consumed (report_event report)
answer_event base offset (refuses f) = fault_event base f

-- | a parser returned this, and is then here: all that `parse` says
-- The parser returned this for these bytes, which are all of the rest of the stream or a prefix of it and begin at
-- `base` in memory, and is then in this state.
pub record ParsesPlain (base : ℕ) (old : ParserState) (eof : Bool) (bytes : List ℕ) (event : PlainEvent)
    (new : ParserState) : Type 0 where
  pub answer : Answer
  pub answers : GivesAnswer old eof bytes answer new
  pub gives : GivesNextEvent old eof bytes answer new
  pub consumes : Consumes bytes answer
  pub asks_for_some : AsksForSome answer
  pub waits : AsksWhereOpen old eof bytes answer
  pub faults : FaultsWithin old bytes answer
  pub is_event : event ≡ answer_event base old.offset answer
