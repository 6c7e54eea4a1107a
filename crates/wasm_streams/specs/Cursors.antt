-- A feeder by its parts.
use Rattle.std.specs.Prelude.{ℕ, true, false, List, length, drop}
use Rattle.wasm_streams.specs.Feed.{Feed}
use Rattle.wasm_streams.specs.declared.cursor.Cursor.{Cursor}

-- what a cursor in these bytes is
abbrev pub feed_of : List ℕ → Cursor → Feed
feed_of bytes c = record {
  state = c.parser;
  held = drop c.mark bytes;
  stored = length bytes;
  eof = c.is_finished;
  wants_more = c.wants_more;
}

-- a cursor after the end of input
abbrev pub finished_cursor : Cursor → Cursor
finished_cursor c = record c { is_finished = true; wants_more = false }
