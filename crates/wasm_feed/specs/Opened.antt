-- A feeder that is taken apart.
use Rattle.std.specs.Borrow.{Lends, MutBor, Fml}
use Rattle.wasm_streams.specs.Cursors.{feed_of}
use Rattle.wasm_streams.specs.Feed.{Feed}
use Rattle.wasm_feed.specs.declared.feeder.Opened.{Opened}
use Rattle.wasm_feed.specs.Rows.{the_row}
use Rattle.wasm_streams.specs.contracts.cursor.Cursor.{the_row as cursor_row}

-- The feeder ends as its bytes with the cursor's last value.
abbrev pub LendsCursor : MutBor Feed → Opened → Fml
LendsCursor s r = Lends the_row cursor_row s r.cursor (feed_of r.bytes.now)
