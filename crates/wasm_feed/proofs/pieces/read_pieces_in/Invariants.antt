use Rattle.wasm_feed.proofs.Common.{◌≡◌, false, take, all_features, feed_of, joined, HasCome}
use Rattle.wasm_feed.proofs.pieces.read_pieces_in.Given as goal

-- the first chunks were given, and the last event has not arrived
abbrev pub invariant-pieces : goal.invariant-pieces
invariant-pieces g l = record {
  comes : HasCome l.offset all_features (joined (take l.piece-index l.pieces)) (feed_of l.bytes.items l.cursor) l.events.items;
  goes_on : l.cursor.is_finished ≡ false;
}
