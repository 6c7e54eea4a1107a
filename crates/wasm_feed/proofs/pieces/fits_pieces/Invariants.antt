use Rattle.wasm_feed.proofs.Common.{◌≡◌, ◌+◌, ◌^◌, ◌<◌, length, take, joined}
use Rattle.wasm_feed.proofs.pieces.fits_pieces.Given as goal

abbrev pub invariant-pieces : goal.invariant-pieces
invariant-pieces l = record {
  end : l.end ≡ l.offset + length (joined (take l.piece-index l.pieces));
  within : l.end < 2 ^ 64;
}
