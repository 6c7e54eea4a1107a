use Rattle.wasm_feed.proofs.Common.{ℕ, List, [], length, take, slice_index_or, Bor, ap, arith, length-append, take_all, joined}
use Rattle.wasm_feed.proofs.Joining.{joined_more, joined_within}
use Rattle.wasm_feed.proofs.pieces.fits_pieces.Goals as goal

abbrev none : Bor (List ℕ)
none = record { ref_ptr = (0, 0); now = [] }

pub returns-then-not-fits : goal.returns-then-not-fits
returns-then-not-fits c = grind (arith, joined_within)

pub pieces-preserved : goal.pieces-preserved
pieces-preserved c =
    let more = ap length (joined_more c.args.pieces.now c.pieces.piece-index none c.pieces-test.true) in
    let parts = length-append (joined (take c.pieces.piece-index c.args.pieces.now))
    (slice_index_or c.args.pieces.now c.pieces.piece-index none).now in
    let end = c.pieces.invariant.end in
    record {
      end = omega (arith, more, parts, end);
      within = c.fits.ensures.0 c.if-not-fits.false;
    }

pub returns : goal.returns
returns c = grind (arith, joined, take_all)
