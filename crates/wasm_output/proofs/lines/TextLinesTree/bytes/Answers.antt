use Rattle.wasm_output.proofs.Common.{rules}
use Rattle.wasm_output.proofs.Saying.{none_in_first, says_parts}
use Rattle.wasm_output.proofs.lines.TextLinesTree.bytes.Goals as goal

pub piece-requires-clause-one_line : goal.piece-requires-clause-one_line
piece-requires-clause-one_line g c =
    (none_in_first _ c.split_at.result.0.now c.split_at.result.1.now c.split_at.ensures.by_index.0 c.pieces.invariant.one_line).0

pub pieces-preserved : goal.pieces-preserved
pieces-preserved g c =
    let first = c.split_at.result.0.now in
    let later = c.split_at.result.1.now in
    let parts = c.split_at.ensures.by_index.0 in
    record {
      adds = search rules;
      some = λ since m. c.piece.ensures.some since (c.pieces.invariant.some since m);
      one_line = (none_in_first c.pieces.rest.now first later parts c.pieces.invariant.one_line).1;
      says = λ w p. c.pieces.invariant.says w (says_parts c.pieces.rest.now first later _ _ w parts c.piece.ensures.says p);
    }
