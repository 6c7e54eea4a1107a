use Rattle.wasm_edits.proofs.Common.{◌≡◌, ℕ, List, arith, Option, ListError, StopsHere, seen}
use Rattle.wasm_edits.proofs.Common.{GivesUp}
use Rattle.wasm_edits.proofs.Common.{held_by, Cursor, err_from_is_err_and}
use Rattle.wasm_edits.specs.EditStream.{SkipsAs}
use Rattle.wasm_edits.specs.declared.edits.Edit.{Edit}
use Rattle.wasm_edits.specs.declared.streaming.Skipped.{Skipped}
use Rattle.wasm_edits.proofs.streaming.read_or_pass.Goals as goal

-- the part that was skipped could not be passed
passes_not : (edits : List Edit) (source rest taken written : Option (List ℕ)) (old skipped : Cursor)
    (stored chunk waiting items piece bytes left page : List ℕ) (part : Skipped) (e : ListError)
    → bytes ≡ seen items piece → items ≡ stored → piece ≡ chunk → SkipsAs edits old bytes part skipped
    → GivesUp source rest taken written part.passing.stays part.passing.size (held_by skipped stored chunk) waiting e left page
    → StopsHere edits source rest taken written old stored chunk waiting e
passes_not edits source rest taken written old skipped stored chunk waiting items piece bytes left page part e read items_are piece_is
    skips up = grind arith

pub returns-in_err-pass_part-in-Some-clause-stops : goal.returns-in_err-pass_part-in-Some-clause-stops
returns-in_err-pass_part-in-Some-clause-stops g c =
    let e = err_from_is_err_and c.from_residual.result c.from_residual.ensures.1 in
    rw (e.1, e.2) (passes_not c.args.edits.now _ _ _ _ c.args.cursor.now c.skip_part.new.cursor c.args.stored.now.items c.args.ahead.now
    c.args.page.now c.deref.result.now c.bytes.result.now c.seen.result.now c.pass_part.new.ahead c.pass_part.new.page c.in-Some.skipped
    c.in_err-pass_part-in-Some.field-0.0 c.seen.ensures c.deref.ensures.value c.bytes.ensures c.in-Some.ensures.skips
    c.in_err-pass_part-in-Some.ensures.cut)

pub returns-in-Some-2-clause-reads : goal.returns-in-Some-2-clause-reads
returns-in-Some-2-clause-reads g c = (c.in-Some.skipped.fate, grind arith)
