use Rattle.wasm_lines.proofs.Common.{◌≡◌, ◌++◌, drop, ap, err_from_is_err_and, line_of, cut_of, cut, beside, feed_of, Cursor}
use Rattle.wasm_lines.proofs.SkipList.{dropped_here, given_up, line_cut, line_put, listed_short, short_cut}
use Rattle.wasm_streams.proofs.ForCallers.{filled, not_filled, progress_of, to_be_written}
use Rattle.wasm_lines.proofs.listing.read_on.Goals as goal

pub returns-in_err-write_lines-clause-reads : goal.returns-in_err-write_lines-clause-reads
returns-in_err-write_lines-clause-reads g c =
    let e = err_from_is_err_and c.from_residual.result c.from_residual.ensures.1 in
    rw (e.1, e.2) (λ source taken w. cut line_of _ _ _ _ _ _ (progress_of w) _ _ (cut_of _ _ _ _ c.in_err-write_lines.ensures.writes))

pub returns-in_err-refill-clause-reads : goal.returns-in_err-refill-clause-reads
returns-in_err-refill-clause-reads g c =
    let e = err_from_is_err_and c.from_residual-in_err-refill.result c.from_residual-in_err-refill.ensures.1 in
    rw (e.1, e.2) (λ source taken w. not_filled line_of _ _ _ _ _
    (to_be_written w c.in_ok-write_lines.ensures.writes.0) _
    (beside (feed_of c.refill.new.stored.items c.refill.new.cursor) c.refill.new.self) _ c.in_err-refill.ensures.refills)

pub returns-in_default-clause-reads : goal.returns-in_default-clause-reads
returns-in_default-clause-reads g c = λ source taken w.
    let same : c.skip_dropped.new.cursor ≡ c.args.cursor.now = c.in_default.ensures.1 in
    let (written, none) = c.in_ok-write_lines.ensures.writes in
    rw none (filled (to_be_written w written)
    (rw same at c.in_ok-refill.ensures.refills))

pub returns-in_err-pass_part-clause-reads : goal.returns-in_err-pass_part-clause-reads
returns-in_err-pass_part-clause-reads g c =
    let e = err_from_is_err_and c.from_residual-in_err-pass_part.result c.from_residual-in_err-pass_part.ensures.1 in
    let h = dropped_here c.seen.ensures c.deref.ensures.value c.bytes.ensures c.in-Some.ensures in
    let (written, none) = c.in_ok-write_lines.ensures.writes in
    rw (e.1, e.2) (λ source taken w. given_up c.args.stored.now.items c.args.ahead.now
    (to_be_written w written) h none c.in_err-pass_part.ensures.cut)

pub returns-in_err-put_line-in-None-clause-reads :
    goal.returns-in_err-put_line-in-None-clause-reads
returns-in_err-put_line-in-None-clause-reads g c =
    let e = err_from_is_err_and c.from_residual-in_err-put_line-in-None.result c.from_residual-in_err-put_line-in-None.ensures.1 in
    let h = dropped_here c.seen.ensures c.deref.ensures.value c.bytes.ensures c.in-Some.ensures in
    let (written, none) = c.in_ok-write_lines.ensures.writes in
    rw (e.1, e.2) (λ source taken w. line_cut _ _ (to_be_written w written) h none
    c.in_ok-pass_part.ensures.passes _ _ c.in_err-put_line-in-None.ensures.puts)

pub returns-in_err-put_fault-in-Some-2-clause-reads :
    goal.returns-in_err-put_fault-in-Some-2-clause-reads
returns-in_err-put_fault-in-Some-2-clause-reads g c =
    let e = err_from_is_err_and c.from_residual-in_err-put_fault-in-Some-2.result c.from_residual-in_err-put_fault-in-Some-2.ensures.1 in
    let h = dropped_here c.seen.ensures c.deref.ensures.value c.bytes.ensures c.in-Some.ensures in
    let (written, none) = c.in_ok-write_lines.ensures.writes in
    rw (e.1, e.2) (λ source taken w. line_cut _ _ (to_be_written w written) h none
    c.in_ok-pass_part.ensures.passes _ _ c.in_err-put_fault-in-Some-2.ensures.takes)

pub returns-in_err-write_out-in-Some-2-clause-reads :
    goal.returns-in_err-write_out-in-Some-2-clause-reads
returns-in_err-write_out-in-Some-2-clause-reads g c =
    let e = err_from_is_err_and c.from_residual-in_err-write_out-in-Some-2.result c.from_residual-in_err-write_out-in-Some-2.ensures.1 in
    let h = dropped_here c.seen.ensures c.deref.ensures.value c.bytes.ensures c.in-Some.ensures in
    let (written, none) = c.in_ok-write_lines.ensures.writes in
    rw (e.1, e.2) (λ source taken w. short_cut _ _ (to_be_written w written) h none
    c.in_ok-pass_part.ensures.passes c.in-Some-2.is c.in_ok-put_fault-in-Some-2.ensures.takes _ _
    (cut_of _ _ _ _ c.in_err-write_out-in-Some-2.ensures.writes))

pub returns-in_ok-put_line-in-None-clause-reads : goal.returns-in_ok-put_line-in-None-clause-reads
returns-in_ok-put_line-in-None-clause-reads g c = λ source taken w.
    let h = dropped_here c.seen.ensures c.deref.ensures.value c.bytes.ensures c.in-Some.ensures in
    let (written, none) = c.in_ok-write_lines.ensures.writes in
    line_put _ _ (to_be_written w written) h none c.in_ok-pass_part.ensures.passes
    c.in-None.is c.in_ok-put_line-in-None.ensures.puts (ap (λ (y : Cursor). y.parser) c.in_ok-pass_part.ensures.cursor)
    (λ i. drop (c.in_ok-pass_part.ensures.cursor i).mark (c.in_ok-pass_part.ensures.none i) ++ c.pass_part.new.ahead)
    (ap (λ (y : Cursor). y.is_finished) c.in_ok-pass_part.ensures.cursor)

pub returns-in_ok-write_out-in-Some-2-clause-reads :
    goal.returns-in_ok-write_out-in-Some-2-clause-reads
returns-in_ok-write_out-in-Some-2-clause-reads g c = λ source taken w.
    let h = dropped_here c.seen.ensures c.deref.ensures.value c.bytes.ensures c.in-Some.ensures in
    let (written, none) = c.in_ok-write_lines.ensures.writes in
    listed_short _ _ (to_be_written w written) h none
    c.in_ok-pass_part.ensures.passes c.in-Some-2.is c.in_ok-put_fault-in-Some-2.ensures.takes
    c.in_ok-write_out-in-Some-2.ensures.writes.0
