use Rattle.std.proofs.Common.{ℕ, ◌<◌, ◌^◌, length, arith, ap, drop}
use Rattle.std.proofs.lemmas.Result.{err_from_is_err_and}
use Rattle.wasm_streams.proofs.ForCallers.{new_parser}
use Rattle.wasm_commands.proofs.FirstNamed.{begun, one_more}
use Rattle.wasm_commands.proofs.around.find_first.Goals as goal

pub parts-init : goal.parts-init
parts-init c =
    let bytes = c.args.bytes.now in
    let cursor = c.over_all-cursor.result in
    record {
      sought = begun c.args.name.now bytes cursor (new_parser 0 _ _ _ c.over_all-cursor.ensures.parser c.new.ensures)
          (ap (λ (n : ℕ). drop n bytes) c.over_all-cursor.ensures.mark);
      finished = c.over_all-cursor.ensures.finished;
    }

pub returns-in_err-part : goal.returns-in_err-part
returns-in_err-part c =
    let l : length c.args.bytes.now < 2 ^ 64 = omega arith in
    let s = c.parts.invariant.sought in
    let e = err_from_is_err_and c.from_residual.result c.from_residual.ensures.1 in
    rw (e.1, e.2) (c.in_err-part.ensures.takes s.events s.along l)

pub parts-preserved : goal.parts-preserved
parts-preserved c =
    let l : length c.args.bytes.now < 2 ^ 64 = omega arith in
    let s = c.parts.invariant.sought in
    let came = rw c.in-Some.is at (c.in_ok-part.ensures.takes s.events s.along l) in
    record {
      sought = rw c.first_of-found.ensures (one_more c.args.name.now c.args.bytes.now c.parts.cursor c.next_part.new.cursor c.in-Some.part
          c.parts.found s came);
      finished = c.in_ok-part.ensures.finished;
    }

pub returns : goal.returns
returns c =
    let l : length c.args.bytes.now < 2 ^ 64 = omega arith in
    let s = c.parts.invariant.sought in
    let came = rw c.in_default.is at (c.in_ok-part.ensures.takes s.events s.along l) in
    record { events = s.events; offset = came.0; reading = came.1; found = s.so_far }
