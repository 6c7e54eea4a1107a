use Rattle.wasm_edits.proofs.Common.{◌≡◌, [], ◌++◌, ap, sym, refl, ◌∙◌, append-nil, append_assoc, arith, common_steps}
use Rattle.wasm_edits.proofs.Common.{err_from_is_err_and, puts_more}
use Rattle.wasm_edits.specs.Edits.{bytes_as, new_bytes}
use Rattle.wasm_edits.proofs.Appended.{later, later_fit, new_apart}
use Rattle.wasm_edits.proofs.EditProgress.{new_cut, new_out, no_length}
use Rattle.wasm_edits.proofs.streaming.write_new.Goals as goal

pub returns-in_err-put_as : goal.returns-in_err-put_as
returns-in_err-put_as g c =
    let edits = c.edits.rest.now in
    let loop = c.edits.invariant in
    let (front, puts, whole) = loop.puts in
    let apart = new_apart _ edits c.added_by.result [] c.in-len1-up.len_at_least c.added_by.ensures.is refl in
    let e = err_from_is_err_and c.from_residual.result c.from_residual.ensures.1 in
    record {
      writes = rw e.1 tt;
      cut = rw (e.1, e.2) (new_cut _ _ _ front c.edits.page (new_bytes c.args.edits.now) puts (bytes_as c.added_by.result [])
          (new_bytes (later edits)) (ap (λ xs. front ++ xs) (sym apart) ∙ whole) _ c.in_err-put_as.ensures.puts.0);
      sink = grind (arith, common_steps);
    }

pub edits-preserved : goal.edits-preserved
edits-preserved g c =
    let edits = c.edits.rest.now in
    let loop = c.edits.invariant in
    let (front, puts, whole) = loop.puts in
    let new = bytes_as c.added_by.result [] in
    let apart = new_apart _ edits c.added_by.result [] c.in-len1-up.len_at_least c.added_by.ensures.is refl in
    record {
      puts = (
        front ++ new,
        puts_more _ _ _ [] front c.edits.page new _ puts c.in_ok-put_as.ensures.puts,
        append_assoc front new (new_bytes (later edits)) ∙ (ap (λ xs. front ++ xs) (sym apart) ∙ whole),
      );
      fits = later_fit edits c.in-len1-up.len_at_least loop.fits;
      output = c.in_ok-put_as.ensures.failed ∙ loop.output;
    }

pub returns : goal.returns
returns g c =
    let loop = c.edits.invariant in
    let (front, puts, whole) = loop.puts in
    let none : c.edits.rest.now ≡ [] = no_length c.edits.rest.now c.in_default.len_below in
    let all : front ≡ new_bytes c.args.edits.now = sym (append-nil front) ∙ (rw none at whole) in
    let out = new_out _ _ _ front c.edits.page (new_bytes c.args.edits.now) puts _ c.write_out.result all c.write_out.ensures.writes in
    record { writes = out.0; cut = out.1; sink = grind (arith, common_steps) }
