use Rattle.wasm_edits.proofs.Common.{◌++◌, ap, sym, ◌∙◌, append_assoc, arith, length, length-append, take}
use Rattle.wasm_edits.proofs.Appended.{later, later_fit, new_apart}
use Rattle.wasm_edits.proofs.RestStays.{stays_after}
use Rattle.wasm_edits.specs.Edits.{bytes_as, new_bytes}
use Rattle.wasm_edits.proofs.editing.write_new.Goals as goal

pub write_at-end-requires-clause-room : goal.write_at-end-requires-clause-room
write_at-end-requires-clause-room c =
    let edits = c.edits.rest.now in
    let part = c.new_part.result in
    let new = bytes_as part.fate part.bytes.now in
    let e = new_apart _ edits part.fate part.bytes.now c.in-len1-up.len_at_least c.new_part.ensures.fate c.new_part.ensures.bytes in
    omega (arith, c.edits.invariant.size, c.edits.invariant.len, c.requires.room, simp length-append at (ap length e))

pub edits-preserved : goal.edits-preserved
edits-preserved c =
    let edits = c.edits.rest.now in
    let part = c.new_part.result in
    let new = bytes_as part.fate part.bytes.now in
    let loop = c.edits.invariant in
    let e = new_apart _ edits part.fate part.bytes.now c.in-len1-up.len_at_least c.new_part.ensures.fate c.new_part.ensures.bytes in
    let front = take c.edits.end c.edits.bytes in
    record {
      whole = ap (λ xs. xs ++ new_bytes (later edits)) c.write_at-end.ensures.written
          ∙ (append_assoc front new (new_bytes (later edits)) ∙ (ap (λ xs. front ++ xs) (sym e) ∙ loop.whole));
      size = omega (arith, loop.size, c.write_at-end.ensures.end, simp length-append at (ap length e));
      rest = stays_after c.edits.end c.write_at-end.result _ _ _ (omega (arith, c.write_at-end.ensures.end))
          c.write_at-end.ensures.rest loop.rest;
      fit = later_fit edits c.in-len1-up.len_at_least loop.fit;
      len = c.write_at-end.ensures.len ∙ loop.len;
    }
