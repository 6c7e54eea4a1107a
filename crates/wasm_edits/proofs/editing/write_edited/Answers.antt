use Rattle.wasm_edits.proofs.Common.{◌≡◌, ℕ, ◌<◌, ◌≤◌, ◌^◌, ◌++◌, length, refl, sym, arith, ap, ◌∙◌, drop, take, length-append, subst}
use Rattle.wasm_edits.proofs.Common.{HasEdited, feed_of}
use Rattle.wasm_edits.proofs.PartSteps.{all_written, no_fault, no_more, none_yet, one_written, same_written}
use Rattle.wasm_edits.proofs.RestStays.{stays_after}
use Rattle.wasm_streams.proofs.ForCallers.{new_parser}
use Rattle.wasm_edits.specs.Edits.{bytes_as, new_bytes}
use Rattle.wasm_edits.proofs.editing.write_edited.Goals as goal

pub parts-init : goal.parts-init
parts-init c =
    let bytes = c.args.bytes.now in
    let cursor = c.over_all-cursor.result in
    record {
      comes = none_yet c.args.edits.now bytes (feed_of bytes cursor) (new_parser 0 _ _ _ c.over_all-cursor.ensures.parser c.new.ensures)
          (ap (λ (n : ℕ). drop n bytes) c.over_all-cursor.ensures.mark);
      size = refl;
      rest = refl;
      finished = c.over_all-cursor.ensures.finished;
      len = refl;
    }

pub returns-in_err-part : goal.returns-in_err-part
returns-in_err-part c =
    let bytes = c.args.bytes.now in
    let l : length bytes < 2 ^ 64 = omega arith in
    let h = c.parts.invariant.comes in
    let (all, reads, room) = c.requires.room in
    absurd (no_fault c.args.edits.now bytes all c.in_err-part.field-0.0 (c.in_err-part.ensures.takes bytes h.0 h.1 l) reads)

pub write_at-end-requires-clause-room : goal.write_at-end-requires-clause-room
write_at-end-requires-clause-room c =
    let bytes = c.args.bytes.now in
    let edits = c.args.edits.now in
    let l : length bytes < 2 ^ 64 = omega arith in
    let loop = c.parts.invariant in
    let h = loop.comes in
    let (all, reads, room) = c.requires.room in
    let part = c.in-Some.part in
    let front = take c.parts.end c.parts.out in
    let new = bytes_as part.fate part.bytes.now in
    let after = feed_of bytes c.next_part.new.cursor in
    let came = rw c.in-Some.is at (c.in_ok-part.ensures.takes bytes h.0 h.1 l) in
    let next = one_written edits bytes front (feed_of bytes c.parts.cursor) after h part came in
    let within : length (front ++ new) ≤ length all = no_more edits bytes (front ++ new) all after next reads in
    omega (arith, within, length-append front new, loop.size, loop.len, room, length-append all (new_bytes edits))

pub parts-preserved : goal.parts-preserved
parts-preserved c =
    let bytes = c.args.bytes.now in
    let edits = c.args.edits.now in
    let l : length bytes < 2 ^ 64 = omega arith in
    let loop = c.parts.invariant in
    let h = loop.comes in
    let part = c.in-Some.part in
    let front = take c.parts.end c.parts.out in
    let new = bytes_as part.fate part.bytes.now in
    let after = feed_of bytes c.next_part.new.cursor in
    let came = rw c.in-Some.is at (c.in_ok-part.ensures.takes bytes h.0 h.1 l) in
    let next = one_written edits bytes front (feed_of bytes c.parts.cursor) after h part came in
    let written = c.write_at-end.ensures.written in
    record {
      comes = subst (HasEdited edits bytes after) (sym written) next;
      size = ap length written ∙ omega (arith, length-append front new, loop.size, c.write_at-end.ensures.end);
      rest = stays_after c.parts.end c.write_at-end.result _ _ _ (omega (arith, c.write_at-end.ensures.end))
          c.write_at-end.ensures.rest loop.rest;
      finished = c.in_ok-part.ensures.finished;
      len = c.write_at-end.ensures.len ∙ loop.len;
    }

pub write_new-requires-clause-room : goal.write_new-requires-clause-room
write_new-requires-clause-room c =
    let bytes = c.args.bytes.now in
    let edits = c.args.edits.now in
    let l : length bytes < 2 ^ 64 = omega arith in
    let loop = c.parts.invariant in
    let h = loop.comes in
    let (all, reads, room) = c.requires.room in
    let front = take c.parts.end c.parts.out in
    let came = rw c.in_default.is at (c.in_ok-part.ensures.takes bytes h.0 h.1 l) in
    let whole = all_written edits bytes front (feed_of bytes c.parts.cursor) (feed_of bytes c.next_part.new.cursor) h came in
    let same : length front ≡ length all = ap length (same_written edits bytes front all whole reads) in
    omega (arith, same, loop.size, loop.len, room, length-append all (new_bytes edits))

pub returns : goal.returns
returns c =
    let bytes = c.args.bytes.now in
    let edits = c.args.edits.now in
    let l : length bytes < 2 ^ 64 = omega arith in
    let loop = c.parts.invariant in
    let h = loop.comes in
    let front = take c.parts.end c.parts.out in
    let came = rw c.in_default.is at (c.in_ok-part.ensures.takes bytes h.0 h.1 l) in
    let whole = all_written edits bytes front (feed_of bytes c.parts.cursor) (feed_of bytes c.next_part.new.cursor) h came in (
      front,
      whole,
      omega (arith, loop.size, length-append front (new_bytes edits), c.write_new.ensures.end),
      c.write_new.ensures.written,
      stays_after c.parts.end c.write_new.result _ _ _ (omega (arith, c.write_new.ensures.end)) c.write_new.ensures.rest loop.rest,
    )
