use Rattle.wasm_edits.proofs.Common.{ℕ, ◌<◌, ◌^◌, inl, [], ◌++◌, length, refl, arith, ap, drop, err_from_is_err_and, feed_of}
use Rattle.wasm_edits.proofs.Appended.{both_lengths}
use Rattle.wasm_edits.proofs.EditLaws.{edits_so}
use Rattle.wasm_edits.proofs.PartSteps.{all_written, none_yet, one_written}
use Rattle.wasm_streams.proofs.ForCallers.{new_parser}
use Rattle.wasm_edits.proofs.StripLaws.{not_accepted, stream_of}
use Rattle.wasm_edits.specs.Edits.{bytes_as, new_bytes}
use Rattle.wasm_edits.proofs.editing.edited_len.Goals as goal

pub parts-init : goal.parts-init
parts-init c =
    let bytes = c.args.bytes.now in
    let cursor = c.over_all-cursor.result in
    record {
      counted = (
        [],
        none_yet c.args.edits.now bytes (feed_of bytes cursor) (new_parser 0 _ _ _ c.over_all-cursor.ensures.parser c.new.ensures)
            (ap (λ (n : ℕ). drop n bytes) c.over_all-cursor.ensures.mark),
        inl refl,
      );
      finished = c.over_all-cursor.ensures.finished;
    }

pub returns-in_err-part : goal.returns-in_err-part
returns-in_err-part c =
    let bytes = c.args.bytes.now in
    let l : length bytes < 2 ^ 64 = omega arith in
    let (written, h, n) = c.parts.invariant.counted in
    let e = err_from_is_err_and c.from_residual.result c.from_residual.ensures.1 in
    let fault = c.in_err-part.ensures.takes bytes h.0 h.1 l in
    rw (e.1, e.2) (not_accepted bytes c.in_err-part.field-0.0 (stream_of bytes c.type_inv.bytes l) fault, fault)

pub parts-preserved : goal.parts-preserved
parts-preserved c =
    let bytes = c.args.bytes.now in
    let l : length bytes < 2 ^ 64 = omega arith in
    let (written, h, n) = c.parts.invariant.counted in
    let part = c.in-Some.part in
    let new = bytes_as part.fate part.bytes.now in
    let came = rw c.in-Some.is at (c.in_ok-part.ensures.takes bytes h.0 h.1 l) in
    record {
      counted = (
        written ++ new,
        one_written c.args.edits.now bytes written (feed_of bytes c.parts.cursor) (feed_of bytes c.next_part.new.cursor) h part came,
        rw c.saturating_add-size.ensures (both_lengths _ _ written new n (inl c.size.ensures)),
      );
      finished = c.in_ok-part.ensures.finished;
    }

pub returns : goal.returns
returns c =
    let bytes = c.args.bytes.now in
    let edits = c.args.edits.now in
    let l : length bytes < 2 ^ 64 = omega arith in
    let (written, h, n) = c.parts.invariant.counted in
    let came = rw c.in_default.is at (c.in_ok-part.ensures.takes bytes h.0 h.1 l) in
    let reads = all_written edits bytes written (feed_of bytes c.parts.cursor) (feed_of bytes c.next_part.new.cursor) h came in (
      written ++ new_bytes edits,
      edits_so edits bytes written c.requires (stream_of bytes c.type_inv.bytes l) reads,
      rw c.saturating_add.ensures (both_lengths _ _ written (new_bytes edits) n c.new_len.ensures),
    )
