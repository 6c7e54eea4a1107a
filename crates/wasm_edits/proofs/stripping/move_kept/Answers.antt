use Rattle.wasm_edits.proofs.Common.{ℕ, ◌+◌, [], ◌∷◌, length, refl, arith, ◌-◌, take, drop, ap, ◌∙◌, append-nil, subst}
use Rattle.wasm_edits.proofs.Common.{HasEdited, copy_within, err_from_is_err_and, feed_of}
use Rattle.wasm_edits.proofs.EditLaws.{nothing_new}
use Rattle.wasm_edits.proofs.KeptInPlace.{mark_within, moves_on}
use Rattle.wasm_edits.proofs.PartSteps.{all_written, none_yet, one_written}
use Rattle.wasm_streams.proofs.ForCallers.{new_parser}
use Rattle.wasm_edits.specs.declared.edits.Edit.TheVariants as edit
use Rattle.wasm_edits.proofs.stripping.move_kept.Goals as goal

pub parts-init : goal.parts-init
parts-init c =
    let bytes = c.args.bytes.now in
    let cursor = c.over_all-cursor.result in
    record {
      comes = none_yet (edit.Keep c.args.keep ∷ []) bytes (feed_of bytes cursor)
          (new_parser 0 _ _ _ c.over_all-cursor.ensures.parser c.new.ensures)
          (ap (λ (n : ℕ). drop n bytes) c.over_all-cursor.ensures.mark);
      finished = c.over_all-cursor.ensures.finished;
      order = omega arith;
      within = omega (arith, c.over_all-cursor.ensures.mark);
      long = refl;
    }

pub returns-in_err-part : goal.returns-in_err-part
returns-in_err-part c =
    let h = c.parts.invariant.comes in
    let e = err_from_is_err_and c.from_residual.result c.from_residual.ensures.1 in
    rw (e.1, e.2) (c.in_err-part.ensures.takes c.args.bytes.now h.0 h.1 c.requires)

pub parts-preserved-in-Stays : goal.parts-preserved-in-Stays
parts-preserved-in-Stays c =
    let stream = c.args.bytes.now in
    let edits = edit.Keep c.args.keep ∷ [] in
    let bytes = c.parts.bytes in
    let old = c.parts.cursor in
    let next = c.next_part.new.cursor in
    let loop = c.parts.invariant in
    let h = loop.comes in
    let part = c.in-Some.part in
    let came = rw c.in-Some.is at (c.in_ok-part.ensures.takes stream h.0 h.1 c.requires) in
    let passes = rw c.in-Some.is at c.in_ok-part.ensures.passes in
    let kept = one_written edits stream (take c.parts.kept bytes) (feed_of bytes old) (feed_of bytes next) h part came in
    let n : ℕ = length part.bytes.now in
    let moved = c.move_down.ensures.items
    ∙ ap (λ (m : ℕ). copy_within bytes (m - n) (m - n + n) c.parts.kept) c.mark.ensures in
    record {
      comes = moves_on edits stream bytes c.move_down.new.bytes part.bytes.now c.parts.kept old.mark next loop.order loop.within passes.0
          passes.1 moved (rw c.in-Stays.is at kept);
      finished = c.in_ok-part.ensures.finished;
      order = omega (arith, loop.order, passes.0);
      within = omega (arith, c.move_down.ensures.len, mark_within bytes part.bytes.now old.mark next.mark loop.within passes);
      long = c.move_down.ensures.len ∙ loop.long;
    }

pub parts-preserved : goal.parts-preserved
parts-preserved c =
    let stream = c.args.bytes.now in
    let edits = edit.Keep c.args.keep ∷ [] in
    let bytes = c.parts.bytes in
    let old = c.parts.cursor in
    let next = c.next_part.new.cursor in
    let loop = c.parts.invariant in
    let h = loop.comes in
    let part = c.in-Some.part in
    let came = rw c.in-Some.is at (c.in_ok-part.ensures.takes stream h.0 h.1 c.requires) in
    let passes = rw c.in-Some.is at c.in_ok-part.ensures.passes in
    let front = take c.parts.kept bytes in
    let kept = rw c.in-Goes.is at (one_written edits stream front (feed_of bytes old) (feed_of bytes next) h part came) in
    record {
      comes = subst (HasEdited edits stream (feed_of bytes next)) (append-nil front) kept;
      finished = c.in_ok-part.ensures.finished;
      order = omega (arith, loop.order, passes.0);
      within = mark_within bytes part.bytes.now old.mark next.mark loop.within passes;
      long = loop.long;
    }

pub unreachable-requires : goal.unreachable-requires
unreachable-requires c =
    let h = c.parts.invariant.comes in
    let came = rw c.in-Some.is at (c.in_ok-part.ensures.takes c.args.bytes.now h.0 h.1 c.requires) in
    nothing_new c.args.keep c.args.bytes.now h.0 c.in-Some.part c.in-Becomes.field-0 (feed_of c.parts.bytes c.next_part.new.cursor) came
    c.in-Becomes.is

pub returns : goal.returns
returns c =
    let stream = c.args.bytes.now in
    let bytes = c.parts.bytes in
    let loop = c.parts.invariant in
    let h = loop.comes in
    let came = rw c.in_default.is at (c.in_ok-part.ensures.takes stream h.0 h.1 c.requires) in (
      all_written (edit.Keep c.args.keep ∷ []) stream (take c.parts.kept bytes) (feed_of bytes c.parts.cursor)
          (feed_of bytes c.next_part.new.cursor) h came,
      omega (arith, loop.order, loop.within),
      loop.long,
    )
