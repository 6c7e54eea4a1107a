use Rattle.std.proofs.Common.{◌+◌, ap, arith, length, length-append, subst, take}
use Rattle.std.proofs.lemmas.List.Elements.{All-more}
use Rattle.wasm_encode.specs.Sections.{items_bytes}
use Rattle.wasm_encode.proofs.SectionsBack.{less_items, more_items}
use Rattle.wasm_encode.proofs.fitting.items_fit.Goals as goal

pub returns-then-size-bound : goal.returns-then-size-bound
returns-then-size-bound g c =
    let encoded = g.T.Encode.encoded in
    let items = c.args.items.now in
    let i = c.items.item-index in
    let x = c.item-item.result in
    let e = more_items encoded items i x c.items-test.true c.item-item.is in (
      λ t. cc,
      λ f. absurd (omega (
        arith,
        f.short,
        c.if-size-bound.true,
        c.encoded_len-size.ensures.len,
        c.items.invariant.size,
        ap length e,
        length-append (items_bytes encoded (take i items)) (encoded x),
        less_items encoded (i + 1) items,
      )),
    )

pub items-preserved : goal.items-preserved
items-preserved g c =
    let encoded = g.T.Encode.encoded in
    let items = c.args.items.now in
    let i = c.items.item-index in
    let x = c.item-item.result in
    let e = more_items encoded items i x c.items-test.true c.item-item.is in
    let fit : g.T.Encode.is_encodable x = c.fits.ensures.0 c.if-not-fits.false in
    record {
      each = All-more g.T.Encode.is_encodable items i x c.items-test.true c.items.invariant.each
          (subst g.T.Encode.is_encodable c.item-item.is fit);
      size = omega (
        arith,
        c.encoded_len-size.ensures.len,
        c.items.invariant.size,
        ap length e,
        length-append (items_bytes encoded (take i items)) (encoded x),
      );
      small = omega (arith, c.if-size-bound.false);
    }
