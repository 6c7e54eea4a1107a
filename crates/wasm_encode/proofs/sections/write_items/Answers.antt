use Rattle.std.proofs.Common.{◌++◌, append-nil, append_assoc, ap, arith, length, length-append, refl, sym, take, ◌∙◌, ◌+◌}
use Rattle.wasm_encode.specs.Sections.{items_bytes}
use Rattle.wasm_encode.proofs.SectionsBack.{less_items, more_items, whole_items}
use Rattle.wasm_encode.proofs.RestStays.{stays_after}
use Rattle.wasm_encode.proofs.sections.write_items.Goals as goal

pub items-init : goal.items-init
items-init g c = record {
  whole = sym (append-nil (take c.args.at c.args.bytes.now));
  size = omega arith;
  rest = refl;
  len = λ i. length c.args.bytes.now;
}

pub encode_at-end-requires-clause-room : goal.encode_at-end-requires-clause-room
encode_at-end-requires-clause-room g c =
    let encoded = g.T.Encode.encoded in
    let items = c.args.items.now in
    let i = c.items.item-index in
    let x = c.item-item.result in
    let e = more_items encoded items i x c.items-test.true c.item-item.is in
    let l = less_items encoded (i + 1) items in
    omega (
      arith,
      ap length e,
      length-append (items_bytes encoded (take i items)) (encoded x),
      l,
      c.items.invariant.size,
      c.items.invariant.len,
      c.requires.room,
    )

pub items-preserved : goal.items-preserved
items-preserved g c =
    let encoded = g.T.Encode.encoded in
    let items = c.args.items.now in
    let i = c.items.item-index in
    let x = c.item-item.result in
    let e = more_items encoded items i x c.items-test.true c.item-item.is in
    let before = take c.args.at c.args.bytes.now in
    record {
      whole = c.encode_at-end.ensures.written ∙ (ap (λ bytes. bytes ++ encoded x) c.items.invariant.whole
          ∙ (append_assoc before (items_bytes encoded (take i items)) (encoded x) ∙ ap (λ bytes. before ++ bytes) (sym e)));
      size = omega (
        arith,
        ap length e,
        length-append (items_bytes encoded (take i items)) (encoded x),
        c.items.invariant.size,
        c.encode_at-end.ensures.end,
      );
      rest = stays_after c.items.end c.encode_at-end.result _ _ _ (omega (arith, c.encode_at-end.ensures.end))
          c.encode_at-end.ensures.rest c.items.invariant.rest;
      len = c.encode_at-end.ensures.len ∙ c.items.invariant.len;
    }

pub returns-clause-end : goal.returns-clause-end
returns-clause-end g c =
    let e = whole_items g.T.Encode.encoded c.items.item-index c.args.items.now c.items-test.false in
    c.items.invariant.size ∙ ap (λ bytes. c.args.at + length bytes) e

pub returns-clause-written : goal.returns-clause-written
returns-clause-written g c =
    let e = whole_items g.T.Encode.encoded c.items.item-index c.args.items.now c.items-test.false in
    c.items.invariant.whole ∙ ap (λ bytes. take c.args.at c.args.bytes.now ++ bytes) e
