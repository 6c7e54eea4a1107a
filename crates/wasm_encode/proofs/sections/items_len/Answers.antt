use Rattle.std.proofs.Common.{◌+◌, ap, arith, length, length-append, take, ◌∙◌}
use Rattle.wasm_encode.specs.Sections.{items_bytes}
use Rattle.wasm_encode.proofs.SectionsBack.{less_items, more_items, whole_items}
use Rattle.wasm_encode.proofs.sections.items_len.Goals as goal

pub overflow_add-size : goal.overflow_add-size
overflow_add-size g c =
    let encoded = g.T.Encode.encoded in
    let items = c.args.items.now in
    let i = c.items.item-index in
    let x = c.item-item.result in
    let e = more_items encoded items i x c.items-test.true c.item-item.is in
    let l = less_items encoded (i + 1) items in
    omega (
      arith,
      c.encoded_len-size.ensures.len,
      c.items.invariant,
      c.requires.short,
      ap length e,
      length-append (items_bytes encoded (take i items)) (encoded x),
      l,
    )

pub items-preserved : goal.items-preserved
items-preserved g c =
    let encoded = g.T.Encode.encoded in
    let items = c.args.items.now in
    let i = c.items.item-index in
    let x = c.item-item.result in
    let e = more_items encoded items i x c.items-test.true c.item-item.is in
    omega (
      arith,
      c.encoded_len-size.ensures.len,
      c.items.invariant,
      ap length e,
      length-append (items_bytes encoded (take i items)) (encoded x),
    )

pub returns : goal.returns
returns g c = c.items.invariant ∙ ap length (whole_items g.T.Encode.encoded c.items.item-index c.args.items.now c.items-test.false)
