use Rattle.std.proofs.Common.{◌≡◌, ◌≢◌, ◌+◌, ◌⊎◌, inl, inr, true, slice_index, ap, ◌∙◌, arith}
use Rattle.wasm_base.specs.Number.{read, is_unused_right}
use Rattle.wasm_base.proofs.Numbers.{is_short, is_too_long, is_too_large, is_read, IsRead}
use Rattle.wasm_base.proofs.number.long_number_in.Goals as goal
use Rattle.wasm_base.proofs.number.long_number_in.Goals.{else-last-limit-via-then-last-limit+else-not-unused_bits_are_right}
use Rattle.wasm_base.proofs.number.long_number_in.Goals.{else-last-limit-via-else-last-limit}

pub returns-then-bytes-limit-clause-value : goal.returns-then-bytes-limit-clause-value
returns-then-bytes-limit-clause-value c = is_short c.args.kind c.args.bytes.now c.limit-limit.result c.limit-limit.ensures
    c.in_default.ensures c.if-bytes-limit.true

pub returns-in_default-clause-value : goal.returns-in_default-clause-value
returns-in_default-clause-value c = is_too_long c.args.kind c.args.bytes.now c.limit-limit.result c.limit-limit.ensures c.in_default.ensures
    c.if-bytes-limit.false

pub returns-then-not-unused_bits_are_right-clause-value : goal.returns-then-not-unused_bits_are_right-clause-value
returns-then-not-unused_bits_are_right-clause-value c =
    is_too_large c.args.kind c.args.bytes.now c.limit-limit.result c.in-Some.last c.limit-limit.ensures c.in-Some.ensures
    c.if-last-limit.true c.if-not-unused_bits_are_right.ensures

whole : (c : goal.After-sum_of_septets) → IsRead c.args.kind c.args.bytes.now c.in-Some.last
whole c =
    let u : (c.in-Some.last + 1 ≢ c.limit-limit.result) ⊎ (true
    ≡ is_unused_right c.args.kind (slice_index c.args.bytes.now c.in-Some.last)) =
    elim c.else-last-limit.branch [
      | else-last-limit-via-then-last-limit+else-not-unused_bits_are_right w ↦ inr
          w.if-not-unused_bits_are_right.ensures
      | else-last-limit-via-else-last-limit w ↦ inl w.if-last-limit.false
    ] in
    is_read c.args.kind c.args.bytes.now c.limit-limit.result c.in-Some.last c.limit-limit.ensures c.in-Some.ensures u

pub returns-clause-value : goal.returns-clause-value
returns-clause-value c = ap (λ sum. read sum (c.in-Some.last + 1)) c.sum_of_septets.ensures ∙ (whole c).value

pub returns-clause-within : goal.returns-clause-within
returns-clause-within c = let w : IsRead c.args.kind c.args.bytes.now c.in-Some.last = whole c in
    (omega arith, omega (arith, w.there), omega (arith, w.below, c.sum_of_septets.ensures))
