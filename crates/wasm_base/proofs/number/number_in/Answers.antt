use Rattle.std.proofs.Common.{◌≡◌, ◌+◌, ◌-◌, ◌*◌, refl, ap, ◌∙◌, slice_index, arith}
use Rattle.wasm_base.specs.Number.{read}
use Rattle.wasm_base.proofs.Numbers.{one_byte, two_bytes}
use Rattle.wasm_base.proofs.number.number_in.Goals as goal

pub returns-in-len1-up-clause-value : goal.returns-in-len1-up-clause-value
returns-in-len1-up-clause-value c = ap (λ n. read n 1) c.from.ensures
    ∙ one_byte c.args.kind c.args.bytes.now c.in-len1-up.len_at_least c.if-only-lt128.true

pub returns-in-len2-up-clause-value : goal.returns-in-len2-up-clause-value
returns-in-len2-up-clause-value c =
    let e : c.from-in-len2-up-3.result ≡ slice_index c.args.bytes.now 0 - 128 + 128 * slice_index c.args.bytes.now 1 =
    c.from-in-len2-up-3.ensures ∙ (rw (c.from-in-len2-up.ensures, c.from-in-len2-up-2.ensures) refl) in
    ap (λ n. read n 2) e ∙ two_bytes c.args.kind c.args.bytes.now c.in-len2-up.len_at_least c.if-only-lt128.false
    (omega (arith, c.type_inv.bytes 0)) c.if-high-lt128.true
