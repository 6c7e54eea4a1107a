use Rattle.std.proofs.Common.{◌<◌, ◌^◌, length, arith, ap, ◌∙◌}
use Rattle.std.proofs.lemmas.Result.{err_from_is_err_and}
use Rattle.wasm_parser.specs.ParseAll.{walk_over}
use Rattle.wasm_commands.proofs.Finding.{begun, counted, fault_came, found, skipped}
use Rattle.wasm_commands.proofs.extract.find.Goals as goal

pub loop-payload-init : goal.loop-payload-init
loop-payload-init c = record {
  can = tt;
  finite = tt;
  sought = begun c.args.wanted.name.now c.args.wanted.before c.args.bytes.now c.into_iter-payload-iterator.result
      (c.into_iter-payload-iterator.ensures.into_iter_gives
      ∙ (c.parse_all-payload-items.ensures.walks ∙ ap (λ p. walk_over p c.args.bytes.now) c.new.ensures));
}

pub returns-in_err-payload : goal.returns-in_err-payload
returns-in_err-payload c =
    let small : length c.args.bytes.now < 2 ^ 64 = omega arith in
    let e = err_from_is_err_and c.from_residual.result c.from_residual.ensures.1 in
    rw (e.1, e.2) (fault_came c.args.wanted.name.now c.args.wanted.before c.args.bytes.now c.loop-payload.payload-iterator c.next.new.self
    c.loop-payload.before
    c.loop-payload.invariant.sought small c.in_err-payload.field-0.0 (rw c.in_err-payload.was at c.in-Some.ensures.steps))

pub returns-then-before-eq0 : goal.returns-then-before-eq0
returns-then-before-eq0 c =
    let small : length c.args.bytes.now < 2 ^ 64 = omega arith in
    let is = rw c.in-Some-named_in.is at c.named_in.ensures in
    found c.args.wanted.name.now c.args.wanted.before c.args.bytes.now c.loop-payload.payload-iterator c.next.new.self
    c.loop-payload.before
    c.loop-payload.invariant.sought small c.in_ok-payload.field-0 (rw c.in_ok-payload.was at c.in-Some.ensures.steps)
    c.in-Some-named_in.section is.0 is.1 c.if-before-eq0.true

pub loop-payload-preserved-in-Some-named_in : goal.loop-payload-preserved-in-Some-named_in
loop-payload-preserved-in-Some-named_in c =
    let small : length c.args.bytes.now < 2 ^ 64 = omega arith in
    let is = rw c.in-Some-named_in.is at c.named_in.ensures in
    record {
      can = tt;
      finite = tt;
      sought = counted c.args.wanted.name.now c.args.wanted.before c.args.bytes.now c.loop-payload.payload-iterator c.next.new.self
          c.loop-payload.before
          c.loop-payload.invariant.sought small c.in_ok-payload.field-0 (rw c.in_ok-payload.was at c.in-Some.ensures.steps)
          _ is.1 (omega (arith, c.if-before-eq0.false));
    }

pub loop-payload-preserved : goal.loop-payload-preserved
loop-payload-preserved c =
    let small : length c.args.bytes.now < 2 ^ 64 = omega arith in
    record {
      can = tt;
      finite = tt;
      sought = skipped c.args.wanted.name.now c.args.wanted.before c.args.bytes.now c.loop-payload.payload-iterator c.next.new.self
          c.loop-payload.before
          c.loop-payload.invariant.sought small c.in_ok-payload.field-0 (rw c.in_ok-payload.was at c.in-Some.ensures.steps)
          (rw c.in_default.is at c.named_in.ensures);
    }
