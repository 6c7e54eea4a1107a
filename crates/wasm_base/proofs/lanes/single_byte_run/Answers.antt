use Rattle.std.proofs.Common.{◌∙◌, sym, arith}
use Rattle.wasm_base.proofs.SmallBytes.{run_of_all, run_to_bit, run_is_small}
use Rattle.wasm_base.proofs.lanes.single_byte_run.Goals as goal

pub returns-then-large-eq0-clause-run : goal.returns-then-large-eq0-clause-run
returns-then-large-eq0-clause-run c = run_of_all c.args.bytes c.fits-bytes.0 (sym c.continuation_bytes-large.ensures ∙ c.if-large-eq0.true)

pub returns-clause-run : goal.returns-clause-run
returns-clause-run c = rw c.continuation_bytes-large.ensures (run_to_bit c.args.bytes c.fits-bytes.0
    (rw c.continuation_bytes-large.ensures at c.if-large-eq0.false))

pub returns-clause-few : goal.returns-clause-few
returns-clause-few c = omega (arith, returns-clause-run c, (run_is_small c.args.bytes).1, c.fits-bytes.0)
