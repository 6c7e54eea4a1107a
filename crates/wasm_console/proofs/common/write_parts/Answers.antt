use Rattle.std.proofs.Common.{[], ◌∙◌}
use Rattle.wasm_console.proofs.Telling.{cut_within, one_more, wrote_more}
use Rattle.wasm_console.proofs.common.write_parts.Goals as goal

pub returns-in_err-write_all-clause-err : goal.returns-in_err-write_all-clause-err
returns-in_err-write_all-clause-err g c = cut_within _ _ _ _ c.parts.invariant.written c.parts.rest.now
    (record { ref_ptr = (0, 0); now = [] }) c.in-len1-up.len_at_least c.parts.invariant.parts c.parts.invariant.wrote
    c.from_residual.result c.in_err-write_all.ensures.err

pub parts-preserved : goal.parts-preserved
parts-preserved g c = record {
  written = _;
  wrote = wrote_more _ _ _ _ c.parts.invariant.written c.parts.rest.now (record { ref_ptr = (0, 0); now = [] })
      c.in-len1-up.len_at_least c.parts.invariant.parts c.parts.invariant.wrote c.in_ok-write_all.ensures.ok;
  parts = one_more _ _ (g.E.Sink.taken c.write_all.new.output) _ c.parts.invariant.written c.parts.rest.now
      (record { ref_ptr = (0, 0); now = [] })
      c.in-len1-up.len_at_least c.parts.invariant.parts c.parts.invariant.wrote;
  failed = c.in_ok-write_all.ensures.failed ∙ c.parts.invariant.failed;
}
