use Rattle.wasm_streams.proofs.Common.{◌≡◌}
use Rattle.wasm_streams.proofs.PassedParts.{Passed}
use Rattle.wasm_streams.proofs.passing.pass_missing.Given as goal

-- how far the part is passed
abbrev pub invariant-chunks : goal.invariant-chunks
invariant-chunks g l =
    let source = g.R.Source in
    let sink = g.W.Sink in
    record {
      passed : Passed (source.remaining l.initial.input) (source.remaining l.input) (sink.taken l.initial.output)
          (sink.taken l.output) l.stays l.missing l.initial.ahead l.initial.page l.left l.ahead l.page;
      input : source.has_failed l.input ≡ source.has_failed l.initial.input;
      output : sink.has_failed l.output ≡ sink.has_failed l.initial.output;
    }

abbrev pub decreases-chunks : goal.decreases-chunks
decreases-chunks g l = l.left
