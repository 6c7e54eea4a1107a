use Rattle.wasm_streams.proofs.Common.{◌≡◌, beside, feed_of, weight}
use Rattle.wasm_io.specs.Calls.{device_of}
use Rattle.wasm_streams.proofs.visits.visit.Given as goal

-- how far the run has come
abbrev pub invariant-events : goal.invariant-events
invariant-events g l =
    let source = g.R.Source in
    let visitor = g.V.Visitor in
    record {
      going : visitor.stages.going l.initial.visitor l.initial.output
          (device_of source.remaining source.has_failed l.initial.input l.input)
          (beside (feed_of l.stored.items l.cursor) l.ahead) l.visitor l.output;
      input : source.has_failed l.input ≡ source.has_failed l.initial.input;
      sound : visitor.sound l.visitor;
    }

abbrev pub decreases-events : goal.decreases-events
decreases-events g l = weight (beside (feed_of l.stored.items l.cursor) l.ahead)
