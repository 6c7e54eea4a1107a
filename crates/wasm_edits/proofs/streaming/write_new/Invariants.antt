use Rattle.wasm_edits.proofs.Common.{◌≡◌, ℕ, List, [], ◌++◌, length, All, PutsBytes}
use Rattle.wasm_edits.specs.Edits.{CanBeMade, new_bytes}
use Rattle.wasm_edits.proofs.streaming.write_new.Given as goal

-- the sections that the edits so far append are put
abbrev pub invariant-edits : goal.invariant-edits
invariant-edits g l = record {
  puts : (front : List ℕ) × PutsBytes (g.W.Sink.taken l.initial.output) (g.W.Sink.taken l.output) [] front l.page
      × (front ++ new_bytes l.rest ≡ new_bytes l.fn.edits);
  fits : All CanBeMade l.rest;
  output : g.W.Sink.has_failed l.output ≡ g.W.Sink.has_failed l.initial.output;
}

abbrev pub decreases-edits : goal.decreases-edits
decreases-edits g l = length l.rest
