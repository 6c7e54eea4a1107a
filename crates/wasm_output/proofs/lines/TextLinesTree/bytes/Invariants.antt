use Rattle.wasm_output.proofs.Common.{◌≡◌, false, length, Says, SaysSome, Writing, has_line_feed, Adds, lines}
use Rattle.wasm_output.proofs.lines.TextLinesTree.bytes.Given as goal

-- what says the rest says all
abbrev pub invariant-pieces : goal.invariant-pieces
invariant-pieces g l = record {
  adds : Adds (lines l.initial.self) (lines l.self);
  some : SaysSome (lines l.initial.self) (lines l.self);
  one_line : has_line_feed l.rest ≡ false;
  says : (w : Writing) → Says l.rest (lines l.self) w → Says l.fn.bytes (lines l.initial.self) w;
}

abbrev pub decreases-pieces : goal.decreases-pieces
decreases-pieces g l = length l.rest
