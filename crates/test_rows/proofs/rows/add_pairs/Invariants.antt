use Rattle.std.proofs.Common.{length}
use Rattle.test_rows.proofs.rows.add_pairs.Given as goal

abbrev pub decreases-loop-high : goal.decreases-loop-high
decreases-loop-high l = length l.rest
