use Rattle.std.proofs.Common.{length}
use Rattle.test_rows.proofs.rows.write_bytes.Given as goal

abbrev pub decreases-loop-rest : goal.decreases-loop-rest
decreases-loop-rest g l = length l.rest
