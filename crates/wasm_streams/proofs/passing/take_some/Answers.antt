use Rattle.wasm_streams.proofs.Common.{arith, err_from_is_err_and}
use Rattle.wasm_streams.proofs.PassedParts.{cut_from, few_of, not_filled, not_put}
use Rattle.wasm_streams.proofs.passing.take_some.Goals as goal

pub returns-in_err-fill-clause-cut : goal.returns-in_err-fill-clause-cut
returns-in_err-fill-clause-cut g c = grind (arith, err_from_is_err_and, not_filled)

pub returns-in_err-fill-clause-sink : goal.returns-in_err-fill-clause-sink
returns-in_err-fill-clause-sink g c = grind (arith, err_from_is_err_and)

pub returns-in_err-put-clause-cut : goal.returns-in_err-put-clause-cut
returns-in_err-put-clause-cut g c = grind (arith, err_from_is_err_and, not_put, cut_from, few_of)
