use Rattle.std.proofs.Common.{Some}
use Rattle.wasm_base.specs.Item.{bool_at}
use Rattle.wasm_base.specs.Name.{name_limit, text_at}
use Rattle.wasm_base.specs.Number.{unsigned_at}
use Rattle.wasm_base.specs.declared.fault.NumberKind.TheVariants.{VarU32}
use Rattle.wasm_base.proofs.OneOutcome.{reads_as_one, reads_determine, both_in_turn_one, both_in_turn_determine}
use Rattle.wasm_base.proofs.laws.these_allow_one_outcome.Goals as goal

pub returns-clause-truth : goal.returns-clause-truth
returns-clause-truth g c = (reads_as_one (λ truth. truth) bool_at, reads_determine bool_at)

pub returns-clause-number : goal.returns-clause-number
returns-clause-number g c = (reads_as_one (λ number. number) (unsigned_at VarU32), reads_determine (unsigned_at VarU32))

pub returns-clause-name : goal.returns-clause-name
returns-clause-name g c = reads_as_one (λ text. text.now) (text_at (Some name_limit))

pub returns-clause-pair : goal.returns-clause-pair
returns-clause-pair g c = both_in_turn_one g.T.FromReader.meaning g.U.FromReader.meaning

pub returns-clause-determined_pair : goal.returns-clause-determined_pair
returns-clause-determined_pair g c = both_in_turn_determine g.T.FromReader.meaning g.U.FromReader.meaning
