use Rattle.wasm_output.proofs.Common.{arith}
use Rattle.wasm_output.proofs.Saying.{none_in_offset, says_in_base}
use Rattle.wasm_output.proofs.lines.TextLinesTree.offset.Goals as goal

pub short-requires : goal.short-requires
short-requires g c = record { one_line = none_in_offset c.args.self.now.base c.args.offset (omega arith) }

pub returns-clause-says : goal.returns-clause-says
returns-clause-says g c = grind (arith, says_in_base)
