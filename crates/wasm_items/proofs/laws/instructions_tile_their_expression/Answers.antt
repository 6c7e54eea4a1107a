use Rattle.wasm_items.proofs.OneByOne.{expression_tiles}
use Rattle.wasm_items.proofs.laws.instructions_tile_their_expression.Goals as goal

pub returns : goal.returns
returns c before after expression read = expression_tiles before after expression read
