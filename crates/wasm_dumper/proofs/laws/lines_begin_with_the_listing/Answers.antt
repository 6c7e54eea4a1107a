use Rattle.wasm_dumper.proofs.EventLines.{begin_alike}
use Rattle.wasm_dumper.proofs.laws.lines_begin_with_the_listing.Goals as goal

pub returns : goal.returns
returns c = begin_alike
