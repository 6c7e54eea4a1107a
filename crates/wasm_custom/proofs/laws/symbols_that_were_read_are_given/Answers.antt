use Rattle.wasm_custom.specs.Linking.{comdat_parts}
use Rattle.wasm_custom.proofs.AnnouncedSymbols.{symbols_given}
use Rattle.wasm_custom.proofs.laws.symbols_that_were_read_are_given.Goals as goal

pub returns : goal.returns
returns c before after comdat read = symbols_given before after (comdat_parts comdat) read
