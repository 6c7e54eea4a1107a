use Rattle.wasm_grammar.proofs.frames.SectionPlaces as places
use Rattle.wasm_grammar.proofs.laws.sections_tile_an_accepted_stream.Goals as goal

pub returns : goal.returns
returns c = places.sections_tile
