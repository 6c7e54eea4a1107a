use Rattle.wasm_encode.proofs.BundlesBack.{reads_as_singles}
use Rattle.wasm_encode.proofs.bundles.import_sections_read_as_bundles.Goals as goal

pub returns : goal.returns
returns c = λ features offset allowed. reads_as_singles c.args.imports.now features offset c.requires.few c.requires.fits allowed
