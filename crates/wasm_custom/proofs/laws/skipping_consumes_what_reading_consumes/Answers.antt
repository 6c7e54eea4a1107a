use Rattle.std.proofs.Common.{refl}
use Rattle.wasm_custom.proofs.PassedTexts.{naming_passed, value_passed}
use Rattle.wasm_custom.specs.Names.{naming_parts}
use Rattle.wasm_custom.specs.Producers.{value_parts}
use Rattle.wasm_custom.proofs.laws.skipping_consumes_what_reading_consumes.Goals as goal

pub returns-clause-hint : goal.returns-clause-hint
returns-clause-hint c = λ p q x such reads. rw reads refl

pub returns-clause-comdat_symbol : goal.returns-clause-comdat_symbol
returns-clause-comdat_symbol c = λ p q x such reads. rw reads refl

pub returns-clause-naming : goal.returns-clause-naming
returns-clause-naming c = λ p q x such reads. naming_passed q (naming_parts x) such p reads

pub returns-clause-value : goal.returns-clause-value
returns-clause-value c = λ p q x such reads. value_passed q (value_parts x) such p reads
