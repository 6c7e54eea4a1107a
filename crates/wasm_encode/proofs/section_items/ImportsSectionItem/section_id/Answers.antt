use Rattle.std.proofs.Common.{arith, refl}
use Rattle.wasm_encode.proofs.FramesBack.{makes_frames}
use Rattle.wasm_encode.proofs.section_items.ImportsSectionItem.section_id.Goals as goal

pub returns-clause-frames : goal.returns-clause-frames
returns-clause-frames c = makes_frames _ _ 2 (omega arith) refl
