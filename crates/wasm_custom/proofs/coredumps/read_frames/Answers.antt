use Rattle.wasm_base.proofs.Lists.{gives_list}
use Rattle.wasm_custom.specs.Coredumps.{frame_parts, frame_at}
use Rattle.wasm_custom.proofs.coredumps.read_frames.Goals as goal

pub returns-clause-gives : goal.returns-clause-gives
returns-clause-gives g c = gives_list frame_parts frame_at (λ list. list.items) _ _ _ c.read_listed.ensures.means
