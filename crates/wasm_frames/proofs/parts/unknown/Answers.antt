use Rattle.wasm_frames.proofs.Forms.{unknown_read}
use Rattle.wasm_frames.proofs.parts.unknown.Goals as goal

pub returns : goal.returns
returns c = λ context end. rw c.unknown.ensures (unknown_read context c.args.id end c.args.window c.requires)
