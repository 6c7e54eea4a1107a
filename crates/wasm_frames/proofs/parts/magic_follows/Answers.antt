use Rattle.wasm_frames.proofs.Common.{◌∙◌, place}
use Rattle.wasm_frames.proofs.Framed.{begins_with_magic}
use Rattle.wasm_frames.proofs.parts.magic_follows.Goals as goal

pub returns : goal.returns
returns c = (rw (c.as_slice.ensures, c.remaining_buffer.ensures) at c.starts_with.ensures.value)
    ∙ begins_with_magic (place c.args.reader.now).rest
