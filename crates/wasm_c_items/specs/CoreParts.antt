-- The head of a frame of a core dump, as the code has it.
use Rattle.wasm_c_items.specs.CoreHeads as Heads
use Rattle.wasm_c_items.specs.declared.coredumps.FrameHead.{FrameHead}

-- | the heads of frames and instances as the code has them
abbrev pub frame_head_parts : FrameHead → Heads.FrameHead
frame_head_parts f = record { instance = f.instance; func = f.func; code_offset = f.code_offset }
