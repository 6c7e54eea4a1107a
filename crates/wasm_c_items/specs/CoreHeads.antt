-- The heads of what core dumps hold, before its lists. Tool conventions, Coredump.
use Rattle.std.specs.Prelude.{ℕ, ℤ, pos, List, None, Ok}
use Rattle.wasm_base.specs.Name.{text_at}
use Rattle.wasm_base.specs.Number.{unsigned_at}
use Rattle.wasm_base.specs.Outcome.{Outcome, ◌>>=◌}
use Rattle.wasm_base.specs.Window.{Place}
use Rattle.wasm_base.specs.declared.fault.CoreStart.{CoreStart}
use Rattle.wasm_base.specs.declared.fault.CoreStart.TheVariants.{Instance, Frame}
use Rattle.wasm_base.specs.declared.fault.NumberKind.TheVariants.{VarU32}
use Rattle.wasm_custom.specs.Coredumps.{ValueParts, missing, i32, i64, f32, f64, start_at}

-- a text after the byte 0 with which it begins; another byte is a fault at it
unfoldable pub started_text_at : CoreStart → Place → Outcome (List ℕ)
started_text_at what p = do
  begin ← start_at what p.offset p
  text_at None begin.1

-- an instance: the index of its module, before the lists of its memories and globals (Modules and Instances)
unfoldable pub instance_head_at : Place → Outcome ℕ
instance_head_at p = do
  begin ← start_at Instance p.offset p
  unsigned_at VarU32 begin.1

-- a frame before the values of its locals and of its stack (Thread(s) and Stack Frames)
pub record FrameHead : Type 0 where
  pub instance : ℕ
  pub func : ℕ
  pub code_offset : ℕ

-- | the heads of frames and instances of a core dump, before their lists; a text after a byte 0 [`instance_head_at`,
--   `started_text_at`] <tool conventions, Coredump>
unfoldable pub frame_head_at : Place → Outcome FrameHead
frame_head_at p = do
  begin ← start_at Frame p.offset p
  instance ← unsigned_at VarU32 begin.1
  func ← unsigned_at VarU32 instance.1
  code_offset ← unsigned_at VarU32 func.1
  Ok (record { instance = instance.0; func = func.0; code_offset = code_offset.0 }, code_offset.1)

abbrev pub core_code : ValueParts → ℕ
core_code missing = 0
core_code (i32 n) = 1
core_code (i64 n) = 2
core_code (f32 bits) = 3
core_code (f64 bits) = 4

-- the integer that a value is, and the bits of the float that it is; 0 for others
abbrev pub core_integer : ValueParts → ℤ
core_integer missing = pos 0
core_integer (i32 n) = n
core_integer (i64 n) = n
core_integer (f32 bits) = pos 0
core_integer (f64 bits) = pos 0

abbrev pub core_bits : ValueParts → ℕ
core_bits missing = 0
core_bits (i32 n) = 0
core_bits (i64 n) = 0
core_bits (f32 bits) = bits
core_bits (f64 bits) = bits
