-- Core dumps. Tool conventions, Coredump.
use Rattle.std.specs.Prelude.{ℕ, ◌==◌, ℤ, List, [], ◌∷◌, None, Result, Ok, Err, map, if◌then◌else◌}
use Rattle.wasm_base.specs.Ending.{end_at}
use Rattle.wasm_base.specs.FaultAt.{FaultAt, at_offset}
use Rattle.wasm_base.specs.Float.{bits_of_32, bits_of_64, u64_at}
use Rattle.wasm_base.specs.Leading.{lookup_or}
use Rattle.wasm_base.specs.Name.{byte_at, text_at, u32_at}
use Rattle.wasm_base.specs.Number.{unsigned_at}
use Rattle.wasm_base.specs.Outcome.{Outcome, ◌>>=◌}
use Rattle.wasm_base.specs.Owned.{list_at}
use Rattle.wasm_base.specs.Signed.{signed_at}
use Rattle.wasm_base.specs.Window.{Place}
use Rattle.wasm_base.specs.declared.fault.CoreStart.{CoreStart}
use Rattle.wasm_base.specs.declared.fault.CoreStart.TheVariants as Starts
use Rattle.wasm_base.specs.declared.fault.Fault.TheVariants.{CoreStartByte, CoreValue, CustomTrailing}
use Rattle.wasm_base.specs.declared.fault.NumberKind.TheVariants.{VarU32, VarI32, VarI64}
use Rattle.wasm_custom.specs.declared.coredumps.CoreDumpInstance.{CoreDumpInstance}
use Rattle.wasm_custom.specs.declared.coredumps.CoreDumpInstancesSection.{CoreDumpInstancesSection}
use Rattle.wasm_custom.specs.declared.coredumps.CoreDumpModulesSection.{CoreDumpModulesSection}
use Rattle.wasm_custom.specs.declared.coredumps.CoreDumpStackFrame.{CoreDumpStackFrame}
use Rattle.wasm_custom.specs.declared.coredumps.CoreDumpStackSection.{CoreDumpStackSection}
use Rattle.wasm_custom.specs.declared.coredumps.CoreDumpValue.{CoreDumpValue}
use Rattle.wasm_custom.specs.declared.coredumps.CoreDumpValue.TheVariants as Values

-- | the byte 0 with which parts of a core dump begin; the end of its data [; `wasm_base`: `Ending.end_at`] <tool
--   conventions, Coredump; this project>
-- the byte 0 at the start of an item; any other byte is a fault at this offset
unfoldable pub start_at : CoreStart → (offset : ℕ) → Place → Outcome (Unit {0})
start_at what offset p = do
  byte ← byte_at p
  if byte.0 == 0 then Ok (tt, byte.1) else Err (at_offset (CoreStartByte what) offset)

-- | the sections of a core dump: a process's name, modules, instances, a thread with its frames [`modules_in`,
--   `instances_in`, `stack_in`] <tool conventions, Coredump>
-- the process that was dumped: its name (Process Information)
unfoldable pub name_section_in : Place → Result (List ℕ) FaultAt
name_section_in p = do
  begin ← start_at Starts.Name p.offset p
  name ← text_at None begin.1
  end ← end_at CustomTrailing name.1
  Ok name.0

-- the name of a module; a wrong first byte is a fault at the start of the list (Modules and Instances)
unfoldable pub module_at : (start : ℕ) → Place → Outcome (List ℕ)
module_at start p = do
  begin ← start_at Starts.Module start p
  text_at None begin.1

abbrev pub modules_parts : {A : Type 0} → CoreDumpModulesSection A → List (List ℕ)
modules_parts section = map (λ name. name.now) section.modules.items

-- the names of the modules (Modules and Instances)
unfoldable pub modules_in : Place → Result (List (List ℕ)) FaultAt
modules_in p = do
  modules ← list_at (module_at p.offset) p
  end ← end_at CustomTrailing modules.1
  Ok modules.0

-- an instance with its lists
pub record InstanceParts : Type 0 where
  pub module_index : ℕ
  pub memories : List ℕ
  pub globals : List ℕ

abbrev pub instance_parts : {A : Type 0} → CoreDumpInstance A → InstanceParts
instance_parts instance = record {
  module_index = instance.module_index;
  memories = instance.memories.items;
  globals = instance.globals.items;
}

-- | an instance, a frame and a value of a core dump [`frame_at`, `value_at`] <tool conventions, Coredump>
-- an instance: the index of its module, and those of its memories and globals (Modules and Instances)
unfoldable pub instance_at : Place → Outcome InstanceParts
instance_at p = do
  begin ← start_at Starts.Instance p.offset p
  index ← unsigned_at VarU32 begin.1
  memories ← list_at (unsigned_at VarU32) index.1
  globals ← list_at (unsigned_at VarU32) memories.1
  Ok (record { module_index = index.0; memories = memories.0; globals = globals.0 }, globals.1)

abbrev pub instances_parts : {A : Type 0} → CoreDumpInstancesSection A → List InstanceParts
instances_parts section = map instance_parts section.instances.items

-- the instances (Modules and Instances)
unfoldable pub instances_in : Place → Result (List InstanceParts) FaultAt
instances_in p = do
  instances ← list_at instance_at p
  end ← end_at CustomTrailing instances.1
  Ok instances.0

-- a value: one that is missing, a number, or the bits of a float
pub data ValueParts : Type 0 where
  missing : ValueParts
  i32 : ℤ → ValueParts
  i64 : ℤ → ValueParts
  f32 : (bits : ℕ) → ValueParts
  f64 : (bits : ℕ) → ValueParts

abbrev pub value_parts : CoreDumpValue → ValueParts
value_parts Values.Missing = missing
value_parts (Values.I32 n) = i32 n
value_parts (Values.I64 n) = i64 n
value_parts (Values.F32 float) = f32 (bits_of_32 float)
value_parts (Values.F64 float) = f64 (bits_of_64 float)

-- a value, by a reading of its content
abbrev pub as_value : {A : Type 0} → (A → ValueParts) → (Place → Outcome A) → Place → Outcome ValueParts
as_value value_of reading p = do
  part ← reading p
  Ok (value_of part.0, part.1)

-- a value: a byte for its kind, and its content (Thread(s) and Stack Frames)
unfoldable pub value_at : Place → Outcome ValueParts
value_at p = do
  byte ← byte_at p
  lookup_or {A = Place → Outcome ValueParts} (λ after. Err (at_offset CoreValue p.offset))
      ((0x01, λ after. Ok (missing, after)) ∷ (0x7F, as_value i32 (signed_at VarI32))
      ∷ (0x7E, as_value i64 (signed_at VarI64)) ∷ (0x7D, as_value f32 u32_at) ∷ (0x7C, as_value f64 u64_at) ∷
      []) byte.0 byte.1

-- a frame with its lists
pub record FrameParts : Type 0 where
  pub instance : ℕ
  pub function : ℕ
  pub offset : ℕ
  pub locals : List ValueParts
  pub stack : List ValueParts

abbrev pub frame_parts : {A : Type 0} → CoreDumpStackFrame A → FrameParts
frame_parts frame = record {
  instance = frame.instanceidx;
  function = frame.funcidx;
  offset = frame.codeoffset;
  locals = map value_parts frame.locals.items;
  stack = map value_parts frame.stack.items;
}

-- a frame: its instance, its function, the offset of its instruction, the values of its locals and of its stack
-- (Thread(s) and Stack Frames)
unfoldable pub frame_at : Place → Outcome FrameParts
frame_at p = do
  begin ← start_at Starts.Frame p.offset p
  instance ← unsigned_at VarU32 begin.1
  function ← unsigned_at VarU32 instance.1
  offset ← unsigned_at VarU32 function.1
  locals ← list_at value_at offset.1
  stack ← list_at value_at locals.1
  Ok (
    record { instance = instance.0; function = function.0; offset = offset.0; locals = locals.0; stack = stack.0 },
    stack.1,
  )

-- a thread with its frames
pub record StackParts : Type 0 where
  pub name : List ℕ
  pub frames : List FrameParts

abbrev pub stack_parts : {A : Type 0} → CoreDumpStackSection A → StackParts
stack_parts section = record { name = section.name.now; frames = map frame_parts section.frames.items }

-- a thread: its name and its frames (Thread(s) and Stack Frames)
unfoldable pub stack_in : Place → Result StackParts FaultAt
stack_in p = do
  begin ← start_at Starts.StackName p.offset p
  name ← text_at None begin.1
  frames ← list_at frame_at name.1
  end ← end_at CustomTrailing frames.1
  Ok (record { name = name.0; frames = frames.0 })
