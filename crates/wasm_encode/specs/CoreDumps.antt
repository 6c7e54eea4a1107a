-- The bytes of instances, frames and values of core dumps. Tool conventions, Coredump.
use Rattle.std.specs.Int.{to_le_bytes, w32, w64}
use Rattle.std.specs.Prelude.{ℕ, ◌<◌, ◌^◌, List, [], ◌∷◌, ◌++◌, length}
use Rattle.wasm_base.specs.Signed.{FitsBits}
use Rattle.wasm_custom.specs.Coredumps.{ValueParts, f32, f64, i32, i64, missing, value_parts}
use Rattle.wasm_custom.specs.declared.coredumps.CoreDumpInstance.{CoreDumpInstance}
use Rattle.wasm_custom.specs.declared.coredumps.CoreDumpStackFrame.{CoreDumpStackFrame}
use Rattle.wasm_custom.specs.declared.coredumps.CoreDumpValue.{CoreDumpValue}
use Rattle.wasm_encode.specs.Numbers.{signed_bytes, unsigned_bytes}
use Rattle.wasm_encode.specs.Sections.{SectionFits, content_bytes}

-- the byte of the kind of a value, and what follows it
abbrev pub value_kind : ValueParts → ℕ
value_kind missing = 0x01
value_kind (i32 n) = 0x7F
value_kind (i64 n) = 0x7E
value_kind (f32 bits) = 0x7D
value_kind (f64 bits) = 0x7C

abbrev pub value_rest : ValueParts → List ℕ
value_rest missing = []
value_rest (i32 n) = signed_bytes n
value_rest (i64 n) = signed_bytes n
value_rest (f32 bits) = to_le_bytes w32 bits
value_rest (f64 bits) = to_le_bytes w64 bits

-- | the bytes of an instance, a frame and a value of a core dump; what of them fits [`instance_bytes`, `frame_bytes`,
--   `value_kind`, `value_rest`; `ValueFits`, `InstanceFits`, `FrameFits`] <tool conventions, Coredump>
-- a value: the byte of its kind, and its number or its bits (Thread(s) and Stack Frames)
unfoldable pub value_bytes : ValueParts → List ℕ
value_bytes x = value_kind x ∷ value_rest x

abbrev pub ValueFits : ValueParts → Type 0
ValueFits missing = Unit {0}
ValueFits (i32 n) = FitsBits 32 n
ValueFits (i64 n) = FitsBits 64 n
ValueFits (f32 bits) = bits < 2 ^ 32
ValueFits (f64 bits) = bits < 2 ^ 64

-- an instance: 0x00, the index of its module, and the lists of its memories and its globals (Modules and Instances)
unfoldable pub instance_bytes : {A : Type 0} → CoreDumpInstance A → List ℕ
instance_bytes x = 0x00 ∷ (unsigned_bytes x.module_index
    ++ (content_bytes unsigned_bytes x.memories.items ++ content_bytes unsigned_bytes x.globals.items))

-- A list of indices can be written.
abbrev pub IndicesFit : List ℕ → Type 0
IndicesFit indices = SectionFits unsigned_bytes (λ n. n < 2 ^ 32) indices

pub record InstanceListsFit {A : Type 0} (x : CoreDumpInstance A) : Type 0 where
  pub memories : IndicesFit x.memories.items
  pub globals : IndicesFit x.globals.items

pub record InstanceFits {A : Type 0} (x : CoreDumpInstance A) : Type 0 where
  pub index : x.module_index < 2 ^ 32
  pub lists : InstanceListsFit x
  pub short : length (instance_bytes x) < 2 ^ 32

-- the bytes of a list of values
abbrev pub values_bytes : List CoreDumpValue → List ℕ
values_bytes xs = content_bytes (λ x. value_bytes (value_parts x)) xs

abbrev pub ValuesFit : List CoreDumpValue → Type 0
ValuesFit xs = SectionFits (λ x. value_bytes (value_parts x)) (λ x. ValueFits (value_parts x)) xs

-- a frame: 0x00, the indices of its instance and its function, the offset of its instruction, and the lists of the
-- values of its locals and of its stack (Thread(s) and Stack Frames)
abbrev pub frame_lists : {A : Type 0} → CoreDumpStackFrame A → List ℕ
frame_lists x = values_bytes x.locals.items ++ values_bytes x.stack.items

unfoldable pub frame_bytes : {A : Type 0} → CoreDumpStackFrame A → List ℕ
frame_bytes x = 0x00 ∷ (unsigned_bytes x.instanceidx
    ++ (unsigned_bytes x.funcidx ++ (unsigned_bytes x.codeoffset ++ frame_lists x)))

pub record FrameListsFit {A : Type 0} (x : CoreDumpStackFrame A) : Type 0 where
  pub locals : ValuesFit x.locals.items
  pub stack : ValuesFit x.stack.items

pub record FrameFits {A : Type 0} (x : CoreDumpStackFrame A) : Type 0 where
  pub instance : x.instanceidx < 2 ^ 32
  pub function : x.funcidx < 2 ^ 32
  pub offset : x.codeoffset < 2 ^ 32
  pub lists : FrameListsFit x
  pub short : length (frame_bytes x) < 2 ^ 32
