-- The bytes of instances, frames and values of core dumps are read as these.
use Rattle.std.proofs.Common.{◌≡◌, ℕ, ◌+◌, ◌<◌, ◌^◌, List, ◌∷◌, ◌++◌, Ok, arith, length, map, refl, ◌∙◌}
use Rattle.wasm_base.specs.Item.{ReadsAs}
use Rattle.wasm_base.specs.Number.{unsigned_at}
use Rattle.wasm_base.specs.Outcome.{Outcome, ◌>>=◌}
use Rattle.wasm_base.specs.Owned.{list_at}
use Rattle.wasm_base.specs.Window.{Place}
use Rattle.wasm_base.specs.declared.fault.CoreStart.{CoreStart}
use Rattle.wasm_base.specs.declared.fault.CoreStart.TheVariants as Starts
use Rattle.wasm_base.specs.declared.fault.NumberKind.TheVariants.{VarU32, VarI32, VarI64}
use Rattle.wasm_custom.specs.Coredumps.{FrameParts, InstanceParts, ValueParts, f32, f64, frame_at, frame_parts, i32, i64, instance_at}
use Rattle.wasm_custom.specs.Coredumps.{instance_parts, missing, start_at, value_at, value_parts}
use Rattle.wasm_custom.specs.declared.coredumps.CoreDumpInstance.{CoreDumpInstance}
use Rattle.wasm_custom.specs.declared.coredumps.CoreDumpStackFrame.{CoreDumpStackFrame}
use Rattle.wasm_custom.specs.declared.coredumps.CoreDumpValue.{CoreDumpValue}
use Rattle.wasm_encode.specs.CoreDumps.{FrameFits, IndicesFit, InstanceFits, ValueFits, ValuesFit, frame_bytes, instance_bytes}
use Rattle.wasm_encode.specs.CoreDumps.{value_bytes, values_bytes}
use Rattle.wasm_encode.specs.Numbers.{signed_bytes, unsigned_bytes}
use Rattle.wasm_encode.specs.ReadsBack.{Encodes}
use Rattle.wasm_encode.specs.Sections.{content_bytes}
use Rattle.wasm_encode.proofs.GroupsBack.{reads_list, reads_plain_list}
use Rattle.wasm_encode.proofs.ImportsBack.{reads_u32}
use Rattle.wasm_encode.proofs.NumbersBack.{signed_at_spot}
use Rattle.wasm_encode.proofs.OperatorsBack.{float_32, float_64}
use Rattle.wasm_encode.proofs.Readings.{Reads, encodes_so, reads_as, reads_then, same_spot}

-- ---- values

reads_value : (x : ValueParts) (features : ℕ) → ValueFits x → Reads value_at features x (value_bytes x)
unfolding value_at value_bytes
reads_value missing features h = record { at = λ offset later. refl }
reads_value (i32 n) features h = record {
  at = λ offset later.
      let e : offset + 1 + length (signed_bytes n) ≡ offset + length (0x7F ∷ signed_bytes n) = omega arith in
      rw (signed_at_spot VarI32 features (offset + 1) n later refl h)
      (same_spot features (offset + 1 + length (signed_bytes n)) (offset + length (0x7F ∷ signed_bytes n)) (i32 n) later e);
}
reads_value (i64 n) features h = record {
  at = λ offset later.
      let e : offset + 1 + length (signed_bytes n) ≡ offset + length (0x7E ∷ signed_bytes n) = omega arith in
      rw (signed_at_spot VarI64 features (offset + 1) n later refl h)
      (same_spot features (offset + 1 + length (signed_bytes n)) (offset + length (0x7E ∷ signed_bytes n)) (i64 n) later e);
}
reads_value (f32 bits) features h = record {
  at = λ offset later.
      let e : offset + 1 + 4 ≡ offset + 5 = omega arith in
      rw (float_32 bits features (offset + 1) later h) (same_spot features (offset + 1 + 4) (offset + 5) (f32 bits) later e);
}
reads_value (f64 bits) features h = record {
  at = λ offset later.
      let e : offset + 1 + 8 ≡ offset + 9 = omega arith in
      rw (float_64 bits features (offset + 1) later h) (same_spot features (offset + 1 + 8) (offset + 9) (f64 bits) later e);
}

pub value_encodes : (x : CoreDumpValue) (features : ℕ) → ValueFits (value_parts x)
    → Encodes (ReadsAs value_parts value_at) features (λ (offset : ℕ). x) (value_bytes (value_parts x))
value_encodes x features h =
    encodes_so value_parts value_at features x (value_bytes (value_parts x)) (reads_value (value_parts x) features h)

-- ---- instances and frames

-- the byte 0, and what follows it
after_start : {A : Type 0} (what : CoreStart) (next : Place → Outcome A) (features : ℕ) (x : A) (bytes : List ℕ)
    → Reads next features x bytes → Reads (λ p. start_at what p.offset p >>= λ begin. next begin.1) features x (0x00 ∷ bytes)
unfolding start_at
after_start what next features x bytes r = record {
  at = λ offset later.
      let e : offset + 1 + length bytes ≡ offset + length (0x00 ∷ bytes) = omega arith in
      r.at (offset + 1) later ∙ same_spot features (offset + 1 + length bytes) (offset + length (0x00 ∷ bytes)) x later e;
}

reads_indices : (xs : List ℕ) (features : ℕ) → IndicesFit xs
    → Reads (list_at (unsigned_at VarU32)) features xs (content_bytes unsigned_bytes xs)
reads_indices xs features h =
    reads_plain_list (unsigned_at VarU32) unsigned_bytes (λ n. n < 2 ^ 32) features (2 ^ 32) (λ n small. reads_u32 n features small) xs h

reads_instance : {A : Type 0} (x : CoreDumpInstance A) (features : ℕ) → InstanceFits x
    → Reads instance_at features (instance_parts x) (instance_bytes x)
unfolding instance_at instance_bytes
reads_instance x features h =
    let parts : InstanceParts = instance_parts x in
    let globals : List ℕ = content_bytes unsigned_bytes x.globals.items in
    let memories : List ℕ = content_bytes unsigned_bytes x.memories.items in
    after_start Starts.Instance
    (λ p. unsigned_at VarU32 p >>= λ index. list_at (unsigned_at VarU32) index.1 >>= λ memories.
    list_at (unsigned_at VarU32) memories.1 >>= λ globals.
    Ok (record { module_index = index.0; memories = memories.0; globals = globals.0 }, globals.1))
    features parts (unsigned_bytes x.module_index ++ (memories ++ globals))
    (reads_then (unsigned_at VarU32)
    (λ index p. list_at (unsigned_at VarU32) p >>= λ memories. list_at (unsigned_at VarU32) memories.1 >>= λ globals.
    Ok (record { module_index = index; memories = memories.0; globals = globals.0 }, globals.1))
    features x.module_index parts (unsigned_bytes x.module_index) (memories ++ globals) (reads_u32 x.module_index features h.index)
    (reads_then (list_at (unsigned_at VarU32))
    (λ memories p. list_at (unsigned_at VarU32) p >>= λ globals.
    Ok (record { module_index = x.module_index; memories = memories; globals = globals.0 }, globals.1))
    features x.memories.items parts memories globals (reads_indices x.memories.items features h.lists.memories)
    (reads_as (list_at (unsigned_at VarU32))
    (λ globals. record { module_index = x.module_index; memories = x.memories.items; globals = globals })
    features x.globals.items globals (reads_indices x.globals.items features h.lists.globals))))

pub instance_encodes : {A : Type 0} (x : CoreDumpInstance A) (features : ℕ) → InstanceFits x
    → Encodes (ReadsAs instance_parts instance_at) features (λ (offset : ℕ). x) (instance_bytes x)
instance_encodes x features h = encodes_so instance_parts instance_at features x (instance_bytes x) (reads_instance x features h)

reads_values : (xs : List CoreDumpValue) (features : ℕ) → ValuesFit xs
    → Reads (list_at value_at) features (map value_parts xs) (values_bytes xs)
reads_values xs features h =
    reads_list value_parts value_at (λ x. value_bytes (value_parts x)) (λ x. ValueFits (value_parts x)) features (2 ^ 32)
    (λ x fits. reads_value (value_parts x) features fits) xs h

reads_frame : {A : Type 0} (x : CoreDumpStackFrame A) (features : ℕ) → FrameFits x
    → Reads frame_at features (frame_parts x) (frame_bytes x)
unfolding frame_at frame_bytes
reads_frame x features h =
    let parts : FrameParts = frame_parts x in
    let values : List ValueParts = map value_parts x.locals.items in
    let stack : List ℕ = values_bytes x.stack.items in
    let lists : List ℕ = values_bytes x.locals.items ++ stack in
    let function : List ℕ = unsigned_bytes x.funcidx ++ (unsigned_bytes x.codeoffset ++ lists) in
    after_start Starts.Frame
    (λ p. unsigned_at VarU32 p >>= λ instance. unsigned_at VarU32 instance.1 >>= λ function. unsigned_at VarU32 function.1 >>= λ offset.
    list_at value_at offset.1 >>= λ locals. list_at value_at locals.1 >>= λ stack.
    Ok (record { instance = instance.0; function = function.0; offset = offset.0; locals = locals.0; stack = stack.0 }, stack.1))
    features parts (unsigned_bytes x.instanceidx ++ function)
    (reads_then (unsigned_at VarU32)
    (λ instance p. unsigned_at VarU32 p >>= λ function. unsigned_at VarU32 function.1 >>= λ offset.
    list_at value_at offset.1 >>= λ locals. list_at value_at locals.1 >>= λ stack.
    Ok (record { instance = instance; function = function.0; offset = offset.0; locals = locals.0; stack = stack.0 }, stack.1))
    features x.instanceidx parts (unsigned_bytes x.instanceidx) function (reads_u32 x.instanceidx features h.instance)
    (reads_then (unsigned_at VarU32)
    (λ function p. unsigned_at VarU32 p >>= λ offset. list_at value_at offset.1 >>= λ locals. list_at value_at locals.1 >>= λ stack.
    Ok (record { instance = x.instanceidx; function = function; offset = offset.0; locals = locals.0; stack = stack.0 }, stack.1))
    features x.funcidx parts (unsigned_bytes x.funcidx) (unsigned_bytes x.codeoffset ++ lists) (reads_u32 x.funcidx features h.function)
    (reads_then (unsigned_at VarU32)
    (λ offset p. list_at value_at p >>= λ locals. list_at value_at locals.1 >>= λ stack.
    Ok (record { instance = x.instanceidx; function = x.funcidx; offset = offset; locals = locals.0; stack = stack.0 }, stack.1))
    features x.codeoffset parts (unsigned_bytes x.codeoffset) lists (reads_u32 x.codeoffset features h.offset)
    (reads_then (list_at value_at)
    (λ locals p. list_at value_at p >>= λ stack.
    Ok (record { instance = x.instanceidx; function = x.funcidx; offset = x.codeoffset; locals = locals; stack = stack.0 }, stack.1))
    features values parts (values_bytes x.locals.items) stack (reads_values x.locals.items features h.lists.locals)
    (reads_as (list_at value_at)
    (λ stack. record { instance = x.instanceidx; function = x.funcidx; offset = x.codeoffset; locals = values; stack = stack })
    features (map value_parts x.stack.items) stack (reads_values x.stack.items features h.lists.stack))))))

pub frame_encodes : {A : Type 0} (x : CoreDumpStackFrame A) (features : ℕ) → FrameFits x
    → Encodes (ReadsAs frame_parts frame_at) features (λ (offset : ℕ). x) (frame_bytes x)
frame_encodes x features h = encodes_so frame_parts frame_at features x (frame_bytes x) (reads_frame x features h)
