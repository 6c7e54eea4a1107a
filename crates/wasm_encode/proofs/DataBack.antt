-- The bytes of data segments are read as the segments.
use Rattle.std.proofs.Common.{◌≡◌, ℕ, ◌+◌, ◌≤◌, ◌==◌, Bool, true, false, List}
use Rattle.std.proofs.Common.{[], ◌∷◌, ◌++◌, length, Ok, arith, ap, ◌∙◌, refl}
use Rattle.std.proofs.Common.{append_assoc, length-append, eqb-true, if◌then◌else◌}
use Rattle.wasm_base.specs.Item.{ReadsAs}
use Rattle.wasm_base.specs.Outcome.{Outcome}
use Rattle.wasm_base.specs.declared.fault.NumberKind.TheVariants.{VarU32}
use Rattle.wasm_encode.specs.Data.{ActiveFits, DataFits, DataKindFits, data_bytes}
use Rattle.wasm_encode.specs.Data.{data_kind_bytes, data_kind_placed, data_placed}
use Rattle.wasm_encode.specs.Expressions.{expression_bytes, expression_placed}
use Rattle.wasm_encode.specs.Numbers.{unsigned_bytes}
use Rattle.wasm_encode.specs.ReadsBack.{spot, Encodes}
use Rattle.wasm_encode.proofs.CopiedExpressions.{bytes_back}
use Rattle.wasm_encode.proofs.ExpressionsBack.{copied}
use Rattle.wasm_encode.proofs.NumbersBack.{unsigned_at_spot, flags_back}
use Rattle.wasm_items.specs.Data.{data_at, data_kind_at, data_parts}
use Rattle.wasm_items.specs.declared.data.Data.{Data}
use Rattle.wasm_items.specs.declared.data.DataKind.{DataKind}
use Rattle.wasm_items.specs.declared.data.DataKind.TheVariants.{Passive, Active}
use Rattle.wasm_items.specs.declared.init.ConstExpr.{ConstExpr}

-- The bytes of a segment are no more than all of its bytes.
pub bytes_few : (segment : Data) → length segment.bytes.now ≤ length (data_bytes segment)
unfolding data_bytes
bytes_few segment =
    let size : List ℕ = unsigned_bytes (length segment.bytes.now) in
    omega (
      arith,
      length-append (data_kind_bytes segment.kind) (size ++ segment.bytes.now),
      length-append size segment.bytes.now,
    )

-- an active segment after its flags and its memory
placed_at : (features memory k m there after : ℕ) (init : ConstExpr) (later : List ℕ) → k ≡ there → m ≡ after
    → (let o : Outcome DataKind = Ok (Active memory (expression_placed features k init), spot features m later) in o)
    ≡ Ok (Active memory (expression_placed features there init), spot features after later)
placed_at features memory k m there after init later e f =
    ap (λ (j : ℕ). Ok (Active memory (expression_placed features j init), spot features m later)) e
    ∙ ap (λ (j : ℕ). Ok (Active memory (expression_placed features there init), spot features j later)) f

active_back : (zero_memory : Bool) (features offset memory : ℕ) (init : ConstExpr) (later : List ℕ) → (memory == 0) ≡ zero_memory
    → ActiveFits memory init
    → (let flags : List ℕ = if zero_memory then 0x00 ∷ [] else 0x02 ∷ unsigned_bytes memory in
    data_kind_at (spot features offset ((flags ++ expression_bytes init) ++ later))
    ≡ Ok (
      Active memory (expression_placed features (offset + length flags) init),
      spot features (offset + length (flags ++ expression_bytes init)) later,
    ))
unfolding data_kind_at
active_back true features offset memory init later is h =
    let bytes : List ℕ = expression_bytes init in
    let flags : List ℕ = 0x00 ∷ [] in
    let z : memory ≡ 0 = eqb-true memory 0 is in
    let k : offset + 1 ≡ offset + length flags = omega arith in
    let n : offset + 1 + length bytes ≡ offset + length (flags ++ bytes) = omega (arith, length-append flags bytes) in
    rw (z, flags_back 2 0 features offset (bytes ++ later) (omega arith) (omega arith), copied init h.offset features (offset + 1) later)
    (placed_at features 0 (offset + 1) (offset + 1 + length bytes) (offset + length flags)
    (offset + length (flags ++ bytes)) init later k n)
active_back false features offset memory init later is h =
    let bytes : List ℕ = expression_bytes init in
    let index : List ℕ = unsigned_bytes memory in
    let flags : List ℕ = 0x02 ∷ index in
    let k : offset + 1 + length index ≡ offset + length flags = omega arith in
    let n : offset + 1 + length index + length bytes ≡ offset + length (flags ++ bytes) = omega (arith, length-append flags bytes) in
    rw (
      append_assoc index bytes later,
      flags_back 2 2 features offset (index ++ (bytes ++ later)) (omega arith) (omega arith),
      unsigned_at_spot VarU32 features (offset + 1) memory (bytes ++ later) refl h.index,
      copied init h.offset features (offset + 1 + length index) later,
    )
    (placed_at features memory (offset + 1 + length index) (offset + 1 + length index + length bytes) (offset + length flags)
    (offset + length (flags ++ bytes)) init later k n)

kind_back : (kind : DataKind) (features offset : ℕ) (later : List ℕ) → DataKindFits kind
    → data_kind_at (spot features offset (data_kind_bytes kind ++ later))
    ≡ Ok (data_kind_placed features offset kind, spot features (offset + length (data_kind_bytes kind)) later)
unfolding data_kind_at
kind_back Passive features offset later h = rw (flags_back 2 1 features offset later (omega arith) (omega arith)) refl
kind_back (Active memory init) features offset later h = active_back (memory == 0) features offset memory init later refl h

parts_back : (x : Data) (features offset : ℕ) (later : List ℕ) → DataFits x
    → data_at (spot features offset (data_bytes x ++ later))
    ≡ Ok (data_parts (data_placed features offset x), spot features (offset + length (data_bytes x)) later)
unfolding data_at data_bytes
parts_back x features offset later h =
    let kind : List ℕ = data_kind_bytes x.kind in
    let size : List ℕ = unsigned_bytes (length x.bytes.now) in
    let bytes : List ℕ = x.bytes.now in
    let few = bytes_few x in
    let short = h.short in
    let there : ℕ = offset + length kind + length size in
    let n : there + length bytes ≡ offset + length (kind ++ (size ++ bytes)) =
    omega (arith, length-append kind (size ++ bytes), length-append size bytes) in
    rw (
      append_assoc kind (size ++ bytes) later,
      append_assoc size bytes later,
      kind_back x.kind features offset (size ++ (bytes ++ later)) h.kind,
      unsigned_at_spot VarU32 features (offset + length kind) (length bytes) (bytes ++ later) refl (omega (arith, few, short)),
      bytes_back features there bytes later,
    )
    (ap (λ (k : ℕ). Ok (
      record { kind = data_kind_placed features offset x.kind; bytes = bytes; start = offset; end = k },
      spot features k later,
    )) n)

pub data_encodes : (x : Data) (features : ℕ) → DataFits x
    → Encodes (ReadsAs data_parts data_at) features (λ (offset : ℕ). data_placed features offset x) (data_bytes x)
data_encodes x features h = record { read = λ offset later. parts_back x features offset later h }
