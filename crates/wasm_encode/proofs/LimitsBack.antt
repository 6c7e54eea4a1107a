-- The bytes of the types of tables, memories, globals and tags are read as these.
use Rattle.std.proofs.Common.{◌≡◌, ℕ, ◌+◌, ◌<◌, ◌≤◌, ◌^◌, ◌||◌, Bool, true, false, cond, IsTrue, List, [], ◌∷◌, ◌++◌, length}
use Rattle.std.proofs.Common.{Option, Some, None, Ok, Err}
use Rattle.std.proofs.Common.{arith, refl, nat_lt, append_assoc, length-append, ltb-true}
use Rattle.std.proofs.lemmas.Bool.{lt-ltb}
use Rattle.wasm_base.specs.Bits.{has_bit}
use Rattle.wasm_base.specs.FaultAt.{at_offset}
use Rattle.wasm_base.specs.Features.{takes_wide_limits}
use Rattle.wasm_base.specs.Item.{ReadsAs}
use Rattle.wasm_base.specs.Name.{byte_at}
use Rattle.wasm_base.specs.Outcome.{◌>>=◌}
use Rattle.wasm_base.specs.declared.fault.Fault.TheVariants.{GlobalFlags, MemoryFlags, TableFlags}
use Rattle.wasm_base.specs.declared.fault.NumberKind.TheVariants.{VarU32, VarU64}
use Rattle.wasm_encode.specs.Limits.{flag, is_present, maybe_number, limits_bytes, IsBelow, LimitsFit, takes_limit, takes_maximum}
use Rattle.wasm_encode.specs.Limits.{LimitsAllowed}
use Rattle.wasm_encode.specs.Limits.{table_flags, table_type_bytes, TableFits, memory_flags, memory_type_bytes, MemoryFits}
use Rattle.wasm_encode.specs.Limits.{global_flags, global_type_bytes}
use Rattle.wasm_encode.specs.Limits.{tag_type_bytes}
use Rattle.wasm_encode.specs.Numbers.{unsigned_bytes}
use Rattle.wasm_encode.specs.ReadsBack.{spot, Encodes}
use Rattle.wasm_encode.specs.Types.{ValFits, ref_bytes, val_bytes}
use Rattle.wasm_encode.proofs.NumbersBack.{unsigned_at_spot}
use Rattle.wasm_encode.proofs.Readings.{Reads, same_spot, reads_nothing, reads_then, reads_as, reads_flags, encodes_so}
use Rattle.wasm_encode.proofs.TypesBack.{reads_ref, reads_val}
use Rattle.wasm_items.specs.Globals.{global_type_at}
use Rattle.wasm_items.specs.Limits.{has_maximum, has_page_size, limit_at, maximum_at, limits_at}
use Rattle.wasm_items.specs.Memories.{page_size_at, memory_after_flags, memory_type_at}
use Rattle.wasm_items.specs.Tables.{table_after_flags, table_type_at}
use Rattle.wasm_items.specs.Tags.{tag_type_at}
use Rattle.wasm_items.specs.Values.{ref_type_at, val_type_at}
use Rattle.wasm_items.specs.declared.types.GlobalType.{GlobalType}
use Rattle.wasm_items.specs.declared.types.MemoryType.{MemoryType}
use Rattle.wasm_items.specs.declared.types.TableType.{TableType}
use Rattle.wasm_items.specs.declared.types.TagKind.{TagKind}
use Rattle.wasm_items.specs.declared.types.TagKind.TheVariants.{Exception}
use Rattle.wasm_items.specs.declared.types.TagType.{TagType}

-- ---- flags

-- what a byte of flags says
pub record Flags (a b c d : Bool) (byte : ℕ) : Type 0 where
  pub bit_0 : has_bit byte 0 ≡ a
  pub bit_1 : has_bit byte 1 ≡ b
  pub bit_2 : has_bit byte 2 ≡ c
  pub bit_3 : has_bit byte 3 ≡ d
  pub low : byte < 16

flags_of : (a b c d : Bool) → Flags a b c d (flag a 1 + flag b 2 + flag c 4 + flag d 8)
flags_of false false false false = record { bit_0 = refl; bit_1 = refl; bit_2 = refl; bit_3 = refl; low = omega arith }
flags_of false false false true = record { bit_0 = refl; bit_1 = refl; bit_2 = refl; bit_3 = refl; low = omega arith }
flags_of false false true false = record { bit_0 = refl; bit_1 = refl; bit_2 = refl; bit_3 = refl; low = omega arith }
flags_of false false true true = record { bit_0 = refl; bit_1 = refl; bit_2 = refl; bit_3 = refl; low = omega arith }
flags_of false true false false = record { bit_0 = refl; bit_1 = refl; bit_2 = refl; bit_3 = refl; low = omega arith }
flags_of false true false true = record { bit_0 = refl; bit_1 = refl; bit_2 = refl; bit_3 = refl; low = omega arith }
flags_of false true true false = record { bit_0 = refl; bit_1 = refl; bit_2 = refl; bit_3 = refl; low = omega arith }
flags_of false true true true = record { bit_0 = refl; bit_1 = refl; bit_2 = refl; bit_3 = refl; low = omega arith }
flags_of true false false false = record { bit_0 = refl; bit_1 = refl; bit_2 = refl; bit_3 = refl; low = omega arith }
flags_of true false false true = record { bit_0 = refl; bit_1 = refl; bit_2 = refl; bit_3 = refl; low = omega arith }
flags_of true false true false = record { bit_0 = refl; bit_1 = refl; bit_2 = refl; bit_3 = refl; low = omega arith }
flags_of true false true true = record { bit_0 = refl; bit_1 = refl; bit_2 = refl; bit_3 = refl; low = omega arith }
flags_of true true false false = record { bit_0 = refl; bit_1 = refl; bit_2 = refl; bit_3 = refl; low = omega arith }
flags_of true true false true = record { bit_0 = refl; bit_1 = refl; bit_2 = refl; bit_3 = refl; low = omega arith }
flags_of true true true false = record { bit_0 = refl; bit_1 = refl; bit_2 = refl; bit_3 = refl; low = omega arith }
flags_of true true true true = record { bit_0 = refl; bit_1 = refl; bit_2 = refl; bit_3 = refl; low = omega arith }

-- three flags, and two
three_flags : (a b c : Bool) → Flags a b c false (flag a 1 + flag b 2 + flag c 4)
three_flags false false false = flags_of false false false false
three_flags false false true = flags_of false false true false
three_flags false true false = flags_of false true false false
three_flags false true true = flags_of false true true false
three_flags true false false = flags_of true false false false
three_flags true false true = flags_of true false true false
three_flags true true false = flags_of true true false false
three_flags true true true = flags_of true true true false

two_flags : (a b : Bool) → Flags a b false false (flag a 1 + flag b 2)
two_flags false false = flags_of false false false false
two_flags false true = flags_of false true false false
two_flags true false = flags_of true false false false
two_flags true true = flags_of true true false false

three_low : (a b c : Bool) → flag a 1 + flag b 2 + flag c 4 ≤ 7
three_low false false false = omega arith
three_low false false true = omega arith
three_low false true false = omega arith
three_low false true true = omega arith
three_low true false false = omega arith
three_low true false true = omega arith
three_low true true false = omega arith
three_low true true true = omega arith

two_low : (a b : Bool) → flag a 1 + flag b 2 ≤ 3
two_low false false = omega arith
two_low false true = omega arith
two_low true false = omega arith
two_low true true = omega arith

-- ---- limits

limit_by : (wide : Bool) (features offset n : ℕ) (later : List ℕ) → takes_wide_limits features ≡ wide → n < 2 ^ 64
    → IsTrue (wide || nat_lt n (2 ^ 32))
    → limit_at (spot features offset (unsigned_bytes n ++ later)) ≡ Ok (n, spot features (offset + length (unsigned_bytes n)) later)
unfolding limit_at
limit_by true features offset n later is h allowed = rw is (unsigned_at_spot VarU64 features offset n later refl h)
limit_by false features offset n later is h allowed =
    rw is (unsigned_at_spot VarU32 features offset n later refl (ltb-true n (2 ^ 32) allowed))

reads_limit : (features n : ℕ) → n < 2 ^ 64 → IsTrue (takes_limit features n) → Reads limit_at features n (unsigned_bytes n)
reads_limit features n h allowed = record {
  at = λ offset later. limit_by (takes_wide_limits features) features offset n later refl h allowed;
}

reads_maximum : (features flags : ℕ) (maximum : Option ℕ) → has_maximum flags ≡ is_present maximum → IsBelow (2 ^ 64) maximum
    → IsTrue (takes_maximum features maximum) → Reads (maximum_at flags) features maximum (maybe_number maximum)
unfolding maximum_at
reads_maximum features flags None is h allowed =
    record { at = λ offset later. rw is ((reads_nothing features None).at offset later) }
reads_maximum features flags (Some n) is h allowed =
    let read = reads_as limit_at (λ m. Some m) features n (unsigned_bytes n) (reads_limit features n h allowed) in
    record { at = λ offset later. rw is (read.at offset later) }

reads_limits : (features flags initial : ℕ) (maximum : Option ℕ) → has_maximum flags ≡ is_present maximum → LimitsFit initial maximum
    → LimitsAllowed features initial maximum → Reads (limits_at flags) features (initial, maximum) (limits_bytes initial maximum)
unfolding limits_at limits_bytes
reads_limits features flags initial maximum is fits allowed =
    reads_then limit_at (λ n p. maximum_at flags p >>= λ r. Ok ((n, r.0), r.1)) features initial (initial, maximum)
    (unsigned_bytes initial) (maybe_number maximum)
    (reads_limit features initial fits.initial allowed.initial)
    (reads_as (maximum_at flags) (λ m. (initial, m)) features maximum (maybe_number maximum)
    (reads_maximum features flags maximum is fits.maximum allowed.maximum))

-- ---- tables

reads_table_after : (features flags : ℕ) (ty : TableType) → Flags (is_present ty.maximum) ty.shared ty.table64 false flags
    → LimitsFit ty.initial ty.maximum → LimitsAllowed features ty.initial ty.maximum
    → Reads (table_after_flags ty.element_type flags) features ty (limits_bytes ty.initial ty.maximum)
unfolding table_after_flags
reads_table_after features flags ty is fits allowed = record {
  at = λ offset later.
      rw ((reads_limits features flags ty.initial ty.maximum is.bit_0 fits allowed).at offset later, is.bit_1, is.bit_2) refl;
}

pub reads_table_type : (ty : TableType) (features : ℕ) → TableFits ty → LimitsAllowed features ty.initial ty.maximum
    → Reads table_type_at features ty (table_type_bytes ty)
unfolding table_type_at table_type_bytes
reads_table_type ty features fits allowed =
    reads_then ref_type_at
    (λ element q. byte_at q >>= λ flags. cond (nat_lt 7 flags.0) (Err (at_offset TableFlags q.offset))
    (table_after_flags element flags.0 flags.1))
    features ty.element_type ty (ref_bytes ty.element_type) (table_flags ty ∷ limits_bytes ty.initial ty.maximum)
    (reads_ref ty.element_type features fits.element)
    (reads_flags 7 (λ q. at_offset TableFlags q.offset) (λ q flags. table_after_flags ty.element_type flags) features (table_flags ty) ty
    (limits_bytes ty.initial ty.maximum) (three_low (is_present ty.maximum) ty.shared ty.table64)
    (λ q. reads_table_after features (table_flags ty) ty (three_flags (is_present ty.maximum) ty.shared ty.table64) fits.limits allowed))

-- ---- memories

reads_page : (features start flags : ℕ) (page : Option ℕ) → has_page_size flags ≡ is_present page → IsBelow 64 page
    → Reads (page_size_at start flags) features page (maybe_number page)
unfolding page_size_at
reads_page features start flags None is h = record { at = λ offset later. rw is ((reads_nothing features None).at offset later) }
reads_page features start flags (Some n) is h = record {
  at = λ offset later.
      rw is (rw (unsigned_at_spot VarU32 features offset n later refl (omega arith), lt-ltb n 64 h) refl);
}

reads_memory_after : (features start flags : ℕ) (ty : MemoryType)
    → Flags (is_present ty.maximum) ty.shared ty.memory64 (is_present ty.page_size_log2) flags → MemoryFits ty
    → LimitsAllowed features ty.initial ty.maximum
    → Reads (memory_after_flags start flags) features ty (limits_bytes ty.initial ty.maximum ++ maybe_number ty.page_size_log2)
unfolding memory_after_flags
reads_memory_after features start flags ty is fits allowed = record {
  at = λ offset later.
      let limits : List ℕ = limits_bytes ty.initial ty.maximum in
      let page : List ℕ = maybe_number ty.page_size_log2 in
      let e : offset + length limits + length page ≡ offset + length (limits ++ page) = omega (arith, length-append limits page) in
      rw (
        append_assoc limits page later,
        (reads_limits features flags ty.initial ty.maximum is.bit_0 fits.limits allowed).at offset (page ++ later),
        (reads_page features start flags ty.page_size_log2 is.bit_3 fits.page).at (offset + length limits) later,
        is.bit_1,
        is.bit_2,
      )
      (same_spot features (offset + length limits + length page) (offset + length (limits ++ page)) ty later e);
}

pub reads_memory_type : (ty : MemoryType) (features : ℕ) → MemoryFits ty → LimitsAllowed features ty.initial ty.maximum
    → Reads memory_type_at features ty (memory_type_bytes ty)
unfolding memory_type_at memory_type_bytes
reads_memory_type ty features fits allowed =
    let is = flags_of (is_present ty.maximum) ty.shared ty.memory64 (is_present ty.page_size_log2) in
    let low = is.low in
    reads_flags 15 (λ q. at_offset MemoryFlags q.offset) (λ q flags. memory_after_flags q.offset flags) features (memory_flags ty) ty
    (limits_bytes ty.initial ty.maximum ++ maybe_number ty.page_size_log2) (omega arith)
    (λ q. reads_memory_after features q.offset (memory_flags ty) ty is fits allowed)

-- ---- globals and tags

pub reads_global_type : (ty : GlobalType) (features : ℕ) → ValFits ty.content_type → Reads global_type_at features ty (global_type_bytes ty)
unfolding global_type_at global_type_bytes
reads_global_type ty features fits =
    let is = two_flags ty.mutable ty.shared in
    reads_then val_type_at
    (λ content q. byte_at q >>= λ flags. cond (nat_lt 3 flags.0) (Err (at_offset GlobalFlags q.offset))
    (Ok (record { content_type = content; mutable = has_bit flags.0 0; shared = has_bit flags.0 1 }, flags.1)))
    features ty.content_type ty (val_bytes ty.content_type) (global_flags ty ∷ [])
    (reads_val ty.content_type features fits)
    (reads_flags 3 (λ q. at_offset GlobalFlags q.offset)
    (λ q flags p. Ok (record { content_type = ty.content_type; mutable = has_bit flags 0; shared = has_bit flags 1 }, p))
    features (global_flags ty) ty [] (two_low ty.mutable ty.shared)
    (λ q. record { at = λ offset later. rw (is.bit_0, is.bit_1) ((reads_nothing features ty).at offset later) }))

-- a tag has the kind of exceptions, the only one
tag_by : (kind : TagKind) (features offset index : ℕ) (later : List ℕ) → index < 2 ^ 32
    → tag_type_at (spot features offset (tag_type_bytes (record { kind = kind; func_type_idx = index }) ++ later))
    ≡ Ok (
      record { kind = kind; func_type_idx = index },
      spot features (offset + length (tag_type_bytes (record { kind = kind; func_type_idx = index }))) later,
    )
unfolding tag_type_at tag_type_bytes
tag_by Exception features offset index later h =
    let bytes : List ℕ = unsigned_bytes index in
    let ty : TagType = record { kind = Exception; func_type_idx = index } in
    let e : offset + 1 + length bytes ≡ offset + length (0x00 ∷ bytes) = omega arith in
    rw (unsigned_at_spot VarU32 features (offset + 1) index later refl h)
    (same_spot features (offset + 1 + length bytes) (offset + length (0x00 ∷ bytes)) ty later e)

pub reads_tag_type : (ty : TagType) (features : ℕ) → ty.func_type_idx < 2 ^ 32 → Reads tag_type_at features ty (tag_type_bytes ty)
reads_tag_type ty features h = record { at = λ offset later. tag_by ty.kind features offset ty.func_type_idx later h }

-- ---- as encodings

pub table_encodes : (ty : TableType) (features : ℕ) → TableFits ty → LimitsAllowed features ty.initial ty.maximum
    → Encodes (ReadsAs (λ (x : TableType). x) table_type_at) features (λ (offset : ℕ). ty) (table_type_bytes ty)
table_encodes ty features h a = encodes_so (λ x. x) table_type_at features ty (table_type_bytes ty) (reads_table_type ty features h a)

pub memory_encodes : (ty : MemoryType) (features : ℕ) → MemoryFits ty → LimitsAllowed features ty.initial ty.maximum
    → Encodes (ReadsAs (λ (x : MemoryType). x) memory_type_at) features (λ (offset : ℕ). ty) (memory_type_bytes ty)
memory_encodes ty features h a = encodes_so (λ x. x) memory_type_at features ty (memory_type_bytes ty) (reads_memory_type ty features h a)

pub global_type_encodes : (ty : GlobalType) (features : ℕ) → ValFits ty.content_type
    → Encodes (ReadsAs (λ (x : GlobalType). x) global_type_at) features (λ (offset : ℕ). ty) (global_type_bytes ty)
global_type_encodes ty features h = encodes_so (λ x. x) global_type_at features ty (global_type_bytes ty) (reads_global_type ty features h)

pub tag_encodes : (ty : TagType) (features : ℕ) → ty.func_type_idx < 2 ^ 32
    → Encodes (ReadsAs (λ (x : TagType). x) tag_type_at) features (λ (offset : ℕ). ty) (tag_type_bytes ty)
tag_encodes ty features h = encodes_so (λ x. x) tag_type_at features ty (tag_type_bytes ty) (reads_tag_type ty features h)
