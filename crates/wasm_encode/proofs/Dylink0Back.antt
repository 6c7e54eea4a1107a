-- The bytes of what a dynamic linker reads are read as it.
use Rattle.std.proofs.Common.{Bor, ◌≤◌, false, ℕ, ◌<◌, ◌^◌, List, ◌++◌, None, Ok, arith, length, length-append, map, refl}
use Rattle.wasm_base.specs.Item.{ReadsAs}
use Rattle.wasm_base.specs.Name.{text_at}
use Rattle.wasm_base.specs.Number.{unsigned_at}
use Rattle.wasm_base.specs.Outcome.{◌>>=◌}
use Rattle.wasm_base.specs.Owned.{list_at}
use Rattle.wasm_base.specs.declared.fault.NumberKind.TheVariants.{VarU32}
use Rattle.wasm_custom.specs.Dylink0.{ExportInfoParts, ImportInfoParts, dylink_subsection_in, export_info_at, export_info_parts}
use Rattle.wasm_custom.specs.Dylink0.{import_info_at, import_info_parts, mem_info_at}
use Rattle.wasm_custom.specs.declared.dylink0.ExportInfo.{ExportInfo}
use Rattle.wasm_custom.specs.declared.dylink0.ImportInfo.{ImportInfo}
use Rattle.wasm_custom.specs.declared.dylink0.MemInfo.{MemInfo}
use Rattle.wasm_encode.specs.Dylink0.{ArchBack, ExportInfoFits, ExportInfosBack, ExportInfosFit, ImportInfoFits, ImportInfosBack}
use Rattle.wasm_encode.specs.Dylink0.{ImportInfosFit, MemInfoBack, MemInfoFits, LibraryNamesBack, LibraryNamesFit, names_content}
use Rattle.wasm_encode.specs.Dylink0.{export_info_bytes, import_info_bytes, mem_info_bytes}
use Rattle.wasm_encode.specs.Names.{NameFits, name_bytes}
use Rattle.wasm_encode.specs.Numbers.{unsigned_bytes}
use Rattle.wasm_encode.specs.ReadsBack.{Encodes}
use Rattle.wasm_encode.specs.Sections.{content_bytes}
use Rattle.wasm_encode.proofs.GroupsBack.{reads_list}
use Rattle.wasm_encode.proofs.ImportsBack.{reads_u32}
use Rattle.wasm_encode.proofs.Lengths.{name_few}
use Rattle.wasm_encode.proofs.Numbers.{septets_few}
use Rattle.wasm_encode.proofs.Readings.{Reads, encodes_so, reads_as, reads_then}
use Rattle.wasm_encode.proofs.SubsectionsBack.{framed, window_read}
use Rattle.wasm_encode.proofs.NamesBack.{name_is_text, reads_text}

reads_mem_info : (x : MemInfo) (features : ℕ) → MemInfoFits x → Reads mem_info_at features x (mem_info_bytes x)
unfolding mem_info_at mem_info_bytes
reads_mem_info x features h =
    let last = unsigned_bytes x.table_alignment in
    let third = unsigned_bytes x.table_size ++ last in
    let second = unsigned_bytes x.memory_alignment ++ third in
    reads_then (unsigned_at VarU32)
    (λ a p. unsigned_at VarU32 p >>= λ b. unsigned_at VarU32 b.1 >>= λ c. unsigned_at VarU32 c.1 >>= λ d.
    Ok (record { memory_size = a; memory_alignment = b.0; table_size = c.0; table_alignment = d.0 }, d.1))
    features x.memory_size x (unsigned_bytes x.memory_size) second (reads_u32 x.memory_size features h.size)
    (reads_then (unsigned_at VarU32)
    (λ b p. unsigned_at VarU32 p >>= λ c. unsigned_at VarU32 c.1 >>= λ d.
    Ok (record { memory_size = x.memory_size; memory_alignment = b; table_size = c.0; table_alignment = d.0 }, d.1))
    features x.memory_alignment x (unsigned_bytes x.memory_alignment) third (reads_u32 x.memory_alignment features h.alignment)
    (reads_then (unsigned_at VarU32)
    (λ c p. unsigned_at VarU32 p >>= λ d.
    Ok (record { memory_size = x.memory_size; memory_alignment = x.memory_alignment; table_size = c; table_alignment = d.0 }, d.1))
    features x.table_size x (unsigned_bytes x.table_size) last (reads_u32 x.table_size features h.table)
    (reads_as (unsigned_at VarU32)
    (λ d. record {
      memory_size = x.memory_size;
      memory_alignment = x.memory_alignment;
      table_size = x.table_size;
      table_alignment = d;
    })
    features x.table_alignment last (reads_u32 x.table_alignment features h.table_alignment))))

pub mem_info_encodes : (x : MemInfo) (features : ℕ) → MemInfoFits x
    → Encodes (ReadsAs (λ (y : MemInfo). y) mem_info_at) features (λ (offset : ℕ). x) (mem_info_bytes x)
mem_info_encodes x features h = encodes_so (λ y. y) mem_info_at features x (mem_info_bytes x) (reads_mem_info x features h)

reads_export_info : (x : ExportInfoParts) (features : ℕ) → ExportInfoFits x → Reads export_info_at features x (export_info_bytes x)
unfolding export_info_at export_info_bytes
reads_export_info x features h =
    reads_then (text_at None)
    (λ name p. unsigned_at VarU32 p >>= λ flags. Ok (record { name = name; flags = flags.0 }, flags.1))
    features x.name x (name_bytes x.name) (unsigned_bytes x.flags) (reads_text x.name features h.name)
    (reads_as (unsigned_at VarU32) (λ flags. record { name = x.name; flags = flags }) features x.flags (unsigned_bytes x.flags)
    (reads_u32 x.flags features h.flags))

pub export_info_encodes : (x : ExportInfo) (features : ℕ) → ExportInfoFits (export_info_parts x)
    → Encodes (ReadsAs export_info_parts export_info_at) features (λ (offset : ℕ). x) (export_info_bytes (export_info_parts x))
export_info_encodes x features h = encodes_so export_info_parts export_info_at features x (export_info_bytes (export_info_parts x))
    (reads_export_info (export_info_parts x) features h)

reads_import_info : (x : ImportInfoParts) (features : ℕ) → ImportInfoFits x → Reads import_info_at features x (import_info_bytes x)
unfolding import_info_at import_info_bytes
reads_import_info x features h =
    reads_then (text_at None)
    (λ from p. text_at None p >>= λ field. unsigned_at VarU32 field.1 >>= λ flags.
    Ok (record { from = from; field = field.0; flags = flags.0 }, flags.1))
    features x.from x (name_bytes x.from) (name_bytes x.field ++ unsigned_bytes x.flags) (reads_text x.from features h.from)
    (reads_then (text_at None)
    (λ field p. unsigned_at VarU32 p >>= λ flags. Ok (record { from = x.from; field = field; flags = flags.0 }, flags.1))
    features x.field x (name_bytes x.field) (unsigned_bytes x.flags) (reads_text x.field features h.field)
    (reads_as (unsigned_at VarU32) (λ flags. record { from = x.from; field = x.field; flags = flags }) features x.flags
    (unsigned_bytes x.flags) (reads_u32 x.flags features h.flags)))

pub import_info_encodes : (x : ImportInfo) (features : ℕ) → ImportInfoFits (import_info_parts x)
    → Encodes (ReadsAs import_info_parts import_info_at) features (λ (offset : ℕ). x) (import_info_bytes (import_info_parts x))
import_info_encodes x features h = encodes_so import_info_parts import_info_at features x (import_info_bytes (import_info_parts x))
    (reads_import_info (import_info_parts x) features h)

-- ---- subsections

four_few : (a b c d : List ℕ) → length a ≤ 10 → length b ≤ 10 → length c ≤ 10 → length d ≤ 10 → length (a ++ (b ++ (c ++ d))) < 2 ^ 32
four_few a b c d h i j k = omega (arith, length-append a (b ++ (c ++ d)), length-append b (c ++ d), length-append c d)

mem_info_few : (x : MemInfo) → length (mem_info_bytes x) < 2 ^ 32
unfolding mem_info_bytes
mem_info_few x = four_few (unsigned_bytes x.memory_size) (unsigned_bytes x.memory_alignment) (unsigned_bytes x.table_size)
    (unsigned_bytes x.table_alignment) (septets_few false 128 x.memory_size) (septets_few false 128 x.memory_alignment)
    (septets_few false 128 x.table_size) (septets_few false 128 x.table_alignment)

pub mem_info_back : (x : MemInfo) (features offset : ℕ) → MemInfoFits x → MemInfoBack features offset x
unfolding dylink_subsection_in
mem_info_back x features offset h = record {
  frame = framed features offset 1 (mem_info_bytes x) (omega arith) (mem_info_few x);
  read = rw (window_read mem_info_at features offset (mem_info_bytes x) x (reads_mem_info x features h)) refl;
}

pub names_back : (names : List (Bor (List ℕ))) (features offset : ℕ) → LibraryNamesFit names → LibraryNamesBack features offset names
unfolding dylink_subsection_in
names_back names features offset h =
    let content : List ℕ = names_content names in
    let read = window_read (list_at (text_at None)) features offset content (map (λ (name : Bor (List ℕ)). name.now) names)
    (reads_list (λ (name : Bor (List ℕ)). name.now) (text_at None) (λ name. name_bytes name.now) (λ name. NameFits name.now) features
    (2 ^ 32) (λ name fits. reads_text name.now features (name_is_text name.now fits)) names h) in (
      record { frame = framed features offset 2 content (omega arith) h.short; read = rw read refl },
      record { frame = framed features offset 5 content (omega arith) h.short; read = rw read refl },
    )

pub export_infos_back : (infos : List ExportInfo) (features offset : ℕ) → ExportInfosFit infos → ExportInfosBack features offset infos
unfolding dylink_subsection_in
export_infos_back infos features offset h =
    let content : List ℕ = content_bytes (λ x. export_info_bytes (export_info_parts x)) infos in
    let read = window_read (list_at export_info_at) features offset content (map export_info_parts infos)
    (reads_list export_info_parts export_info_at (λ x. export_info_bytes (export_info_parts x)) (λ x. ExportInfoFits (export_info_parts x))
    features (2 ^ 32) (λ x fits. reads_export_info (export_info_parts x) features fits) infos h) in
    record { frame = framed features offset 3 content (omega arith) h.short; read = rw read refl }

pub import_infos_back : (infos : List ImportInfo) (features offset : ℕ) → ImportInfosFit infos → ImportInfosBack features offset infos
unfolding dylink_subsection_in
import_infos_back infos features offset h =
    let content : List ℕ = content_bytes (λ x. import_info_bytes (import_info_parts x)) infos in
    let read = window_read (list_at import_info_at) features offset content (map import_info_parts infos)
    (reads_list import_info_parts import_info_at (λ x. import_info_bytes (import_info_parts x)) (λ x. ImportInfoFits (import_info_parts x))
    features (2 ^ 32) (λ x fits. reads_import_info (import_info_parts x) features fits) infos h) in
    record { frame = framed features offset 4 content (omega arith) h.short; read = rw read refl }

pub arch_back : (name : List ℕ) (features offset : ℕ) → NameFits name → ArchBack features offset name
unfolding dylink_subsection_in
arch_back name features offset h =
    let fewer = name_few name h in
    let few : length (name_bytes name) < 2 ^ 32 = omega (arith, fewer) in
    record {
      frame = framed features offset 6 (name_bytes name) (omega arith) few;
      read = rw (window_read (text_at None) features offset (name_bytes name) name (reads_text name features (name_is_text name h))) refl;
    }
