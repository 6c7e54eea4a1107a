-- Memories. Core specification, Binary format, Types, Memory Types, and Modules, Memory Section; the size of a page is
-- of the proposal for custom page sizes.
use Rattle.std.specs.Prelude.{ℕ, Option, Some, None, Ok, Err, nat_lt, if◌then◌else◌}
use Rattle.wasm_base.specs.FaultAt.{at_offset}
use Rattle.wasm_base.specs.Name.{byte_at}
use Rattle.wasm_base.specs.Number.{unsigned_at}
use Rattle.wasm_base.specs.Outcome.{Outcome, ◌>>=◌}
use Rattle.wasm_base.specs.Window.{Place}
use Rattle.wasm_base.specs.declared.fault.Fault.TheVariants.{MemoryFlags, PageSize}
use Rattle.wasm_base.specs.declared.fault.NumberKind.TheVariants.{VarU32}
use Rattle.wasm_items.specs.Limits.{is_shared, is_wide, has_page_size, limits_at}
use Rattle.wasm_items.specs.declared.types.MemoryType.{MemoryType}

-- the base-2 logarithm of the page size, below 64; the fault is at the start of the memory type
abbrev pub small_page_size : (start : ℕ) → ℕ × Place → Outcome (Option ℕ)
small_page_size start size = if nat_lt size.0 64 then Ok (Some size.0, size.1) else Err (at_offset PageSize start)

-- the page size, if present
unfoldable pub page_size_at : (start flags : ℕ) → Place → Outcome (Option ℕ)
page_size_at start flags p =
    if has_page_size flags then (unsigned_at VarU32 p >>= small_page_size start) else Ok (None, p)

-- a memory type after its flags
unfoldable pub memory_after_flags : (start flags : ℕ) → Place → Outcome MemoryType
memory_after_flags start flags p = do
  limits ← limits_at flags p
  page ← page_size_at start flags limits.1
  Ok (
    record {
      memory64 = is_wide flags;
      shared = is_shared flags;
      initial = limits.0.0;
      maximum = limits.0.1;
      page_size_log2 = page.0;
    },
    page.1,
  )

-- | a memory type: flags below 16, limits, the size of a page as a power of two below 2^64 if a flag says so
--   [`page_size_at`] <Types, Memory Types; Memory Section; custom page sizes>
-- a memory type: flags below 16, limits, the size of a page
unfoldable pub memory_type_at : Place → Outcome MemoryType
memory_type_at p = do
  flags ← byte_at p
  if nat_lt 15 flags.0 then Err (at_offset MemoryFlags p.offset) else memory_after_flags p.offset flags.0 flags.1
