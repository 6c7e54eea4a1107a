-- Data segments. Core specification, Binary format, Modules, Data Section.
use Rattle.std.specs.Prelude.{ℕ, List, Option, Some, None, Ok, Err, ◌==◌, if◌then◌else◌}
use Rattle.wasm_base.specs.FaultAt.{at_offset}
use Rattle.wasm_base.specs.Leading.{flags_at}
use Rattle.wasm_base.specs.Name.{bytes_at}
use Rattle.wasm_base.specs.Number.{unsigned_at}
use Rattle.wasm_base.specs.Outcome.{Outcome, ◌>>=◌}
use Rattle.wasm_base.specs.Window.{Place}
use Rattle.wasm_base.specs.declared.fault.Fault.TheVariants.{DataFlags}
use Rattle.wasm_base.specs.declared.fault.NumberKind.TheVariants.{VarU32}
use Rattle.wasm_items.specs.Init.{expression_at}
use Rattle.wasm_items.specs.declared.data.Data.{Data}
use Rattle.wasm_items.specs.declared.data.DataKind.{DataKind}
use Rattle.wasm_items.specs.declared.data.DataKind.TheVariants.{Passive, Active}

-- a data segment, with its bytes and the offsets from its first byte to after its last
pub record DataParts : Type 0 where
  pub kind : DataKind
  pub bytes : List ℕ
  pub start : ℕ
  pub end : ℕ

abbrev pub data_parts : Data → DataParts
data_parts segment = record {
  kind = segment.kind;
  bytes = segment.bytes.now;
  start = segment.range.start;
  end = segment.range.end;
}

-- an active segment of this memory: the expression of its offset
abbrev pub active_data_at : (memory : ℕ) → Place → Outcome DataKind
active_data_at memory p = do
  offset ← expression_at p
  Ok (Active memory (record { reader = offset.0 }), offset.1)

-- an active segment with a memory index
abbrev pub indexed_data_at : Place → Outcome DataKind
indexed_data_at p = do
  memory ← unsigned_at VarU32 p
  active_data_at memory.0 memory.1

-- The kind of a segment, by its flags: 0 for memory 0, 1 for a passive segment, 2 for a memory whose index follows.
-- Other flags are a fault at the start of the segment.
abbrev pub data_kind_after : (start : ℕ) (flags : Option ℕ) → Place → Outcome DataKind
data_kind_after start None p = Err (at_offset DataFlags start)
data_kind_after start (Some flags) p =
    if flags == 0 then active_data_at 0 p
    else if flags == 1 then Ok (Passive, p)
    else indexed_data_at p

-- | a data segment: flags 0, 1 or 2, a memory's index after flag 2, the expression of an active segment's offset, a
--   size and as many bytes [`data_at`] <Data Section>
-- flags, and the kind of the segment
unfoldable pub data_kind_at : Place → Outcome DataKind
data_kind_at p = do
  flags ← flags_at 2 p
  data_kind_after p.offset flags.0 flags.1

-- a data segment: its kind, a size, and as many bytes
unfoldable pub data_at : Place → Outcome DataParts
data_at p = do
  kind ← data_kind_at p
  size ← unsigned_at VarU32 kind.1
  bytes ← bytes_at size.0 size.1
  Ok (record { kind = kind.0; bytes = bytes.0; start = p.offset; end = bytes.1.offset }, bytes.1)
