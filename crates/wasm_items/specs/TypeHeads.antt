-- The heads of groups of types and of subtypes, whose lists come after them. Core specification, Binary format,
-- Types, Recursive Types and Composite Types.
use Rattle.std.specs.Prelude.{◌==◌, Bool, true, false, None, Ok, Err, if◌then◌else◌}
use Rattle.wasm_base.specs.Leading.{leading_byte}
use Rattle.wasm_base.specs.Name.{byte_at, peeked_byte_at}
use Rattle.wasm_base.specs.Number.{unsigned_at}
use Rattle.wasm_base.specs.Outcome.{Outcome, ◌>>=◌}
use Rattle.wasm_base.specs.Window.{Place, advanced}
use Rattle.wasm_base.specs.declared.fault.Lead.TheVariants as Leads
use Rattle.wasm_base.specs.declared.fault.NumberKind.TheVariants.{VarU32}
use Rattle.wasm_items.specs.RecGroups.{supertypes_at}
use Rattle.wasm_items.specs.declared.type_heads.CompositeKind.{CompositeKind}
use Rattle.wasm_items.specs.declared.type_heads.CompositeKind.TheVariants.{Func, Array, Struct}
use Rattle.wasm_items.specs.declared.type_heads.CompositeParts.{CompositeParts}
use Rattle.wasm_items.specs.declared.type_heads.RecGroupHead.{RecGroupHead}
use Rattle.wasm_items.specs.declared.type_heads.SubTypeHead.{SubTypeHead}

abbrev pub counted_group_at : Place → Outcome RecGroupHead
counted_group_at p = do
  count ← unsigned_at VarU32 p
  Ok (record { explicit = true; count = count.0 }, count.1)

-- | the head of a group of types, and of a subtype, before their lists [`subtype_head_at`] <Types, Recursive Types,
--   Composite Types>
-- the head of an item of a type section: 0x4E and a count, or nothing before a single subtype
unfoldable pub group_head_at : Place → Outcome RecGroupHead
group_head_at p = do
  first ← peeked_byte_at p
  if first.0 == 0x4E then counted_group_at (advanced 1 p) else Ok (record { explicit = false; count = 1 }, p)

abbrev pub counted_composite_at : (kind : CompositeKind) → Place → Outcome CompositeParts
counted_composite_at kind p = do
  count ← unsigned_at VarU32 p
  Ok (record { kind = kind; count = count.0 }, count.1)

-- the head of a composite type: a byte, and a count but for arrays, which have one field
unfoldable pub composite_head_at : Place → Outcome CompositeParts
composite_head_at p = do
  first ← byte_at p
  if first.0 == 0x60 then counted_composite_at Func first.1
      else if first.0 == 0x5F then counted_composite_at Struct first.1
      else if first.0 == 0x5E then Ok (record { kind = Array; count = 1 }, first.1)
      else Err (leading_byte Leads.Composite first.0 p.offset)

unfoldable pub extending_head_at : (final : Bool) → Place → Outcome SubTypeHead
extending_head_at final p = do
  supertype ← supertypes_at p
  composite ← composite_head_at supertype.1
  Ok (
    record {
      is_final = final;
      supertype = supertype.0;
      kind = composite.0.kind;
      count = composite.0.count;
    },
    composite.1,
  )

abbrev pub plain_head_at : Place → Outcome SubTypeHead
plain_head_at p = do
  composite ← composite_head_at p
  Ok (record { is_final = true; supertype = None; kind = composite.0.kind; count = composite.0.count }, composite.1)

-- the head of a subtype
unfoldable pub subtype_head_at : Place → Outcome SubTypeHead
subtype_head_at p = do
  first ← peeked_byte_at p
  if first.0 == 0x50 then extending_head_at false (advanced 1 p)
      else if first.0 == 0x4F then extending_head_at true (advanced 1 p)
      else plain_head_at p
