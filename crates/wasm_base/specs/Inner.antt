-- Counted items inside an item, which are skipped when it is read. Core specification, Binary format, Conventions,
-- Lists.
use Rattle.std.specs.Prelude.{◌≡◌, ℕ, zero, suc, ◌-◌, Ok}
use Rattle.wasm_base.specs.Number.{unsigned_at}
use Rattle.wasm_base.specs.Outcome.{Outcome, ◌>>=◌}
use Rattle.wasm_base.specs.Section.{Section}
use Rattle.wasm_base.specs.Window.{Place, window_between}
use Rattle.wasm_base.specs.declared.fault.NumberKind.TheVariants.{VarU32}

-- the place after the bytes that a reading consumes, whatever its value is
abbrev pub after_reading : {A : Type 0} → (Place → Outcome A) → Place → Outcome (Unit {0})
after_reading reading p = do
  item ← reading p
  Ok (tt, item.1)

-- | *n* items that are skipped, one after the other; the section that a count and they are, whose window begins at
--   the count; the place after a read [`section_between`, `inner_section_at`, `after_reading`] <Conventions, Lists;
--   this project>
-- the place after this many items, one after the other
abbrev pub all_skipped_at : (Place → Outcome (Unit {0})) → (count : ℕ) → Place → Outcome (Unit {0})
all_skipped_at pass zero p = Ok (tt, p)
all_skipped_at pass (suc count) p = do
  one ← pass p
  all_skipped_at pass count one.1

-- The section of a count and that many skipped items: its window begins at the count, at p, and its reader is after the
-- count.
abbrev pub section_between : (p : Place) → ℕ × Place → Place → Section
section_between p count q = record {
  reader = record (window_between p q) { position = count.1.offset - p.offset };
  count = count.0;
}

-- a count and that many items, which are skipped
unfoldable pub inner_section_at : (Place → Outcome (Unit {0})) → Place → Outcome Section
inner_section_at pass p = do
  count ← unsigned_at VarU32 p
  end ← all_skipped_at pass count.0 count.1
  Ok (section_between p count end.1, end.1)

-- Wherever such an item is read, skipping it consumes the same bytes as reading it.
abbrev pub SkipsIfSuch : {T : Type 0} → (T → Type 0) → (Place → Outcome T → Type 0) → (Place → Outcome (Unit {0}))
    → Type 0
SkipsIfSuch {T} Such meaning pass = (p q : Place) (x : T) → Such x → meaning p (Ok (x, q)) → pass p ≡ Ok (tt, q)

-- | skipping an item consumes the bytes that reading it consumes, wherever it is read; or if it has a property
--   [`SkipsIfSuch`]
-- Wherever an item is read, skipping it consumes the same bytes as reading it.
abbrev pub SkipsAsRead : {T : Type 0} → (Place → Outcome T → Type 0) → (Place → Outcome (Unit {0})) → Type 0
SkipsAsRead meaning pass = SkipsIfSuch (λ x. Unit {0}) meaning pass
