-- Relocations as plain numbers.
use Rattle.std.specs.Prelude.{ℕ, ◌-◌, Ok, Err, pos}
use Rattle.wasm_base.specs.Outcome.{Outcome}
use Rattle.wasm_base.specs.Window.{Place}
use Rattle.wasm_c_items.specs.Faults.{no_fault, plain_fault}
use Rattle.wasm_custom.specs.Reloc.{extent_of, number_of}
use Rattle.wasm_custom.specs.declared.reloc.RelocationEntry.{RelocationEntry}
use Rattle.wasm_c_items.specs.declared.relocations.PlainRelocation.{PlainRelocation}

-- a relocation
abbrev pub plain_relocation : (from : ℕ) → Place → Outcome RelocationEntry → PlainRelocation
plain_relocation from p (Ok x) = record {
  fault = no_fault;
  consumed = x.1.offset - p.offset;
  kind = number_of x.0.ty;
  extent = extent_of x.0.ty;
  offset = x.0.offset;
  index = x.0.index;
  addend = x.0.addend;
}
plain_relocation from p (Err f) = record {
  fault = plain_fault f;
  consumed = 0;
  kind = 0;
  extent = 0;
  offset = 0;
  index = 0;
  addend = pos 0;
}
