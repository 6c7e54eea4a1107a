-- What can be imported or exported. Core specification, Binary format, Types, External Types, and Modules, Export
-- Section. Kind 0x20, a function of exactly the given type, is of the proposal for custom descriptors.
use Rattle.std.specs.Prelude.{ℕ, List, [], ◌∷◌}
use Rattle.wasm_base.specs.Outcome.{Outcome}
use Rattle.wasm_base.specs.Window.{Place}
use Rattle.wasm_base.specs.declared.fault.Lead.TheVariants as Leads
use Rattle.wasm_base.specs.Leading.{in_table}
use Rattle.wasm_items.specs.declared.exports.ExternalKind.{ExternalKind}
use Rattle.wasm_items.specs.declared.exports.ExternalKind.TheVariants.{Func, Table, Memory, Global, Tag, FuncExact}

-- | the external kind of each byte; a kind [`kind_at`] <Export Section; Types, External Types; 0x20 custom
--   descriptors>
-- the kind that each byte encodes
abbrev pub external_kinds : List (ℕ × ExternalKind)
external_kinds =
    (0x00, Func) ∷ (0x01, Table) ∷ (0x02, Memory) ∷ (0x03, Global) ∷ (0x04, Tag) ∷ (0x20, FuncExact) ∷ []

-- an external kind
abbrev pub kind_at : Place → Outcome ExternalKind
kind_at = in_table Leads.External external_kinds
