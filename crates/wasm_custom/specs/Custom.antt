-- Custom sections. Core specification, Binary format, Custom Section.
use Rattle.std.specs.Prelude.{◌≡◌, ℕ, List, Some, Result, Ok, Err}
use Rattle.wasm_base.specs.FaultAt.{fault_at}
use Rattle.wasm_base.specs.Name.{name_limit, text_at}
use Rattle.wasm_base.specs.Window.{Window, place, KeepsWindow}
use Rattle.wasm_base.specs.declared.error.Error.{Error}

-- a name, and the section's window after it
pub record Custom : Type 0 where
  pub name : List ℕ
  pub reader : Window

-- the custom section whose name was read, by the reader after the name
abbrev pub custom_after : (name : List ℕ) → Window → Custom
custom_after name reader = record { name = name; reader = reader }

-- | a custom section is its name and the window after it [`ReadsCustom`] <Custom Section>
-- The custom section begins with its name at the window's place, and its reader is after the name.
pub record IsCustom (w : Window) (section : Custom) : Type 0 where
  pub named : text_at (Some name_limit) (place w) ≡ Ok (section.name, place section.reader)
  pub keeps : KeepsWindow w section.reader

-- The custom section in the window was read, or its name has this fault.
abbrev pub ReadsCustom : Window → Result Custom Error → Type 0
ReadsCustom w (Ok section) = IsCustom w section
ReadsCustom w (Err e) = text_at (Some name_limit) (place w) ≡ Err (fault_at e)
