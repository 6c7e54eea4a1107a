-- The bytes of bundles of imports. Core specification, Binary format, Modules, Import Section, and the proposal for
-- compact imports.
use Rattle.std.specs.Prelude.{◌≡◌, ℕ, ◌+◌, ◌<◌, ◌^◌, IsTrue, List, [], ◌∷◌, ◌++◌, length, Ok, map}
use Rattle.wasm_base.specs.Features.{takes_import_bundles}
use Rattle.wasm_base.specs.Item.{ReadsAs}
use Rattle.wasm_base.specs.Number.{unsigned_at}
use Rattle.wasm_base.specs.Section.{ItemsOf, Section, as_read}
use Rattle.wasm_base.specs.Skip.{skipped_name_at}
use Rattle.wasm_base.specs.declared.fault.NumberKind.TheVariants.{VarU32}
use Rattle.wasm_encode.specs.Imports.{ImportFits, TypeRefAllowed, TypeRefFits, import_bytes, type_ref_bytes}
use Rattle.wasm_encode.specs.Lists.{IsList, list_bytes, list_placed}
use Rattle.wasm_encode.specs.Names.{NameFits, name_bytes}
use Rattle.wasm_encode.specs.Numbers.{unsigned_bytes}
use Rattle.wasm_encode.specs.ReadsBack.{spot}
use Rattle.wasm_encode.specs.Sections.{content_bytes, items_bytes}
use Rattle.wasm_items.specs.Imports.{bundle_at, bundle_parts, import_parts}
use Rattle.wasm_items.specs.Imports.{Bundle, single, of_module, of_type, skipped_item_at}
use Rattle.wasm_items.specs.declared.imports.Import.{Import}
use Rattle.wasm_items.specs.declared.imports.Imports.{Imports}
use Rattle.wasm_items.specs.declared.imports.Imports.TheVariants.{Single, Compact1, Compact2}
use Rattle.wasm_items.specs.declared.imports.TypeRef.{TypeRef}

-- a bundle up to its first byte after the names: the name of its module, and an empty name
abbrev pub names_bytes : (from : List ℕ) (byte : ℕ) → List ℕ
names_bytes from byte = name_bytes from ++ (name_bytes [] ++ byte ∷ [])

-- imports of one module up to their list; names of imports of one module and one type up to their list
abbrev pub module_bytes : (from : List ℕ) → List ℕ
module_bytes from = names_bytes from 0x7F

abbrev pub module_type_bytes : (from : List ℕ) → TypeRef → List ℕ
module_type_bytes from ty = names_bytes from 0x7E ++ type_ref_bytes ty

-- | the bytes of an item of an import section: an import, or a bundle: the name of its module, an empty name, 0x7F and
--   a list of imports, or 0x7E, a type and a list of names; whether it fits, and which features a reader needs; the
--   item as it is read at an offset [`names_bytes`, `module_bytes`, `module_type_bytes`; `BundleFits`, `BundleAllowed`;
--   `bundle_placed`] <Import Section; compact imports>
-- an item of an import section: an import, or a bundle
unfoldable pub bundle_bytes : Bundle → List ℕ
bundle_bytes (single offset one) = import_bytes one
bundle_bytes (of_module from items) = module_bytes from ++ list_bytes items
bundle_bytes (of_type from ty names) = module_type_bytes from ty ++ list_bytes names

-- The list has as many imports as it counts, which are skipped as such.
pub record ModuleFits (from : List ℕ) (items : Section) : Type 0 where
  pub from_fits : NameFits from
  pub list : IsList skipped_item_at items

-- The list has as many names as it counts, which are skipped as such.
pub record ModuleTypeFits (from : List ℕ) (ty : TypeRef) (names : Section) : Type 0 where
  pub from_fits : NameFits from
  pub ty_fits : TypeRefFits ty
  pub list : IsList skipped_name_at names

abbrev pub PartsFit : Bundle → Type 0
PartsFit (single offset one) = ImportFits one
PartsFit (of_module from items) = ModuleFits from items
PartsFit (of_type from ty names) = ModuleTypeFits from ty names

pub record BundleFits (bundle : Bundle) : Type 0 where
  pub parts : PartsFit bundle
  pub short : length (bundle_bytes bundle) < 2 ^ 32

-- the section, for a reader with these features
abbrev pub for_features : (features : ℕ) → Section → Section
for_features features list = record { reader = record list.reader { features = features }; count = list.count }

-- Readers of bundles take them, and the limits of their types. They skip the imports of a list as its own reader does.
pub record ModuleAllowed (features : ℕ) (items : Section) : Type 0 where
  pub bundles : IsTrue (takes_import_bundles features)
  pub list : IsList skipped_item_at (for_features features items)

pub record ModuleTypeAllowed (features : ℕ) (ty : TypeRef) : Type 0 where
  pub bundles : IsTrue (takes_import_bundles features)
  pub ty_allowed : TypeRefAllowed features ty

abbrev pub BundleAllowed : (features : ℕ) → Bundle → Type 0
BundleAllowed features (single offset one) = TypeRefAllowed features one.ty
BundleAllowed features (of_module from items) = ModuleAllowed features items
BundleAllowed features (of_type from ty names) = ModuleTypeAllowed features ty

-- the item as it is read with these features at an offset
abbrev pub bundle_placed : (features offset : ℕ) → Imports → Imports
bundle_placed features offset (Single start one) = Single offset one
bundle_placed features offset (Compact1 from items) =
    Compact1 from (list_placed features (offset + length (module_bytes from.now)) items)
bundle_placed features offset (Compact2 from ty names) =
    Compact2 from ty (list_placed features (offset + length (module_type_bytes from.now ty)) names)

-- imports as they are read by readers of bundles, the first one at this offset: each is single, with its offset
abbrev pub singles_placed : (offset : ℕ) → List Import → List Imports
singles_placed offset [] = []
singles_placed offset (i ∷ is) =
    Single offset i ∷ singles_placed (offset + length (import_bytes (import_parts i))) is

-- | the content of a section of imports is read by readers of bundles as its count and exactly these imports, each at
--   its offset, with nothing after them [`singles_placed`] <Import Section>
-- The content of a section of imports, at an offset, is read by readers of bundles as its count and exactly these
-- imports, with nothing after them.
pub record ReadsAsSingles (features offset : ℕ) (imports : List Import) : Type 0 where
  pub count : unsigned_at VarU32 (spot features offset (content_bytes (λ i. import_bytes (import_parts i)) imports))
      ≡ Ok (
        length imports,
        spot features (offset + length (unsigned_bytes (length imports)))
            (items_bytes (λ i. import_bytes (import_parts i)) imports),
      )
  pub items : ItemsOf (ReadsAs bundle_parts bundle_at) (length imports)
      (spot features (offset + length (unsigned_bytes (length imports)))
      (items_bytes (λ i. import_bytes (import_parts i)) imports))
      (map as_read (singles_placed (offset + length (unsigned_bytes (length imports))) imports))
