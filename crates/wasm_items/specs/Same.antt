-- When two items are the same.
use Rattle.std.specs.List.{AllZip}
use Rattle.std.specs.Prelude.{◌≡◌}
use Rattle.wasm_items.specs.declared.exports.Export.{Export}
use Rattle.wasm_items.specs.declared.imports.Import.{Import}
use Rattle.wasm_items.specs.declared.imports.ImportItemCompact.{ImportItemCompact}
use Rattle.wasm_items.specs.declared.types.CompositeType.{CompositeType}
use Rattle.wasm_items.specs.declared.types.CompositeType.TheVariants.{Func, Array, Struct}
use Rattle.wasm_items.specs.declared.types.FuncType.{FuncType}
use Rattle.wasm_items.specs.declared.types.RecGroup.{RecGroup}
use Rattle.wasm_items.specs.declared.types.SubType.{SubType}

-- Two imports have the same names and the same type.
pub record IsSameImport (one other : Import) : Type 0 where
  pub from : one.module.now ≡ other.module.now
  pub name : one.name.now ≡ other.name.now
  pub ty : one.ty ≡ other.ty

-- Two imports of a bundle have the same name and the same type.
pub record IsSameItem (one other : ImportItemCompact) : Type 0 where
  pub name : one.name.now ≡ other.name.now
  pub ty : one.ty ≡ other.ty

-- Two exports have the same name, kind and index.
pub record IsSameExport (one other : Export) : Type 0 where
  pub name : one.name.now ≡ other.name.now
  pub kind : one.kind ≡ other.kind
  pub index : one.index ≡ other.index

-- Two types of functions have the same parameters and the same results.
pub record IsSameFunction (one other : FuncType) : Type 0 where
  pub params : one.params ≡ other.params
  pub results : one.results ≡ other.results

-- Two composite types are of the same kind, and have the same parts.
abbrev pub IsSameComposite : CompositeType → CompositeType → Type 0
IsSameComposite (Func one) (Func other) = IsSameFunction one other
IsSameComposite (Array one) (Array other) = one ≡ other
IsSameComposite (Struct one) (Struct other) = one ≡ other
IsSameComposite one other = ⊥

-- Two subtypes extend the same type, if any, are both final or both not, and have the same composite type.
pub record IsSameSubtype (one other : SubType) : Type 0 where
  pub final : one.is_final ≡ other.is_final
  pub supertype : one.supertype ≡ other.supertype
  pub composite : IsSameComposite one.composite other.composite

-- | two items have the same contents, lists by their items and names as texts [`IsSameImport`, `IsSameExport`]
--   <Types; Import Section; Export Section>
-- Two groups are both explicit or both not, and have the same types.
pub record IsSameGroup (one other : RecGroup) : Type 0 where
  pub explicit : one.explicit ≡ other.explicit
  pub types : AllZip IsSameSubtype one.types other.types
