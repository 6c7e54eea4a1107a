use Rattle.std.proofs.Common.{refl}
use Rattle.wasm_items.specs.declared.types.HeapType.TheVariants as Heaps
use Rattle.wasm_items.specs.declared.types.TagKind.TheVariants as Tags
use Rattle.wasm_items.proofs.laws.types_are_hashed_as_their_fields.Goals as goal

pub returns-clause-heap : goal.returns-clause-heap
returns-clause-heap c Heaps.Func = refl
returns-clause-heap c Heaps.Extern = refl
returns-clause-heap c Heaps.Any = refl
returns-clause-heap c Heaps.Eq = refl
returns-clause-heap c Heaps.I31 = refl
returns-clause-heap c Heaps.Struct = refl
returns-clause-heap c Heaps.Array = refl
returns-clause-heap c Heaps.Exn = refl
returns-clause-heap c Heaps.None = refl
returns-clause-heap c Heaps.NoExtern = refl
returns-clause-heap c Heaps.NoFunc = refl
returns-clause-heap c Heaps.NoExn = refl
returns-clause-heap c (Heaps.Concrete index) = refl

pub returns-clause-tag_kind : goal.returns-clause-tag_kind
returns-clause-tag_kind c Tags.Exception = refl
