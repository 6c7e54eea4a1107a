-- The bytes of bundles of imports are read as the bundles.
use Rattle.std.proofs.Common.{◌≡◌, ℕ, ◌+◌, ◌<◌, ◌^◌, ◌==◌, Bool, true, false, cond, List, [], ◌∷◌, ◌++◌, length, Ok, All, map}
use Rattle.std.proofs.Common.{arith, ap, ◌∙◌, refl, subst, append_assoc, length-append}
use Rattle.std.proofs.lemmas.List.Elements.{All-head, All-tail}
use Rattle.std.specs.Str.{chars, is_utf8}
use Rattle.wasm_base.specs.Item.{ReadsAs}
use Rattle.wasm_base.specs.Leading.{lookup_or}
use Rattle.wasm_base.specs.Outcome.{Outcome}
use Rattle.wasm_base.specs.Section.{ItemsOf, Section, as_read}
use Rattle.wasm_base.specs.Skip.{skipped_name_at}
use Rattle.wasm_base.specs.Window.{Place}
use Rattle.wasm_base.specs.declared.fault.NumberKind.TheVariants.{VarU32}
use Rattle.wasm_encode.specs.Bundles.{BundleAllowed, BundleFits, ModuleAllowed, ModuleTypeAllowed, ModuleTypeFits, PartsFit}
use Rattle.wasm_encode.specs.Bundles.{bundle_bytes, bundle_placed, for_features, module_bytes, module_type_bytes, names_bytes}
use Rattle.wasm_encode.specs.Bundles.{ReadsAsSingles, singles_placed}
use Rattle.wasm_encode.specs.Imports.{ImportFits, TypeRefAllowed, import_bytes, type_ref_bytes}
use Rattle.wasm_encode.specs.Limits.{global_type_bytes, memory_type_bytes, table_type_bytes, tag_type_bytes}
use Rattle.wasm_encode.specs.Lists.{list_bytes, list_placed}
use Rattle.wasm_encode.specs.Names.{NameFits, name_bytes}
use Rattle.wasm_encode.specs.Numbers.{unsigned_bytes}
use Rattle.wasm_encode.specs.ReadsBack.{spot, Encodes}
use Rattle.wasm_encode.specs.Sections.{items_bytes}
use Rattle.wasm_encode.proofs.CopiedTypes.{copies_item, same_limits}
use Rattle.wasm_encode.proofs.CopiedExpressions.{Same}
use Rattle.wasm_encode.proofs.ImportsBack.{reads_type_ref}
use Rattle.wasm_encode.proofs.ListsBack.{copies_name, kept_list, list_back}
use Rattle.wasm_encode.proofs.NamesBack.{reads_name}
use Rattle.wasm_encode.proofs.NumbersBack.{unsigned_at_spot}
use Rattle.wasm_items.specs.Imports.{Bundle, ImportParts, bundle_parts, import_parts, single, of_module, of_type, skipped_item_at}
use Rattle.wasm_items.specs.Imports.{bundle_after_names, bundle_at, module_bundle_at, single_at, type_bundle_at, type_ref_at}
use Rattle.wasm_items.specs.declared.imports.Import.{Import}
use Rattle.wasm_items.specs.declared.imports.Imports.{Imports}
use Rattle.wasm_items.specs.declared.imports.Imports.TheVariants.{Single, Compact1, Compact2}
use Rattle.wasm_items.specs.declared.imports.TypeRef.{TypeRef}
use Rattle.wasm_items.specs.declared.imports.TypeRef.TheVariants as Refs

-- ---- single imports

-- bytes whose first is that of no bundle
record Kinded (bytes : List ℕ) : Type 0 where
  first : ℕ
  rest : List ℕ
  is : bytes ≡ first ∷ rest
  no_module : (first == 0x7F) ≡ false
  no_type : (first == 0x7E) ≡ false

kinded : (ty : TypeRef) → Kinded (type_ref_bytes ty)
unfolding type_ref_bytes
kinded (Refs.Func i) = record { first = 0x00; rest = unsigned_bytes i; is = refl; no_module = refl; no_type = refl }
kinded (Refs.Table ty) = record { first = 0x01; rest = table_type_bytes ty; is = refl; no_module = refl; no_type = refl }
kinded (Refs.Memory ty) = record { first = 0x02; rest = memory_type_bytes ty; is = refl; no_module = refl; no_type = refl }
kinded (Refs.Global ty) = record { first = 0x03; rest = global_type_bytes ty; is = refl; no_module = refl; no_type = refl }
kinded (Refs.Tag ty) = record { first = 0x04; rest = tag_type_bytes ty; is = refl; no_module = refl; no_type = refl }
kinded (Refs.FuncExact i) = record { first = 0x20; rest = unsigned_bytes i; is = refl; no_module = refl; no_type = refl }

no_bundle : (start : ℕ) (from name : List ℕ) (byte : ℕ) (p : Place) → (byte == 0x7F) ≡ false → (byte == 0x7E) ≡ false
    → bundle_after_names start from name byte p ≡ single_at start from name p
no_bundle start from name byte p a b = by (length name == 0)
  where
    by : (t : Bool)
        → cond t (lookup_or (single_at start from name) ((0x7F, module_bundle_at from) ∷ (0x7E, type_bundle_at from) ∷ []) byte)
        (single_at start from name) p ≡ single_at start from name p
    by true = rw (a, b) refl
    by false = refl

single_by : (features offset : ℕ) (from name : List ℕ) (first : ℕ) (rest : List ℕ) (ty : TypeRef) (q : Place) → NameFits from
    → NameFits name → (first == 0x7F) ≡ false → (first == 0x7E) ≡ false
    → type_ref_at (spot features (offset + length (name_bytes from) + length (name_bytes name)) (first ∷ rest)) ≡ Ok (ty, q)
    → bundle_at (spot features offset (name_bytes from ++ (name_bytes name ++ first ∷ rest)))
    ≡ Ok (single offset (record { from = from; name = name; ty = ty }), q)
unfolding bundle_at single_at
single_by features offset from name first rest ty q h g no_module no_type r =
    let there : ℕ = offset + length (name_bytes from) + length (name_bytes name) in
    rw (
      (reads_name from features h).at offset (name_bytes name ++ first ∷ rest),
      (reads_name name features g).at (offset + length (name_bytes from)) (first ∷ rest),
    )
    (no_bundle offset from name first (spot features there (first ∷ rest)) no_module no_type ∙ rw r refl)

single_back : (one : ImportParts) (features offset : ℕ) (later : List ℕ) → ImportFits one → TypeRefAllowed features one.ty
    → bundle_at (spot features offset (import_bytes one ++ later))
    ≡ Ok (single offset one, spot features (offset + length (import_bytes one)) later)
unfolding import_bytes
single_back one features offset later h allowed =
    let from : List ℕ = name_bytes one.from in
    let name : List ℕ = name_bytes one.name in
    let ty : List ℕ = type_ref_bytes one.ty in
    let t = kinded one.ty in
    let there : ℕ = offset + length from + length name in
    let q : Place = spot features (there + length ty) later in
    let w : ty ++ later ≡ t.first ∷ (t.rest ++ later) = ap (λ (xs : List ℕ). xs ++ later) t.is in
    let r : type_ref_at (spot features there (t.first ∷ (t.rest ++ later))) ≡ Ok (one.ty, q) =
    subst (λ (xs : List ℕ). type_ref_at (spot features there xs) ≡ Ok (one.ty, q)) w
    ((reads_type_ref one.ty features h.ty allowed).at there later) in
    let n : there + length ty ≡ offset + length (from ++ (name ++ ty)) =
    omega (arith, length-append from (name ++ ty), length-append name ty) in
    rw (append_assoc from (name ++ ty) later, append_assoc name ty later, w)
    (single_by features offset one.from one.name t.first (t.rest ++ later) one.ty q h.from h.name t.no_module t.no_type r
    ∙ ap (λ (k : ℕ). Ok (single offset one, spot features k later)) n)

-- ---- bundles

pub empty_fits : NameFits []
unfolding is_utf8 chars
empty_fits = record { utf8 = refl; short = omega arith }

names_back : (features offset byte : ℕ) (from later : List ℕ) → NameFits from
    → bundle_at (spot features offset (names_bytes from byte ++ later))
    ≡ bundle_after_names offset from [] byte
    (spot features (offset + length (name_bytes from) + length (name_bytes [])) (byte ∷ later))
unfolding bundle_at
names_back features offset byte from later h =
    let first : List ℕ = name_bytes from in
    let name : List ℕ = name_bytes [] in
    rw (
      append_assoc first (name ++ byte ∷ []) later,
      append_assoc name (byte ∷ []) later,
      (reads_name from features h).at offset (name ++ byte ∷ later),
      (reads_name [] features empty_fits).at (offset + length first) (byte ∷ later),
    ) refl

module_list : (features there : ℕ) (from later : List ℕ) (items : Section) → ModuleAllowed features items
    → module_bundle_at from (spot features there (0x7F ∷ (list_bytes items ++ later)))
    ≡ Ok (of_module from (list_placed features (there + 1) items), spot features (there + 1 + length (list_bytes items)) later)
unfolding module_bundle_at
module_list features there from later items a =
    let copies = copies_item Same same_limits in
    rw (a.bundles, kept_list Same skipped_item_at copies (for_features features items) features (there + 1) later refl a.list) refl

type_list : (features there : ℕ) (from later : List ℕ) (ty : TypeRef) (names : Section) → ModuleTypeFits from ty names
    → ModuleTypeAllowed features ty
    → type_bundle_at from (spot features there (0x7E ∷ (type_ref_bytes ty ++ (list_bytes names ++ later))))
    ≡ Ok (
      of_type from ty (list_placed features (there + 1 + length (type_ref_bytes ty)) names),
      spot features (there + 1 + length (type_ref_bytes ty) + length (list_bytes names)) later,
    )
unfolding type_bundle_at
type_list features there from later ty names h a =
    rw (
      a.bundles,
      (reads_type_ref ty features h.ty_fits a.ty_allowed).at (there + 1) (list_bytes names ++ later),
      list_back skipped_name_at copies_name names features (there + 1 + length (type_ref_bytes ty)) later h.list,
    ) refl

-- the same bundle, whose list is at an offset, and the same place after it
at_end : (features m n j k : ℕ) (make : ℕ → Bundle) (later : List ℕ) → j ≡ k → m ≡ n
    → (let o : Outcome Bundle = Ok (make j, spot features m later) in o) ≡ Ok (make k, spot features n later)
at_end features m n j k make later e f =
    ap (λ (i : ℕ). Ok (make i, spot features m later)) e ∙ ap (λ (i : ℕ). Ok (make k, spot features i later)) f

bundle_back : (x : Imports) (features offset : ℕ) (later : List ℕ) → PartsFit (bundle_parts x) → BundleAllowed features (bundle_parts x)
    → bundle_at (spot features offset (bundle_bytes (bundle_parts x) ++ later))
    ≡ Ok (bundle_parts (bundle_placed features offset x), spot features (offset + length (bundle_bytes (bundle_parts x))) later)
unfolding bundle_bytes
bundle_back (Single start one) features offset later h a = single_back (import_parts one) features offset later h a
bundle_back (Compact1 from items) features offset later h a =
    let first : List ℕ = name_bytes from.now in
    let name : List ℕ = name_bytes [] in
    let head : List ℕ = module_bytes from.now in
    let list : List ℕ = list_bytes items in
    let there : ℕ = offset + length first + length name in
    let n : there + 1 ≡ offset + length head = omega (arith, length-append first (name ++ 0x7F ∷ []), length-append name (0x7F ∷ [])) in
    let m : there + 1 + length list ≡ offset + length (head ++ list) = omega (arith, n, length-append head list) in
    rw (append_assoc head list later)
    (names_back features offset 0x7F from.now (list ++ later) h.from_fits
    ∙ (module_list features there from.now later items a
    ∙ at_end features (there + 1 + length list) (offset + length (head ++ list)) (there + 1) (offset + length head)
    (λ k. of_module from.now (list_placed features k items)) later n m))
bundle_back (Compact2 from ty names) features offset later h a =
    let first : List ℕ = name_bytes from.now in
    let name : List ℕ = name_bytes [] in
    let before : List ℕ = names_bytes from.now 0x7E in
    let types : List ℕ = type_ref_bytes ty in
    let head : List ℕ = module_type_bytes from.now ty in
    let list : List ℕ = list_bytes names in
    let there : ℕ = offset + length first + length name in
    let n : there + 1 + length types ≡ offset + length head =
    omega (arith, length-append before types, length-append first (name ++ 0x7E ∷ []), length-append name (0x7E ∷ [])) in
    let m : there + 1 + length types + length list ≡ offset + length (head ++ list) = omega (arith, n, length-append head list) in
    rw (append_assoc head list later, append_assoc before types (list ++ later))
    (names_back features offset 0x7E from.now (types ++ (list ++ later)) h.from_fits
    ∙ (type_list features there from.now later ty names h a
    ∙ at_end features (there + 1 + length types + length list) (offset + length (head ++ list)) (there + 1 + length types)
    (offset + length head) (λ k. of_type from.now ty (list_placed features k names)) later n m))

pub bundle_encodes : (x : Imports) (features : ℕ) → BundleFits (bundle_parts x) → BundleAllowed features (bundle_parts x)
    → Encodes (ReadsAs bundle_parts bundle_at) features (λ (offset : ℕ). bundle_placed features offset x) (bundle_bytes (bundle_parts x))
bundle_encodes x features h a = record { read = λ offset later. bundle_back x features offset later h.parts a }

-- ---- imports that are written as such

pub singles_back : (imports : List Import) (features offset : ℕ) → All (λ i. ImportFits (import_parts i)) imports
    → All (λ i. TypeRefAllowed features i.ty) imports
    → ItemsOf (ReadsAs bundle_parts bundle_at) (length imports)
    (spot features offset (items_bytes (λ i. import_bytes (import_parts i)) imports)) (map as_read (singles_placed offset imports))
singles_back [] features offset fit allowed = refl
singles_back (i ∷ is) features offset fit allowed =
    let after : ℕ = offset + length (import_bytes (import_parts i)) in
    let rest : List ℕ = items_bytes (λ j. import_bytes (import_parts j)) is in (
      spot features after rest,
      single_back (import_parts i) features offset rest (All-head (λ j. ImportFits (import_parts j)) i is fit)
          (All-head (λ j. TypeRefAllowed features j.ty) i is allowed),
      singles_back is features after (All-tail (λ j. ImportFits (import_parts j)) i is fit)
          (All-tail (λ j. TypeRefAllowed features j.ty) i is allowed),
    )

pub reads_as_singles : (imports : List Import) (features offset : ℕ) → length imports < 2 ^ 32
    → All (λ i. ImportFits (import_parts i)) imports → All (λ i. TypeRefAllowed features i.ty) imports
    → ReadsAsSingles features offset imports
reads_as_singles imports features offset few fit allowed =
    let encoded : Import → List ℕ = λ i. import_bytes (import_parts i) in
    record {
      count = unsigned_at_spot VarU32 features offset (length imports) (items_bytes encoded imports) refl few;
      items = singles_back imports features (offset + length (unsigned_bytes (length imports))) fit allowed;
    }
