-- Relocation types and their numbers.
use Rattle.std.proofs.Common.{◌≡◌, ℕ, zero, suc, ◌+◌, ◌<◌, List, [], ◌∷◌, slice_get, get_or, Option, Some, None, Result, Ok, Err, refl, sym}
use Rattle.std.proofs.Common.{ap, arith, ◌∙◌}
use Rattle.std.proofs.lemmas.Option.{slice_get_within, slice_get-get_or}
use Rattle.std.specs.Option.{ok_or}
use Rattle.wasm_custom.specs.Reloc.{types, number_of, IsTypeOf}
use Rattle.wasm_custom.specs.declared.reloc.RelocationType.{RelocationType}
use Rattle.wasm_custom.specs.declared.reloc.RelocationType.TheVariants.{FunctionIndexLeb, TableIndexSleb, TableIndexI32, MemoryAddrLeb}
use Rattle.wasm_custom.specs.declared.reloc.RelocationType.TheVariants.{MemoryAddrSleb, MemoryAddrI32, TypeIndexLeb, GlobalIndexLeb}
use Rattle.wasm_custom.specs.declared.reloc.RelocationType.TheVariants.{FunctionOffsetI32, SectionOffsetI32, EventIndexLeb}
use Rattle.wasm_custom.specs.declared.reloc.RelocationType.TheVariants.{MemoryAddrRelSleb, TableIndexRelSleb, GlobalIndexI32}
use Rattle.wasm_custom.specs.declared.reloc.RelocationType.TheVariants.{MemoryAddrLeb64, MemoryAddrSleb64, MemoryAddrI64}
use Rattle.wasm_custom.specs.declared.reloc.RelocationType.TheVariants.{MemoryAddrRelSleb64, TableIndexSleb64, TableIndexI64}
use Rattle.wasm_custom.specs.declared.reloc.RelocationType.TheVariants.{TableNumberLeb, MemoryAddrTlsSleb, FunctionOffsetI64}
use Rattle.wasm_custom.specs.declared.reloc.RelocationType.TheVariants.{MemoryAddrLocrelI32, TableIndexRelSleb64, MemoryAddrTlsSleb64}
use Rattle.wasm_custom.specs.declared.reloc.RelocationType.TheVariants.{FunctionIndexI32}

-- Types whose numbers count up from here.
abbrev CountsFrom : ℕ → List RelocationType → Type 0
CountsFrom n [] = Unit {0}
CountsFrom n (ty ∷ tys) = (number_of ty ≡ n) × CountsFrom (suc n) tys

counted : (n : ℕ) (tys : List RelocationType) → CountsFrom n tys → (i : ℕ) (ty : RelocationType) → slice_get tys i ≡ Some ty → number_of ty
    ≡ n + i
counted n [] c i ty e = cc
counted n (x ∷ tys) c zero ty e = let z : x ≡ ty = cc in ap number_of (sym z) ∙ c.0 ∙ omega arith
counted n (x ∷ tys) c (suc i) ty e = counted (suc n) tys c.1 i ty e ∙ omega arith

-- The type at an index of the list has this index as its number.
pub type_has_number : (i : ℕ) (ty : RelocationType) → slice_get types i ≡ Some ty → number_of ty ≡ i
type_has_number i ty e =
    counted 0 types (
      refl,
      (
        refl,
        (
          refl,
          (
            refl,
            (
              refl,
              (
                refl,
                (
                  refl,
                  (
                    refl,
                    (
                      refl,
                      (
                        refl,
                        (
                          refl,
                          (
                            refl,
                            (
                              refl,
                              (
                                refl,
                                (
                                  refl,
                                  (refl, (refl, (refl, (refl, (refl, (refl, (refl, (refl, (refl, (refl, (refl, (refl, tt)))))))))))),
                                ),
                              ),
                            ),
                          ),
                        ),
                      ),
                    ),
                  ),
                ),
              ),
            ),
          ),
        ),
      ),
    ) i ty e
    ∙ omega arith

-- A number has a type where the list has one.
pub numbered : (number : ℕ) (found : Option RelocationType) (result : Result RelocationType (Unit {0})) → found ≡ slice_get types number
    → result ≡ ok_or found tt → IsTypeOf number result
numbered number (Some ty) result is e = rw e (
  ((λ _. slice_get_within types number ty (sym is)), (λ _. refl)),
  type_has_number number ty (sym is),
)
numbered number None result is e = rw e (
  (
    (λ h. cc),
    (λ lt. let z : None ≡ Some (get_or types number FunctionIndexLeb) = is
        ∙ slice_get-get_or types number FunctionIndexLeb lt in absurd (cc)),
  ),
  tt,
)

-- Each type is at the index of its number in the list.
type_in_list : (ty : RelocationType) → slice_get types (number_of ty) ≡ Some ty
type_in_list FunctionIndexLeb = refl
type_in_list TableIndexSleb = refl
type_in_list TableIndexI32 = refl
type_in_list MemoryAddrLeb = refl
type_in_list MemoryAddrSleb = refl
type_in_list MemoryAddrI32 = refl
type_in_list TypeIndexLeb = refl
type_in_list GlobalIndexLeb = refl
type_in_list FunctionOffsetI32 = refl
type_in_list SectionOffsetI32 = refl
type_in_list EventIndexLeb = refl
type_in_list MemoryAddrRelSleb = refl
type_in_list TableIndexRelSleb = refl
type_in_list GlobalIndexI32 = refl
type_in_list MemoryAddrLeb64 = refl
type_in_list MemoryAddrSleb64 = refl
type_in_list MemoryAddrI64 = refl
type_in_list MemoryAddrRelSleb64 = refl
type_in_list TableIndexSleb64 = refl
type_in_list TableIndexI64 = refl
type_in_list TableNumberLeb = refl
type_in_list MemoryAddrTlsSleb = refl
type_in_list FunctionOffsetI64 = refl
type_in_list MemoryAddrLocrelI32 = refl
type_in_list TableIndexRelSleb64 = refl
type_in_list MemoryAddrTlsSleb64 = refl
type_in_list FunctionIndexI32 = refl

-- The type that the number of a type converts to is that type.
pub type_of_its_number : (ty : RelocationType) (number : ℕ) (result : Result RelocationType (Unit {0})) → number ≡ number_of ty
    → IsTypeOf number result → result ≡ Ok ty
type_of_its_number ty number (Err e) is found =
    let lt : number_of ty < 27 = slice_get_within types (number_of ty) ty (type_in_list ty) in
    let some = found.0.1 (rw is lt) in
    absurd (cc)
type_of_its_number ty number (Ok other) is found =
    let same : number_of other ≡ number_of ty = found.1 ∙ is in
    let z : Some other ≡ Some ty = sym (type_in_list other) ∙ ap (slice_get types) same ∙ type_in_list ty in
    let y : other ≡ ty = cc in
    ap (λ (t : RelocationType). Ok t) y
