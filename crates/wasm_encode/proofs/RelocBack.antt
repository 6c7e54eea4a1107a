-- The bytes of relocations are read as the relocations.
use Rattle.std.proofs.Common.{◌≡◌, ℕ, ◌+◌, ◌<◌, ◌^◌, ℤ, pos, List, [], ◌∷◌, ◌++◌, Ok, ap, arith, length, map, refl, sym, subst}
use Rattle.wasm_base.specs.Item.{ReadsAs}
use Rattle.wasm_base.specs.Number.{unsigned_at}
use Rattle.wasm_base.specs.Outcome.{◌>>=◌}
use Rattle.wasm_base.specs.Section.{ItemsOf, as_read}
use Rattle.wasm_base.specs.Window.{place}
use Rattle.wasm_base.specs.declared.fault.NumberKind.TheVariants.{VarU32, VarI32, VarI64}
use Rattle.wasm_custom.specs.Reloc.{addend_at, addend_of, number_of, reloc_section_in, relocation_at, relocation_type_at}
use Rattle.wasm_custom.specs.declared.reloc.RelocAddendKind.{RelocAddendKind}
use Rattle.wasm_custom.specs.declared.reloc.RelocAddendKind.TheVariants as Addends
use Rattle.wasm_custom.specs.declared.reloc.RelocationEntry.{RelocationEntry}
use Rattle.wasm_custom.specs.declared.reloc.RelocationType.{RelocationType}
use Rattle.wasm_custom.specs.declared.reloc.RelocationType.TheVariants as Types
use Rattle.wasm_encode.specs.Numbers.{unsigned_bytes}
use Rattle.wasm_encode.specs.ReadsBack.{Encodes}
use Rattle.wasm_encode.specs.Reloc.{AddendFits, RelocationsBack, RelocationFits, addend_bytes, reloc_entries, relocation_bytes}
use Rattle.wasm_encode.specs.Sections.{ItemsBack, content_bytes, placed_items}
use Rattle.wasm_encode.proofs.ImportsBack.{reads_u32}
use Rattle.wasm_encode.proofs.NumbersBack.{signed_at_spot, unsigned_at_spot}
use Rattle.wasm_encode.proofs.Readings.{Reads, encodes_so, reads_as, reads_nothing, reads_then}
use Rattle.wasm_encode.proofs.SubsectionsBack.{section_items, section_read}

reads_type : (ty : RelocationType) (features : ℕ) → Reads relocation_type_at features ty (number_of ty ∷ [])
unfolding relocation_type_at
reads_type Types.FunctionIndexLeb features = record { at = λ offset later. refl }
reads_type Types.TableIndexSleb features = record { at = λ offset later. refl }
reads_type Types.TableIndexI32 features = record { at = λ offset later. refl }
reads_type Types.MemoryAddrLeb features = record { at = λ offset later. refl }
reads_type Types.MemoryAddrSleb features = record { at = λ offset later. refl }
reads_type Types.MemoryAddrI32 features = record { at = λ offset later. refl }
reads_type Types.TypeIndexLeb features = record { at = λ offset later. refl }
reads_type Types.GlobalIndexLeb features = record { at = λ offset later. refl }
reads_type Types.FunctionOffsetI32 features = record { at = λ offset later. refl }
reads_type Types.SectionOffsetI32 features = record { at = λ offset later. refl }
reads_type Types.EventIndexLeb features = record { at = λ offset later. refl }
reads_type Types.MemoryAddrRelSleb features = record { at = λ offset later. refl }
reads_type Types.TableIndexRelSleb features = record { at = λ offset later. refl }
reads_type Types.GlobalIndexI32 features = record { at = λ offset later. refl }
reads_type Types.MemoryAddrLeb64 features = record { at = λ offset later. refl }
reads_type Types.MemoryAddrSleb64 features = record { at = λ offset later. refl }
reads_type Types.MemoryAddrI64 features = record { at = λ offset later. refl }
reads_type Types.MemoryAddrRelSleb64 features = record { at = λ offset later. refl }
reads_type Types.TableIndexSleb64 features = record { at = λ offset later. refl }
reads_type Types.TableIndexI64 features = record { at = λ offset later. refl }
reads_type Types.TableNumberLeb features = record { at = λ offset later. refl }
reads_type Types.MemoryAddrTlsSleb features = record { at = λ offset later. refl }
reads_type Types.FunctionOffsetI64 features = record { at = λ offset later. refl }
reads_type Types.MemoryAddrLocrelI32 features = record { at = λ offset later. refl }
reads_type Types.TableIndexRelSleb64 features = record { at = λ offset later. refl }
reads_type Types.MemoryAddrTlsSleb64 features = record { at = λ offset later. refl }
reads_type Types.FunctionIndexI32 features = record { at = λ offset later. refl }

reads_addend : (kind : RelocAddendKind) (n : ℤ) (features : ℕ) → AddendFits kind n
    → Reads (addend_at kind) features n (addend_bytes kind n)
reads_addend Addends.None n features h =
    subst (λ (m : ℤ). Reads (addend_at Addends.None) features m []) (sym h) (reads_nothing features (pos 0))
reads_addend Addends.Addend32 n features h = record { at = λ offset later. signed_at_spot VarI32 features offset n later refl h }
reads_addend Addends.Addend64 n features h = record { at = λ offset later. signed_at_spot VarI64 features offset n later refl h }

reads_relocation : (x : RelocationEntry) (features : ℕ) → RelocationFits x → Reads relocation_at features x (relocation_bytes x)
unfolding relocation_at relocation_bytes
reads_relocation x features h =
    let addend = addend_bytes (addend_of x.ty) x.addend in
    reads_then relocation_type_at
    (λ ty p. unsigned_at VarU32 p >>= λ offset. unsigned_at VarU32 offset.1 >>= λ index. addend_at (addend_of ty) index.1 >>= λ addend.
    Ok (record { ty = ty; offset = offset.0; index = index.0; addend = addend.0 }, addend.1))
    features x.ty x (number_of x.ty ∷ []) (unsigned_bytes x.offset ++ (unsigned_bytes x.index ++ addend)) (reads_type x.ty features)
    (reads_then (unsigned_at VarU32)
    (λ offset p. unsigned_at VarU32 p >>= λ index. addend_at (addend_of x.ty) index.1 >>= λ addend.
    Ok (record { ty = x.ty; offset = offset; index = index.0; addend = addend.0 }, addend.1))
    features x.offset x (unsigned_bytes x.offset) (unsigned_bytes x.index ++ addend) (reads_u32 x.offset features h.offset)
    (reads_then (unsigned_at VarU32)
    (λ index p. addend_at (addend_of x.ty) p >>= λ addend.
    Ok (record { ty = x.ty; offset = x.offset; index = index; addend = addend.0 }, addend.1))
    features x.index x (unsigned_bytes x.index) addend (reads_u32 x.index features h.index)
    (reads_as (addend_at (addend_of x.ty)) (λ n. record { ty = x.ty; offset = x.offset; index = x.index; addend = n })
    features x.addend addend (reads_addend (addend_of x.ty) x.addend features h.addend))))

pub relocation_encodes : (x : RelocationEntry) (features : ℕ) → RelocationFits x
    → Encodes (ReadsAs (λ (y : RelocationEntry). y) relocation_at) features (λ (offset : ℕ). x) (relocation_bytes x)
relocation_encodes x features h = encodes_so (λ y. y) relocation_at features x (relocation_bytes x) (reads_relocation x features h)

-- ---- the relocations of a section

-- Relocations are read as they are, wherever they are.
same_relocations : (offset : ℕ) (xs : List RelocationEntry) → placed_items relocation_bytes (λ (o : ℕ) x. x) offset xs ≡ xs
same_relocations offset [] = refl
same_relocations offset (x ∷ xs) = ap (λ (ys : List RelocationEntry). x ∷ ys) (same_relocations (offset + length (relocation_bytes x)) xs)

pub reloc_back : (index : ℕ) (xs : List RelocationEntry) (features offset : ℕ) → index < 2 ^ 32
    → ItemsBack (ReadsAs (λ (x : RelocationEntry). x) relocation_at) features (offset + length (unsigned_bytes index)) relocation_bytes
    (λ (o : ℕ) x. x) xs
    → RelocationsBack features offset index xs
unfolding reloc_section_in
reloc_back index xs features offset h back =
    let there : ℕ = offset + length (unsigned_bytes index) in
    let n : offset + 0 ≡ offset = omega arith in
    record {
      section = rw (
        n,
        unsigned_at_spot VarU32 features offset index (content_bytes relocation_bytes xs) refl h,
        section_read (ReadsAs (λ (x : RelocationEntry). x) relocation_at) features there relocation_bytes (λ (o : ℕ) x. x) xs back,
      ) refl;
      entries = subst (λ (ys : List RelocationEntry). ItemsOf (ReadsAs (λ (x : RelocationEntry). x) relocation_at) (length xs)
          (place (reloc_entries features offset index xs).reader) (map as_read ys))
          (same_relocations (there + length (unsigned_bytes (length xs))) xs)
          (section_items (ReadsAs (λ (x : RelocationEntry). x) relocation_at) features there relocation_bytes (λ (o : ℕ) x. x) xs back);
    }
