-- The bytes of subsections are read as the subsections.
use Rattle.std.proofs.Common.{◌≡◌, ℕ, ◌+◌, ◌<◌, ◌^◌, List, [], ◌++◌, Ok, append-nil, append_assoc, arith, length}
use Rattle.std.proofs.Common.{◌-◌, ap, length-append, map, refl, subst, sym, ◌∙◌, ◌∷◌, Result}
use Rattle.std.proofs.Math.Seq.{drop-append_seam}
use Rattle.std.proofs.lemmas.Bool.{lt-ltb}
use Rattle.std.proofs.lemmas.List.Elements.{All-head, All-tail}
use Rattle.wasm_base.specs.FaultAt.{FaultAt}
use Rattle.wasm_base.specs.Name.{u7_at, window_at}
use Rattle.wasm_base.specs.Outcome.{Outcome}
use Rattle.wasm_base.specs.Section.{ItemsOf, as_read, section_after, section_in}
use Rattle.wasm_base.specs.Subsections.{FirstSubsection, SubsectionsOf, subsection_at}
use Rattle.wasm_base.specs.Window.{Place, Window, place, window_over}
use Rattle.wasm_base.specs.declared.fault.NumberKind.TheVariants.{VarU32}
use Rattle.wasm_encode.specs.Numbers.{unsigned_bytes}
use Rattle.wasm_encode.specs.ReadsBack.{spot}
use Rattle.wasm_encode.specs.Sections.{IsReadBack, ItemsBack, content_bytes, items_bytes, placed_items}
use Rattle.wasm_encode.specs.Subsections.{PartFits, SubsectionsReadBack, subsections_bytes}
use Rattle.wasm_encode.specs.Subsections.{IsSubsection, ItemBack, ListBack, content_offset, content_window}
use Rattle.wasm_encode.specs.Subsections.{subsection_bytes}
use Rattle.wasm_encode.proofs.CopiedExpressions.{bytes_back}
use Rattle.wasm_encode.proofs.NumbersBack.{unsigned_at_spot}
use Rattle.wasm_encode.proofs.Readings.{Reads, same_spot}

-- a size and as many bytes
window_back : (features offset : ℕ) (content later : List ℕ) → length content < 2 ^ 32
    → window_at (spot features offset ((unsigned_bytes (length content) ++ content) ++ later))
    ≡ Ok (
      window_over features (offset + length (unsigned_bytes (length content))) content,
      spot features (offset + length (unsigned_bytes (length content) ++ content)) later,
    )
unfolding window_at
window_back features offset content later h =
    let size : List ℕ = unsigned_bytes (length content) in
    let there : ℕ = offset + length size in
    let e : there + length content ≡ offset + length (size ++ content) = omega (arith, length-append size content) in
    rw (
      append_assoc size content later,
      unsigned_at_spot VarU32 features offset (length content) (content ++ later) refl h,
      bytes_back features there content later,
    )
    (same_spot features (there + length content) (offset + length (size ++ content)) (window_over features there content) later e)

pub framed : (features offset id : ℕ) (content : List ℕ) → id < 128 → length content < 2 ^ 32 → IsSubsection features offset id content
unfolding subsection_at u7_at
framed features offset id content small h = record {
  read = λ later.
      let sized : List ℕ = unsigned_bytes (length content) ++ content in
      let e : offset + 1 + length sized ≡ offset + length (subsection_bytes id content) = omega arith in
      rw (lt-ltb id 128 small, window_back features (offset + 1) content later h)
      (same_spot features (offset + 1 + length sized) (offset + length (subsection_bytes id content))
      (id, content_window features offset content) later e);
}

pub item_back : {T : Type 0} (meaning : Place → Outcome T → Type 0) (features offset id : ℕ) (encoded : T → List ℕ)
    (is_allowed : ℕ → T → Type 0) (placed : ℕ → ℕ → T → T) (x : T) → id < 128 → length (encoded x) < 2 ^ 32
    → IsReadBack meaning encoded is_allowed placed x → is_allowed features x
    → ItemBack meaning features offset id encoded (placed features) x
item_back meaning features offset id encoded is_allowed placed x small h back allowed =
    let there : ℕ = content_offset offset (encoded x) in
    record {
      frame = framed features offset id (encoded x) small h;
      item = subst (λ (bytes : List ℕ).
          meaning (spot features there bytes) (Ok (placed features there x, spot features (there + length (encoded x)) [])))
          (append-nil (encoded x)) ((back features allowed).read there []);
    }

-- a window that is made of bytes begins with them
window_place : (features offset : ℕ) (content : List ℕ)
    → place (content_window features offset content) ≡ spot features (content_offset offset content) content
window_place features offset content =
    let e : content_offset offset content + 0 ≡ content_offset offset content = omega arith in
    ap (λ (k : ℕ). spot features k content) e

-- what a window is read as that is made of bytes
pub window_read : {A : Type 0} (reading : Place → Outcome A) (features offset : ℕ) (content : List ℕ) (x : A)
    → Reads reading features x content
    → reading (place (content_window features offset content))
    ≡ Ok (x, spot features (content_offset offset content + length content) [])
window_read reading features offset content x r =
    let there : ℕ = content_offset offset content in
    ap reading (window_place features offset content)
    ∙ subst (λ (bytes : List ℕ). reading (spot features there bytes) ≡ Ok (x, spot features (there + length content) []))
    (append-nil content) (r.at there [])

-- a window of a count and items is a section
pub section_read : {T : Type 0} (meaning : Place → Outcome T → Type 0) (features there : ℕ) (encoded : T → List ℕ) (placed : ℕ → T → T)
    (xs : List T) → ItemsBack meaning features there encoded placed xs
    → section_in (window_over features there (content_bytes encoded xs)) ≡ Ok (section_after
    (record (window_over features there (content_bytes encoded xs)) { position = length (unsigned_bytes (length xs)) }) (length xs))
unfolding section_in
section_read meaning features there encoded placed xs back =
    let size : ℕ = length (unsigned_bytes (length xs)) in
    let n : there + 0 ≡ there = omega arith in
    let d : 0 + (there + size - there) ≡ size = omega arith in
    rw (n, back.count) (rw d refl)

-- and its items are these
pub section_items : {T : Type 0} (meaning : Place → Outcome T → Type 0) (features there : ℕ) (encoded : T → List ℕ) (placed : ℕ → T → T)
    (xs : List T) → ItemsBack meaning features there encoded placed xs
    → ItemsOf meaning (length xs)
    (place (record (window_over features there (content_bytes encoded xs)) { position = length (unsigned_bytes (length xs)) }))
    (map as_read (placed_items encoded placed (there + length (unsigned_bytes (length xs))) xs))
section_items meaning features there encoded placed xs back =
    let size : List ℕ = unsigned_bytes (length xs) in
    subst (λ (bytes : List ℕ). ItemsOf meaning (length xs) (spot features (there + length size) bytes)
    (map as_read (placed_items encoded placed (there + length size) xs)))
    (sym (drop-append_seam size (items_bytes encoded xs))) back.items

pub list_back : {T : Type 0} (meaning : Place → Outcome T → Type 0) (features offset id : ℕ) (encoded : T → List ℕ) (placed : ℕ → T → T)
    (xs : List T) → id < 128 → length (content_bytes encoded xs) < 2 ^ 32
    → ItemsBack meaning features (content_offset offset (content_bytes encoded xs)) encoded placed xs
    → ListBack meaning features offset id encoded placed xs
list_back meaning features offset id encoded placed xs small h back =
    let there : ℕ = content_offset offset (content_bytes encoded xs) in
    record {
      frame = framed features offset id (content_bytes encoded xs) small h;
      section = section_read meaning features there encoded placed xs back;
      items = section_items meaning features there encoded placed xs back;
    }

-- ---- subsections one after the other

pub subsections_back : {T : Type 0} (meaning : ℕ → Window → Result T FaultAt → Type 0) → SubsectionsReadBack meaning
subsections_back meaning features offset [] [] fits = (λ h. tt, λ h. refl)
subsections_back meaning features offset [] (x ∷ xs) fits = (λ h. absurd (let some = h.0 in omega (arith, some)), λ h. absurd h)
subsections_back meaning features offset (part ∷ parts) [] fits = (λ h. absurd (omega (arith, h)), λ h. absurd h)
subsections_back {T} meaning features offset (part ∷ parts) (x ∷ xs) fits =
    let fit = All-head PartFits part parts fits in
    let after : ℕ = offset + length (subsection_bytes part.0 part.1) in
    let p : Place = spot features offset (subsection_bytes part.0 part.1 ++ subsections_bytes parts) in
    let e = (framed features offset part.0 part.1 fit.0 fit.1).read (subsections_bytes parts) in
    let more = subsections_back meaning features after parts xs (All-tail PartFits part parts fits) in
    let First = λ (o : Outcome (ℕ × Window)). FirstSubsection meaning p o x (λ q. SubsectionsOf meaning q xs) in (
      λ h. let first = subst First e h.1 in (first.0, more.0 first.1),
      λ h. (omega arith, subst First (sym e) (h.0, more.1 h.1)),
    )
