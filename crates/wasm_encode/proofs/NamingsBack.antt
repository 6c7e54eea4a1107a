-- The bytes of names are read as the names.
use Rattle.std.proofs.Common.{◌≡◌, ℕ, ◌+◌, ◌<◌, ◌^◌, List, [], ◌∷◌, ◌++◌, None, Ok, Some, ap, append_assoc, arith}
use Rattle.std.proofs.Common.{length, length-append, map, refl, subst}
use Rattle.std.proofs.lemmas.List.Elements.{All-cons, All-nil}
use Rattle.wasm_base.specs.Ascending.{NextAscending, none_given}
use Rattle.wasm_base.specs.Ending.{end_at}
use Rattle.wasm_base.specs.Item.{ReadsAs}
use Rattle.wasm_base.specs.Name.{name_limit, text_at}
use Rattle.wasm_base.specs.Number.{unsigned_at}
use Rattle.wasm_base.specs.Outcome.{◌>>=◌}
use Rattle.wasm_base.specs.Section.{ItemsOf, NextItem, all_items, as_read}
use Rattle.wasm_base.specs.Skip.{skipped_name_at}
use Rattle.wasm_base.specs.Window.{place}
use Rattle.wasm_base.specs.declared.fault.Fault.TheVariants.{NamesOrder}
use Rattle.wasm_base.specs.declared.fault.NumberKind.TheVariants.{VarU32}
use Rattle.wasm_custom.specs.Names.{NamingParts, direct, entries_in, indirect_naming_at, module_name_in, name_in}
use Rattle.wasm_custom.specs.Names.{index_of, naming_at, naming_parts, offset_of_entry, skipped_naming_at}
use Rattle.wasm_custom.specs.declared.names.IndirectNaming.{IndirectNaming}
use Rattle.wasm_custom.specs.declared.names.Naming.{Naming}
use Rattle.wasm_encode.specs.Lists.{list_bytes}
use Rattle.wasm_encode.specs.Names.{NameFits, name_bytes}
use Rattle.wasm_encode.specs.Namings.{IndirectFits, MapBack, ModuleNameBack, NamingFits, indirect_bytes, indirect_placed}
use Rattle.wasm_encode.specs.Namings.{map_content, map_section, names_of, naming_bytes}
use Rattle.wasm_encode.specs.Numbers.{unsigned_bytes}
use Rattle.wasm_encode.specs.ReadsBack.{Encodes}
use Rattle.wasm_encode.specs.Sections.{placed_items}
use Rattle.wasm_encode.specs.Subsections.{ListReadsBack, content_offset, content_window, items_offset}
use Rattle.wasm_encode.proofs.CopiedExpressions.{unsigned}
use Rattle.wasm_encode.proofs.ImportsBack.{reads_u32}
use Rattle.wasm_encode.proofs.Lengths.{name_few}
use Rattle.wasm_encode.proofs.ListsBack.{copies_name, list_back}
use Rattle.wasm_encode.proofs.Moves.{Copies, in_turn}
use Rattle.wasm_encode.proofs.NameMapsBack.{run}
use Rattle.wasm_encode.proofs.NamesBack.{reads_name, reads_text}
use Rattle.wasm_encode.proofs.NumbersBack.{unsigned_at_spot}
use Rattle.wasm_encode.proofs.Readings.{Reads, encodes_so, reads_as, reads_then, same_spot}
use Rattle.wasm_encode.proofs.SubsectionsBack.{framed, window_read}

reads_naming : (n : NamingParts) (features : ℕ) → NamingFits n → Reads naming_at features n (naming_bytes n)
unfolding naming_at naming_bytes
reads_naming n features h =
    reads_then (unsigned_at VarU32)
    (λ index p. text_at None p >>= λ name. Ok (record { index = index; name = name.0 }, name.1))
    features n.index n (unsigned_bytes n.index) (name_bytes n.name) (reads_u32 n.index features h.index)
    (reads_as (text_at None) (λ name. record { index = n.index; name = name }) features n.name (name_bytes n.name)
    (reads_text n.name features h.name))

pub naming_encodes : (n : Naming) (features : ℕ) → NamingFits (naming_parts n)
    → Encodes (ReadsAs naming_parts naming_at) features (λ (offset : ℕ). n) (naming_bytes (naming_parts n))
naming_encodes n features h =
    encodes_so naming_parts naming_at features n (naming_bytes (naming_parts n)) (reads_naming (naming_parts n) features h)

-- ---- entries of indirect name maps

copies_naming : Copies (λ start. skipped_naming_at)
unfolding skipped_naming_at
copies_naming = in_turn (λ s. unsigned_at VarU32) (λ s index p. skipped_name_at p) (unsigned VarU32) (λ index. copies_name)

pub indirect_encodes : (x : IndirectNaming) (features : ℕ) → IndirectFits x
    → Encodes (ReadsAs (λ (y : IndirectNaming). y) indirect_naming_at) features (λ (offset : ℕ). indirect_placed features offset x)
    (indirect_bytes x)
unfolding indirect_naming_at indirect_bytes
indirect_encodes x features h = record {
  read = λ offset later.
      let index : List ℕ = unsigned_bytes x.index in
      let names : List ℕ = list_bytes (names_of x) in
      let there : ℕ = offset + length index in
      let e : there + length names ≡ offset + length (index ++ names) = omega (arith, length-append index names) in
      rw (
        append_assoc index names later,
        unsigned_at_spot VarU32 features offset x.index (names ++ later) refl h.index,
        list_back skipped_naming_at copies_naming (names_of x) features there later h.names,
      )
      (same_spot features (there + length names) (offset + length (index ++ names)) (indirect_placed features offset x) later e);
}

-- ---- the name of a module

pub module_name_back : (text : List ℕ) (features offset : ℕ) → NameFits text → ModuleNameBack features offset text
unfolding name_in module_name_in end_at
module_name_back text features offset h =
    let content : List ℕ = name_bytes text in
    let fewer = name_few text h in
    let few : length content < 2 ^ 32 = omega (arith, fewer) in
    let e : content_offset offset content + 0 ≡ content_offset offset content = omega arith in
    record {
      frame = framed features offset 0 content (omega arith) few;
      name = rw (window_read (text_at (Some name_limit)) features offset content text (reads_name text features h)) (rw e refl);
    }

-- ---- name maps

abbrev encoded : Naming → List ℕ
encoded x = naming_bytes (naming_parts x)

-- Entries are read as they are, wherever they are.
same_entries : (offset : ℕ) (xs : List Naming) → placed_items encoded (λ (o : ℕ) x. x) offset xs ≡ xs
same_entries offset [] = refl
same_entries offset (x ∷ xs) = ap (λ (ys : List Naming). x ∷ ys) (same_entries (offset + length (encoded x)) xs)

pub map_back : (xs : List Naming) (features offset : ℕ)
    → ListReadsBack (ReadsAs naming_parts naming_at) (λ (f : ℕ) (x : Naming). Unit {0}) encoded (λ (f o : ℕ) (x : Naming). x) xs
    → MapBack (NextAscending (NextItem (ReadsAs naming_parts naming_at)) offset_of_entry index_of NamesOrder) features offset xs
unfolding name_in entries_in
map_back xs features offset back =
    let one = back features offset 1 (omega arith) (λ k d h. tt) in
    let section = one.section in
    let P = λ (id : ℕ). name_in id (content_window features offset (map_content xs))
    ≡ Ok (direct id (none_given (all_items (map_section features offset xs)))) in
    let listed : ItemsOf (ReadsAs naming_parts naming_at) (length xs) (place (map_section features offset xs).reader) (map as_read xs) =
    subst (λ (ys : List Naming). ItemsOf (ReadsAs naming_parts naming_at) (length xs) (place (map_section features offset xs).reader)
    (map as_read ys)) (same_entries (items_offset offset encoded xs) xs) one.items in
    record {
      frame = λ id small. (back features offset id small (λ k d h. tt)).frame;
      maps = All-cons P 1 (4 ∷ 5 ∷ 6 ∷ 7 ∷ 8 ∷ 9 ∷ 11 ∷ []) (rw section refl)
          (All-cons P 4 (5 ∷ 6 ∷ 7 ∷ 8 ∷ 9 ∷ 11 ∷ []) (rw section refl)
          (All-cons P 5 (6 ∷ 7 ∷ 8 ∷ 9 ∷ 11 ∷ []) (rw section refl)
          (All-cons P 6 (7 ∷ 8 ∷ 9 ∷ 11 ∷ []) (rw section refl)
          (All-cons P 7 (8 ∷ 9 ∷ 11 ∷ []) (rw section refl)
          (All-cons P 8 (9 ∷ 11 ∷ []) (rw section refl)
          (All-cons P 9 (11 ∷ []) (rw section refl)
          (All-cons P 11 [] (rw section refl) (All-nil P))))))));
      entries = listed;
      given = λ ascends given drains. run naming_parts naming_at offset_of_entry index_of (λ (n : NamingParts). n.index) NamesOrder
          (λ x. refl) xs (none_given (all_items (map_section features offset xs))) drains.1.0 drains.0 given refl refl listed ascends
          drains.1.1 drains.1.2;
    }
