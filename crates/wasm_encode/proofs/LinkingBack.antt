-- The bytes of what a linker reads are read as it.
use Rattle.std.proofs.Common.{◌≡◌, ℕ, ◌+◌, ◌<◌, ◌^◌, List, [], ◌∷◌, ◌++◌, None, Some, Ok, append_assoc, arith, length}
use Rattle.std.proofs.Common.{length-append, refl}
use Rattle.std.proofs.lemmas.List.Elements.{All-cons, All-nil}
use Rattle.wasm_base.specs.Inner.{after_reading}
use Rattle.wasm_base.specs.Item.{ReadsAs}
use Rattle.wasm_base.specs.Leading.{in_table}
use Rattle.wasm_base.specs.Name.{name_limit, text_at}
use Rattle.wasm_base.specs.Number.{unsigned_at}
use Rattle.wasm_base.specs.Outcome.{Outcome, ◌>>=◌}
use Rattle.wasm_base.specs.Window.{Place}
use Rattle.wasm_base.specs.declared.fault.Lead.TheVariants as Leads
use Rattle.wasm_base.specs.declared.fault.NumberKind.TheVariants.{VarU32}
use Rattle.wasm_custom.specs.Linking.{SegmentParts, comdat_at, comdat_kind_at, comdat_kinds, comdat_parts, comdat_symbol_at}
use Rattle.wasm_custom.specs.Linking.{init_function_at, linking_subsection_in, listed, segment_at, segment_parts}
use Rattle.wasm_custom.specs.declared.linking.Comdat.{Comdat}
use Rattle.wasm_custom.specs.declared.linking.ComdatSymbol.{ComdatSymbol}
use Rattle.wasm_custom.specs.declared.linking.ComdatSymbolKind.{ComdatSymbolKind}
use Rattle.wasm_custom.specs.declared.linking.ComdatSymbolKind.TheVariants as Kinds
use Rattle.wasm_custom.specs.declared.linking.InitFunc.{InitFunc}
use Rattle.wasm_custom.specs.declared.linking.Segment.{Segment}
use Rattle.wasm_encode.specs.Linking.{ArchBack, LinkingReadsBack}
use Rattle.wasm_encode.specs.Linking.{ComdatFits, InitFunctionFits, SegmentFits, comdat_bytes, comdat_kind_byte, comdat_placed}
use Rattle.wasm_encode.specs.Linking.{comdat_symbol_bytes}
use Rattle.wasm_encode.specs.Linking.{init_function_bytes, segment_bytes}
use Rattle.wasm_encode.specs.Lists.{list_bytes}
use Rattle.wasm_encode.specs.Names.{NameFits, name_bytes}
use Rattle.wasm_encode.specs.Numbers.{unsigned_bytes}
use Rattle.wasm_encode.specs.ReadsBack.{Encodes}
use Rattle.wasm_encode.specs.Sections.{content_bytes}
use Rattle.wasm_encode.specs.Subsections.{ListReadsBack, content_section, content_window}
use Rattle.wasm_encode.proofs.CopiedExpressions.{unsigned}
use Rattle.wasm_encode.proofs.ImportsBack.{reads_u32}
use Rattle.wasm_encode.proofs.Lengths.{name_few}
use Rattle.wasm_encode.proofs.ListsBack.{copies_skip, copies_table, list_back}
use Rattle.wasm_encode.proofs.Moves.{Copies, in_turn, nothing}
use Rattle.wasm_encode.proofs.NamesBack.{reads_name, reads_text}
use Rattle.wasm_encode.proofs.NumbersBack.{unsigned_at_spot}
use Rattle.wasm_encode.proofs.Readings.{Reads, encodes_so, reads_as, reads_then, same_spot}
use Rattle.wasm_encode.proofs.SubsectionsBack.{framed, window_read}

reads_segment : (x : SegmentParts) (features : ℕ) → SegmentFits x → Reads segment_at features x (segment_bytes x)
unfolding segment_at segment_bytes
reads_segment x features h =
    reads_then (text_at None)
    (λ name p. unsigned_at VarU32 p >>= λ alignment. unsigned_at VarU32 alignment.1 >>= λ flags.
    Ok (record { name = name; alignment = alignment.0; flags = flags.0 }, flags.1))
    features x.name x (name_bytes x.name) (unsigned_bytes x.alignment ++ unsigned_bytes x.flags) (reads_text x.name features h.name)
    (reads_then (unsigned_at VarU32)
    (λ alignment p. unsigned_at VarU32 p >>= λ flags. Ok (record { name = x.name; alignment = alignment; flags = flags.0 }, flags.1))
    features x.alignment x (unsigned_bytes x.alignment) (unsigned_bytes x.flags) (reads_u32 x.alignment features h.alignment)
    (reads_as (unsigned_at VarU32) (λ flags. record { name = x.name; alignment = x.alignment; flags = flags }) features x.flags
    (unsigned_bytes x.flags) (reads_u32 x.flags features h.flags)))

pub segment_encodes : (x : Segment) (features : ℕ) → SegmentFits (segment_parts x)
    → Encodes (ReadsAs segment_parts segment_at) features (λ (offset : ℕ). x) (segment_bytes (segment_parts x))
segment_encodes x features h =
    encodes_so segment_parts segment_at features x (segment_bytes (segment_parts x)) (reads_segment (segment_parts x) features h)

reads_init_function : (x : InitFunc) (features : ℕ) → InitFunctionFits x → Reads init_function_at features x (init_function_bytes x)
unfolding init_function_at init_function_bytes
reads_init_function x features h =
    reads_then (unsigned_at VarU32)
    (λ priority p. unsigned_at VarU32 p >>= λ symbol. Ok (record { priority = priority; symbol_index = symbol.0 }, symbol.1))
    features x.priority x (unsigned_bytes x.priority) (unsigned_bytes x.symbol_index) (reads_u32 x.priority features h.priority)
    (reads_as (unsigned_at VarU32) (λ symbol. record { priority = x.priority; symbol_index = symbol }) features x.symbol_index
    (unsigned_bytes x.symbol_index) (reads_u32 x.symbol_index features h.symbol))

pub init_function_encodes : (x : InitFunc) (features : ℕ) → InitFunctionFits x
    → Encodes (ReadsAs (λ (y : InitFunc). y) init_function_at) features (λ (offset : ℕ). x) (init_function_bytes x)
init_function_encodes x features h =
    encodes_so (λ y. y) init_function_at features x (init_function_bytes x) (reads_init_function x features h)

reads_comdat_kind : (kind : ComdatSymbolKind) (features : ℕ) → Reads comdat_kind_at features kind (comdat_kind_byte kind ∷ [])
unfolding in_table
reads_comdat_kind Kinds.Data features = record { at = λ offset later. refl }
reads_comdat_kind Kinds.Func features = record { at = λ offset later. refl }
reads_comdat_kind Kinds.Global features = record { at = λ offset later. refl }
reads_comdat_kind Kinds.Event features = record { at = λ offset later. refl }
reads_comdat_kind Kinds.Table features = record { at = λ offset later. refl }
reads_comdat_kind Kinds.Section features = record { at = λ offset later. refl }

reads_comdat_symbol : (x : ComdatSymbol) (features : ℕ) → x.index < 2 ^ 32 → Reads comdat_symbol_at features x (comdat_symbol_bytes x)
unfolding comdat_symbol_at comdat_symbol_bytes
reads_comdat_symbol x features h =
    reads_then comdat_kind_at
    (λ kind p. unsigned_at VarU32 p >>= λ index. Ok (record { kind = kind; index = index.0 }, index.1))
    features x.kind x (comdat_kind_byte x.kind ∷ []) (unsigned_bytes x.index) (reads_comdat_kind x.kind features)
    (reads_as (unsigned_at VarU32) (λ index. record { kind = x.kind; index = index }) features x.index (unsigned_bytes x.index)
    (reads_u32 x.index features h))

pub comdat_symbol_encodes : (x : ComdatSymbol) (features : ℕ) → x.index < 2 ^ 32
    → Encodes (ReadsAs (λ (y : ComdatSymbol). y) comdat_symbol_at) features (λ (offset : ℕ). x) (comdat_symbol_bytes x)
comdat_symbol_encodes x features h =
    encodes_so (λ y. y) comdat_symbol_at features x (comdat_symbol_bytes x) (reads_comdat_symbol x features h)

copies_comdat_symbol : Copies (λ start. comdat_symbol_at)
unfolding comdat_symbol_at
copies_comdat_symbol = in_turn (λ s. comdat_kind_at)
    (λ s kind p. unsigned_at VarU32 p >>= λ index. Ok (record { kind = kind; index = index.0 }, index.1))
    (copies_table Leads.ComdatSymbol comdat_kinds)
    (λ kind. in_turn (λ s. unsigned_at VarU32) (λ s index p. Ok (record { kind = kind; index = index }, p)) (unsigned VarU32)
    (λ index. nothing (record { kind = kind; index = index })))

pub comdat_encodes : (x : Comdat) (features : ℕ) → ComdatFits (comdat_parts x)
    → Encodes (ReadsAs comdat_parts comdat_at) features (λ (offset : ℕ). comdat_placed features offset x) (comdat_bytes (comdat_parts x))
unfolding comdat_at comdat_bytes
comdat_encodes x features h = record {
  read = λ offset later.
      let name : List ℕ = name_bytes x.name.now in
      let flags : List ℕ = unsigned_bytes x.flags in
      let symbols : List ℕ = list_bytes x.symbols in
      let there : ℕ = offset + length name + length flags in
      let e : there + length symbols ≡ offset + length (name ++ (flags ++ symbols)) =
      omega (arith, length-append name (flags ++ symbols), length-append flags symbols) in
      rw (
        append_assoc name (flags ++ symbols) later,
        append_assoc flags symbols later,
        (reads_text x.name.now features h.name).at offset (flags ++ (symbols ++ later)),
        unsigned_at_spot VarU32 features (offset + length name) x.flags (symbols ++ later) refl h.flags,
        list_back (after_reading comdat_symbol_at) (copies_skip comdat_symbol_at copies_comdat_symbol) x.symbols features there later
            h.symbols,
      )
      (same_spot features (there + length symbols) (offset + length (name ++ (flags ++ symbols)))
      (comdat_parts (comdat_placed features offset x)) later e);
}

-- ---- subsections

pub linking_back : {T : Type 0} (meaning : Place → Outcome T → Type 0) (is_allowed : ℕ → T → Type 0) (encoded : T → List ℕ)
    (placed : ℕ → ℕ → T → T) (xs : List T) → ListReadsBack meaning is_allowed encoded placed xs
    → LinkingReadsBack meaning is_allowed encoded placed xs
unfolding linking_subsection_in
linking_back meaning is_allowed encoded placed xs back features offset allowed =
    let section = (back features offset 5 (omega arith) allowed).section in
    let P = λ (id : ℕ). linking_subsection_in id (content_window features offset (content_bytes encoded xs))
    ≡ Ok (listed id (content_section features offset encoded xs)) in
    record {
      list = λ id small. back features offset id small allowed;
      read = All-cons P 5 (6 ∷ 7 ∷ 8 ∷ []) (rw section refl)
          (All-cons P 6 (7 ∷ 8 ∷ []) (rw section refl)
          (All-cons P 7 (8 ∷ []) (rw section refl)
          (All-cons P 8 [] (rw section refl) (All-nil P))));
    }

pub arch_back : (name : List ℕ) (features offset : ℕ) → NameFits name → ArchBack features offset name
unfolding linking_subsection_in
arch_back name features offset h =
    let fewer = name_few name h in
    let few : length (name_bytes name) < 2 ^ 32 = omega (arith, fewer) in
    record {
      frame = framed features offset 9 (name_bytes name) (omega arith) few;
      read = rw (window_read (text_at (Some name_limit)) features offset (name_bytes name) name (reads_name name features h)) refl;
    }
