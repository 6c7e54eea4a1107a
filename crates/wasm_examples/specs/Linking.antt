-- What a linker fills in: the relocations of a module, with what they name and where they are. Tool conventions,
-- Linking.
use Rattle.std.specs.declared.ops.Range.{Range}
use Rattle.std.specs.List.{starts_with}
use Rattle.std.specs.Prelude.{ℕ, ◌+◌, List, [], ◌∷◌, ◌++◌, map, option_map, slice_get}
use Rattle.std.specs.Prelude.{nat_le, nat_eq, codes, bytes_eq, Option, Some, None, Result, Ok, Err}
use Rattle.std.specs.Prelude.{if◌then◌else◌}
use Rattle.wasm_base.specs.FaultAt.{FaultAt}
use Rattle.wasm_base.specs.Outcome.{◌>>=◌}
use Rattle.wasm_base.specs.Section.{Section}
use Rattle.wasm_base.specs.Window.{Window, place, whole_window}
use Rattle.wasm_base.specs.declared.error.Error.{Error}
use Rattle.wasm_custom.specs.Linking.{SymbolParts, symbol_parts, symbol_at, LinkingParts, listed, LinkingSection}
use Rattle.wasm_custom.specs.Linking.{linking_subsection_in, linking_in}
use Rattle.wasm_custom.specs.Reloc.{number_of, relocated_range, relocation_at, reloc_section_in}
use Rattle.wasm_custom.specs.declared.reloc.RelocationEntry.{RelocationEntry}
use Rattle.wasm_custom.specs.declared.reloc.RelocSectionReader.{RelocSectionReader}
use Rattle.wasm_grammar.specs.Content.{fault}
use Rattle.wasm_grammar.specs.Reading.{Report, custom_section, stream_end}
use Rattle.wasm_grammar.specs.Sections.{section_of}
use Rattle.wasm_examples.specs.Customs.{data_place}
use Rattle.wasm_examples.specs.Folding.{IsFold, items_at, subsections_at, with_each, after_each}
use Rattle.wasm_examples.specs.declared.linking.Fixup.{Fixup}
use Rattle.wasm_examples.specs.declared.linking.Linked.{Linked}

-- ---- the parts so far

-- a relocation, with the symbol that it names and the offsets of the bytes that it fills in
pub record FixupParts : Type 0 where
  pub entry : RelocationEntry
  pub symbol : Option SymbolParts
  pub range : Option (Range ℕ)

abbrev pub fixup_parts : Fixup → FixupParts
fixup_parts f = record { entry = f.entry; symbol = option_map symbol_parts f.symbol; range = f.range }

-- where the contents of sections are, the symbols, and the relocations
pub record LinkedParts : Type 0 where
  pub sections : List (Range ℕ)
  pub symbols : List SymbolParts
  pub fixups : List FixupParts

abbrev pub linked_parts : Linked → LinkedParts
linked_parts m = record {
  sections = m.sections.items;
  symbols = map symbol_parts m.symbols.items;
  fixups = map fixup_parts m.fixups.items;
}

-- nothing
abbrev pub no_parts : LinkedParts
no_parts = record { sections = []; symbols = []; fixups = [] }

-- ---- one relocation

-- the symbol of its index, if there is one; the index of type 6 is a type's
abbrev pub symbol_of : List SymbolParts → RelocationEntry → Option SymbolParts
symbol_of symbols entry = if nat_eq (number_of entry.ty) 6 then None else slice_get symbols entry.index

-- the offsets of what it fills in, if the section has these bytes
abbrev pub filled_in : Range ℕ → RelocationEntry → Option (Range ℕ)
filled_in section entry =
    if nat_le (section.start + (relocated_range entry).end) section.end
    then Some (record {
      start = section.start + (relocated_range entry).start;
      end = section.start + (relocated_range entry).end;
    })
    else None

-- the same of a section that may be missing
abbrev pub filled_if_there : Option (Range ℕ) → RelocationEntry → Option (Range ℕ)
filled_if_there (Some section) entry = filled_in section entry
filled_if_there None entry = None

-- with what it names and fills in, of the parts before it
abbrev pub fixup_of : LinkedParts → (section : ℕ) → RelocationEntry → FixupParts
fixup_of m section entry = record {
  entry = entry;
  symbol = symbol_of m.symbols entry;
  range = filled_if_there (slice_get m.sections section) entry;
}

-- ---- one part more

abbrev pub with_symbol : LinkedParts → SymbolParts → LinkedParts
with_symbol m symbol = record m { symbols = m.symbols ++ symbol ∷ [] }

abbrev pub with_symbols : LinkedParts → Section → Result LinkedParts FaultAt
with_symbols m s = with_each with_symbol m (items_at symbol_at s.count (place s.reader))

-- a subsection: symbols have the id 8
abbrev pub with_subsection : LinkedParts → LinkingParts → Result LinkedParts FaultAt
with_subsection m (listed id section) = if nat_eq id 8 then with_symbols m section else Ok m
with_subsection m other = Ok m

-- the section for linkers
abbrev pub with_linking : LinkedParts → LinkingSection → Result LinkedParts FaultAt
with_linking m s = after_each (λ f. f) with_subsection m (subsections_at linking_subsection_in (place s.subsections))

abbrev pub with_relocation : (section : ℕ) → LinkedParts → RelocationEntry → LinkedParts
with_relocation section m entry = record m { fixups = m.fixups ++ fixup_of m section entry ∷ [] }

-- a section of relocations
abbrev pub with_relocations : LinkedParts → RelocSectionReader → Result LinkedParts FaultAt
with_relocations m s =
    with_each (with_relocation s.section) m (items_at relocation_at s.entries.count (place s.entries.reader))

-- a custom section, by its name
abbrev pub with_custom : LinkedParts → (name : List ℕ) → Window → Result LinkedParts FaultAt
with_custom m name w =
    if bytes_eq name (codes "linking") then linking_in w >>= (λ s. with_linking m s)
    else if starts_with nat_eq name (codes "reloc.") then reloc_section_in w >>= (λ s. with_relocations m s)
    else Ok m

-- where a section's content is, if this is one
abbrev pub with_section : LinkedParts → Option (ℕ × Range ℕ) → LinkedParts
with_section m (Some s) = record m { sections = m.sections ++ s.1 ∷ [] }
with_section m None = m

-- what a part of the module has for linkers, if it is a custom section; the stream's fault ends all
abbrev pub with_if_custom : LinkedParts → Report → Result LinkedParts FaultAt
with_if_custom m (custom_section name data_offset window) =
    with_custom m name (whole_window (data_place window data_offset))
with_if_custom m (stream_end (fault f)) = Err f
with_if_custom m other = Ok m

-- | the relocations of a module, with the symbols that they name and the bytes that they patch [`fixup_of`,
--   `IsLinked`] <tool conventions, Linking>
-- what a part of the module adds: a section, and what it has for linkers
abbrev pub linked : LinkedParts → Report → Result LinkedParts FaultAt
linked m report = with_if_custom (with_section m (section_of report)) report

-- ---- what calls return

-- This is what a linker fills in of the module that the stream is, by its reading with all features from offset 0; or
-- the module has this fault; or memory was refused.
abbrev pub IsLinked : List ℕ → Result Linked Error → Type 0
IsLinked = IsFold linked_parts linked no_parts
