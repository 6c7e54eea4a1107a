-- The items of payloads. Core specification, Binary format, Modules, from Type Section to Tag Section.
use Rattle.std.specs.Prelude.{◌≡◌, ℕ, true, List, map, Option, Result, Ok}
use Rattle.std.specs.Option.{is_some}
use Rattle.std.specs.Iterator.{Drains}
use Rattle.wasm_base.specs.Item.{ReadsAs}
use Rattle.wasm_base.specs.Number.{unsigned_at}
use Rattle.wasm_base.specs.Outcome.{Outcome}
use Rattle.wasm_base.specs.Owned.{UnlessMemory}
use Rattle.wasm_base.specs.Section.{Section, Items, all_items, AtItsOffset, ItemsOf, item_or_fault}
use Rattle.wasm_base.specs.Window.{Window, Place, place}
use Rattle.wasm_base.specs.declared.error.Error.{Error}
use Rattle.wasm_base.specs.declared.fault.NumberKind.TheVariants.{VarU32}
use Rattle.wasm_items.specs.Data.{data_parts, data_at}
use Rattle.wasm_items.specs.Elements.{element_at}
use Rattle.wasm_items.specs.Exports.{export_parts, export_at}
use Rattle.wasm_items.specs.Globals.{global_at}
use Rattle.wasm_items.specs.RecGroups.{rec_group_parts, rec_group_at}
use Rattle.wasm_items.specs.Imports.{bundle_parts, bundle_at}
use Rattle.wasm_items.specs.Memories.{memory_type_at}
use Rattle.wasm_items.specs.Tables.{table_at}
use Rattle.wasm_items.specs.Tags.{tag_type_at}
use Rattle.wasm_items.specs.declared.data.Data.{Data}
use Rattle.wasm_items.specs.declared.elements.Element.{Element}
use Rattle.wasm_items.specs.declared.exports.Export.{Export}
use Rattle.wasm_items.specs.declared.globals.Global.{Global}
use Rattle.wasm_items.specs.declared.imports.Imports.{Imports}
use Rattle.wasm_items.specs.declared.tables.Table.{Table}
use Rattle.wasm_items.specs.declared.types.MemoryType.{MemoryType}
use Rattle.wasm_items.specs.declared.types.RecGroup.{RecGroup}
use Rattle.wasm_items.specs.declared.types.TagType.{TagType}
use Rattle.wasm_parser.specs.ParseAnswer.{IsPayload, items_in}
use Rattle.wasm_grammar.specs.Reading.{counted}
use Rattle.wasm_parser.specs.declared.payload.Payload.{Payload}
use Rattle.wasm_parser.specs.declared.payload.Payload.TheVariants.{TypeSection, ImportSection, FunctionSection}
use Rattle.wasm_parser.specs.declared.payload.Payload.TheVariants.{TableSection, MemorySection, TagSection}
use Rattle.wasm_parser.specs.declared.payload.Payload.TheVariants.{GlobalSection, ExportSection, ElementSection}
use Rattle.wasm_parser.specs.declared.payload.Payload.TheVariants.{DataSection}

-- what one call of `next` may return for items of this type
abbrev pub NextOf : Type 0 → Type 1
NextOf T = Items → Option (Result T Error) → Items → Type 0

-- Calls of `next` on the items of the section, up to the first `None`, return the items that the window has after its
-- count.
abbrev pub GivesWindow : {T : Type 0} → NextOf T → (Place → Outcome T → Type 0) → (count : ℕ) → Window → Section
    → Type 0
GivesWindow {T} next meaning count w s = (given : List (Result T Error)) → Drains next (all_items s) given
    → (q : Place) × (unsigned_at VarU32 (place w) ≡ Ok (count, q)) × ItemsOf meaning count q (map item_or_fault given)

-- | the items of a payload are those of its window, after its count, each at its offset in the stream [`GivesWindow`,
--   and one for each kind, from `GivesTypes` to `GivesData`] <Modules, Type Section to Tag Section>
-- A payload of this kind, for which a count and a window are reported, yields the items of that window, by the grammar
-- of its kind of section.
abbrev pub GivesItsItems : {T : Type 0} → (Section → Payload) → NextOf T → (Place → Outcome T → Type 0) → Type 0
GivesItsItems payload_of next meaning = (id count : ℕ) (w : Window) (s : Section)
    → IsPayload (counted id count w) (payload_of s) → GivesWindow next meaning count w s

-- of types, which own lists: `OutOfMemory` may come in place of any outcome
abbrev pub GivesTypes : NextOf RecGroup → Type 0
GivesTypes next = GivesItsItems TypeSection next (UnlessMemory (ReadsAs rec_group_parts rec_group_at))

-- of all others, each at its offset in the stream
abbrev pub GivesImports : NextOf (ℕ × Imports) → Type 0
GivesImports next = GivesItsItems ImportSection next (AtItsOffset (ReadsAs bundle_parts bundle_at))

abbrev pub GivesFunctions : NextOf (ℕ × ℕ) → Type 0
GivesFunctions next =
    GivesItsItems FunctionSection next (AtItsOffset (ReadsAs (λ index. index) (unsigned_at VarU32)))

abbrev pub GivesTables : NextOf (ℕ × Table) → Type 0
GivesTables next = GivesItsItems TableSection next (AtItsOffset (ReadsAs (λ table. table) table_at))

abbrev pub GivesMemories : NextOf (ℕ × MemoryType) → Type 0
GivesMemories next = GivesItsItems MemorySection next (AtItsOffset (ReadsAs (λ memory. memory) memory_type_at))

abbrev pub GivesTags : NextOf (ℕ × TagType) → Type 0
GivesTags next = GivesItsItems TagSection next (AtItsOffset (ReadsAs (λ tag. tag) tag_type_at))

abbrev pub GivesGlobals : NextOf (ℕ × Global) → Type 0
GivesGlobals next = GivesItsItems GlobalSection next (AtItsOffset (ReadsAs (λ global. global) global_at))

abbrev pub GivesExports : NextOf (ℕ × Export) → Type 0
GivesExports next = GivesItsItems ExportSection next (AtItsOffset (ReadsAs export_parts export_at))

abbrev pub GivesElements : NextOf (ℕ × Element) → Type 0
GivesElements next = GivesItsItems ElementSection next (AtItsOffset (ReadsAs (λ element. element) element_at))

abbrev pub GivesData : NextOf (ℕ × Data) → Type 0
GivesData next = GivesItsItems DataSection next (AtItsOffset (ReadsAs data_parts data_at))

-- No payload but these is reported with a count of items and a window.
abbrev pub NoOthersAreCounted : Type 0
NoOthersAreCounted = (id count : ℕ) (w : Window) (payload : Payload) → IsPayload (counted id count w) payload
    → is_some (items_in payload) ≡ true
