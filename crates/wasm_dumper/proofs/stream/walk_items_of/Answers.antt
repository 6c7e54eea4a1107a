use Rattle.wasm_dumper.proofs.Common.{Functions, Tables, Memories, Tags, Globals, DataSegments, VarU32, ap, sym, unsigned_at}
use Rattle.wasm_dumper.proofs.Walked.{after_count, custom_is, imports_after_count, numbered_after_count}
use Rattle.wasm_dumper.specs.Walks.{element_reading, group_reading}
use Rattle.wasm_items.specs.Data.{data_at}
use Rattle.wasm_items.specs.Exports.{export_at}
use Rattle.wasm_items.specs.Globals.{global_at}
use Rattle.wasm_items.specs.Memories.{memory_type_at}
use Rattle.wasm_items.specs.Tables.{table_at}
use Rattle.wasm_items.specs.Tags.{tag_type_at}
use Rattle.wasm_show.specs.Lists.{custom_seen, never_lists, plainly, unnumbered}
use Rattle.wasm_show.proofs.ForCallers.{readings_agree, sees_same}
use Rattle.wasm_dumper.proofs.stream.walk_items_of.Goals as goal

pub returns-in-CustomSection : goal.returns-in-CustomSection
returns-in-CustomSection g c begins = rw c.in-CustomSection.is (sees_same g.W.Walker.saw g.W.Walker.why _ _ _ _
    (ap (custom_seen g.W.Walker.IS_DEEP 1) (sym (custom_is c.in-CustomSection.section))) c.walk_custom.ensures)

pub returns-in-TypeSection : goal.returns-in-TypeSection
returns-in-TypeSection g c begins = rw c.in-TypeSection.is (sees_same g.W.Walker.saw g.W.Walker.why _ _ _ _
    (after_count group_reading 0 c.in-TypeSection.section (rw c.in-TypeSection.is at begins)) c.walk_groups.ensures)

pub returns-in-ImportSection : goal.returns-in-ImportSection
returns-in-ImportSection g c begins = rw c.in-ImportSection.is (sees_same g.W.Walker.saw g.W.Walker.why _ _ _ _
    (imports_after_count 1 c.args.counts.now c.in-ImportSection.section (rw c.in-ImportSection.is at begins)) c.walk_imports.ensures)

pub returns-in-ExportSection : goal.returns-in-ExportSection
returns-in-ExportSection g c begins =
    let deep = g.W.Walker.IS_DEEP in
    let reading = plainly deep 1 export_at in
    rw c.in-ExportSection.is (sees_same g.W.Walker.saw g.W.Walker.why _ _ _ _
    (after_count reading tt c.in-ExportSection.section (rw c.in-ExportSection.is at begins))
    (c.walk_section.ensures reading (readings_agree unnumbered (never_lists deep) deep 1 _ export_at)))

pub returns-in-ElementSection : goal.returns-in-ElementSection
returns-in-ElementSection g c begins = rw c.in-ElementSection.is (sees_same g.W.Walker.saw g.W.Walker.why _ _ _ _
    (after_count (element_reading g.W.Walker.IS_DEEP 1) 0 c.in-ElementSection.section (rw c.in-ElementSection.is at begins))
    c.walk_segments.ensures)

pub returns-in-FunctionSection : goal.returns-in-FunctionSection
returns-in-FunctionSection g c begins = rw c.in-FunctionSection.is (numbered_after_count _ (unsigned_at VarU32) g.W.Walker.saw
    g.W.Walker.why g.W.Walker.IS_DEEP Functions _ c.in-FunctionSection.section (rw c.in-FunctionSection.is at begins)
    _ _ c.walk_numbered.ensures)

pub returns-in-TableSection : goal.returns-in-TableSection
returns-in-TableSection g c begins = rw c.in-TableSection.is (numbered_after_count _ table_at g.W.Walker.saw g.W.Walker.why
    g.W.Walker.IS_DEEP Tables _ c.in-TableSection.section (rw c.in-TableSection.is at begins)
    _ _ c.walk_numbered-in-TableSection.ensures)

pub returns-in-MemorySection : goal.returns-in-MemorySection
returns-in-MemorySection g c begins = rw c.in-MemorySection.is (numbered_after_count _ memory_type_at g.W.Walker.saw g.W.Walker.why
    g.W.Walker.IS_DEEP Memories _ c.in-MemorySection.section (rw c.in-MemorySection.is at begins)
    _ _ c.walk_numbered-in-MemorySection.ensures)

pub returns-in-TagSection : goal.returns-in-TagSection
returns-in-TagSection g c begins = rw c.in-TagSection.is (numbered_after_count _ tag_type_at g.W.Walker.saw g.W.Walker.why
    g.W.Walker.IS_DEEP Tags _ c.in-TagSection.section (rw c.in-TagSection.is at begins)
    _ _ c.walk_numbered-in-TagSection.ensures)

pub returns-in-GlobalSection : goal.returns-in-GlobalSection
returns-in-GlobalSection g c begins = rw c.in-GlobalSection.is (numbered_after_count _ global_at g.W.Walker.saw g.W.Walker.why
    g.W.Walker.IS_DEEP Globals _ c.in-GlobalSection.section (rw c.in-GlobalSection.is at begins)
    _ _ c.walk_numbered-in-GlobalSection.ensures)

pub returns-in-DataSection : goal.returns-in-DataSection
returns-in-DataSection g c begins = rw c.in-DataSection.is (numbered_after_count _ data_at g.W.Walker.saw g.W.Walker.why
    g.W.Walker.IS_DEEP DataSegments _ c.in-DataSection.section (rw c.in-DataSection.is at begins)
    _ _ c.walk_numbered-in-DataSection.ensures)
