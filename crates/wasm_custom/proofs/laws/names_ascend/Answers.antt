use Rattle.std.proofs.Common.{false}
use Rattle.wasm_base.specs.Item.{ReadsAs}
use Rattle.wasm_base.specs.Section.{NextItem}
use Rattle.wasm_base.specs.Subsections.{NextSubsection, ReadsWindowAs}
use Rattle.wasm_base.specs.declared.fault.Fault.TheVariants.{IndirectOrder, NameSectionOrder, NamesOrder}
use Rattle.wasm_base.proofs.Runs.{runs_give_items}
use Rattle.wasm_base.proofs.SubsectionRuns.{runs_give_subsections}
use Rattle.wasm_custom.specs.Names.{naming_parts, naming_at, indirect_naming_at, name_parts, name_in, id_of, index_of, index_of_indirect}
use Rattle.wasm_custom.specs.Names.{offset_of_entry, offset_of_subsection}
use Rattle.wasm_custom.specs.declared.names.IndirectNaming.{IndirectNaming}
use Rattle.wasm_custom.proofs.Ascends.{gives_ascending}
use Rattle.wasm_custom.proofs.laws.names_ascend.Goals as goal

pub returns-clause-names : goal.returns-clause-names
returns-clause-names c =
    gives_ascending (NextItem (ReadsAs naming_parts naming_at)) offset_of_entry index_of NamesOrder
    (λ s. (runs_give_items (ReadsAs naming_parts naming_at) s).after)

pub returns-clause-indirect : goal.returns-clause-indirect
returns-clause-indirect c =
    gives_ascending (NextItem (ReadsAs (λ (n : IndirectNaming). n) indirect_naming_at)) offset_of_entry index_of_indirect IndirectOrder
    (λ s. (runs_give_items (ReadsAs (λ (n : IndirectNaming). n) indirect_naming_at) s).after)

pub returns-clause-subsections : goal.returns-clause-subsections
returns-clause-subsections c =
    gives_ascending (NextSubsection (ReadsWindowAs name_parts name_in) false) offset_of_subsection id_of NameSectionOrder
    (λ s. (runs_give_subsections (ReadsWindowAs name_parts name_in) false s).after)
