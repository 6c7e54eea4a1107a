use Rattle.wasm_base.proofs.OneOutcome.{reads_as_one, reads_determine}
use Rattle.wasm_items.specs.Data.{data_parts, data_at}
use Rattle.wasm_items.specs.Elements.{element_at}
use Rattle.wasm_items.specs.RecGroups.{storage_type_at, field_type_at, function_parts, func_type_at, composite_parts, composite_type_at}
use Rattle.wasm_items.specs.RecGroups.{subtype_parts, subtype_at, rec_group_parts, rec_group_at}
use Rattle.wasm_items.specs.TypeHeads.{group_head_at, subtype_head_at}
use Rattle.wasm_items.proofs.laws.segments_and_types_allow_one_outcome.Goals as goal

pub returns-clause-element : goal.returns-clause-element
returns-clause-element c = (reads_as_one (λ element. element) element_at, reads_determine element_at)

pub returns-clause-segment : goal.returns-clause-segment
returns-clause-segment c = reads_as_one data_parts data_at

pub returns-clause-storage : goal.returns-clause-storage
returns-clause-storage c = (reads_as_one (λ storage. storage) storage_type_at, reads_determine storage_type_at)

pub returns-clause-field : goal.returns-clause-field
returns-clause-field c = (reads_as_one (λ field. field) field_type_at, reads_determine field_type_at)

pub returns-clause-function : goal.returns-clause-function
returns-clause-function c = reads_as_one function_parts func_type_at

pub returns-clause-composite : goal.returns-clause-composite
returns-clause-composite c = reads_as_one composite_parts composite_type_at

pub returns-clause-subtype : goal.returns-clause-subtype
returns-clause-subtype c = reads_as_one subtype_parts subtype_at

pub returns-clause-group : goal.returns-clause-group
returns-clause-group c = reads_as_one rec_group_parts rec_group_at

pub returns-clause-group_head : goal.returns-clause-group_head
returns-clause-group_head c = (reads_as_one (λ head. head) group_head_at, reads_determine group_head_at)

pub returns-clause-subtype_head : goal.returns-clause-subtype_head
returns-clause-subtype_head c = (reads_as_one (λ head. head) subtype_head_at, reads_determine subtype_head_at)
