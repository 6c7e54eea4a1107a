use Rattle.std.proofs.Common.{ℕ, ◌<◌, slice_index_or}
use Rattle.wasm_edits.specs.Edits.{CanBeMade}
use Rattle.wasm_edits.specs.declared.edits.Edit.{Edit}
use Rattle.wasm_edits.proofs.edits.all_fit.Given as goal

abbrev pub invariant-loop-edit : goal.invariant-loop-edit
invariant-loop-edit l = (k : ℕ) (d : Edit) → k < l.edit-index → CanBeMade (slice_index_or l.edits k d)
