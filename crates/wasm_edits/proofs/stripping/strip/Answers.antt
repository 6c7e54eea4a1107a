use Rattle.std.proofs.Common.{subst}
use Rattle.std.specs.Prelude.{List, Bool, ℕ}
use Rattle.wasm_edits.proofs.Common.{arith}
use Rattle.wasm_edits.proofs.EditLaws.{strips_by_edit}
use Rattle.wasm_edits.proofs.StripLaws.{stream_of}
use Rattle.wasm_edits.proofs.stripping.strip.Goals as goal
use Rattle.wasm_edits.specs.Stripped.{Strips}

pub returns : goal.returns
returns c =
    subst (λ (keeps : List ℕ → Bool). Strips keeps c.args.bytes.now c.edit.result) c.names.ensures
    (strips_by_edit c.names.result c.args.bytes.now c.edit.result (stream_of c.args.bytes.now c.type_inv.bytes (omega arith))
    c.edit.ensures)
