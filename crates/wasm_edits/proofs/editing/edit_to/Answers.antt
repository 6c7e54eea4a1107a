use Rattle.wasm_edits.proofs.Common.{◌≤◌, length, arith}
use Rattle.wasm_edits.proofs.Appended.{length_is}
use Rattle.wasm_edits.proofs.EditLaws.{front_is, room_for}
use Rattle.wasm_edits.proofs.StripLaws.{stream_of}
use Rattle.wasm_edits.proofs.editing.edit_to.Goals as goal

pub write_edited-requires-clause-room : goal.write_edited-requires-clause-room
write_edited-requires-clause-room c =
    let bytes = c.args.bytes.now in
    let out = c.args.out.now in
    let (result, i, size) = c.in_ok-size.ensures in
    let is = length_is c.in_ok-size.size (length out) result size (omega arith) (omega arith) in
    let fits : length result ≤ length out = omega (arith, is) in
    room_for c.args.edits.now bytes result out c.requires (stream_of bytes c.type_inv.bytes (omega arith)) i fits

pub returns-in_ok-write_edited : goal.returns-in_ok-write_edited
returns-in_ok-write_edited c =
    let bytes = c.args.bytes.now in
    let out = c.args.out.now in
    let new = c.write_edited.new.out in
    let (result, i, size) = c.in_ok-size.ensures in
    let is = length_is c.in_ok-size.size (length out) result size (omega arith) (omega arith) in (
      result,
      i,
      size,
      (
        λ f. front_is c.args.edits.now bytes result out new c.in_ok-write_edited.field-0 c.requires
            (stream_of bytes c.type_inv.bytes (omega arith)) i c.in_ok-write_edited.ensures,
        λ l. absurd (omega (arith, l, is)),
      ),
    )
