use Rattle.wasm_edits.proofs.Common.{◌≡◌, ℕ, ◌≤◌, ◌++◌, List, length, arith, drop, take, take_at, sym, ◌∙◌, subst}
use Rattle.wasm_edits.proofs.Appended.{length_is}
use Rattle.wasm_edits.proofs.EditLaws.{all_is, room_for}
use Rattle.wasm_edits.proofs.StripLaws.{stream_of}
use Rattle.wasm_edits.specs.Edited.{IsEdited}
use Rattle.wasm_edits.proofs.editing.edit.Goals as goal

pub write_edited-requires-clause-room : goal.write_edited-requires-clause-room
write_edited-requires-clause-room g c =
    let bytes = c.args.bytes.now in
    let out = c.deref_mut.result.now in
    let (result, i, size) = c.in_ok-size.ensures in
    let long : length out ≡ c.in_ok-size.size = omega (arith, c.deref_mut.ensures.len, c.in-Ok.ensures.len) in
    let is = length_is c.in_ok-size.size (length out) result size (omega (arith, long)) (omega (arith, c.deref_mut.type_inv)) in
    let fits : length result ≤ length out = omega (arith, is, long) in
    room_for c.args.edits.now bytes result out c.requires (stream_of bytes c.type_inv.bytes (omega arith)) i fits

pub returns : goal.returns
returns g c =
    let bytes = c.args.bytes.now in
    let vector = c.in-Ok.edited in
    let old = c.deref_mut.result.now in
    let new = c.write_edited.new.out in
    let rest : List ℕ = drop (length new) vector.items in
    let (result, i, size) = c.in_ok-size.ensures in
    let long : length old ≡ c.in_ok-size.size = omega (arith, c.deref_mut.ensures.len, c.in-Ok.ensures.len) in
    let is = length_is c.in_ok-size.size (length old) result size (omega (arith, long)) (omega (arith, c.deref_mut.type_inv)) in
    let all : new ≡ result = all_is c.args.edits.now bytes result old new c.in_ok-write_edited.field-0 c.requires
    (stream_of bytes c.type_inv.bytes (omega arith)) i c.in_ok-write_edited.ensures (omega (arith, long, is)) in
    let whole : take vector.len (new ++ rest) ≡ new = take_at new rest vector.len
    (omega (arith, c.write_edited.auto.out, c.deref_mut.ensures.len)) in
    subst (IsEdited c.args.edits.now bytes) (sym (whole ∙ all)) i
