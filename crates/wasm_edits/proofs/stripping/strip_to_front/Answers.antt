use Rattle.wasm_edits.proofs.EditLaws.{strips_to_front}
use Rattle.wasm_edits.proofs.stripping.strip_to_front.Goals as goal

pub returns : goal.returns
returns c =
    let measured = c.in_ok-stripped_len.ensures in
    let (result, edited, size) = measured.measures in
    strips_to_front c.args.keep c.args.bytes.now c.move_kept.new.bytes c.move_kept.result measured.stream edited.accepted
    c.move_kept.ensures
