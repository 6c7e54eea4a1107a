use Rattle.wasm_frames.proofs.Common.{ap, ◌∙◌, at_offset, place, MagicAtSection, numbers_of}
use Rattle.wasm_frames.proofs.Heads.{head_magic, head_framed}
use Rattle.wasm_frames.proofs.stored.StoredParser.section_head.Goals as goal

pub returns-then-magic_follows : goal.returns-then-magic_follows
returns-then-magic_follows c =
    head_magic (numbers_of c.args.self.now) (place c.args.reader.now) c.new.result _ c.if-magic_follows.ensures c.requires
    (c.new.ensures.report ∙ ap (at_offset MagicAtSection) c.original_position-start.ensures.offset) c.new.ensures.hint

pub returns : goal.returns
returns c =
    head_framed (numbers_of c.args.self.now) (place c.args.reader.now) (place c.read_u8.new.self) c.in_ok-id.id c.head_after_id.result _
    c.if-magic_follows.ensures c.in_ok-id.ensures.gives
    (rw c.original_position-start.ensures.offset at c.head_after_id.ensures)
