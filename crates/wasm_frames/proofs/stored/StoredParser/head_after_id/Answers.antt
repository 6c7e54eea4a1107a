use Rattle.wasm_frames.proofs.Common.{err_from_is_err_and, place, numbers_of}
use Rattle.wasm_frames.proofs.Heads.{id_malformed, id_alone, id_sized}
use Rattle.wasm_frames.proofs.stored.StoredParser.head_after_id.Goals as goal

pub returns-then-id-ge128 : goal.returns-then-id-ge128
returns-then-id-ge128 c = id_malformed (numbers_of c.args.self.now) c.args.start c.args.id (place c.args.reader.now) c.new.result _
    c.if-id-ge128.true c.new.ensures.report c.new.ensures.hint

pub returns-in_err-size : goal.returns-in_err-size
returns-in_err-size c =
    let e = err_from_is_err_and c.from_residual.result c.from_residual.ensures.1 in
    rw (e.1, e.2) (id_alone (numbers_of c.args.self.now) c.args.start c.args.id (place c.args.reader.now) _ _ c.if-id-ge128.false
    c.requires c.in_err-size.ensures.gives c.in_err-size.ensures.hints)

pub returns : goal.returns
returns c =
    id_sized (numbers_of c.args.self.now) c.args.start c.args.id (place c.args.reader.now) (place c.read_var_u32.new.self)
    c.in_ok-size.size c.head_of.result c.if-id-ge128.false c.requires c.in_ok-size.ensures.gives
    (rw c.original_position-field.ensures.offset at c.head_of.ensures)
