use Rattle.wasm_frames.proofs.Common.{sym, ap, ◌∙◌, arith, Some, at_offset, place, OutOfOrder, kind_of, numbers_of}
use Rattle.wasm_frames.proofs.Heads.{head_large, head_disordered, head_ordered}
use Rattle.wasm_frames.proofs.stored.StoredParser.head_of.Goals as goal

pub returns-then-from-original_position : goal.returns-then-from-original_position
returns-then-from-original_position c =
    head_large (numbers_of c.args.self.now) c.args.id c.args.field c.args.size (place c.args.reader.now) c.with_number.result (omega arith)
    (c.with_number.ensures.report ∙ (λ i. record {
      fault = (c.new.ensures.report i).fault;
      offset = (c.new.ensures.report i).offset;
      number = Some (c.from-then-from-original_position.ensures i);
    })) (c.with_number.ensures.hint ∙ c.new.ensures.hint)

pub returns-then-is_out_of_order : goal.returns-then-is_out_of_order
returns-then-is_out_of_order c =
    head_disordered (numbers_of c.args.self.now) c.section_kind-kind.result c.args.id c.args.field c.args.size (place c.args.reader.now)
    (c.section_kind-kind.ensures ∙ ap (λ e. kind_of e c.args.id) c.encoding.ensures) c.new-then-is_out_of_order.result (omega arith)
    (rw c.section_rank.ensures at (sym c.if-is_out_of_order.ensures))
    (c.new-then-is_out_of_order.ensures.report ∙ ap (at_offset OutOfOrder) c.original_position-then-is_out_of_order.ensures.offset)
    c.new-then-is_out_of_order.ensures.hint

pub returns : goal.returns
returns c =
    head_ordered (numbers_of c.args.self.now) c.section_kind-kind.result c.args.id c.args.field c.args.size (place c.args.reader.now)
    (c.section_kind-kind.ensures ∙ ap (λ e. kind_of e c.args.id) c.encoding.ensures) (omega arith)
    (rw c.section_rank.ensures at (sym c.if-is_out_of_order.ensures))
