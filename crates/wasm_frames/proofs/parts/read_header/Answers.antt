use Rattle.wasm_frames.proofs.Common.{◌+◌, refl, ap, ◌∙◌, arith, Some, err_from_is_err_and, at_offset, place, UnknownVersion}
use Rattle.wasm_frames.proofs.Headers.{header_read, header_report, header_unnamed, header_refused}
use Rattle.wasm_frames.proofs.parts.read_header.Goals as goal

pub returns-in_err-bits : goal.returns-in_err-bits
returns-in_err-bits c =
    let e = err_from_is_err_and c.from_residual.result c.from_residual.ensures.1 in
    rw (e.1, e.2) (header_refused (place c.args.reader.now) _ _ c.in_err-bits.ensures.gives c.in_err-bits.ensures.hints)

pub overflow_add-start : goal.overflow_add-start
overflow_add-start c = grind (arith, header_read)

pub returns-in-Some : goal.returns-in-Some
returns-in-Some c = rw c.header.ensures
    (header_report (place c.args.reader.now) c.in_ok-bits.bits (place c.read_header_version.new.self) c.in-Some.encoding _
    c.in_ok-bits.ensures.gives c.in-Some.ensures
    (rw (c.original_position-start.ensures.offset, c.original_position.ensures.offset) refl))

pub returns-in-None : goal.returns-in-None
returns-in-None c = header_unnamed (place c.args.reader.now) c.in_ok-bits.bits (place c.read_header_version.new.self) c.with_number.result
    c.in_ok-bits.ensures.gives c.in-None.ensures
    (c.with_number.ensures.report ∙ (λ i. record {
      fault = (c.new.ensures.report i).fault;
      offset = ((c.new.ensures.report ∙ ap (λ o. at_offset UnknownVersion (o + 4)) c.original_position-start.ensures.offset) i).offset;
      number = Some (c.from.ensures i);
    })) (c.with_number.ensures.hint ∙ c.new.ensures.hint)
