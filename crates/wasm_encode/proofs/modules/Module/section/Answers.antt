use Rattle.std.proofs.Common.{inl, refl, sym, ◌∙◌}
use Rattle.std.proofs.lemmas.Result.{err_from_is_err_and}
use Rattle.wasm_encode.specs.Frames.{frame_of}
use Rattle.wasm_encode.specs.Sections.{content_bytes, section_bytes}
use Rattle.wasm_encode.proofs.Adding.{at_the_end, counted, has_room, held, not_admitted, not_grown}
use Rattle.wasm_encode.proofs.Growing.{one_more}
use Rattle.wasm_encode.proofs.modules.Module.section.Goals as goal

pub returns-in_err-admit : goal.returns-in_err-admit
returns-in_err-admit g c = λ frames h.
    let e = err_from_is_err_and c.from_residual-in_err-admit.result c.from_residual-in_err-admit.ensures.1 in
    let (fit, many) = c.in_ok-count.ensures in
    let f = frame_of g.T.SectionItem.section (content_bytes g.T.Encode.encoded c.args.items.now) in
    rw (e.1, e.2) (inl (
      fit,
      not_admitted frames c.args.self.now h f c.in_err-admit.field-0.0
          (c.in_err-admit.ensures frames f h (sym c.section_id-id.ensures.id)
          (counted g.T.Encode.encoded g.T.SectionItem.section c.args.items.now fit.few ∙ sym many)),
    ))

pub returns-in_err-at : goal.returns-in_err-at
returns-in_err-at g c = λ frames h.
    let e = err_from_is_err_and c.from_residual-in_err-at.result c.from_residual-in_err-at.ensures.1 in
    let (fit, many) = c.in_ok-count.ensures in
    let (memory, bytes, keeps) = c.in_err-at.ensures in
    let f = frame_of g.T.SectionItem.section (content_bytes g.T.Encode.encoded c.args.items.now) in
    rw (e.1, e.2) (inl (
      fit,
      not_grown frames c.args.self.now h f c.in_err-at.field-0.0 c.grow.new.self
          (c.in_ok-admit.ensures frames f h (sym c.section_id-id.ensures.id)
          (counted g.T.Encode.encoded g.T.SectionItem.section c.args.items.now fit.few ∙ sym many))
          memory keeps bytes,
    ))

pub write_section-requires-clause-room : goal.write_section-requires-clause-room
write_section-requires-clause-room g c = has_room c.args.self.now.bytes.items c.deref_mut.result.now
    (section_bytes g.T.Encode.encoded c.section_id-id.result c.args.items.now) c.in_ok-at.at c.section_len.result
    c.in_ok-at.ensures.0 (c.deref_mut.ensures.value ∙ c.in_ok-at.ensures.1) c.section_len.ensures

pub returns : goal.returns
returns g c = λ frames h.
    let (fit, many) = c.in_ok-count.ensures in
    let (begins, grown, keeps) = c.in_ok-at.ensures in
    let piece = section_bytes g.T.Encode.encoded c.section_id-id.result c.args.items.now in
    let w = c.write_section.ensures in
    let bytes = at_the_end c.args.self.now.bytes.items c.deref_mut.result.now c.write_section.new.bytes piece c.in_ok-at.at
    c.write_section.result c.section_len.result begins (c.deref_mut.ensures.value ∙ grown) c.section_len.ensures
    w.end w.written w.len in
    let f = frame_of c.section_id-id.result (content_bytes g.T.Encode.encoded c.args.items.now) in
    let count = counted g.T.Encode.encoded c.section_id-id.result c.args.items.now fit.few ∙ sym many in
    rw (sym c.section_id-id.ensures.id) (inl (
      fit,
      one_more frames c.args.self.now _ c.note.new.self h f
          (c.section_id-id.ensures.frames c.args.items.now fit) (c.in_ok-admit.ensures frames f h refl count)
          c.section_id-id.result c.in_ok-count.count refl count
          (record {
            rank = keeps.rank;
            functions = keeps.functions;
            bodies = keeps.bodies;
            announced = keeps.announced;
            segments = keeps.segments;
          })
          c.note.ensures
          (held c.grow.new.self.bytes.len c.write_section.new.bytes c.grow.new.self.bytes.items
          (sym (w.len ∙ c.deref_mut.ensures.len)) ∙ bytes),
    ))
