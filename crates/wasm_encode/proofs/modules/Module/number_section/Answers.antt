use Rattle.std.proofs.Common.{◌<◌, ◌^◌, arith, refl, sym, ◌∙◌}
use Rattle.std.proofs.lemmas.Result.{err_from_is_err_and}
use Rattle.wasm_encode.specs.Frames.{frame_of}
use Rattle.wasm_encode.specs.Numbers.{unsigned_bytes}
use Rattle.wasm_encode.specs.Sections.{number_section_bytes}
use Rattle.wasm_encode.proofs.Adding.{at_the_end, has_room, held, not_admitted, not_grown, numbered}
use Rattle.wasm_encode.proofs.FramesBack.{number_frames}
use Rattle.wasm_encode.proofs.Growing.{one_more}
use Rattle.wasm_encode.proofs.modules.Module.number_section.Goals as goal

pub returns-in_err-admit : goal.returns-in_err-admit
returns-in_err-admit g c = λ frames h.
    let e = err_from_is_err_and c.from_residual.result c.from_residual.ensures.1 in
    let f = frame_of c.args.id (unsigned_bytes c.args.number) in
    rw (e.1, e.2) (not_admitted frames c.args.self.now h f c.in_err-admit.field-0.0
    (c.in_err-admit.ensures frames f h refl (numbered c.args.id c.args.number (omega (arith, c.ranges.number.fits)))))

pub returns-in_err-at : goal.returns-in_err-at
returns-in_err-at g c = λ frames h.
    let e = err_from_is_err_and c.from_residual-in_err-at.result c.from_residual-in_err-at.ensures.1 in
    let (memory, bytes, keeps) = c.in_err-at.ensures in
    let f = frame_of c.args.id (unsigned_bytes c.args.number) in
    rw (e.1, e.2) (not_grown frames c.args.self.now h f c.in_err-at.field-0.0 c.grow.new.self
    (c.in_ok-admit.ensures frames f h refl (numbered c.args.id c.args.number (omega (arith, c.ranges.number.fits))))
    memory keeps bytes)

pub write_number_section-requires : goal.write_number_section-requires
write_number_section-requires g c = has_room c.args.self.now.bytes.items c.deref_mut.result.now
    (number_section_bytes c.args.id c.args.number) c.in_ok-at.at c.number_section_len.result
    c.in_ok-at.ensures.0 (c.deref_mut.ensures.value ∙ c.in_ok-at.ensures.1) c.number_section_len.ensures

pub returns : goal.returns
returns g c = λ frames h.
    let (begins, grown, keeps) = c.in_ok-at.ensures in
    let w = c.write_number_section.ensures in
    let few : c.args.number < 2 ^ 32 = omega (arith, c.ranges.number.fits) in
    let bytes = at_the_end c.args.self.now.bytes.items c.deref_mut.result.now c.write_number_section.new.bytes
    (number_section_bytes c.args.id c.args.number) c.in_ok-at.at c.write_number_section.result c.number_section_len.result begins
    (c.deref_mut.ensures.value ∙ grown) c.number_section_len.ensures w.end w.written w.len in
    let f = frame_of c.args.id (unsigned_bytes c.args.number) in
    let count = numbered c.args.id c.args.number few in
    one_more frames c.args.self.now _ c.note.new.self h f
    (number_frames c.args.id c.args.number c.requires.0 c.requires.1 few) (c.in_ok-admit.ensures frames f h refl count)
    c.args.id c.args.number refl count
    (record {
      rank = keeps.rank;
      functions = keeps.functions;
      bodies = keeps.bodies;
      announced = keeps.announced;
      segments = keeps.segments;
    })
    c.note.ensures
    (held c.grow.new.self.bytes.len c.write_number_section.new.bytes c.grow.new.self.bytes.items
    (sym (w.len ∙ c.deref_mut.ensures.len)) ∙ bytes)
