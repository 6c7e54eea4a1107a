use Rattle.std.proofs.Common.{inl, refl, sym, ◌∙◌}
use Rattle.wasm_encode.specs.Custom.{custom_bytes, custom_frame}
use Rattle.wasm_encode.proofs.Adding.{added_anywhere, at_the_end, held}
use Rattle.wasm_encode.proofs.CustomBack.{custom_good}
use Rattle.wasm_encode.proofs.modules.Module.custom.Goals as goal

pub returns : goal.returns
returns g c = λ frames h.
    let (begins, grown, keeps) = c.in_ok-at.ensures in
    let w = c.write_custom.ensures in
    let fit = c.custom_fits.ensures.0 c.if-not-custom_fits.false in
    let bytes = at_the_end c.args.self.now.bytes.items c.deref_mut.result.now c.write_custom.new.bytes
    (custom_bytes c.args.name.now c.args.data.now) c.in_ok-at.at c.write_custom.result c.custom_len.result begins
    (c.deref_mut.ensures.value ∙ grown) c.custom_len.ensures w.end w.written w.len in
    inl (
      fit,
      added_anywhere frames c.args.self.now h (custom_frame c.args.name.now c.args.data.now) _
          (custom_good c.args.name.now c.args.data.now fit) refl
          (record {
            rank = keeps.rank;
            functions = keeps.functions;
            bodies = keeps.bodies;
            announced = keeps.announced;
            segments = keeps.segments;
          })
          (held c.grow.new.self.bytes.len c.write_custom.new.bytes c.grow.new.self.bytes.items
          (sym (w.len ∙ c.deref_mut.ensures.len)) ∙ bytes),
    )
