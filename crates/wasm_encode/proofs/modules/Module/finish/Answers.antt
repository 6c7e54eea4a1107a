use Rattle.std.proofs.Common.{refl, sym, ◌∙◌}
use Rattle.wasm_encode.proofs.Admitting.{matched, unmatched}
use Rattle.wasm_encode.proofs.modules.Module.finish.Goals as goal

pub returns-then-lacks : goal.returns-then-lacks
returns-then-lacks g c = λ frames h. unmatched 3 10 frames c.args.self.functions c.args.self.bodies h.functions h.bodies
    (sym c.lacks.ensures ∙ c.if-lacks.true) c.args.self.functions refl

pub returns-then-lacks-2 : goal.returns-then-lacks-2
returns-then-lacks-2 g c = λ frames h. unmatched 12 11 frames c.args.self.announced c.args.self.segments h.announced h.segments
    (sym c.lacks-2.ensures ∙ c.if-lacks-2.true) c.args.self.announced refl

pub returns : goal.returns
returns g c = λ frames h. (
  record {
    encoding = _;
    frames = frames;
    whole = h.bytes;
    each = h.each;
    order = h.order;
    functions = matched 3 10 frames c.args.self.functions c.args.self.bodies h.functions h.bodies
        (sym c.lacks.ensures ∙ c.if-lacks.false) c.args.self.bodies refl;
    segments = matched 12 11 frames c.args.self.announced c.args.self.segments h.announced h.segments
        (sym c.lacks-2.ensures ∙ c.if-lacks-2.false) c.args.self.segments refl;
  },
  refl,
  refl,
)
