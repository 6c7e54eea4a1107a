use Rattle.std.proofs.Common.{sym, ◌∙◌}
use Rattle.wasm_encode.proofs.Admitting.{admits, refuses_count, refuses_order}
use Rattle.wasm_encode.proofs.modules.Module.admit.Goals as goal

pub returns-then-not-may_follow : goal.returns-then-not-may_follow
returns-then-not-may_follow g c = λ frames f h z n.
    refuses_order frames c.args.self.now h f (rw z (sym c.may_follow.ensures ∙ c.if-not-may_follow.true))

pub returns-then-not-agrees : goal.returns-then-not-agrees
returns-then-not-agrees g c = λ frames f h z n. refuses_count frames c.args.self.now h f
    (rw z (sym c.may_follow.ensures ∙ c.if-not-may_follow.false)) (rw (z, n) (sym c.agrees.ensures ∙ c.if-not-agrees.true))

pub returns : goal.returns
returns g c = λ frames f h z n. admits frames c.args.self.now h f (rw z (sym c.may_follow.ensures ∙ c.if-not-may_follow.false))
    (rw (z, n) (sym c.agrees.ensures ∙ c.if-not-agrees.false))
