use Rattle.std.proofs.Common.{ap, inl, inr, refl}
use Rattle.std.proofs.lemmas.Result.{err_from_is_err_and}
use Rattle.wasm_commands.specs.Rewrites.{Route}
use Rattle.wasm_commands.proofs.runner.Runner.prepare.Goals as goal

pub returns-in_err-loaded : goal.returns-in_err-loaded
returns-in_err-loaded g c =
    let e = err_from_is_err_and c.from_residual-in_err-loaded.result c.from_residual-in_err-loaded.ensures.1 in
    rw (e.1, e.2) (inl (
      (c.in_ok-additions.additions, c.in_ok-additions.file),
      c.additions_of.new.self,
      c.in_ok-additions.ensures,
      inr (c.in_err-loaded.field-0.0, refl, rw c.deref.ensures.value at c.in_err-loaded.ensures),
    ))

pub returns-in_err-original : goal.returns-in_err-original
returns-in_err-original g c =
    let e = err_from_is_err_and c.from_residual-in_err-original.result c.from_residual-in_err-original.ensures.1 in
    let name = ap (λ (r : Route). r.name) c.way_from.ensures in
    rw (e.1, e.2) (inl (
      (c.in_ok-additions.additions, c.in_ok-additions.file),
      c.additions_of.new.self,
      c.in_ok-additions.ensures,
      inl (
        c.in_ok-loaded.loaded,
        c.load_all.new.self,
        rw c.deref.ensures.value at c.in_ok-loaded.ensures,
        inr (c.in_err-original.field-0.0, refl, rw name at c.in_err-original.ensures),
      ),
    ))

pub returns : goal.returns
returns g c =
    let name = ap (λ (r : Route). r.name) c.way_from.ensures in
    inl (
      (c.in_ok-additions.additions, c.in_ok-additions.file),
      c.additions_of.new.self,
      c.in_ok-additions.ensures,
      inl (
        c.in_ok-loaded.loaded,
        c.load_all.new.self,
        rw c.deref.ensures.value at c.in_ok-loaded.ensures,
        inl (c.in_ok-original.original, c.find.new.self, rw (c.way_from.ensures, name) at c.in_ok-original.ensures, (refl, refl)),
      ),
    )
