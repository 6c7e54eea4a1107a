use Rattle.std.proofs.Common.{rules, ap, inl, inr, refl}
use Rattle.std.proofs.lemmas.Result.{err_from_is_err_and}
use Rattle.wasm_commands.specs.Rewrites.{Route}
use Rattle.wasm_commands.proofs.strip.strip.Goals as goal

pub returns-in_err-removed : goal.returns-in_err-removed
returns-in_err-removed g c = inl (tt, c.values.new.self, c.in_ok-kept.ensures.1, (search rules))

pub returns-in_err-name : goal.returns-in_err-name
returns-in_err-name g c =
    inl (tt, c.values.new.self, c.in_ok-kept.ensures.1, inl (tt, c.removed.new.self, c.in_ok-removed.ensures.1, (search rules)))

pub returns-in_err-spare_terminal : goal.returns-in_err-spare_terminal
returns-in_err-spare_terminal g c =
    let r = c.from_residual-in_err-spare_terminal in
    let e = err_from_is_err_and r.result r.ensures.1 in
    let target = ap (λ (r : Route). r.target) c.way_from-way.ensures in
    rw (e.1, e.2) (inl (
      tt,
      c.values.new.self,
      c.in_ok-kept.ensures.1,
      inl (
        tt,
        c.removed.new.self,
        c.in_ok-removed.ensures.1,
        inl (
          c.in_ok-name.name,
          c.file_of.new.self,
          c.in_ok-name.ensures,
          inr (_, refl, rw target at c.in_err-spare_terminal.ensures),
        ),
      ),
    ))

pub returns : goal.returns
returns g c =
    let kept = c.in_ok-kept.ensures in
    let removed = c.in_ok-removed.ensures in
    let name = ap (λ (r : Route). r.name) c.way_from-way.ensures in
    let target = ap (λ (r : Route). r.target) c.way_from-way.ensures in
    inl (
      tt,
      c.values.new.self,
      kept.1,
      inl (
        tt,
        c.removed.new.self,
        removed.1,
        inl (
          c.in_ok-name.name,
          c.file_of.new.self,
          c.in_ok-name.ensures,
          inl (
            tt,
            c.spare_terminal.new.self,
            rw target at c.in_ok-spare_terminal.ensures,
            record {
              keep = record { names = c.has.result; kept = c.deref.result; removed = c.deref-2.result };
              kept = record {
                names = c.has.ensures;
                kept = rw c.deref.ensures.value kept.0;
                removed = rw c.deref-2.ensures.value removed.0;
              };
              changes = rw (name, target) at c.edit_file.ensures;
            },
          ),
        ),
      ),
    )
