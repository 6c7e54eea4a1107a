use Rattle.std.proofs.Common.{ap, rules, inl, inr, refl}
use Rattle.std.proofs.lemmas.Result.{err_from_is_err_and}
use Rattle.wasm_commands.specs.Rewrites.{Route}
use Rattle.wasm_commands.proofs.producers.set_all.Goals as goal

pub returns-in_err-settings : goal.returns-in_err-settings
returns-in_err-settings g c =
    let e = err_from_is_err_and c.from_residual.result c.from_residual.ensures.1 in
    rw (e.1, e.2) (inr (c.in_err-settings.field-0.0, refl, rw c.requires at c.in_err-settings.ensures))

pub returns-in_err-name : goal.returns-in_err-name
returns-in_err-name g c = inl (
  c.in_ok-settings.settings,
  c.settings_of.new.runner,
  rw c.requires at c.in_ok-settings.ensures,
  (search rules),
)

pub returns-in_err-bytes : goal.returns-in_err-bytes
returns-in_err-bytes g c = inl (
  c.in_ok-settings.settings,
  c.settings_of.new.runner,
  rw c.requires at c.in_ok-settings.ensures,
  inl (c.in_ok-name.name, c.file_of.new.self, c.in_ok-name.ensures, (search rules)),
)

pub returns : goal.returns
returns g c =
    let name = ap (λ (r : Route). r.name) c.way_from.ensures in
    inl (
      c.in_ok-settings.settings,
      c.settings_of.new.runner,
      rw c.requires at c.in_ok-settings.ensures,
      inl (
        c.in_ok-name.name,
        c.file_of.new.self,
        c.in_ok-name.ensures,
        inl (
          c.in_ok-bytes.bytes,
          c.hold.new.self,
          c.in_ok-bytes.ensures,
          rw (c.deref-2.ensures.value, c.way_from.ensures, name) at c.change.ensures,
        ),
      ),
    )
