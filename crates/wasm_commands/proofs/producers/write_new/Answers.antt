use Rattle.std.proofs.Common.{Err, ap, inl, inr, refl}
use Rattle.wasm_commands.proofs.Setting.{no_fit}
use Rattle.wasm_commands.proofs.producers.write_new.Goals as goal

pub returns-then-fits : goal.returns-then-fits
returns-then-fits g c = record { new_section = _; named = refl; sets = inr c.write_set.ensures }

pub returns : goal.returns
returns g c = record {
  new_section = _;
  named = refl;
  sets = inl (
    no_fit _ c.fits.result c.fits.ensures c.if-fits.false,
    record { answers = ap Err c.complain.ensures.status; tells = c.complain.ensures.tells },
  );
}
