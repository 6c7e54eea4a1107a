use Rattle.std.proofs.Common.{◌∷◌, [], refl}
use Rattle.wasm_show.specs.Seen.{site_seen}
use Rattle.wasm_show.proofs.Seeing.{shows_place, shows_told}
use Rattle.wasm_show.proofs.walker.AnyWalker.enter.Goals as goal

pub returns : goal.returns
returns g c = record {
  goes = λ e since done d. shows_told done (site_seen c.args._place ∷ []) _ _ _ d (shows_place c.args._place _);
  stays = λ is. refl;
}
