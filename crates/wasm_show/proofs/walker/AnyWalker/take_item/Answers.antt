use Rattle.std.proofs.Common.{◌∷◌, [], ◌∙◌, false, true, ◌≡◌}
use Rattle.wasm_show.specs.Seen.{an_item}
use Rattle.wasm_show.proofs.Seeing.{shows_below, shows_one, shows_told}
use Rattle.wasm_show.proofs.walker.AnyWalker.take_item.Goals as goal

pub returns : goal.returns
returns g c = record {
  goes = λ e since done d. shows_told done (an_item c.args.level c.args.offset c.args.number ∷ []) _ _ _ d
      (shows_one _ _ _ (shows_below _ _ _ _ c.begin_item.ensures c.show.ensures));
  stays = λ is. absurd (let no : false ≡ true = c.if-has_stopped.ensures ∙ is in cc);
}
