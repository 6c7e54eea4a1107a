use Rattle.std.proofs.Common.{refl}
use Rattle.wasm_show.specs.Noted.{found_by}
use Rattle.wasm_show.specs.Seen.{an_item}
use Rattle.wasm_show.proofs.Noting.{no_line, noted_one, or_false}
use Rattle.wasm_show.proofs.faults.FaultsWalker.take_item.Goals as goal

pub returns : goal.returns
returns g c =
    let old = found_by c.args.self.now in
    let n = an_item c.args._level c.args._offset c.args._number in
    record {
      goes = λ e since done d. noted_one n old old (no_line old n refl) refl refl (λ e. refl) (λ e. or_false old.has_found) e
          (found_by since) done d;
      stays = λ is. refl;
    }
