use Rattle.std.proofs.Common.{refl}
use Rattle.wasm_show.specs.Seen.{site_seen}
use Rattle.wasm_show.proofs.Seeing.{offset_more, place_offset}
use Rattle.wasm_show.proofs.offsets.OffsetsWalker.enter.Goals as goal

pub returns : goal.returns
returns c = record {
  goes = λ e since done d. offset_more done (site_seen c.args._place) since c.args.self.now c.args.self.now d
      (λ n. (n, place_offset c.args._place _));
  stays = λ is. refl;
}
