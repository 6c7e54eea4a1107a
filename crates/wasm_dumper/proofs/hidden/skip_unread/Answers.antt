use Rattle.wasm_dumper.proofs.Common.{refl, arith}
use Rattle.wasm_frames.specs.SkipNext.{skip_is}
use Rattle.wasm_dumper.proofs.hidden.skip_unread.Goals as goal

pub returns-clause-skips : goal.returns-clause-skips
returns-clause-skips c =
    let copy = rw c.unwrap-after.ensures at c.clone.ensures.cases in
    let start = c.offset-start.ensures in
    let skips = rw copy at c.in-Some.ensures.skips in
    let same = rw copy at c.in-Some.ensures.same in
    let missing = skips.missing in
    record {
      skips = record {
        skip = skip_is c.in-Some.part;
        skips = skips;
        from = refl;
        size = omega (arith, start, missing);
        stays = refl;
        fewer = omega (arith, start, missing);
        same = same;
      };
      shows = rw c.in-Some-2.is at c.in_ok-outline.ensures.outlines;
    }
