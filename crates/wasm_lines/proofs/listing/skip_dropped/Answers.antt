use Rattle.wasm_lines.proofs.Common.{refl, arith, skip_is}
use Rattle.wasm_lines.proofs.listing.skip_dropped.Goals as goal

pub returns : goal.returns
returns c =
    let start = c.offset-start.ensures in
    let missing = c.in_ok-part.ensures.skips.missing in
    record {
      skips = record {
        skip = skip_is c.in_ok-part.part;
        skips = c.in_ok-part.ensures.skips;
        from = refl;
        size = omega (arith, start, missing);
        stays = refl;
        fewer = omega (arith, start, missing);
        same = c.in_ok-part.ensures.same;
      };
      line = c.without_name.ensures;
    }
