use Rattle.wasm_edits.proofs.Common.{refl, sym, ap, ◌∙◌, arith, skip_is}
use Rattle.wasm_edits.specs.Edits.{is_itself}
use Rattle.wasm_edits.proofs.EditProgress.{head_itself}
use Rattle.wasm_edits.proofs.streaming.skip_part.Goals as goal

pub returns-clause-skips : goal.returns-clause-skips
returns-clause-skips c =
    let head = (skip_is c.in_ok-part.part).head in
    record {
      here = record {
        skip = skip_is c.in_ok-part.part;
        skips = c.in_ok-part.ensures.skips;
        from = refl;
        size = grind arith;
        stays = c.is_itself.ensures ∙ (ap is_itself c.head_fate-fate.ensures.is ∙ sym (head_itself c.args.edits.now head));
        fewer = grind arith;
        same = grind arith;
      };
      fate = c.head_fate-fate.ensures.is;
    }
