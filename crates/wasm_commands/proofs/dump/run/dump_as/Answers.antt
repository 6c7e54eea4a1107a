use Rattle.wasm_commands.specs.Formats.{has_colors, style_of}
use Rattle.wasm_commands.proofs.Running.{dumps_kept}
use Rattle.wasm_commands.proofs.dump.run.dump_as.Goals as goal

pub returns : goal.returns
returns g c =
    let d = c.dump_over-how.ensures in
    record {
      how = c.dump_over-how.result.0;
      dumps = dumps_kept (style_of c.args.format) _ _ (has_colors c.args.format) _ _ _ _ _ _ d.dumps c.forward_all-result.ensures.keeps;
      source = d.source;
      ends = rw d.sink at c.forward_all-result.ensures.ends;
    }
