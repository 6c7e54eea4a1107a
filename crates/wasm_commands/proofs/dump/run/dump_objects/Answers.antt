use Rattle.wasm_output.specs.declared.tree.Style.TheVariants.{Objects}
use Rattle.wasm_commands.proofs.dump.run.dump_objects.Goals as goal

pub returns : goal.returns
returns g c =
    let d = c.dump-how.ensures Objects _ _ c.of_file-tree.ensures in
    let same = c.into_output.ensures in
    record {
      dumps = rw (c.requires, same.taken) d.dumps;
      source = d.source;
      sink = rw same.failed d.sink;
    }
