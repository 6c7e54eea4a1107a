use Rattle.wasm_commands.proofs.dump.show_all.Goals as goal

pub returns : goal.returns
returns g c = record {
  first = c.dump_file-dumped.result.0;
  middle = c.dump_file-dumped.result.1;
  dumps = c.dump_file-dumped.ensures;
  warns = rw (c.ended.ensures, ← c.status_of.ensures) c.warn_after-status.ensures;
}
