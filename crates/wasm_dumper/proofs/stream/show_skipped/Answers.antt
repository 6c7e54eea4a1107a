use Rattle.wasm_dumper.proofs.Outlines.{hidden_shown}
use Rattle.wasm_dumper.proofs.stream.show_skipped.Goals as goal

pub returns-in-Hidden-clause-shows : goal.returns-in-Hidden-clause-shows
returns-in-Hidden-clause-shows g c report bytes is =
    hidden_shown c.args.shown.only.now c.args.shown.has_bytes c.in-Hidden.is_body report (rw c.in-Hidden.is at is) c.args.counts.now bytes
    (g.O.Tree.writing c.args.out.now)
