use Rattle.wasm_show.proofs.linking.show_init.Goals as goal

pub returns-clause-says : goal.returns-clause-says
returns-clause-says g c since before h = rw (← c.from.ensures, ← c.from-2.ensures)
    (c.number-2.ensures.says since _ (c.number.ensures.says since before h))
