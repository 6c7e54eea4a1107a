use Rattle.wasm_show.proofs.custom.BranchHintShow.show.Goals as goal

pub returns-clause-says : goal.returns-clause-says
returns-clause-says g c since before h = rw (← c.from.ensures)
    (c.flag.ensures.says since _ (c.number.ensures.says since before h))
