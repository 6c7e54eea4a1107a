use Rattle.wasm_show.proofs.types.MemoryTypeShow.show.Goals as goal

pub returns-clause-says : goal.returns-clause-says
returns-clause-says g c since before h = rw (← c.wide.ensures) (c.number_if_any-2.ensures.says since _
    (c.number_if_any.ensures.says since _ (c.number.ensures.says since _
    (c.flag-2.ensures.says since _ (c.flag.ensures.says since before h)))))
