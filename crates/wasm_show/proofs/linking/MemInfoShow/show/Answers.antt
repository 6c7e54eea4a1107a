use Rattle.wasm_show.proofs.linking.MemInfoShow.show.Goals as goal

pub returns-clause-says : goal.returns-clause-says
returns-clause-says g c since before h = rw (← c.from.ensures, ← c.from-2.ensures, ← c.from-3.ensures, ← c.from-4.ensures)
    (c.number-4.ensures.says since _ (c.number-3.ensures.says since _ (c.number-2.ensures.says since _
    (c.number.ensures.says since _ (c.label.ensures.says since before h)))))
