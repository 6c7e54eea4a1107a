use Rattle.wasm_show.proofs.types.TagTypeShow.show.Goals as goal

pub returns-clause-says : goal.returns-clause-says
returns-clause-says g c since before h =
    rw (← c.from.ensures) (c.number.ensures.says since _ (c.word_field.ensures.says since before h))
