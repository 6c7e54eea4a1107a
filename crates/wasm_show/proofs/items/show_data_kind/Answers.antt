use Rattle.std.proofs.Common.{[]}
use Rattle.wasm_show.proofs.items.show_data_kind.Goals as goal

pub returns-in-Passive-clause-says : goal.returns-in-Passive-clause-says
returns-in-Passive-clause-says g c since before h = rw c.in-Passive.is ([], c.word_field.ensures.says since before h)

pub returns-in-Active-clause-says : goal.returns-in-Active-clause-says
returns-in-Active-clause-says g c since before h = rw c.in-Active.is (rw (← c.from.ensures)
    (c.show_expr.ensures.says since _ (c.number.ensures.says since _
    (c.word_field-in-Active.ensures.says since before h))))
