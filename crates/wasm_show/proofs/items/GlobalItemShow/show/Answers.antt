use Rattle.wasm_show.proofs.items.GlobalItemShow.show.Goals as goal

pub returns-clause-says : goal.returns-clause-says
returns-clause-says g c since before h = c.show_expr.ensures.says since _ (c.show.ensures.says since before h)
