use Rattle.std.proofs.Common.{[]}
use Rattle.wasm_show.proofs.items.TableShow.show.Goals as goal

pub returns-in-RefNull-clause-says : goal.returns-in-RefNull-clause-says
returns-in-RefNull-clause-says g c since before h =
    rw c.in-RefNull.is ([], c.word_field.ensures.says since _ (c.show.ensures.says since before h))

pub returns-in-Expr-clause-says : goal.returns-in-Expr-clause-says
returns-in-Expr-clause-says g c since before h =
    rw c.in-Expr.is (c.show_expr.ensures.says since _ (c.show.ensures.says since before h))
