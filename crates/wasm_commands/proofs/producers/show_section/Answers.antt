use Rattle.std.proofs.Common.{◌∙◌, Err, ap, sym}
use Rattle.wasm_commands.proofs.producers.show_section.Goals as goal

pub returns-then-has : goal.returns-then-has
returns-then-has g c =
    rw (sym c.has.ensures ∙ c.if-has.true) (record { answers = ap Err c.complain.ensures.status; tells = c.complain.ensures.tells })
