use Rattle.wasm_commands.proofs.FirstWords.{other_refused}
use Rattle.wasm_commands.proofs.commands.run_other.Goals as goal

pub returns-in_default : goal.returns-in_default
returns-in_default g c =
    let none = c.in_default in
    other_refused c.args.word.now _ _ _ _ none.not-help none.not-text none.not-text-2 none.not-text-3 none.not-text-4
    (rw c.unknown.ensures at c.refuse.ensures)
