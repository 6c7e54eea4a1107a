use Rattle.wasm_output.proofs.ForCallers.{says_some}
use Rattle.wasm_show.proofs.lists.write_word.Goals as goal

pub returns-clause-some : goal.returns-clause-some
returns-clause-some g c since m = says_some _ _ _ c.text-2.ensures.says since (c.text.ensures.some since m)
