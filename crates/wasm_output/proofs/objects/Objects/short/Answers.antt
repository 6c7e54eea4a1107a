use Rattle.wasm_output.proofs.Common.{refl}
use Rattle.wasm_output.proofs.Writing.{puts_in_object}
use Rattle.wasm_output.proofs.objects.Objects.short.Goals as goal

pub returns-clause-adds : goal.returns-clause-adds
returns-clause-adds g c o i = puts_in_object o _ _ (g.T.ShortText.text _) _ refl c.requires.leads (c.put_text.ensures _) i
