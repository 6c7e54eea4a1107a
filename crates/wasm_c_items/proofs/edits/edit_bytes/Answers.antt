use Rattle.std.proofs.Common.{Err, refl}
use Rattle.wasm_c_items.proofs.ChosenEdits.{chosen_by}
use Rattle.wasm_c_items.specs.declared.edits.EditStatus.TheVariants.{NameNotUtf8}
use Rattle.wasm_c_items.proofs.edits.edit_bytes.Goals as goal

pub returns-in_default : goal.returns-in_default
returns-in_default c = record {
  chosen = Err NameNotUtf8;
  is_chosen = c.in_default.ensures.cases.0;
  answers = (c.refused.ensures, refl);
}

pub returns : goal.returns
returns c =
    let name = c.args.name.now in
    let (same, text) = c.in-Ok.ensures.cases in
    record {
      chosen = c.choice.result;
      is_chosen = chosen_by c.args.kind c.in-Ok.name.now name c.args.«data».now c.choice.result same text c.choice.ensures;
      answers = c.answer.ensures;
    }
