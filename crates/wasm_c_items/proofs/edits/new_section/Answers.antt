use Rattle.std.proofs.Common.{◌≡◌, ℕ, List, subst}
use Rattle.std.proofs.lemmas.Str.{IsUtf8-from_is_utf8}
use Rattle.std.specs.Str.{IsUtf8}
use Rattle.wasm_c_items.proofs.edits.new_section.Goals as goal

pub returns-in_default : goal.returns-in_default
returns-in_default c section is fits =
    let text = IsUtf8-from_is_utf8 section.name.now fits.text in
    c.in_default.ensures.cases.0 (subst (λ (t : List ℕ). IsUtf8 t) is.0 text)
