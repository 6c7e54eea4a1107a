-- The edit that is chosen by the bytes of a name.
use Rattle.std.proofs.Common.{◌≡◌, ℕ, List, Result, Ok, Err, subst}
use Rattle.std.specs.Str.{IsUtf8}
use Rattle.wasm_edits.specs.declared.edits.Edit.{Edit}
use Rattle.wasm_c_items.specs.Edits.{IsChoice, IsChosen}
use Rattle.wasm_c_items.specs.declared.edits.EditStatus.{EditStatus}
use Rattle.wasm_c_items.specs.declared.edits.EditStatus.TheVariants.{Done, NoRoom, Malformed, UnknownKind}
use Rattle.wasm_c_items.specs.declared.edits.EditStatus.TheVariants.{NameNotUtf8, SectionTooLarge}

of_text : (kind : ℕ) (name contents : List ℕ) (choice : Result Edit EditStatus) → IsUtf8 name
    → IsChoice kind name contents choice → IsChosen kind name contents choice
of_text kind name contents (Ok edit) text is = (text, is)
of_text kind name contents (Err UnknownKind) text is = (text, is)
of_text kind name contents (Err SectionTooLarge) text is = (text, is)
of_text kind name contents (Err NameNotUtf8) text is = absurd is
of_text kind name contents (Err Done) text is = absurd is
of_text kind name contents (Err NoRoom) text is = absurd is
of_text kind name contents (Err Malformed) text is = absurd is

-- what is chosen by a text is chosen by its bytes
pub chosen_by : (kind : ℕ) (text name contents : List ℕ) (choice : Result Edit EditStatus) → text ≡ name
    → IsUtf8 name → IsChoice kind text contents choice → IsChosen kind name contents choice
chosen_by kind text name contents choice same utf8 is =
    of_text kind name contents choice utf8 (subst (λ (t : List ℕ). IsChoice kind t contents choice) same is)
