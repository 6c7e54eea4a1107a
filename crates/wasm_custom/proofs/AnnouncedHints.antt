-- A function that was read has as many hints as announced.
use Rattle.std.proofs.Common.{◌≡◌, ℕ, true, false, [], ◌∷◌, Ok, ap, subst}
use Rattle.wasm_base.proofs.Announced.{in_steps, read_as, announced, after_follows}
use Rattle.wasm_base.proofs.OwnBytes.{Own, own_nothing, own_both, own_in_table, own_number, own_passed}
use Rattle.wasm_base.specs.Announced.{GivesAnnounced}
use Rattle.wasm_base.specs.Inner.{inner_section_at, after_reading}
use Rattle.wasm_base.specs.Item.{ReadsAs}
use Rattle.wasm_base.specs.Number.{unsigned_at}
use Rattle.wasm_base.specs.Outcome.{Outcome, ◌>>=◌}
use Rattle.wasm_base.specs.Section.{Section, NextItem}
use Rattle.wasm_base.specs.Window.{Place}
use Rattle.wasm_base.specs.declared.fault.Lead.TheVariants as Leads
use Rattle.wasm_base.specs.declared.fault.NumberKind.TheVariants.{VarU32}
use Rattle.wasm_custom.specs.BranchHinting.{hint_size_at, taken_at, branch_hint_at, function_hints_at}
use Rattle.wasm_custom.specs.declared.branch_hinting.BranchHint.{BranchHint}
use Rattle.wasm_custom.specs.declared.branch_hinting.BranchHintFunction.{BranchHintFunction}

own_hint : Own branch_hint_at
unfolding branch_hint_at
own_hint =
    own_both (unsigned_at VarU32) (λ offset p. hint_size_at p >>= λ size. taken_at size.1 >>= λ taken.
    let o : Outcome BranchHint = Ok (record { func_offset = offset; taken = taken.0 }, taken.1) in o) (own_number VarU32)
    (λ offset. own_both hint_size_at (λ size p. taken_at p >>= λ taken.
    let o : Outcome BranchHint = Ok (record { func_offset = offset; taken = taken.0 }, taken.1) in o)
    (own_in_table Leads.BranchHint ((1, tt) ∷ []))
    (λ size. own_both taken_at (λ taken p.
    let o : Outcome BranchHint = Ok (record { func_offset = offset; taken = taken }, p) in o)
    (own_in_table Leads.BranchTaken ((0, false) ∷ (1, true) ∷ [])) (λ taken. own_nothing (record { func_offset = offset; taken = taken }))))

abbrev pub Given : Section → Type 0
Given hints = GivesAnnounced (NextItem (ReadsAs (λ (hint : BranchHint). hint) branch_hint_at)) hints

-- Iterating over the hints of a function that was read yields as many as announced.
pub hints_given : (p q : Place) (function : BranchHintFunction) → function_hints_at p ≡ Ok (function, q) → Given function.hints
unfolding function_hints_at
hints_given p q function e =
    let func = in_steps (unsigned_at VarU32 p) (λ f. inner_section_at (after_reading branch_hint_at) f.1 >>= λ h.
    let o : Outcome BranchHintFunction = Ok (record { func = f.0; hints = h.0 }, h.1) in o) (function, q) e in
    let list = in_steps (inner_section_at (after_reading branch_hint_at) func.between.1)
    (λ h. let o : Outcome BranchHintFunction = Ok (record { func = func.between.0; hints = h.0 }, h.1) in o) (function, q) func.other in
    let hints : Section = list.between.0 in
    let read : BranchHintFunction = record { func = func.between.0; hints = hints } in
    let same : read ≡ function = ap (λ (r : BranchHintFunction × Place). r.0) (read_as (read, list.between.1) (function, q) list.other) in
    subst (λ (f : BranchHintFunction). Given f.hints) same (announced (after_reading branch_hint_at) (own_passed branch_hint_at own_hint)
    (λ (hint : BranchHint). hint) branch_hint_at (after_follows branch_hint_at) func.between.1 list.between.1 hints list.one)
