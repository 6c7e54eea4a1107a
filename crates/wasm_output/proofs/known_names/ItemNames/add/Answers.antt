use Rattle.wasm_output.proofs.Common.{◌≡◌, ℕ, false, arith, sym, ◌∙◌, Some, subst₂, UpdatesBy, get_by, is_some, key_cmp, names_in, AddsName}
use Rattle.wasm_output.proofs.Common.{item}
use Rattle.wasm_output.proofs.Naming.{added_kept, had_name, has_name}
use Rattle.wasm_output.proofs.known_names.ItemNames.add.Goals as goal

pub returns-then-contains_key-clause-added : goal.returns-then-contains_key-clause-added
returns-then-contains_key-clause-added g c = grind (arith, had_name)

pub returns-in-Ok-clause-added : goal.returns-in-Ok-clause-added
returns-in-Ok-clause-added g c =
    let number = item c.args.space c.args.index in
    let key : ℕ × ℕ = (c.rank_of.result, c.args.index) in
    let none : is_some (get_by (key_cmp key) c.self.inside.names) ≡ false = sym c.contains_key.ensures ∙ c.if-contains_key.false in
    let updates : UpdatesBy key_cmp (key_cmp key) c.self.inside.names c.insert.new.self (Some c.in_ok-from_str.field-0) =
    c.in-Ok.ensures.updates in
    subst₂ (λ names text. AddsName names number text (names_in c.insert.new.self)) c.self.view_is c.in_ok-from_str.ensures.ok
    (has_name c.self.inside.names c.insert.new.self number c.in_ok-from_str.field-0 c.ranges.index.fits
    (rw c.rank_of.ensures at none) (rw c.rank_of.ensures at updates))

pub returns-in-Ok-clause-keeps : goal.returns-in-Ok-clause-keeps
returns-in-Ok-clause-keeps g c = added_kept _ _ _ _ (returns-in-Ok-clause-added g c)
