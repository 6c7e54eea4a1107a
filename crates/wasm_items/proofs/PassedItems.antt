-- Skipping an item consumes the same bytes as reading it.
use Rattle.std.proofs.Common.{◌≡◌, ℕ, List, Some, Ok, Err, refl, ap}
use Rattle.wasm_base.proofs.Passing.{name_passed, value_or}
use Rattle.wasm_base.specs.Name.{name_limit, text_at}
use Rattle.wasm_base.specs.Outcome.{Outcome, ◌>>=◌}
use Rattle.wasm_base.specs.Skip.{skipped_name_at}
use Rattle.wasm_base.specs.Window.{Window, Place, window_between}
use Rattle.wasm_items.specs.Imports.{ItemParts, item_at, skipped_item_at, type_ref_at}
use Rattle.wasm_items.specs.Init.{end_of_expression, expression_at}
use Rattle.wasm_items.specs.declared.imports.TypeRef.{TypeRef}

-- the import after its name and its type
abbrev with_name : List ℕ × Place → TypeRef × Place → Outcome ItemParts
with_name name ty = Ok (record { name = name.0; ty = ty.0 }, ty.1)

abbrev after_name : List ℕ × Place → Outcome ItemParts
after_name name = type_ref_at name.1 >>= with_name name

-- the place after a type
abbrev after_type : TypeRef × Place → Outcome (Unit {0})
after_type ty = Ok (tt, ty.1)

abbrev type_after : {A : Type 0} → A × Place → Outcome (Unit {0})
type_after before = type_ref_at before.1 >>= after_type

module _ (q : Place) (parts : ItemParts) where
  type_step : (name : List ℕ × Place) (o : Outcome TypeRef) → (o >>= with_name name) ≡ Ok (parts, q) → (o >>= after_type) ≡ Ok (tt, q)
  type_step name (Err e) h = cc
  type_step name (Ok ty) h =
      let z = ap (value_or (parts, q)) h in
      let after : ty.1 ≡ q = ap (λ (o : ItemParts × Place). o.1) z in
      rw after refl

  name_step : (p : Place) (o : Outcome (List ℕ)) → text_at (Some name_limit) p ≡ o → (o >>= after_name) ≡ Ok (parts, q)
      → (skipped_name_at p >>= type_after) ≡ Ok (tt, q)
  name_step p (Err e) is h = cc
  name_step p (Ok name) is h = rw (name_passed p name.1 name.0 is) (type_step name (type_ref_at name.1) h)

-- an import of a bundle
pub item_passed : (p q : Place) (parts : ItemParts) → item_at p ≡ Ok (parts, q) → skipped_item_at p ≡ Ok (tt, q)
unfolding item_at skipped_item_at
item_passed p q parts h = name_step q parts p (text_at (Some name_limit) p) refl h

-- the window up to an end
abbrev with_end : Place → Unit {0} × Place → Outcome Window
with_end p end = Ok (window_between p end.1, end.1)

end_step : (p q : Place) (window : Window) (o : Outcome (Unit {0})) → (o >>= with_end p) ≡ Ok (window, q) → o ≡ Ok (tt, q)
end_step p q window (Err e) h = cc
end_step p q window (Ok end) h =
    let z = ap (value_or (window, q)) h in
    let after : end.1 ≡ q = ap (λ (o : Window × Place). o.1) z in
    rw after refl

-- a constant expression
pub expression_passed : (p q : Place) (window : Window) → expression_at p ≡ Ok (window, q) → end_of_expression p ≡ Ok (tt, q)
unfolding expression_at
expression_passed p q window h = end_step p q window (end_of_expression p) h
