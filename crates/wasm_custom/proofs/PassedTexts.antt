-- Skipping an item with texts consumes the same bytes as reading it, if its texts are within the limit of skipped names.
use Rattle.std.proofs.Common.{◌≡◌, ℕ, ◌≤◌, List, length, None, Ok, Err, refl, sym, ap, ◌∙◌}
use Rattle.wasm_base.proofs.Passing.{text_passed, value_or}
use Rattle.wasm_base.specs.Name.{name_limit, text_at}
use Rattle.wasm_base.specs.Number.{unsigned_at}
use Rattle.wasm_base.specs.Outcome.{Outcome, ◌>>=◌}
use Rattle.wasm_base.specs.Skip.{skipped_name_at}
use Rattle.wasm_base.specs.Window.{Place}
use Rattle.wasm_base.specs.declared.fault.NumberKind.TheVariants.{VarU32}
use Rattle.wasm_custom.specs.Names.{NamingParts, naming_at, skipped_naming_at}
use Rattle.wasm_custom.specs.Producers.{ValueParts, field_value_at, skipped_value_at}

-- the naming after its index and its name
abbrev with_index : ℕ × Place → List ℕ × Place → Outcome NamingParts
with_index index name = Ok (record { index = index.0; name = name.0 }, name.1)

abbrev after_index : ℕ × Place → Outcome NamingParts
after_index index = text_at None index.1 >>= with_index index

-- the value after its name and its version
abbrev with_name : List ℕ × Place → List ℕ × Place → Outcome ValueParts
with_name name version = Ok (record { name = name.0; version = version.0 }, version.1)

abbrev after_name : List ℕ × Place → Outcome ValueParts
after_name name = text_at None name.1 >>= with_name name

-- the place after a skipped name
abbrev skip_after : {A : Type 0} → A × Place → Outcome (Unit {0})
skip_after before = skipped_name_at before.1

module _ (q : Place) where
  module _ (parts : NamingParts) (le : length parts.name ≤ name_limit) where
    name_step : (index : ℕ × Place) (o : Outcome (List ℕ)) → text_at None index.1 ≡ o → (o >>= with_index index) ≡ Ok (parts, q)
        → skipped_name_at index.1 ≡ Ok (tt, q)
    name_step index (Err e) is h = cc
    name_step index (Ok name) is h =
        let z = ap (value_or (parts, q)) h in
        let text : name.0 ≡ parts.name = ap (λ (o : NamingParts × Place). o.0.name) z in
        let after : name.1 ≡ q = ap (λ (o : NamingParts × Place). o.1) z in
        let read : text_at None index.1 ≡ Ok (parts.name, q) = rw (← text, ← after) is in
        text_passed index.1 q parts.name le read

    index_step : (o : Outcome ℕ) → (o >>= after_index) ≡ Ok (parts, q) → (o >>= skip_after) ≡ Ok (tt, q)
    index_step (Err e) h = cc
    index_step (Ok index) h = name_step index (text_at None index.1) refl h

    pub naming_passed : (p : Place) → naming_at p ≡ Ok (parts, q) → skipped_naming_at p ≡ Ok (tt, q)
    unfolding naming_at skipped_naming_at
    naming_passed p h = index_step (unsigned_at VarU32 p) h

  module _ (parts : ValueParts) (short : (length parts.name ≤ name_limit) × (length parts.version ≤ name_limit)) where
    version_step : (name : List ℕ × Place) (o : Outcome (List ℕ)) → text_at None name.1 ≡ o → (o >>= with_name name) ≡ Ok (parts, q)
        → (name.0 ≡ parts.name) × (skipped_name_at name.1 ≡ Ok (tt, q))
    version_step name (Err e) is h = absurd (cc)
    version_step name (Ok version) is h =
        let z = ap (value_or (parts, q)) h in
        let text : version.0 ≡ parts.version = ap (λ (o : ValueParts × Place). o.0.version) z in
        let after : version.1 ≡ q = ap (λ (o : ValueParts × Place). o.1) z in
        let read : text_at None name.1 ≡ Ok (parts.version, q) = rw (← text, ← after) is in
        (ap (λ (o : ValueParts × Place). o.0.name) z, text_passed name.1 q parts.version short.1 read)

    first_step : (p : Place) (o : Outcome (List ℕ)) → text_at None p ≡ o → (o >>= after_name) ≡ Ok (parts, q)
        → (skipped_name_at p >>= skip_after) ≡ Ok (tt, q)
    first_step p (Err e) is h = cc
    first_step p (Ok name) is h =
        let s = version_step name (text_at None name.1) refl h in
        let le : length name.0 ≤ name_limit = rw s.0 short.0 in
        rw (text_passed p name.1 name.0 le is) s.1

    pub value_passed : (p : Place) → field_value_at p ≡ Ok (parts, q) → skipped_value_at p ≡ Ok (tt, q)
    unfolding field_value_at skipped_value_at
    value_passed p h = first_step p (text_at None p) refl h
