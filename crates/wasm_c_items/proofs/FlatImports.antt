-- Steps from one import of a section to the next.
use Rattle.std.proofs.Common.{◌≡◌, ◌∙◌, ◌-◌, ◌<◌, ℕ, suc, Bool, true, false, List, Option, Some, nat_eq, if◌then◌else◌, sym, ap, arith}
use Rattle.wasm_items.specs.Imports.{bundle_at}
use Rattle.wasm_c_items.specs.Cursors.{next_by}
use Rattle.wasm_c_items.specs.FlatImports.{entered, flat_by, is_within, of_section, within}
use Rattle.wasm_c_items.specs.Imports.{plain_import}
use Rattle.wasm_c_items.specs.declared.cursors.StoredItems.{StoredItems}
use Rattle.wasm_c_items.specs.declared.flat_imports.StoredImports.{StoredImports}
use Rattle.wasm_c_items.specs.declared.imports.PlainImport.{PlainImport}

-- what one more step is
steps : (n : ℕ) (bytes : List ℕ) (c : StoredImports) (b : Bool) → is_within c ≡ b → flat_by (suc n) bytes c
    ≡ if b then within bytes c else of_section (λ d. flat_by n bytes d) c (next_by plain_import bundle_at bytes c.items)
steps n bytes c b e = ap (λ (x : Bool). if x then within bytes c else
    of_section (λ d. flat_by n bytes d) c (next_by plain_import bundle_at bytes c.items)) e

some : (left : ℕ) → 0 < left → suc (left - 1) ≡ left
some left lt = omega (arith, lt)

-- the step, and all that follow
from : (left : ℕ) (bytes : List ℕ) (c : StoredImports) (r : Option PlainImport × StoredImports) (b : Bool) → 0 < left
    → is_within c ≡ b → flat_by left bytes c ≡ r
    → if b then within bytes c else of_section (λ d. flat_by (left - 1) bytes d) c (next_by plain_import bundle_at bytes c.items) ≡ r
from left bytes c r b lt e same =
    sym (steps (left - 1) bytes c b e) ∙ (ap (λ (n : ℕ). flat_by n bytes c) (some left lt) ∙ same)

pub at_within : (left : ℕ) (bytes : List ℕ) (c : StoredImports) (r : Option PlainImport × StoredImports) → 0 < left
    → is_within c ≡ true → flat_by left bytes c ≡ r → within bytes c ≡ r
at_within left bytes c r lt e same = from left bytes c r true lt e same

-- a step in the section
in_section : (left : ℕ) (bytes : List ℕ) (c : StoredImports) (d : StoredItems) (one : PlainImport)
    (r : Option PlainImport × StoredImports) (b : Bool) → 0 < left → is_within c ≡ false
    → next_by plain_import bundle_at bytes c.items ≡ (Some one, d) → nat_eq one.kind 0 ≡ b → flat_by left bytes c ≡ r
    → if b then (Some one, record c { items = d }) else flat_by (left - 1) bytes (entered one (record c { items = d })) ≡ r
in_section left bytes c d one r b lt e next kind same =
    let more : StoredImports → Option PlainImport × StoredImports = λ x. flat_by (left - 1) bytes x in
    sym (ap (λ (o : Option PlainImport × StoredItems). of_section more c o) next
    ∙ ap (λ (x : Bool). if x then (Some one, record c { items = d }) else more (entered one (record c { items = d }))) kind)
    ∙ from left bytes c r false lt e same

pub at_import : (left : ℕ) (bytes : List ℕ) (c : StoredImports) (d : StoredItems) (one : PlainImport)
    (r : Option PlainImport × StoredImports) → 0 < left → is_within c ≡ false
    → next_by plain_import bundle_at bytes c.items ≡ (Some one, d) → nat_eq one.kind 0 ≡ true → flat_by left bytes c ≡ r
    → (Some one, record c { items = d }) ≡ r
at_import left bytes c d one r = in_section left bytes c d one r true

pub at_bundle : (left : ℕ) (bytes : List ℕ) (c : StoredImports) (d : StoredItems) (one : PlainImport)
    (r : Option PlainImport × StoredImports) → 0 < left → is_within c ≡ false
    → next_by plain_import bundle_at bytes c.items ≡ (Some one, d) → nat_eq one.kind 0 ≡ false → flat_by left bytes c ≡ r
    → flat_by (left - 1) bytes (entered one (record c { items = d })) ≡ r
at_bundle left bytes c d one r = in_section left bytes c d one r false
