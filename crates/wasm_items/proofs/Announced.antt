-- A segment that was read has as many elements as announced.
use Rattle.std.proofs.Common.{◌≡◌, ℕ, Bool, true, false, cond, Ok, Err, refl, ap, subst}
use Rattle.wasm_base.proofs.Announced.{in_steps, read_as, Follows, announced, after_follows}
use Rattle.wasm_base.proofs.OwnBytes.{own_number, own_passed}
use Rattle.wasm_base.specs.Inner.{inner_section_at, after_reading}
use Rattle.wasm_base.specs.Item.{ReadsAs}
use Rattle.wasm_base.specs.Number.{unsigned_at}
use Rattle.wasm_base.specs.Outcome.{Outcome, ◌>>=◌}
use Rattle.wasm_base.specs.Section.{Section, NextItem}
use Rattle.wasm_base.specs.Window.{Place, window_between}
use Rattle.wasm_base.specs.declared.fault.NumberKind.TheVariants.{VarU32}
use Rattle.wasm_items.specs.Announced.{ElementsAreGiven}
use Rattle.wasm_items.specs.Elements.{element_at, element_flags_at, element_kind_at, elements_at, after_element_kind, element_type_at}
use Rattle.wasm_items.specs.Elements.{has_expressions, function_elements_at, expression_elements_at}
use Rattle.wasm_items.specs.Init.{end_of_expression, expression_at}
use Rattle.wasm_items.specs.Windows.{expression_window}
use Rattle.wasm_items.specs.declared.elements.Element.{Element}
use Rattle.wasm_items.specs.declared.elements.ElementItems.{ElementItems}
use Rattle.wasm_items.specs.declared.elements.ElementKind.{ElementKind}
use Rattle.wasm_items.specs.declared.elements.ElementItems.TheVariants.{Functions, Expressions}
use Rattle.wasm_items.proofs.OwnBytes.{own_expression}

expression_follows : Follows end_of_expression expression_at
unfolding expression_at
expression_follows = record { reads = λ p q e. (window_between p q, rw e refl) }

abbrev pub Given : ElementItems → Type 0
Given items = ElementsAreGiven (NextItem (ReadsAs (λ (n : ℕ). n) (unsigned_at VarU32))) (NextItem (ReadsAs expression_window expression_at))
    items

functions_given : (flags : ℕ) (p q : Place) (items : ElementItems) → function_elements_at flags p ≡ Ok (items, q) → Given items
unfolding function_elements_at
functions_given flags p q items e =
    let kind = in_steps (after_element_kind flags p) (λ k. inner_section_at (after_reading (unsigned_at VarU32)) k.1 >>= λ i.
    let o : Outcome ElementItems = Ok (Functions i.0, i.1) in o) (items, q) e in
    let list = in_steps (inner_section_at (after_reading (unsigned_at VarU32)) kind.between.1)
    (λ i. let o : Outcome ElementItems = Ok (Functions i.0, i.1) in o) (items, q) kind.other in
    let section : Section = list.between.0 in
    let same : Functions section ≡ items = ap (λ (r : ElementItems × Place). r.0)
    (read_as (Functions section, list.between.1) (items, q) list.other) in
    subst Given same (announced (after_reading (unsigned_at VarU32)) (own_passed (unsigned_at VarU32) (own_number VarU32)) (λ (n : ℕ). n)
    (unsigned_at VarU32) (after_follows (unsigned_at VarU32)) kind.between.1 list.between.1 section list.one)

expressions_given : (flags : ℕ) (p q : Place) (items : ElementItems) → expression_elements_at flags p ≡ Ok (items, q) → Given items
unfolding expression_elements_at
expressions_given flags p q items e =
    let ty = in_steps (element_type_at flags p) (λ t. inner_section_at end_of_expression t.1 >>= λ i.
    let o : Outcome ElementItems = Ok (Expressions t.0 i.0, i.1) in o) (items, q) e in
    let list = in_steps (inner_section_at end_of_expression ty.between.1)
    (λ i. let o : Outcome ElementItems = Ok (Expressions ty.between.0 i.0, i.1) in o) (items, q) ty.other in
    let section : Section = list.between.0 in
    let same : Expressions ty.between.0 section ≡ items = ap (λ (r : ElementItems × Place). r.0)
    (read_as (Expressions ty.between.0 section, list.between.1) (items, q) list.other) in
    subst Given same (announced end_of_expression own_expression expression_window expression_at expression_follows ty.between.1
    list.between.1 section list.one)

elements_given : (flags : ℕ) (t : Bool) (p q : Place) (items : ElementItems)
    → cond t (expression_elements_at flags p) (function_elements_at flags p) ≡ Ok (items, q) → Given items
elements_given flags true p q items e = expressions_given flags p q items e
elements_given flags false p q items e = functions_given flags p q items e

-- a segment whose elements were read last
segment_given : (kind : ElementKind) (start : ℕ) (o : Outcome ElementItems) (element : Element) (q : Place)
    → ((items : ElementItems) (r : Place) → o ≡ Ok (items, r) → Given items)
    → (o >>= λ i. let whole : Outcome Element = Ok (
      record { kind = kind; items = i.0; range = record { start = start; end = i.1.offset } },
      i.1,
    ) in whole) ≡ Ok (element, q) → Given element.items
segment_given kind start (Err f) element q given e = cc
segment_given kind start (Ok i) element q given e =
    let read : Element = record { kind = kind; items = i.0; range = record { start = start; end = i.1.offset } } in
    let same : read ≡ element = ap (λ (r : Element × Place). r.0) (read_as (read, i.1) (element, q) e) in
    subst (λ (x : Element). Given x.items) same (given i.0 i.1 refl)

kind_given : (flags start : ℕ) (o : Outcome ElementKind) (element : Element) (q : Place)
    → (o >>= λ k. elements_at flags k.1 >>= λ i. let whole : Outcome Element =
    Ok (record { kind = k.0; items = i.0; range = record { start = start; end = i.1.offset } }, i.1) in whole) ≡ Ok (element, q)
    → Given element.items
kind_given flags start (Err f) element q e = cc
kind_given flags start (Ok k) element q e = segment_given k.0 start (elements_at flags k.1) element q
    (λ items r read. elements_given flags (has_expressions flags) k.1 r items read) e

flags_given : (start : ℕ) (o : Outcome ℕ) (element : Element) (q : Place)
    → (o >>= λ f. element_kind_at f.0 f.1 >>= λ k. elements_at f.0 k.1 >>= λ i.
    let whole : Outcome Element = Ok (record { kind = k.0; items = i.0; range = record { start = start; end = i.1.offset } }, i.1) in
    whole) ≡ Ok (element, q) → Given element.items
flags_given start (Err f) element q e = cc
flags_given start (Ok f) element q e = kind_given f.0 start (element_kind_at f.0 f.1) element q e

-- Iterating over the elements of a segment that was read yields as many as announced.
pub element_given : (p q : Place) (element : Element) → element_at p ≡ Ok (element, q) → Given element.items
unfolding element_at
element_given p q element e = flags_given p.offset (element_flags_at p) element q e
