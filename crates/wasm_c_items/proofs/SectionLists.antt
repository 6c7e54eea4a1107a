-- A list that C walks, beside an iterator over a section.
use Rattle.std.proofs.Common.{◌≡◌, ◌∙◌, ℕ, zero, suc, ◌+◌, ◌-◌, ◌<◌, ◌≤◌, ◌^◌, Bool, true, false, List, [], ◌∷◌, length, drop}
use Rattle.std.proofs.Common.{Option, Some, None, Result, Ok, Err, refl, sym, ap, subst, arith, nat_eq, nat_lt}
use Rattle.std.proofs.Common.{if◌then◌else◌, lt-ltb, ltb-true, ltb-false}
use Rattle.std.proofs.lemmas.Bool.{true≢false}
use Rattle.std.specs.Prelude.{min}
use Rattle.std.proofs.lemmas.List.{drop-drop, drop_all}
use Rattle.std.proofs.Math.Nat.{min-eq_left, min-eq_right}
use Rattle.wasm_base.specs.FaultAt.{fault_at, at_offset}
use Rattle.wasm_base.specs.Outcome.{Outcome}
use Rattle.wasm_base.specs.Section.{Items, NextItem, ReadsEnd, ReadsItem}
use Rattle.wasm_base.specs.Window.{KeepsWindow, Place, Window, place}
use Rattle.wasm_base.specs.declared.error.Error.{Error}
use Rattle.wasm_base.specs.declared.fault.Fault.TheVariants.{SizeMismatch}
use Rattle.wasm_frames.specs.Stored.{is_set}
use Rattle.wasm_c_items.specs.Cursors.{after_item, end_by, ended, item_by, item_of, moved_to, next_by, place_of, start_of}
use Rattle.wasm_c_items.specs.SectionLists.{IsBeside, ListsAreSections, ReturnsTheSame, listed_item}
use Rattle.wasm_c_items.specs.Spans.{read_over}
use Rattle.wasm_c_items.specs.declared.cursors.StoredItems.{StoredItems}

-- A position beyond the greatest number drops all bytes, as that number does.
capped_by : (bytes : List ℕ) (n : ℕ) (b : Bool) → nat_lt n (2 ^ 64) ≡ b → length bytes < 2 ^ 64
    → drop (min n (2 ^ 64 - 1)) bytes ≡ drop n bytes
capped_by bytes n true e short = ap (λ (k : ℕ). drop k bytes) (min-eq_left (omega (arith, ltb-true _ _ e)))
capped_by bytes n false e short =
    ap (λ (k : ℕ). drop k bytes) (min-eq_right (omega (arith, ltb-false _ _ e)))
    ∙ (drop_all (2 ^ 64 - 1) bytes (omega (arith, short)) ∙ sym (drop_all n bytes (omega (arith, short, ltb-false _ _ e))))

capped : (bytes : List ℕ) (n : ℕ) → length bytes < 2 ^ 64 → drop (min n (2 ^ 64 - 1)) bytes ≡ drop n bytes
capped bytes n short = capped_by bytes n (nat_lt n (2 ^ 64)) refl short

-- the bytes after a move
moved_rest : (bytes : List ℕ) (c : StoredItems) (u v : Window) → length bytes < 2 ^ 64
    → place_of c (drop c.position bytes) ≡ place u → KeepsWindow u v
    → drop (moved_to (place v).offset c).position bytes ≡ (place v).rest
moved_rest bytes c u v short at keeps =
    let d : ℕ = v.position - u.position in
    let offset : c.offset + 0 ≡ u.start + u.position = ap (λ (p : Place). p.offset) at in
    let rest : drop c.position bytes ≡ drop u.position u.bytes = ap (λ (p : Place). p.rest) at in
    let step : (v.start + v.position) - c.offset ≡ d = omega (arith, offset, keeps.start, keeps.forward) in
    let whole : u.position + d ≡ v.position = omega (arith, keeps.forward) in
    capped bytes (c.position + ((v.start + v.position) - c.offset)) short
    ∙ (ap (λ (k : ℕ). drop (c.position + k) bytes) step
    ∙ (sym (drop-drop d c.position bytes)
    ∙ (ap (λ (l : List ℕ). drop d l) rest
    ∙ (drop-drop d u.position u.bytes
    ∙ (ap (λ (k : ℕ). drop k u.bytes) whole ∙ ap (λ (l : List ℕ). drop v.position l) (sym keeps.bytes))))))

-- the place after a move
moved : (bytes : List ℕ) (c : StoredItems) (u v : Window) → length bytes < 2 ^ 64
    → place_of c (drop c.position bytes) ≡ place u → KeepsWindow u v
    → place_of (moved_to (place v).offset c) (drop (moved_to (place v).offset c).position bytes) ≡ place v
moved bytes c u v short at keeps =
    let features : c.features ≡ v.features = ap (λ (p : Place). p.features) at ∙ sym keeps.features in
    let offset : (place v).offset + 0 ≡ (place v).offset = omega arith in
    let rest = moved_rest bytes c u v short at keeps in
    λ i. record { features = features i; offset = offset i; rest = rest i }

-- a list that is over
at_over : {X T : Type 0} (plain : (from : ℕ) → Place → Outcome X → T) (reading : Place → Outcome X) (bytes : List ℕ)
    (c : StoredItems) (s t : Items) (given : Option (Result X Error)) → s.ended ≡ true → IsBeside bytes c s
    → (given ≡ None) × (t ≡ s) → ReturnsTheSame plain reading bytes c s given t
at_over plain reading bytes c s t given over w is =
    let ended : is_set c.is_ended ≡ true = w.over ∙ over in
    rw (is.0, is.1) (record { result = rw ended refl; beside = rw ended w })

-- a list and an iterator that are both over
both_over : (bytes : List ℕ) (c : StoredItems) (s : Items) → IsBeside bytes (ended c) (record s { ended = true })
both_over bytes c s = record { over = refl; place = λ e. absurd (true≢false e); left = λ e. absurd (true≢false e) }

-- a list without remaining items, with this many bytes left
at_last : {X T : Type 0} (plain : (from : ℕ) → Place → Outcome X → T) (bytes : List ℕ) (c : StoredItems) (s t : Items)
    (given : Option (Result X Error)) (rest : List ℕ) → place_of c rest ≡ place s.reader → ReadsEnd s given t
    → ((end_by plain c rest).0 ≡ listed_item (plain (start_of c)) (place s.reader) (place t.reader) given)
    × IsBeside bytes (end_by plain c rest).1 t
at_last plain bytes c s t None [] at is = (refl, rw is.1 (both_over bytes c s))
at_last plain bytes c s t None (b ∷ bs) at is = absurd (omega (arith, ap (λ (p : Place). length p.rest) at, is.0))
at_last plain bytes c s t (Some (Ok x)) rest at is = absurd is
at_last plain bytes c s t (Some (Err e)) [] at is = absurd (omega (arith, ap (λ (p : Place). length p.rest) at, is.0))
at_last plain bytes c s t (Some (Err e)) (b ∷ bs) at is =
    let offset : c.offset ≡ (place s.reader).offset = omega (arith, ap (λ (p : Place). p.offset) at) in (
      (λ i. Some (plain (start_of c) (at i) (Err ((ap (λ (k : ℕ). at_offset SizeMismatch k) offset ∙ sym is.1) i)))),
      rw is.2 (both_over bytes c s),
    )

-- the item at a list's place, within the offsets of a stream
read_there : {X : Type 0} (reading : Place → Outcome X) (c : StoredItems) (rest : List ℕ) (p : Place) (outcome : Outcome X)
    → c.offset + length rest < 2 ^ 64 → place_of c rest ≡ p → reading p ≡ outcome
    → read_over reading c.features c.offset rest ≡ outcome
read_there reading c rest p outcome fits at is =
    rw (lt-ltb _ _ fits) (ap reading at ∙ is)

-- a list with remaining items
at_item : {X T : Type 0} (plain : (from : ℕ) → Place → Outcome X → T) (reading : Place → Outcome X) (bytes : List ℕ)
    (c : StoredItems) (s t : Items) (given : Option (Result X Error)) → length bytes < 2 ^ 64
    → c.offset + length (drop c.position bytes) < 2 ^ 64 → is_set c.is_ended ≡ false
    → place_of c (drop c.position bytes) ≡ place s.reader → c.remaining ≡ s.left → KeepsWindow s.reader t.reader
    → ReadsItem (λ p outcome. reading p ≡ outcome) s given t
    → ((item_by plain reading c (drop c.position bytes)).0 ≡ listed_item (plain (start_of c)) (place s.reader) (place t.reader) given)
    × IsBeside bytes (item_by plain reading c (drop c.position bytes)).1 t
at_item plain reading bytes c s t None short fits goes at left keeps is = absurd is
at_item plain reading bytes c s t (Some (Ok x)) short fits goes at left keeps is =
    let read = read_there reading c _ _ _ fits at is.0 in (
      (λ i. Some (plain (start_of c) (at i) (read i))),
      rw read (record {
        over = goes ∙ sym is.2;
        place = λ e. moved bytes c s.reader t.reader short at keeps;
        left = λ e. omega (arith, is.1, left);
      }),
    )
at_item plain reading bytes c s t (Some (Err e)) short fits goes at left keeps is =
    let read = read_there reading c _ _ _ fits at is.0 in (
      (λ i. Some (plain (start_of c) (at i) (read i))),
      rw read (record {
        over = sym is.2;
        place = λ f. absurd (true≢false (sym is.2 ∙ f));
        left = λ f. absurd (true≢false (sym is.2 ∙ f));
      }),
    )

-- what a call returns for a list that is not over, by whether items remain
step : {X T : Type 0} (plain : (from : ℕ) → Place → Outcome X → T) (reading : Place → Outcome X) (bytes : List ℕ)
    (c : StoredItems) (b : Bool) → is_set c.is_ended ≡ false → nat_eq c.remaining 0 ≡ b → next_by plain reading bytes c
    ≡ if b then end_by plain c (drop c.position bytes) else item_by plain reading c (drop c.position bytes)
step {X} {T} plain reading bytes c b goes is =
    let rest : Bool → Option T × StoredItems = λ x.
    if x then end_by plain c (drop c.position bytes) else item_by plain reading c (drop c.position bytes) in
    ap (λ (x : Bool). if x then (None, c) else rest (nat_eq c.remaining 0)) goes ∙ ap rest is

no_zero : (n : ℕ) → nat_eq (suc n) 0 ≡ false
no_zero n = grind arith

-- what a call returns
returned : {X T : Type 0} (plain : (from : ℕ) → Place → Outcome X → T) (reading : Place → Outcome X) (bytes : List ℕ)
    (c : StoredItems) (s t : Items) (given : Option (Result X Error)) (r : Option T × StoredItems)
    → next_by plain reading bytes c ≡ r
    → (r.0 ≡ listed_item (plain (start_of c)) (place s.reader) (place t.reader) given) × IsBeside bytes r.1 t
    → ReturnsTheSame plain reading bytes c s given t
returned plain reading bytes c s t given r same is = record {
  result = ap (λ (x : Option _ × StoredItems). x.0) same ∙ is.0;
  beside = subst (λ (x : Option _ × StoredItems). IsBeside bytes x.1 t) (sym same) is.1;
}

-- a list that is not over
at_goes : {X T : Type 0} (plain : (from : ℕ) → Place → Outcome X → T) (reading : Place → Outcome X) (bytes : List ℕ)
    (c : StoredItems) (s t : Items) (given : Option (Result X Error)) (left : ℕ) → s.left ≡ left → length bytes < 2 ^ 64
    → c.offset + length (drop c.position bytes) < 2 ^ 64 → s.ended ≡ false → IsBeside bytes c s
    → NextItem (λ p outcome. reading p ≡ outcome) s given t → ReturnsTheSame plain reading bytes c s given t
at_goes plain reading bytes c s t given zero none short fits goes w next =
    returned plain reading bytes c s t given _
    (step plain reading bytes c true (w.over ∙ goes) (ap (λ (n : ℕ). nat_eq n 0) (w.left goes ∙ none)))
    (at_last plain bytes c s t given (drop c.position bytes) (w.place goes) (next.last goes none))
at_goes plain reading bytes c s t given (suc left) some short fits goes w next =
    returned plain reading bytes c s t given _
    (step plain reading bytes c false (w.over ∙ goes) (ap (λ (n : ℕ). nat_eq n 0) (w.left goes ∙ some) ∙ no_zero left))
    (at_item plain reading bytes c s t given short fits (w.over ∙ goes) (w.place goes) (w.left goes) next.keeps
    (next.item goes (omega (arith, some))))

-- a list, by whether it is over
by_end : {X T : Type 0} (plain : (from : ℕ) → Place → Outcome X → T) (reading : Place → Outcome X) (bytes : List ℕ)
    (c : StoredItems) (s t : Items) (given : Option (Result X Error)) (b : Bool) → s.ended ≡ b → length bytes < 2 ^ 64
    → c.offset + length (drop c.position bytes) < 2 ^ 64 → IsBeside bytes c s
    → NextItem (λ p outcome. reading p ≡ outcome) s given t → ReturnsTheSame plain reading bytes c s given t
by_end plain reading bytes c s t given true over short fits w next =
    at_over plain reading bytes c s t given over w (next.over over)
by_end plain reading bytes c s t given false goes short fits w next =
    at_goes plain reading bytes c s t given s.left refl short fits goes w next

pub beside_iterator : {X T : Type 0} → ListsAreSections X T
beside_iterator plain reading bytes c s t given short fits w next =
    by_end plain reading bytes c s t given s.ended refl short fits w next
