-- The names of functions.
use Rattle.wasm_examples.proofs.Common.{◌≡◌, ℕ, ◌<◌, ◌∙◌, ap, true, List, length, map, set, nat_lt, Option, Some, Result, arith, lt-ltb}
use Rattle.wasm_examples.proofs.Common.{length-map, map-set, Bor, Ascending, NextAscending, ReadsAs, Items, NextItem, Error, NamingParts}
use Rattle.wasm_examples.proofs.Common.{naming_parts, naming_at, index_of, offset_of_entry, text_of, with_name, ascending}
use Rattle.wasm_base.specs.declared.fault.Fault.TheVariants.{NamesOrder}
use Rattle.wasm_custom.specs.declared.names.Naming.{Naming}
use Rattle.wasm_examples.proofs.Items.{left_of, item_came}
use Rattle.wasm_examples.proofs.Parts.{and_more, entry_came}

-- the name of a function that is there
pub is_set : (list : List (Option (Bor (List ℕ)))) (i : ℕ) (x : Bor (List ℕ)) → i < length list → map text_of (set list i (Some x))
    ≡ with_name (map text_of list) (record { index = i; name = x.now })
is_set list i x h =
    let there : nat_lt i (length (map text_of list)) ≡ true = lt-ltb _ _ (omega (arith, h, length-map list text_of)) in
    rw there (map-set text_of list i (Some x))

-- an entry of a map arrived, or none that counts
pub naming_came : (s t : Ascending Items) (given : Result Naming Error)
    → NextAscending (NextItem (ReadsAs naming_parts naming_at)) offset_of_entry index_of NamesOrder s (Some given) t
    → ascending (λ x. x.index) s.last (left_of naming_at s.entries)
    ≡ and_more naming_parts given (ascending (λ x. x.index) t.last (left_of naming_at t.entries))
naming_came s t given n =
    let e = entry_came {index = λ (x : NamingParts). x.index} given n in
    ap (ascending (λ x. x.index) s.last) (item_came naming_parts naming_at e.reads) ∙ e.takes (left_of naming_at t.entries)
