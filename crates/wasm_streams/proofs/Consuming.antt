-- The bytes of a buffer that a part consumes.
use Rattle.wasm_streams.proofs.Common.{◌≡◌, ℕ, ◌+◌, List, ◌++◌, take, drop, sym, ap, ◌∙◌, drop-drop, take-append-drop}

pub consumed_so : (mark count : ℕ) (bytes : List ℕ) → drop mark bytes ≡ take count (drop mark bytes) ++ drop (mark + count) bytes
consumed_so mark count bytes =
    sym (take-append-drop count (drop mark bytes)) ∙ ap (λ (l : List ℕ). take count (drop mark bytes) ++ l) (drop-drop count mark bytes)
