-- The kept bytes of a stream, moved to its front.
use Rattle.wasm_edits.proofs.Common.{◌≡◌, ℕ, ◌+◌, List, ◌++◌, length, sym, arith, length-append, append_assoc, ◌-◌, ◌≤◌, take}
use Rattle.wasm_edits.proofs.Common.{drop, ap, ◌∙◌, take_at, copy_within, HasEdited, feed_of, Cursor}
use Rattle.std.proofs.lemmas.List.{drop-drop, length-drop, take-append-drop}
use Rattle.std.proofs.lemmas.List.Edits.{take-paste, drop-paste}
use Rattle.wasm_edits.specs.declared.edits.Edit.{Edit}

-- a part that is moved down, after what is at the front, changes nothing of what comes after it
module _ (bytes part : List ℕ) (kept start end : ℕ) (order : kept ≤ start) (within : start ≤ length bytes)
    (size : end ≡ start + length part) (parts : drop start bytes ≡ part ++ drop end bytes) where
  abbrev moved : List ℕ
  moved = copy_within bytes start (start + length part) kept

  fits : length part ≤ length (drop start bytes)
  fits = grind (arith, length-append)

  later : (xs : List ℕ) → drop end xs ≡ drop (start - kept) (drop (kept + length part) xs)
  later xs = ap (λ (n : ℕ). drop n xs) (omega (arith, order, size)) ∙ sym (drop-drop (start - kept) (kept + length part) xs)

  moved_rest : drop end moved ≡ drop end bytes
  moved_rest = grind (arith, later, drop-paste, fits)

-- bytes that are moved to where they are
pub stays_there : (bytes : List ℕ) (start size to : ℕ) → to ≡ start → copy_within bytes start (start + size) to ≡ bytes
stays_there bytes start size to e =
    let m : ℕ = start + size - start in
    append_assoc (take to bytes) (take m (drop start bytes)) (drop (to + m) bytes)
    ∙ (ap (λ (n : ℕ). take n bytes ++ (take m (drop start bytes) ++ drop (n + m) bytes)) e
    ∙ (ap (λ (x : List ℕ). take start bytes ++ (take m (drop start bytes) ++ x)) (sym (drop-drop m start bytes))
    ∙ (search take-append-drop)))

-- a part ends within the bytes
pub mark_within : (bytes part : List ℕ) (old new : ℕ) → old ≤ length bytes → (new ≡ old + length part)
    × (drop old bytes ≡ part ++ drop new bytes) → new ≤ length bytes
mark_within bytes part old new within (size, parts) =
    let n : length (drop old bytes) ≡ length part + length (drop new bytes) = grind (arith, length-append) in
    omega (arith, within, size, n, length-drop old bytes)

-- so the kept bytes go on with it
pub moves_on : (edits : List Edit) (stream bytes items part : List ℕ) (kept old : ℕ) (new : Cursor) → kept ≤ old → old ≤ length bytes
    → new.mark ≡ old + length part → drop old bytes ≡ part ++ drop new.mark bytes
    → items ≡ copy_within bytes (new.mark - length part) (new.mark - length part + length part) kept
    → HasEdited edits stream (feed_of bytes new) (take kept bytes ++ part)
    → HasEdited edits stream (feed_of items new) (take (kept + length part) items)
moves_on edits stream bytes items part kept old new before within size parts i (events, a, b) =
    grind (arith, moved_rest, take-paste, fits, take_at)
