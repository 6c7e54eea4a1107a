-- Lists inside an item that was read, which have all the items that they announce.
use Rattle.std.specs.Prelude.{ℕ, zero, suc, List, [], ◌∷◌, Option, Result, Ok, Err}
use Rattle.std.specs.Iterator.{Drains}
use Rattle.wasm_base.specs.Section.{Section, Items, all_items}
use Rattle.wasm_base.specs.declared.error.Error.{Error}

-- These are exactly this many items, and no fault.
abbrev pub AreCounted : {T E : Type 0} → ℕ → List (Result T E) → Type 0
AreCounted zero [] = Unit {0}
AreCounted zero (x ∷ given) = ⊥
AreCounted (suc count) [] = ⊥
AreCounted (suc count) (Ok x ∷ given) = AreCounted count given
AreCounted (suc count) (Err e ∷ given) = ⊥

-- | an iterator over a section yields as many items as announced, and no fault [`AreCounted`]
-- Calls of `next` up to the first `None` return as many items as the section announces, and no fault.
abbrev pub GivesAnnounced : {T : Type 0} → (Items → Option (Result T Error) → Items → Type 0) → Section → Type 0
GivesAnnounced {T} next section = (given : List (Result T Error)) → Drains next (all_items section) given
    → AreCounted section.count given
