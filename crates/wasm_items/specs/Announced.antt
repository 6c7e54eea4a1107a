-- A segment that was read has as many elements as announced.
use Rattle.std.specs.Prelude.{Option, Result}
use Rattle.wasm_base.specs.Announced.{GivesAnnounced}
use Rattle.wasm_base.specs.Section.{Items}
use Rattle.wasm_base.specs.declared.error.Error.{Error}
use Rattle.wasm_items.specs.declared.elements.ElementItems.{ElementItems}
use Rattle.wasm_items.specs.declared.elements.ElementItems.TheVariants.{Functions, Expressions}

-- | an iterator over the elements of a segment yields as many as announced, and no fault
-- An iterator over either list of elements yields as many as announced, without a fault.
abbrev pub ElementsAreGiven : {T U : Type 0} → (Items → Option (Result T Error) → Items → Type 0)
    → (Items → Option (Result U Error) → Items → Type 0) → ElementItems → Type 0
ElementsAreGiven next_index next_expression (Functions indices) = GivesAnnounced next_index indices
ElementsAreGiven next_index next_expression (Expressions ty expressions) = GivesAnnounced next_expression expressions
