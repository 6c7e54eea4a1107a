-- What becomes of the parts of a stream that is stripped. Core specification, Binary format, Modules, Custom Section.
use Rattle.std.specs.Prelude.{ℕ, ◌-◌, Bool, true, false, ◌&&◌, ◌||◌, not, List, [], ◌∷◌, codes, bytes_eq, nat_eq}
use Rattle.std.specs.Prelude.{length, take, if◌then◌else◌}
use Rattle.std.specs.Borrow.{Bor}
use Rattle.std.specs.List.{ends_with, list_any, starts_with}
use Rattle.wasm_grammar.specs.Reading.{Report, custom_section}
use Rattle.wasm_frames.specs.SkipNext.{Head, custom}
use Rattle.wasm_edits.specs.declared.fates.Keep.{Keep}

-- whether a custom section with this name stays where the one named `name` is kept, or none is
abbrev pub custom_stays : (keep_names : Bool) → (text : List ℕ) → Bool
custom_stays keep_names text = keep_names && bytes_eq text (codes "name")

-- | whether a name matches a pattern: if the pattern ends with a star, the name begins with the bytes before the star,
--   and otherwise it is the pattern
abbrev pub matches : (pattern text : List ℕ) → Bool
matches pattern text =
    if ends_with nat_eq pattern (codes "*") then starts_with nat_eq text (take (length pattern - 1) pattern)
    else bytes_eq text pattern

-- whether a text matches one of these patterns
abbrev pub is_among : (text : List ℕ) → (patterns : List (Bor (List ℕ))) → Bool
is_among text patterns = list_any (λ pattern. matches pattern.now text) patterns

-- whether a custom section with a name that these patterns choose between stays: without patterns none does, and
-- otherwise each that matches none of them
abbrev pub others_stay : (patterns : List (Bor (List ℕ))) → (text : List ℕ) → Bool
others_stay [] text = false
others_stay (pattern ∷ patterns) text = not (is_among text (pattern ∷ patterns))

-- whether a custom section with this name stays by such a choice: one that is kept does, and if some are to be removed,
-- each other one
abbrev pub stays_by : Keep → (text : List ℕ) → Bool
stays_by keep text =
    is_among text keep.kept.now || (others_stay keep.removed.now text || custom_stays keep.names text)

-- | whether a part of a stream that is stripped stays, also if it is skipped [`stays_by`, `report_stays`,
--   `head_stays`] <Custom Section>
-- whether what is reported stays
abbrev pub report_stays : (keeps : List ℕ → Bool) → Report → Bool
report_stays keeps (custom_section text data_offset window) = keeps text
report_stays keeps other = true

-- whether a part with these first fields stays
abbrev pub head_stays : (keeps : List ℕ → Bool) → Head → Bool
head_stays keeps (custom text data_offset) = keeps text
head_stays keeps other = true
