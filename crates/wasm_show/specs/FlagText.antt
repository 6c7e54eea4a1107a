-- The words of sets of flags. Tool conventions, Linking, Symbol Table Subsection and Segment Info Subsection.
use Rattle.std.specs.Prelude.{ℕ, ◌-◌, ◌^◌, Bool, not, ◌&&◌, List, [], ◌∷◌, ◌++◌, codes, decimal}
use Rattle.std.specs.Prelude.{nat_eq, sum_by, if◌then◌else◌}
use Rattle.std.specs.Int.RustNames.{bit_and}
use Rattle.std.specs.List.{flat_map}
use Rattle.wasm_output.specs.Fields.{Field, named, word}

-- | the flags of symbols and of segments by their names [`symbol_words`, `segment_words`] <tool conventions, Linking>
-- flags, each with its bit and its name
abbrev pub Flags : Type 0
Flags = List (ℕ × List ℕ)

abbrev pub symbol_words : Flags
symbol_words = (1, codes "BINDING_WEAK") ∷ (2, codes "BINDING_LOCAL") ∷ (4, codes "VISIBILITY_HIDDEN")
    ∷ (16, codes "UNDEFINED") ∷ (32, codes "EXPORTED") ∷ (64, codes "EXPLICIT_NAME") ∷ (128, codes "NO_STRIP")
    ∷ (256, codes "TLS") ∷ (512, codes "ABSOLUTE") ∷ []

abbrev pub segment_words : Flags
segment_words = (1, codes "STRINGS") ∷ (2, codes "TLS") ∷ (4, codes "RETAIN") ∷ []

abbrev pub has_flag : (bits flag : ℕ) → Bool
has_flag bits flag = not (nat_eq (bit_and bits flag) 0)

-- the names of those that are set, in the order of their bits
abbrev pub names_set : Flags → (bits : ℕ) → List (List ℕ)
names_set [] bits = []
names_set (flag ∷ later) bits = if has_flag bits flag.0 then flag.1 ∷ names_set later bits else names_set later bits

-- the bits of 32 that none of these flags has
abbrev pub unnamed : Flags → (bits : ℕ) → ℕ
unnamed flags bits = bit_and bits (2 ^ 32 - 1 - sum_by (λ flag. flag.0) flags)

-- bits without a name are a number; so is 0 if there is no name
abbrev pub with_unnamed : (names : List (List ℕ)) → (bits : ℕ) → List (List ℕ)
with_unnamed [] bits = decimal bits ∷ []
with_unnamed names bits = if nat_eq bits 0 then names else names ++ decimal bits ∷ []

-- texts with a bar between each two
abbrev pub joined : List (List ℕ) → List ℕ
joined [] = []
joined (first ∷ later) = first ++ flat_map (λ text. codes " | " ++ text) later

-- | the text of flags: the names of those that are set, and other bits as a number
abbrev pub words_text : Flags → (bits : ℕ) → List ℕ
words_text flags bits = joined (with_unnamed (names_set flags bits) (unnamed flags bits))

abbrev pub flags_field : Flags → (bits : ℕ) → List Field
flags_field flags bits = named (codes "flags") (word (words_text flags bits)) ∷ []

-- ---- part by part

-- what a text has after it: a bar comes before it unless it is the first one
abbrev pub after_bar : (has_names : Bool) → List ℕ → List ℕ
after_bar has_names text = if has_names then codes " | " ++ text else text

-- a flag
abbrev pub flag_after : (has_names : Bool) → (bits flag : ℕ) → (name : List ℕ) → List ℕ
flag_after has_names bits flag name = if has_flag bits flag then after_bar has_names name else []

-- the bits without a name
abbrev pub unnamed_after : (has_names : Bool) → (bits : ℕ) → List ℕ
unnamed_after has_names bits = if nat_eq bits 0 && has_names then [] else after_bar has_names (decimal bits)
