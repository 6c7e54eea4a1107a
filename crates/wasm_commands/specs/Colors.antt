-- Texts with sequences that set colors. Such a sequence is an ESC, which is 27, and the bytes after it up to an `m`
-- (ECMA-48, Select Graphic Rendition). An ESC of the text itself is followed by a `\`.
use Rattle.std.specs.Prelude.{◌≡◌, ℕ, Bool, true, false, List, [], ◌∷◌, ◌++◌, take, nat_eq, Option, option_map}
use Rattle.std.specs.Prelude.{if◌then◌else◌}
use Rattle.wasm_io.specs.Calls.{Device}
use Rattle.wasm_commands.specs.declared.dump.plain.Where.{Where}
use Rattle.wasm_commands.specs.declared.dump.plain.Where.TheVariants.{Outside, Escaped, Inside}

abbrev pub after_other : Where → ℕ → Where
after_other Outside b = Outside
after_other Escaped b = if nat_eq b 92 then Outside else Inside
after_other Inside b = if nat_eq b 109 then Outside else Inside

-- where the byte after this one is; an ESC begins anew, wherever it is
abbrev pub where_after_byte : Where → ℕ → Where
where_after_byte at b = if nat_eq b 27 then Escaped else after_other at b

abbrev pub given_by_other : Where → ℕ → List ℕ
given_by_other Outside b = b ∷ []
given_by_other Escaped b = if nat_eq b 92 then 27 ∷ [] else []
given_by_other Inside b = []

-- the part of the text that a byte stands for
abbrev pub given_by : Where → ℕ → List ℕ
given_by at b = if nat_eq b 27 then [] else given_by_other at b

-- the text that bytes stand for, of which the first is at this place
abbrev pub without_from : Where → List ℕ → List ℕ
without_from at [] = []
without_from at (b ∷ bs) = given_by at b ++ without_from (where_after_byte at b) bs

-- | a text without its colors: sequences from an ESC to an `m` are left out, and an ESC and a `\` are an ESC; the
--   same if there are colors, and with a number before it that says so [`plain`, `seen`, `marked`] <ECMA-48, Select
--   Graphic Rendition>
-- a text without its colors
abbrev pub without_colors : List ℕ → List ℕ
without_colors bytes = without_from Outside bytes

-- the same where bytes are known
abbrev pub plain : Option (List ℕ) → Option (List ℕ)
plain bytes = option_map without_colors bytes

-- where the byte after these is
abbrev pub where_after : Where → List ℕ → Where
where_after at [] = at
where_after at (b ∷ bs) = where_after (where_after_byte at b) bs

-- These bytes set a color, wherever they are: they are no part of the text, and end what they are in.
abbrev pub IsSequence : List ℕ → Type 0
IsSequence bytes = (at : Where) → (without_from at bytes ≡ []) × (where_after at bytes ≡ Outside)

-- These bytes, after which a byte of the text may come, got this one more, and what sets its color.
pub record GainsByte (byte : ℕ) (old new : List ℕ) : Type 0 where
  pub added : List ℕ
  pub adds : new ≡ old ++ added
  pub gives : without_colors added ≡ byte ∷ []
  pub ends : where_after Outside added ≡ Outside

-- The bytes begin with this first byte of a text, and are it and a prefix of the rest, with colors.
pub record IsColored (first : ℕ) (later bytes : List ℕ) : Type 0 where
  pub more : List ℕ
  pub begins : bytes ≡ first ∷ more
  pub count : ℕ
  pub gives : without_colors bytes ≡ first ∷ take count later

-- bytes without their colors, where there are some
abbrev pub seen : (is_colored : Bool) → Option (List ℕ) → Option (List ℕ)
seen true bytes = plain bytes
seen false bytes = bytes

-- the same after a number that says whether there are some
abbrev pub marked : (is_colored : Bool) → Option (List ℕ) → Option (List ℕ)
marked true bytes = option_map (λ text. 1 ∷ text) (plain bytes)
marked false bytes = option_map (λ text. 0 ∷ text) bytes

-- a device whose bytes are seen without colors, where there are some
abbrev pub seen_as : (is_colored : Bool) → Device → Device
seen_as is_colored device = record {
  before = seen is_colored device.before;
  after = seen is_colored device.after;
  had_failed = device.had_failed;
  has_failed = device.has_failed;
}
