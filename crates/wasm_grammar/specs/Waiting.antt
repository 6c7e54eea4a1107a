-- Whether a prefix decides what comes at a place of a stream, or more bytes are needed.
use Rattle.std.specs.Prelude.{ℕ, ◌+◌, ◌-◌, Bool, ◌&&◌, List, [], ◌∷◌, length, take, drop, Option, Some, None, nat_le}
use Rattle.std.specs.Prelude.{nat_lt, if◌then◌else◌}
use Rattle.wasm_base.specs.Header.{magic, agree}
use Rattle.wasm_base.specs.Number.{Number, read, bad, short, number}
use Rattle.wasm_grammar.specs.Grammar.{Grammar, accept, reject, check, u32_field, bytes, section_start}
use Rattle.wasm_base.specs.declared.fault.NumberKind.TheVariants.{VarU32}

-- whether a prefix decides
pub data Waiting : Type 0 where
  enough : Waiting
  -- it does not: it is shorter than `need`, and at least `hint` more bytes are needed
  wants : (need hint : ℕ) → Waiting

-- the number of bytes to request, if any
abbrev pub asked : Waiting → Option ℕ
asked enough = None
asked (wants need hint) = Some hint

-- the waiting of a prefix with these bytes in front of it
abbrev pub later : ℕ → Waiting → Waiting
later used enough = enough
later used (wants need hint) = wants (used + need) hint

-- the waiting of a prefix that begins with this number
abbrev pub later_number : Number → (ℕ → ℕ → Waiting) → Waiting
later_number (read value used) next = later used (next value used)
later_number (bad f place) next = enough
later_number short next = wants 5 1

-- | whether the bytes so far decide what is there; how many more are requested, where a section may start also before
--   its id is looked at [`asked`, `asked_at_section`]
-- whether a prefix decides what comes here: its last field is complete or malformed. Within the magic of a header the
-- bound is 4 and not 8, because its fourth byte shows whether it is wrong.
unfoldable pub waiting : Grammar → (prefix : List ℕ) → Waiting
waiting (accept shape) prefix = enough
waiting (reject e) prefix = enough
waiting (check (Some e) next) prefix = enough
waiting (check None next) prefix = waiting next prefix
waiting (u32_field offset next) prefix =
    later_number (number VarU32 prefix) (λ value used. waiting (next value used) (drop used prefix))
waiting (bytes count offset next) prefix =
    if nat_le count (length prefix) then later count (waiting (next (take count prefix)) (drop count prefix)) else
    wants count (count - length prefix)
waiting (section_start offset e next) [] = wants 4 1
waiting (section_start offset e next) (id ∷ prefix) =
    if agree (id ∷ prefix) magic
    then (if nat_le 4 (length (id ∷ prefix)) then enough else wants 4 (4 - length (id ∷ prefix)))
    else later 1 (waiting (next id) prefix)

-- whether these bytes are an incomplete magic
abbrev pub is_magic_begun : List ℕ → Bool
is_magic_begun prefix = agree prefix magic && nat_lt (length prefix) 4

-- the number of bytes to request where a section may start, before its id is read
abbrev pub asked_at_section : List ℕ → Option ℕ
asked_at_section [] = Some 1
asked_at_section (id ∷ prefix) = if is_magic_begun (id ∷ prefix) then Some (4 - length (id ∷ prefix)) else None
