-- The text of flags, as its parts are written one after the other.
use Rattle.std.proofs.Common.{◌≡◌, ℕ, Bool, true, false, nat_eq, ◌||◌, List, [], ◌∷◌, ◌++◌, codes, decimal, ap, append_assoc}
use Rattle.std.proofs.Common.{append-nil, arith, if◌then◌else◌}
use Rattle.std.specs.List.{flat_map}
use Rattle.wasm_output.specs.Said.{Says}
use Rattle.wasm_output.specs.Tree.{Writing}
use Rattle.wasm_output.proofs.ForCallers.{says_then, says_same}
use Rattle.wasm_show.specs.FlagText.{Flags, has_flag, names_set, with_unnamed, joined, flag_after, unnamed_after}

-- the parts of a text of flags, after names or not
abbrev pub parts : (has_names : Bool) → Flags → (bits rest : ℕ) → List ℕ
parts has_names [] bits rest = unnamed_after has_names rest
parts has_names (flag ∷ later) bits rest =
    flag_after has_names bits flag.0 flag.1 ++ parts (has_names || has_flag bits flag.0) later bits rest

abbrev if_any : ℕ → List (List ℕ)
if_any rest = if nat_eq rest 0 then [] else decimal rest ∷ []

abbrev with_bars : List (List ℕ) → List ℕ
with_bars texts = flat_map (λ text. codes " | " ++ text) texts

bar_before : (rest : ℕ) → unnamed_after true rest ≡ with_bars (if_any rest)
bar_before rest = grind (arith, append-nil)

parts_after_names : (flags : Flags) (bits rest : ℕ) → parts true flags bits rest ≡ with_bars (names_set flags bits ++ if_any rest)
parts_after_names [] bits rest = bar_before rest
parts_after_names (flag ∷ later) bits rest = grind (arith, parts_after_names later bits rest, append_assoc)

pub parts_in_all : (flags : Flags) (bits rest : ℕ) → parts false flags bits rest ≡ joined (with_unnamed (names_set flags bits) rest)
parts_in_all [] bits rest = grind (arith, append-nil)
parts_in_all (flag ∷ later) bits rest =
    grind (arith, parts_after_names later bits rest, parts_in_all later bits rest, append_assoc, append-nil)

-- a flag, and what is put after it
pub says_flag : (has_names has_later : Bool) (flag : ℕ × List ℕ) (later : Flags) (bits rest : ℕ) (old mid new : Writing)
    → has_later ≡ (has_names || has_flag bits flag.0) → Says (flag_after has_names bits flag.0 flag.1) old mid
    → Says (parts has_later later bits rest) mid new → Says (parts has_names (flag ∷ later) bits rest) old new
says_flag has_names has_later flag later bits rest old mid new e p q = says_then _ _ old mid new p
    (says_same _ _ mid new (ap (λ (b : Bool). parts b later bits rest) e) q)
