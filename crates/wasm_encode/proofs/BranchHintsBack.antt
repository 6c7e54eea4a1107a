-- The bytes of branch hints are read as the hints.
use Rattle.std.proofs.Common.{◌≡◌, ℕ, ◌+◌, ◌<◌, ◌^◌, Bool, true, false, List, [], ◌∷◌, ◌++◌, Ok, append_assoc, arith}
use Rattle.std.proofs.Common.{length, length-append, refl}
use Rattle.wasm_base.specs.Inner.{after_reading}
use Rattle.wasm_base.specs.Item.{ReadsAs}
use Rattle.wasm_base.specs.Leading.{in_table}
use Rattle.wasm_base.specs.Number.{unsigned_at}
use Rattle.wasm_base.specs.Outcome.{◌>>=◌}
use Rattle.wasm_base.specs.declared.fault.Lead.TheVariants as Leads
use Rattle.wasm_base.specs.declared.fault.NumberKind.TheVariants.{VarU32}
use Rattle.wasm_custom.specs.BranchHinting.{branch_hint_at, function_hints_at, hint_size_at, taken_at}
use Rattle.wasm_custom.specs.declared.branch_hinting.BranchHint.{BranchHint}
use Rattle.wasm_custom.specs.declared.branch_hinting.BranchHintFunction.{BranchHintFunction}
use Rattle.wasm_encode.specs.BranchHints.{FunctionHintsFit, function_hints_bytes, function_hints_placed, hint_bytes}
use Rattle.wasm_encode.specs.Limits.{flag}
use Rattle.wasm_encode.specs.Lists.{list_bytes}
use Rattle.wasm_encode.specs.Numbers.{unsigned_bytes}
use Rattle.wasm_encode.specs.ReadsBack.{Encodes}
use Rattle.wasm_encode.proofs.CopiedExpressions.{unsigned}
use Rattle.wasm_encode.proofs.ImportsBack.{reads_u32}
use Rattle.wasm_encode.proofs.ListsBack.{copies_skip, copies_table, list_back}
use Rattle.wasm_encode.proofs.Moves.{Copies, in_turn, nothing}
use Rattle.wasm_encode.proofs.NumbersBack.{unsigned_at_spot}
use Rattle.wasm_encode.proofs.Readings.{Reads, encodes_so, reads_as, reads_then, same_spot}

reads_size : (features : ℕ) → Reads hint_size_at features tt (0x01 ∷ [])
unfolding in_table
reads_size features = record { at = λ offset later. refl }

reads_taken : (taken : Bool) (features : ℕ) → Reads taken_at features taken (flag taken 1 ∷ [])
unfolding in_table
reads_taken true features = record { at = λ offset later. refl }
reads_taken false features = record { at = λ offset later. refl }

reads_hint : (x : BranchHint) (features : ℕ) → x.func_offset < 2 ^ 32 → Reads branch_hint_at features x (hint_bytes x)
unfolding branch_hint_at hint_bytes
reads_hint x features h =
    reads_then (unsigned_at VarU32)
    (λ offset p. hint_size_at p >>= λ size. taken_at size.1 >>= λ taken.
    Ok (record { func_offset = offset; taken = taken.0 }, taken.1))
    features x.func_offset x (unsigned_bytes x.func_offset) (0x01 ∷ flag x.taken 1 ∷ []) (reads_u32 x.func_offset features h)
    (reads_then hint_size_at (λ size p. taken_at p >>= λ taken. Ok (record { func_offset = x.func_offset; taken = taken.0 }, taken.1))
    features tt x (0x01 ∷ []) (flag x.taken 1 ∷ []) (reads_size features)
    (reads_as taken_at (λ taken. record { func_offset = x.func_offset; taken = taken }) features x.taken (flag x.taken 1 ∷ [])
    (reads_taken x.taken features)))

pub hint_encodes : (x : BranchHint) (features : ℕ) → x.func_offset < 2 ^ 32
    → Encodes (ReadsAs (λ (y : BranchHint). y) branch_hint_at) features (λ (offset : ℕ). x) (hint_bytes x)
hint_encodes x features h = encodes_so (λ y. y) branch_hint_at features x (hint_bytes x) (reads_hint x features h)

copies_hint : Copies (λ start. branch_hint_at)
unfolding branch_hint_at
copies_hint = in_turn (λ s. unsigned_at VarU32)
    (λ s offset p. hint_size_at p >>= λ size. taken_at size.1 >>= λ taken. Ok (record { func_offset = offset; taken = taken.0 }, taken.1))
    (unsigned VarU32)
    (λ offset. in_turn (λ s. hint_size_at)
    (λ s size p. taken_at p >>= λ taken. Ok (record { func_offset = offset; taken = taken.0 }, taken.1))
    (copies_table Leads.BranchHint ((1, tt) ∷ []))
    (λ size. in_turn (λ s. taken_at) (λ s taken p. Ok (record { func_offset = offset; taken = taken }, p))
    (copies_table Leads.BranchTaken ((0, false) ∷ (1, true) ∷ []))
    (λ taken. nothing (record { func_offset = offset; taken = taken }))))

pub function_hints_encode : (x : BranchHintFunction) (features : ℕ) → FunctionHintsFit x
    → Encodes (ReadsAs (λ (y : BranchHintFunction). y) function_hints_at) features
    (λ (offset : ℕ). function_hints_placed features offset x) (function_hints_bytes x)
unfolding function_hints_at function_hints_bytes
function_hints_encode x features h = record {
  read = λ offset later.
      let func : List ℕ = unsigned_bytes x.func in
      let hints : List ℕ = list_bytes x.hints in
      let there : ℕ = offset + length func in
      let e : there + length hints ≡ offset + length (func ++ hints) = omega (arith, length-append func hints) in
      rw (
        append_assoc func hints later,
        unsigned_at_spot VarU32 features offset x.func (hints ++ later) refl h.func,
        list_back (after_reading branch_hint_at) (copies_skip branch_hint_at copies_hint) x.hints features there later h.hints,
      )
      (same_spot features (there + length hints) (offset + length (func ++ hints)) (function_hints_placed features offset x) later e);
}
