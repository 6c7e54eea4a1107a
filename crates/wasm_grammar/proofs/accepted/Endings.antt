-- A reading ends at the end exactly where no section misses its other section.
use Rattle.wasm_grammar.proofs.Common.{arith, ◌≡◌, Bool, true, false, cond, List, refl, ℕ, length, ◌<◌, ◌&&◌, sym, ◌∙◌, nat_lt, nat_eq}
use Rattle.wasm_grammar.proofs.Common.{ltb-true, lt-ltb, and_parts, and_from, common_steps, Any, list_any, at_offset, FunctionWithoutCode}
use Rattle.wasm_grammar.proofs.Common.{DataCountWithoutData, SectionFrame, frame_count, IsSection, IsMatched, fault, ended, SectionContext}
use Rattle.wasm_grammar.proofs.Common.{end_at_section, data_count_id, function_id, Encoding}
use Rattle.std.proofs.lemmas.Bool.{and_cases, and_right, false_from_ne_true}
use Rattle.wasm_grammar.proofs.PlainLists.{any_of}
use Rattle.wasm_grammar.proofs.accepted.Counts.{is_section, counts_of, Knows, section_yes, yes_section, any_counts, offends}
use Rattle.wasm_grammar.proofs.accepted.Fits.{some_to, some_from}

-- whether a section has a count above 0, and there is no other section
abbrev pub misses : Encoding → ℕ → ℕ → List SectionFrame → Bool
misses encoding n other fs = list_any (nat_lt 0) (counts_of encoding n fs) && nat_eq (length (counts_of encoding other fs)) 0

-- a matched section whose other section is missing has no count above 0
matched_any : (encoding : Encoding) (n other : ℕ) (fs : List SectionFrame) → IsMatched encoding n other fs
    → nat_eq (length (counts_of encoding other fs)) 0 ≡ true → list_any (nat_lt 0) (counts_of encoding n fs) ≡ true → ⊥
matched_any encoding n other fs m z e =
    let a : Any (λ g. IsSection encoding n g × (0 < frame_count g)) fs =
    any_of (offends encoding n (nat_lt 0)) (λ g. IsSection encoding n g × (0 < frame_count g))
    (λ g h. let q : ((is_section encoding n g ≡ true) × (nat_lt 0 (frame_count g) ≡ true)) = and_parts _ _ h in
    (section_yes encoding n g q.0, ltb-true 0 (frame_count g) q.1))
    fs (sym (any_counts encoding n (nat_lt 0) fs) ∙ e) in
    let h : IsSection encoding n a.1 → 0 < frame_count a.1 → Any (IsSection encoding other) fs =
    rw a.3 at (m a.0 a.1 a.2) in
    let f : nat_eq (length (counts_of encoding other fs)) 0 ≡ false = some_to encoding other fs (h a.4.0 a.4.1) in
    cc

-- how a stream ends, reported of its frames
misses_same : (encoding : Encoding) (fs : List SectionFrame) (p : SectionContext) → Knows encoding fs p → (o : ℕ)
    → end_at_section p o ≡ cond (misses encoding function_id 10 fs) (fault (at_offset FunctionWithoutCode o))
    (cond (misses encoding data_count_id 11 fs) (fault (at_offset DataCountWithoutData o)) (ended o))
misses_same encoding fs p k o = rw (k.functions, k.codes, k.datas, k.data_counts) refl

-- after frames that are matched a stream may end
pub end_to : (encoding : Encoding) (fs : List SectionFrame) (p : SectionContext) → Knows encoding fs p → (o : ℕ)
    → IsMatched encoding function_id 10 fs → IsMatched encoding data_count_id 11 fs → end_at_section p o ≡ ended o
end_to encoding fs p k o a b = grind (arith, misses_same, false_from_ne_true, matched_any, and_right)

-- frames after which a stream may end are matched
pub end_from : (encoding : Encoding) (fs : List SectionFrame) (p : SectionContext) → Knows encoding fs p → (o e : ℕ) → end_at_section p o
    ≡ ended e → IsMatched encoding function_id 10 fs × IsMatched encoding data_count_id 11 fs
end_from encoding fs p k o e h =
    grind (arith, misses_same, and_cases, common_steps, and_from, yes_section, lt-ltb, any_counts, some_from)
