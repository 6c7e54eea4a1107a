-- Sections of counted items, and those that are one number, are well-formed.
use Rattle.std.proofs.Common.{◌≡◌, ℕ, ◌<◌, ◌^◌, ◌⊎◌, inl, inr, false, List, [], ◌++◌, length, append-nil, refl, subst}
use Rattle.std.proofs.Common.{sym, arith, ◌↔◌, subst₂}
use Rattle.wasm_base.specs.Number.{number, read}
use Rattle.wasm_base.specs.declared.fault.NumberKind.TheVariants.{VarU32}
use Rattle.wasm_grammar.proofs.frames.ReportedAs.{frames_give_events}
use Rattle.wasm_grammar.specs.Accepted.{IsFrame, IsGood, SectionFrame}
use Rattle.wasm_grammar.specs.Content.{Kind, data_count, index, items, kind_of, whole}
use Rattle.wasm_grammar.specs.FrameEvents.{TellsFrames}
use Rattle.wasm_grammar.specs.Reading.{Reading}
use Rattle.wasm_grammar.specs.declared.encoding.Encoding.{Encoding}
use Rattle.wasm_grammar.specs.declared.encoding.Encoding.TheVariants.{Module}
use Rattle.wasm_encode.specs.Frames.{frame_of}
use Rattle.wasm_encode.specs.Laws.{ModulesAreRead}
use Rattle.wasm_encode.specs.Modules.{MakesFrames}
use Rattle.wasm_encode.specs.Numbers.{unsigned_bytes}
use Rattle.wasm_encode.specs.Sections.{items_bytes}
use Rattle.wasm_encode.proofs.Numbers.{septets_few}
use Rattle.wasm_encode.proofs.NumbersBack.{unsigned_back}

pub alone : (n : ℕ) → n < 2 ^ 32 → number VarU32 (unsigned_bytes n) ≡ read n (length (unsigned_bytes n))
alone n h = let size : List ℕ = unsigned_bytes n in
    subst (λ (xs : List ℕ). number VarU32 xs ≡ read n (length size)) (append-nil size) (unsigned_back VarU32 n [] refl h)

pub frames : (id count : ℕ) (rest : List ℕ) → id < 128 → kind_of Module id ≡ whole items → count < 2 ^ 32
    → length (unsigned_bytes count ++ rest) < 2 ^ 32 → IsFrame Module (frame_of id (unsigned_bytes count ++ rest))
frames id count rest small kind few short = record {
  id = small;
  sized = alone (length (unsigned_bytes count ++ rest)) short;
  content = subst (λ (k : Kind). IsGood k (unsigned_bytes count ++ rest)) (sym kind)
      (count, length (unsigned_bytes count), unsigned_back VarU32 count rest refl few);
}

pub number_frames : (id n : ℕ) → id < 128 → (kind_of Module id ≡ whole index) ⊎ (kind_of Module id ≡ whole data_count) → n < 2 ^ 32
    → IsFrame Module (frame_of id (unsigned_bytes n))
number_frames id n small kind fits = record {
  id = small;
  sized = alone (length (unsigned_bytes n)) (omega (arith, septets_few false 128 n));
  content = by kind;
}
  where
    by : (kind_of Module id ≡ whole index) ⊎ (kind_of Module id ≡ whole data_count) → IsGood (kind_of Module id) (unsigned_bytes n)
    by (inl is) = subst (λ (k : Kind). IsGood k (unsigned_bytes n)) (sym is) (n, alone n fits)
    by (inr is) = subst (λ (k : Kind). IsGood k (unsigned_bytes n)) (sym is) (n, alone n fits)

-- sections of counted items
pub makes_frames : {T : Type 0} (encoded : T → List ℕ) (is_encodable : T → Type 0) (id : ℕ) → id < 128
    → kind_of Module id ≡ whole items → MakesFrames encoded is_encodable id
makes_frames encoded is_encodable id small kind xs fit =
    frames id (length xs) (items_bytes encoded xs) small kind fit.few fit.short

-- ---- what a module that was written is read as

pub modules_are_read : ModulesAreRead
modules_are_read frames stream (a, encoded, same) start features events s =
    subst₂ (λ (e : Encoding) (fs : List SectionFrame). Reading stream start features events ↔ TellsFrames start features e fs events)
    encoded same (frames_give_events stream start features events s a)
