-- The section that a window is.
use Rattle.std.proofs.Common.{◌≡◌, ◌+◌, ◌-◌, Result, Ok, Err, IfOk, refl, sym, arith}
use Rattle.wasm_base.specs.Outcome.{GivesResult}
use Rattle.wasm_base.specs.Section.{Section, ReadsSection, section_in}
use Rattle.wasm_base.specs.Window.{Window, place, KeepsWindow}
use Rattle.wasm_base.specs.declared.error.Error.{Error}

-- a reader that went on in its window, by how far it went
continued : (w v : Window) → KeepsWindow w v → record w { position = w.position + ((place v).offset - (place w).offset) } ≡ v
continued w v kept =
    let n : w.position + ((place v).offset - (place w).offset) ≡ v.position = omega (arith, kept.start, kept.forward) in
    let f : w.features ≡ v.features = sym kept.features in
    let s : w.start ≡ v.start = sym kept.start in
    let b : w.bytes ≡ v.bytes = sym kept.bytes in
    λ i. record { features = f i; start = s i; bytes = b i; position = n i }

pub section_is_in : (w : Window) (result : Result Section Error) → ReadsSection (place w) result
    → IfOk result (λ (s : Section). KeepsWindow w s.reader) → GivesResult {X = Section} (λ s. s) result (section_in w)
unfolding section_in
section_is_in w (Ok s) reads kept = rw (reads, continued w s.reader kept) refl
section_is_in w (Err e) reads kept = rw reads refl
