-- What encodings are read as.
use Rattle.std.specs.Prelude.{◌≡◌, ℕ, ◌<◌, ◌^◌, ◌↔◌, List, All, false, true, ℤ}
use Rattle.wasm_base.specs.Item.{ReadsAs}
use Rattle.wasm_base.specs.Number.{bits_of, unsigned_at}
use Rattle.wasm_base.specs.Signed.{signed_at, FitsBits}
use Rattle.wasm_base.specs.Widths.{is_signed}
use Rattle.wasm_base.specs.declared.fault.NumberKind.{NumberKind}
use Rattle.wasm_encode.specs.Consumed.{CopiesItsBytes}
use Rattle.wasm_encode.specs.Imports.{TypeRefAllowed, import_bytes}
use Rattle.wasm_encode.specs.Modules.{IsModule}
use Rattle.wasm_encode.specs.Numbers.{unsigned_bytes, signed_bytes}
use Rattle.wasm_encode.specs.ReadsBack.{Encodes}
use Rattle.wasm_encode.specs.Sections.{ItemsBack}
use Rattle.wasm_grammar.specs.Accepted.{SectionFrame}
use Rattle.wasm_grammar.specs.FrameEvents.{TellsFrames}
use Rattle.wasm_grammar.specs.Reading.{Event, Reading, Stream}
use Rattle.wasm_grammar.specs.declared.encoding.Encoding.TheVariants.{Module}
use Rattle.wasm_items.specs.Imports.{import_at, import_parts}
use Rattle.wasm_items.specs.declared.imports.Import.{Import}

-- | numbers that fit their kind are read as themselves; bytes of a number that was read are read as it
--   wherever they are [`SignedNumbersReadBack`; `NumbersAreCopied`]
-- An unsigned number that fits its kind is read as itself.
abbrev pub UnsignedNumbersReadBack : Type 0
UnsignedNumbersReadBack = (kind : NumberKind) (features n : ℕ) → is_signed kind ≡ false → n < 2 ^ bits_of kind
    → Encodes (ReadsAs (λ (m : ℕ). m) (unsigned_at kind)) features (λ (offset : ℕ). n) (unsigned_bytes n)

-- A signed number that fits its kind is read as itself.
abbrev pub SignedNumbersReadBack : Type 0
SignedNumbersReadBack = (kind : NumberKind) (features : ℕ) (n : ℤ) → is_signed kind ≡ true → FitsBits (bits_of kind) n
    → Encodes (ReadsAs (λ (m : ℤ). m) (signed_at kind)) features (λ (offset : ℕ). n) (signed_bytes n)

-- | an import section that was written is read as exactly the given imports, by readers whose features allow them
-- The content of an import section, at any offset, is read as its count and exactly these imports, by readers whose
-- features allow their limits.
abbrev pub ImportsBack : List Import → Type 0
ImportsBack imports = (features offset : ℕ) → All (λ i. TypeRefAllowed features i.ty) imports
    → ItemsBack (ReadsAs import_parts import_at) features offset (λ i. import_bytes (import_parts i)) (λ offset i. i)
    imports

-- Copying the bytes of a number that was read writes it, also where they aren't the shortest.
abbrev pub NumbersAreCopied : Type 0
NumbersAreCopied = (kind : NumberKind) → CopiesItsBytes (unsigned_at kind)

-- | the reading of a module with these sections is their events, in order
-- The reading of a module with these sections is their events, in order.
abbrev pub ModulesAreRead : Type 0
ModulesAreRead = (frames : List SectionFrame) (stream : List ℕ) → IsModule frames stream
    → (start features : ℕ) (events : List Event) → Stream stream start
    → Reading stream start features events ↔ TellsFrames start features Module frames events
