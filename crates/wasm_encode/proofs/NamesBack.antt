-- The bytes of names are read as the names.
use Rattle.std.proofs.Common.{◌≡◌, ℕ, ◌+◌, ◌<◌, ◌≤◌, ◌^◌, false, true, List, ◌++◌, length, take, drop, Option, Some}
use Rattle.std.proofs.Common.{Ok, append_assoc, arith, ap, sym, ◌∙◌, length-append, refl, Bor, None}
use Rattle.std.proofs.Math.Seq.{take-append_seam, drop-append_seam}
use Rattle.std.proofs.lemmas.Bool.{le-ltb}
use Rattle.std.specs.Str.{is_utf8}
use Rattle.wasm_base.specs.Item.{ReadsName}
use Rattle.wasm_base.specs.Name.{after_size, is_above, name, name_limit, named, text_at, name_in_window}
use Rattle.wasm_base.specs.Number.{number, read}
use Rattle.wasm_base.specs.declared.fault.NumberKind.TheVariants.{VarU32}
use Rattle.wasm_encode.specs.Names.{NameFits, name_bytes}
use Rattle.wasm_encode.specs.Numbers.{unsigned_bytes}
use Rattle.wasm_encode.specs.ReadsBack.{spot, Encodes}
use Rattle.wasm_encode.specs.Texts.{TextFits}
use Rattle.wasm_encode.proofs.NumbersBack.{unsigned_back}
use Rattle.wasm_encode.proofs.Readings.{Reads, encodes_so}

within : (limit : Option ℕ) (bytes text : List ℕ) (used : ℕ) → length text ≤ length (drop used bytes)
    → take (length text) (drop used bytes) ≡ text → is_utf8 text ≡ true → is_above limit (length text) ≡ false
    → after_size limit bytes (read (length text) used) ≡ named text (used + length text)
within limit bytes text used enough taken utf8 below = grind (arith, le-ltb)

-- a text after its size, which is not above a limit
sized_back : (limit : Option ℕ) (text later size : List ℕ) → number VarU32 (size ++ (text ++ later)) ≡ read (length text) (length size)
    → is_utf8 text ≡ true → is_above limit (length text) ≡ false
    → name limit (size ++ (text ++ later)) ≡ named text (length size + length text)
unfolding name
sized_back limit text later size e utf8 below =
    let bytes : List ℕ = size ++ (text ++ later) in
    let after : drop (length size) bytes ≡ text ++ later = drop-append_seam size (text ++ later) in
    let taken : take (length text) (drop (length size) bytes) ≡ text = rw after (take-append_seam text later) in
    let enough : length text ≤ length (drop (length size) bytes) = rw after (omega (arith, length-append text later)) in
    ap (after_size limit bytes) e ∙ within limit bytes text (length size) enough taken utf8 below

pub text_back : (text later size : List ℕ) → number VarU32 (size ++ (text ++ later)) ≡ read (length text) (length size)
    → is_utf8 text ≡ true → length text ≤ name_limit
    → name (Some name_limit) (size ++ (text ++ later)) ≡ named text (length size + length text)
text_back text later size e utf8 short = sized_back (Some name_limit) text later size e utf8 (le-ltb name_limit (length text) short)

name_back : (limit : Option ℕ) (text later : List ℕ) → is_utf8 text ≡ true → is_above limit (length text) ≡ false → length text < 2 ^ 32
    → name limit (name_bytes text ++ later) ≡ named text (length (name_bytes text))
name_back limit text later utf8 below short =
    let size : List ℕ = unsigned_bytes (length text) in
    let e : (size ++ text) ++ later ≡ size ++ (text ++ later) = append_assoc size text later in
    let n : number VarU32 (size ++ (text ++ later)) ≡ read (length text) (length size) =
    unsigned_back VarU32 (length text) (text ++ later) refl short in
    ap (name limit) e ∙ (sized_back limit text later size n utf8 below ∙ ap (named text) (sym (length-append size text)))

-- a text that is not above a limit
pub reads_sized : (limit : Option ℕ) (text : List ℕ) (features : ℕ) → is_utf8 text ≡ true → is_above limit (length text) ≡ false
    → length text < 2 ^ 32 → Reads (text_at limit) features text (name_bytes text)
unfolding text_at
reads_sized limit text features utf8 below short = record {
  at = λ offset later.
      ap (name_in_window (spot features offset (name_bytes text ++ later))) (name_back limit text later utf8 below short)
      ∙ ap (λ (rest : List ℕ). Ok (text, spot features (offset + length (name_bytes text)) rest))
      (drop-append_seam (name_bytes text) later);
}

pub reads_name : (text : List ℕ) (features : ℕ) → NameFits text → Reads (text_at (Some name_limit)) features text (name_bytes text)
reads_name text features fits =
    let short = fits.short in
    reads_sized (Some name_limit) text features fits.utf8 (le-ltb name_limit (length text) short) (omega arith)

-- ---- texts

pub reads_text : (text : List ℕ) (features : ℕ) → TextFits text → Reads (text_at None) features text (name_bytes text)
reads_text text features fits = reads_sized None text features fits.utf8 refl fits.short

-- A name is a text.
pub name_is_text : (name : List ℕ) → NameFits name → TextFits name
name_is_text name h = let short = h.short in record { utf8 = h.utf8; short = omega (arith, short) }

pub name_encodes : (name : Bor (List ℕ)) (features : ℕ) → NameFits name.now
    → Encodes (ReadsName (λ (text : Bor (List ℕ)). text.now)) features (λ (offset : ℕ). name) (name_bytes name.now)
name_encodes name features h =
    encodes_so (λ text. text.now) (text_at (Some name_limit)) features name (name_bytes name.now) (reads_name name.now features h)
