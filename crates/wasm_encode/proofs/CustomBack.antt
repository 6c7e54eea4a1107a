-- Custom sections are well-formed.
use Rattle.std.proofs.Common.{◌≡◌, ℕ, ◌+◌, List, ◌++◌, Some, append_assoc, arith, length, refl}
use Rattle.wasm_base.specs.Name.{name, name_limit, named}
use Rattle.wasm_base.specs.declared.fault.NumberKind.TheVariants.{VarU32}
use Rattle.wasm_encode.specs.Custom.{CustomFits, custom_content, custom_frame}
use Rattle.wasm_encode.specs.Numbers.{unsigned_bytes}
use Rattle.wasm_encode.proofs.FramesBack.{alone}
use Rattle.wasm_encode.proofs.NamesBack.{text_back}
use Rattle.wasm_encode.proofs.NumbersBack.{unsigned_back}
use Rattle.wasm_grammar.specs.Accepted.{IsFrame}
use Rattle.wasm_grammar.specs.declared.encoding.Encoding.TheVariants.{Module}

named_so : (text later : List ℕ) (h : CustomFits text later)
    → name (Some name_limit) (custom_content text later) ≡ named text (length (unsigned_bytes (length text)) + length text)
named_so text later h =
    let size : List ℕ = unsigned_bytes (length text) in
    let short = h.name_fits.short in
    rw (append_assoc size text later)
    (text_back text later size (unsigned_back VarU32 (length text) (text ++ later) refl (omega (arith, short))) h.name_fits.utf8 short)

pub custom_good : (text later : List ℕ) → CustomFits text later → IsFrame Module (custom_frame text later)
custom_good text later h = record {
  id = omega arith;
  sized = alone (length (custom_content text later)) h.sized;
  content = (text, length (unsigned_bytes (length text)) + length text, named_so text later h);
}
