-- Offsets as text.
use Rattle.std.specs.Prelude.{ℕ, false, List, ◌++◌, codes, decimal}
use Rattle.std.specs.Fmt.{digits}
use Rattle.wasm_io.specs.declared.digits.Base.{Base}
use Rattle.wasm_io.specs.declared.digits.Base.TheVariants.{Decimal, Hexadecimal}

-- | an offset in decimal, or in hexadecimal
-- an offset in this base, as `{}` or `{:#x}` writes it
abbrev pub offset_text : Base → ℕ → List ℕ
offset_text Decimal offset = decimal offset
offset_text Hexadecimal offset = codes "0x" ++ digits 16 false offset
