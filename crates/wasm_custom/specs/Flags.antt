-- Sets of flags. Tool conventions, Linking, Symbol Table Subsection and Segment Info Subsection.
use Rattle.std.specs.Prelude.{ℕ}
use Rattle.wasm_custom.specs.declared.flags.SegmentFlags.{SegmentFlags}
use Rattle.wasm_custom.specs.declared.flags.SymbolFlags.{SymbolFlags}

-- | the bits of flags [`segment_bits`] <tool conventions, Linking>
-- the bits of a set of flags
abbrev pub symbol_bits : SymbolFlags → ℕ
symbol_bits flags = flags.0

abbrev pub segment_bits : SegmentFlags → ℕ
segment_bits flags = flags.0
