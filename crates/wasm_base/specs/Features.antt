-- Sets of features, as bits.
use Rattle.std.specs.Prelude.{ℕ, Bool, List, [], ◌∷◌, codes}
use Rattle.wasm_base.specs.Bits.{has_bit}
use Rattle.wasm_base.specs.declared.features.WasmFeatures.{WasmFeatures}

-- | the bits of a set of features; whether 64-bit memories are enabled, and bundles of imports [`takes_wide_limits`,
--   `takes_import_bundles`]
-- the bits of a set of features
abbrev pub feature_bits : WasmFeatures → ℕ
feature_bits features = features.0

-- whether 64-bit memories are taken
abbrev pub takes_wide_limits : (features : ℕ) → Bool
takes_wide_limits features = has_bit features 0

-- whether bundles of imports are taken
abbrev pub takes_import_bundles : (features : ℕ) → Bool
takes_import_bundles features = has_bit features 1

-- the name and the bits of each feature
abbrev pub feature_table : List (List ℕ × ℕ)
feature_table = (codes "MEMORY64", 1) ∷ (codes "COMPACT_IMPORTS", 2) ∷ []

-- the bits of all of them
abbrev pub all_features : ℕ
all_features = 3
