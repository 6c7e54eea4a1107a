-- The bytes of target features. Tool conventions, Linking, Target Features Section.
use Rattle.std.specs.Prelude.{ℕ, ◌<◌, ◌^◌, List, ◌∷◌, length}
use Rattle.wasm_custom.specs.TargetFeatures.{FeatureParts}
use Rattle.wasm_encode.specs.Names.{name_bytes}
use Rattle.wasm_encode.specs.Texts.{TextFits}

-- | the bytes of a target feature: a byte that says how it is used, and its name; whether it fits [`FeatureFits`] <tool
--   conventions, Linking, Target Features Section>
-- a feature: a byte that says how it is used, and its name
unfoldable pub feature_bytes : FeatureParts → List ℕ
feature_bytes x = x.prefix ∷ name_bytes x.name

pub record FeatureFits (x : FeatureParts) : Type 0 where
  pub name : TextFits x.name
  pub short : length (feature_bytes x) < 2 ^ 32
