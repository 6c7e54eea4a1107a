-- The features of WebAssembly that a module uses. Tool conventions, Linking, Target Features Section.
use Rattle.std.specs.Prelude.{ℕ, List, None, Ok}
use Rattle.wasm_base.specs.Name.{byte_at, text_at}
use Rattle.wasm_base.specs.Outcome.{Outcome, ◌>>=◌}
use Rattle.wasm_base.specs.Window.{Place}
use Rattle.wasm_custom.specs.declared.target_features.TargetFeature.{TargetFeature}

-- a feature, with the bytes of its name
pub record FeatureParts : Type 0 where
  pub prefix : ℕ
  pub name : List ℕ

abbrev pub feature_parts : TargetFeature → FeatureParts
feature_parts feature = record { prefix = feature.prefix; name = feature.name.now }

-- | a feature of the target features section: a byte and a text of any length [`feature_parts`] <tool conventions,
--   Target Features Section>
-- a feature: a byte that says how it is used, and its name
unfoldable pub target_feature_at : Place → Outcome FeatureParts
target_feature_at p = do
  prefix ← byte_at p
  name ← text_at None prefix.1
  Ok (record { prefix = prefix.0; name = name.0 }, name.1)
