-- The bytes of producers are read as the producers.
use Rattle.std.proofs.Common.{◌≡◌, ℕ, ◌+◌, true, List, ◌++◌, None, Ok, append_assoc, arith, length, length-append}
use Rattle.std.proofs.Common.{refl, [], ◌∷◌}
use Rattle.wasm_base.specs.Item.{ReadsAs}
use Rattle.wasm_base.specs.Name.{text_at, byte_at}
use Rattle.wasm_base.specs.Outcome.{◌>>=◌}
use Rattle.wasm_base.specs.Skip.{skipped_name_at}
use Rattle.wasm_encode.specs.Lists.{list_bytes}
use Rattle.wasm_encode.specs.Names.{name_bytes}
use Rattle.wasm_encode.specs.Producers.{FieldFits, ValueFits, field_bytes, field_placed, value_bytes}
use Rattle.wasm_encode.specs.ReadsBack.{Encodes}
use Rattle.wasm_encode.specs.TargetFeatures.{FeatureFits, feature_bytes}
use Rattle.wasm_encode.specs.Texts.{TextFits}
use Rattle.wasm_encode.proofs.ListsBack.{copies_name, list_back}
use Rattle.wasm_encode.proofs.Moves.{Copies, in_turn}
use Rattle.wasm_encode.proofs.NamesBack.{reads_text}
use Rattle.wasm_encode.proofs.Readings.{Reads, encodes_so, reads_as, reads_then, same_spot, reads_byte}
use Rattle.wasm_custom.specs.Producers.{ValueParts, field_at, field_name_at, field_parts, field_value_at}
use Rattle.wasm_custom.specs.Producers.{is_field_name, skipped_value_at, value_parts}
use Rattle.wasm_custom.specs.TargetFeatures.{FeatureParts, feature_parts, target_feature_at}
use Rattle.wasm_custom.specs.declared.producers.ProducersField.{ProducersField}
use Rattle.wasm_custom.specs.declared.producers.ProducersFieldValue.{ProducersFieldValue}
use Rattle.wasm_custom.specs.declared.target_features.TargetFeature.{TargetFeature}

reads_value : (x : ValueParts) (features : ℕ) → ValueFits x → Reads field_value_at features x (value_bytes x)
unfolding field_value_at value_bytes
reads_value x features h =
    reads_then (text_at None)
    (λ name p. text_at None p >>= λ version. Ok (record { name = name; version = version.0 }, version.1))
    features x.name x (name_bytes x.name) (name_bytes x.version) (reads_text x.name features h.name)
    (reads_as (text_at None) (λ version. record { name = x.name; version = version }) features x.version (name_bytes x.version)
    (reads_text x.version features h.version))

pub value_encodes : (x : ProducersFieldValue) (features : ℕ) → ValueFits (value_parts x)
    → Encodes (ReadsAs value_parts field_value_at) features (λ (offset : ℕ). x) (value_bytes (value_parts x))
value_encodes x features h =
    encodes_so value_parts field_value_at features x (value_bytes (value_parts x)) (reads_value (value_parts x) features h)

copies_value : Copies (λ start. skipped_value_at)
unfolding skipped_value_at
copies_value = in_turn (λ s. skipped_name_at) (λ s x p. skipped_name_at p) copies_name (λ x. copies_name)

reads_field_name : (name : List ℕ) (features : ℕ) → TextFits name → is_field_name name ≡ true
    → Reads field_name_at features name (name_bytes name)
unfolding field_name_at
reads_field_name name features h known = record { at = λ offset later. rw ((reads_text name features h).at offset later) (rw known refl) }

pub field_encodes : (x : ProducersField) (features : ℕ) → FieldFits (field_parts x)
    → Encodes (ReadsAs field_parts field_at) features (λ (offset : ℕ). field_placed features offset x) (field_bytes (field_parts x))
unfolding field_at field_bytes
field_encodes x features h = record {
  read = λ offset later.
      let name : List ℕ = name_bytes x.name.now in
      let values : List ℕ = list_bytes x.values in
      let there : ℕ = offset + length name in
      let e : there + length values ≡ offset + length (name ++ values) = omega (arith, length-append name values) in
      rw (
        append_assoc name values later,
        (reads_field_name x.name.now features h.name h.known).at offset (values ++ later),
        list_back skipped_value_at copies_value x.values features there later h.values,
      )
      (same_spot features (there + length values) (offset + length (name ++ values)) (field_parts (field_placed features offset x))
      later e);
}

-- ---- target features

reads_feature : (x : FeatureParts) (features : ℕ) → FeatureFits x → Reads target_feature_at features x (feature_bytes x)
unfolding target_feature_at feature_bytes
reads_feature x features h =
    reads_then byte_at
    (λ prefix p. text_at None p >>= λ name. Ok (record { prefix = prefix; name = name.0 }, name.1))
    features x.prefix x (x.prefix ∷ []) (name_bytes x.name) (reads_byte features x.prefix)
    (reads_as (text_at None) (λ name. record { prefix = x.prefix; name = name }) features x.name (name_bytes x.name)
    (reads_text x.name features h.name))

pub feature_encodes : (x : TargetFeature) (features : ℕ) → FeatureFits (feature_parts x)
    → Encodes (ReadsAs feature_parts target_feature_at) features (λ (offset : ℕ). x) (feature_bytes (feature_parts x))
feature_encodes x features h =
    encodes_so feature_parts target_feature_at features x (feature_bytes (feature_parts x)) (reads_feature (feature_parts x) features h)
