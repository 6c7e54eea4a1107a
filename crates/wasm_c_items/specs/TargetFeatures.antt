-- The features that a module uses, as plain numbers.
use Rattle.std.specs.Prelude.{ℕ, ◌-◌, length, Ok, Err}
use Rattle.wasm_base.specs.Outcome.{Outcome}
use Rattle.wasm_base.specs.Window.{Place}
use Rattle.wasm_custom.specs.TargetFeatures.{FeatureParts}
use Rattle.wasm_c_items.specs.Faults.{no_fault, plain_fault}
use Rattle.wasm_c_items.specs.Spans.{no_span, span_before}
use Rattle.wasm_c_items.specs.declared.target_features.PlainTargetFeature.{PlainTargetFeature}

-- a feature
abbrev pub plain_target_feature : (from : ℕ) → Place → Outcome FeatureParts → PlainTargetFeature
plain_target_feature from p (Ok x) = record {
  fault = no_fault;
  consumed = x.1.offset - p.offset;
  prefix = x.0.prefix;
  name = span_before from x.1.offset (length x.0.name);
}
plain_target_feature from p (Err f) = record {
  fault = plain_fault f;
  consumed = 0;
  prefix = 0;
  name = no_span;
}
