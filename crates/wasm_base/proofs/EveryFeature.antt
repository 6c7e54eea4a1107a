-- The bits of all features are those of their table.
use Rattle.std.proofs.Common.{◌≡◌, refl}
use Rattle.bitflags.proofs.OnLiterals.{bitflags_on_literals}
use Rattle.bitflags.specs.Sets.{known_bits}
use Rattle.wasm_base.specs.Features.{feature_table, all_features}

pub every_feature : known_bits feature_table ≡ all_features
unfolding bitflags_on_literals
every_feature = refl
