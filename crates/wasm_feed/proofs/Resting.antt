-- `Rests` is what is said of a name at some value of which the fact holds.
use Rattle.wasm_feed.proofs.Common.{Rests}
use Rattle.std.specs.Prelude.{⊤}
use base.Fml.{fres}
use base.Logic.{ent, ex_i}
use denote.Follow.{such_by, follows_by}
use denote.RattleType.{RattleType}
use denote.Ref.{MutBor}
use mathlib.Core.Option.{none}
use seplogic.Ra.Ura.{Ura}
use types.Logic.{Logic, sem}

module _ {M : Type 1} {𝓤 : Ura M} (𝓛 : Logic 𝓤) (R : RattleType) (s : MutBor R.Denot) (P : R.Denot → Type 0) where
  pub rests_close : (v : R.Denot) → P v → ent 𝓤 (sem 𝓛 (fres s.ghost_name (R.coded.code v))) (sem 𝓛 (Rests R s P))
  unfolding such_by follows_by
  rests_close v p = ex_i 𝓤 (λ (y : (p : (R.Denot → R.Denot) × R.Denot) × ((z : R.Denot) → ⊤) × P p.1).
      sem 𝓛 (follows_by R.Denot R.Denot R.coded.code R.coded.code s.ghost_name none y.0.0 y.0.1)) ((λ x. x, v), λ _. tt, p)
