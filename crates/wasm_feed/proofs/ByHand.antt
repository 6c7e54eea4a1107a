-- What the proof of `step`, which is by hand, cites.
pub use Rattle.std.proofs.Common.{◌≡◌, ℕ, List, [], ◌∷◌, refl, sym, ap, ◌∙◌}
pub use Rattle.std.proofs.raw_atomic.Walks.{proved, leaves}
pub use mathlib.Core.Path.{subst}
pub use base.Logic.{SProp, ent, emp, id⊢}
pub use base.Fml.{Fml, ftrue, flft, fres}
pub use base.Fraction.{left, right}
pub use denote.Follow.{followed}
pub use seplogic.Ra.Ura.{Ura}
pub use lib.Dec.{T}
pub use mir.Syntax.{named}
pub use mir.Val.{Val, has_ty, WT}
pub use contract.Monad.{fact, fact_i}
pub use contract.Running.{tables}
pub use types.Logic.{Logic, sem}
pub use types.Kit.{‵, raw, ◌⊛◌, some, later, ◌$◌, ◌∵◌, !, qed, by, move, keep, drop, use0, use1, use2, split, join, pick, await, rewrite}
pub use types.Kit.{fjoin, fsplit}
pub use types.Run.{enter, addr, stop, no_more, and_then, returns}
pub use types.ByLocal.{alloc_all, pass_all, free_all, look_at, get, through, sets, lands_as}
pub use denote.RattleType.{RattleType}
pub use denote.Laws.{shows, Is}
pub use denote.Ref.{MutBor, mut_vals, mut_Tells}
pub use denote.Exit.{no}
pub use denote.Signature.{plain, named_lft, mut_ref_to}
pub use denote.Steps.{nothing, heard, peeks, only}
pub use denote.Triple.Call.{calls_at}
pub use denote.Triple.Clauses.{Lasts, lasts}
pub use denote.Triple.Spec.{triple_of}
pub use denote.Triple.Walked.{Stays, walk_of, stay_dropped, Goes-spent_ref}
pub use denote.Triple.Table.{framed}
