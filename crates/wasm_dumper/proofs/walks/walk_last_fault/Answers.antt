use Rattle.wasm_dumper.proofs.Common.{◌≡◌, Bool, true, false, ◌∷◌, [], refl, fault_at}
use Rattle.wasm_base.specs.Hints.{is_out_of_memory}
use Rattle.wasm_show.specs.Seen.{enters, faulty, outside}
use Rattle.wasm_show.proofs.ForCallers.{sees_then, sees_told, sees_wider}
use Rattle.wasm_dumper.specs.Walking.{SeesLast}
use Rattle.wasm_dumper.proofs.walks.walk_last_fault.Goals as goal

pub returns : goal.returns
returns g c = by_memory _ refl
  where
    by_memory : (memory : Bool) → is_out_of_memory (fault_at c.args.error.now).fault ≡ memory
        → SeesLast g.W.Walker.saw g.W.Walker.why g.W.Walker.IS_DEEP c.args.error.now c.args.walker.now c.take_fault.new.self
    by_memory false m = sees_then g.W.Walker.saw g.W.Walker.why (enters outside ∷ []) (faulty (fault_at c.args.error.now) ∷ []) _ _ _
        (sees_told g.W.Walker.saw g.W.Walker.why _ _ _ c.enter.ensures)
        (sees_told g.W.Walker.saw g.W.Walker.why _ _ _ (c.take_fault.ensures.one m))
    by_memory true m = sees_then g.W.Walker.saw g.W.Walker.why (enters outside ∷ []) (faulty (fault_at c.args.error.now) ∷ []) _ _ _
        (sees_told g.W.Walker.saw g.W.Walker.why _ _ _ c.enter.ensures)
        (sees_wider g.W.Walker.saw g.W.Walker.why [] (faulty (fault_at c.args.error.now) ∷ []) _ _ (c.take_fault.ensures.stops m)
        (sees_told g.W.Walker.saw g.W.Walker.why [] _ _ (c.take_fault.ensures.none m)))
