use Rattle.wasm_base.specs.FaultAt.{fault_at}
use Rattle.wasm_items.proofs.ToCome.{bundle_given, fault_given, bundle_follows, single_follows, fault_follows}
use Rattle.wasm_items.specs.Flattened.{imports_of_bundles}
use Rattle.wasm_items.proofs.flattened.next_import.Goals as goal

pub left-preserved : goal.left-preserved
left-preserved c =
    let none = rw c.in_default.is at c.next.ensures.steps in
    let given = bundle_given c.left.bundles c.next-in-left.new.self c.in-Some-Ok.next
    (rw c.in-Some-Ok.field-0-is at c.in-Some-Ok.ensures.steps) in
    rw c.start.ensures (bundle_follows c.left.bundle _ (imports_of_bundles c.left.bundles) (imports_of_bundles c.next-in-left.new.self) _
    c.left.invariant none.0.0 given)

pub returns-in-Some-Err-clause-gives : goal.returns-in-Some-Err-clause-gives
returns-in-Some-Err-clause-gives c =
    let none = rw c.in_default.is at c.next.ensures.steps in
    let given = fault_given c.left.bundles c.next-in-left.new.self c.in-Some-Err.e
    (rw c.in-Some-Err.field-0-is at c.in-Some-Err.ensures.steps) in
    fault_follows c.left.bundle c.next.new.self (imports_of_bundles c.left.bundles) (imports_of_bundles c.next-in-left.new.self) _
    (fault_at c.in-Some-Err.e) c.left.invariant none.0.0 none.0.1 given.0 given.1

pub returns-in-Single-clause-gives : goal.returns-in-Single-clause-gives
returns-in-Single-clause-gives c =
    let none = rw c.in_default.is at c.next.ensures.steps in
    let given = bundle_given c.left.bundles c.next-in-left.new.self c.in-Some-Ok.next
    (rw c.in-Some-Ok.field-0-is at c.in-Some-Ok.ensures.steps) in
    single_follows c.left.bundle c.next.new.self (imports_of_bundles c.left.bundles) (imports_of_bundles c.next-in-left.new.self) _ _
    c.left.invariant none.0.0 none.0.1 (rw c.in-Single.is at given)
