-- Derived comparisons of faults and errors.
use Rattle.std.proofs.Common.{◌≡◌, true, ap}
use Rattle.std.specs.Cmp.Derive.{both_true}
use Rattle.wasm_base.specs.Comparing.{DecidesWhether}
use Rattle.wasm_base.specs.FaultAt.{fault_at, number_of, FaultAt}
use Rattle.wasm_base.specs.contracts.error.ErrorPartialEq.TheImpl as ErrorCompared
use Rattle.wasm_base.specs.contracts.fault.FaultPartialEq.TheImpl as FaultCompared
use Rattle.wasm_base.specs.contracts.fault.CoreStart as CoreStarts
use Rattle.wasm_base.specs.contracts.fault.Fault as Faults
use Rattle.wasm_base.specs.contracts.fault.Lead as Leads
use Rattle.wasm_base.specs.contracts.fault.NumberKind as NumberKinds
use Rattle.wasm_base.specs.declared.error.Error.{Error}
use Rattle.wasm_base.proofs.Deciding.{Decides, bare, back, both_of, field, number, option, variants}

-- the four variants that have a field: a number too long or too large, a leading byte, the start of a core dump
pub fault : Decides (FaultCompared.ghosts).eq
fault = variants Faults.enum (
  field NumberKinds.the_field (bare NumberKinds.the_type tt),
  (
    field NumberKinds.the_field (bare NumberKinds.the_type tt),
    (field Leads.the_field (bare Leads.the_type tt), (field CoreStarts.the_field (bare CoreStarts.the_type tt), tt)),
  ),
)

error_same : (one other : Error) → (ErrorCompared.ghosts).eq one other ≡ true → fault_at one ≡ fault_at other
error_same one other h =
    let p = both_of h in
    let q = both_of p.1 in
    λ i. record {
      fault = fault.same one.fault other.fault p.0 i;
      offset = number.same one.offset other.offset q.0 i;
      number = (option number).same (number_of one) (number_of other) q.1 i;
    }

error_back : (one other : Error) → fault_at one ≡ fault_at other → (ErrorCompared.ghosts).eq one other ≡ true
error_back one other is = both_true
    (back fault (ap (λ (f : FaultAt). f.fault) is))
    (both_true (back number (ap (λ (f : FaultAt). f.offset) is)) (back (option number) (ap (λ (f : FaultAt). f.number) is)))

pub error : DecidesWhether (λ one other. fault_at one ≡ fault_at other) (ErrorCompared.ghosts).eq
error one other = (error_same one other, error_back one other)
