use Rattle.std.proofs.Common.{refl, arith}
use Rattle.wasm_base.specs.Widths.{IsLongEnough, BoundsSum}
use Rattle.wasm_base.specs.declared.fault.NumberKind.{NumberKind}
use Rattle.wasm_base.specs.declared.fault.NumberKind.TheVariants.{VarU32, VarI32, VarU64, VarI64, VarS33}
use Rattle.wasm_base.proofs.Widths.{checks_unused}
use Rattle.wasm_base.proofs.laws.widths_of_numbers.Goals as goal

long_enough : (kind : NumberKind) → IsLongEnough kind
long_enough VarU32 = (omega arith, omega arith)
long_enough VarI32 = (omega arith, omega arith)
long_enough VarS33 = (omega arith, omega arith)
long_enough VarU64 = (omega arith, omega arith)
long_enough VarI64 = (omega arith, omega arith)

bounds_sum : (kind : NumberKind) → BoundsSum kind
bounds_sum VarU32 = refl
bounds_sum VarI32 = refl
bounds_sum VarS33 = refl
bounds_sum VarU64 = refl
bounds_sum VarI64 = refl

pub returns-clause-bytes : goal.returns-clause-bytes
returns-clause-bytes c = long_enough

pub returns-clause-unused : goal.returns-clause-unused
returns-clause-unused c = checks_unused

pub returns-clause-sum : goal.returns-clause-sum
returns-clause-sum c = bounds_sum
