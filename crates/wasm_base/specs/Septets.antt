-- The bytes of a number, one by one.
use Rattle.std.specs.Prelude.{ℕ, ◌^◌, Bool, nat_lt}
use Rattle.wasm_base.specs.declared.fault.NumberKind.{NumberKind}
use Rattle.wasm_base.specs.declared.fault.NumberKind.TheVariants.{VarU32, VarI32, VarU64, VarI64, VarS33}

-- whether this byte is the last one of its number
abbrev pub is_last : ℕ → Bool
is_last b = nat_lt b 128

-- what the sum of a number's septets stays below: an unsigned value's bits, or all septets of a signed one
abbrev pub sum_bound : NumberKind → ℕ
sum_bound VarU32 = 2 ^ 32
sum_bound VarI32 = 2 ^ 35
sum_bound VarS33 = 2 ^ 35
sum_bound VarU64 = 2 ^ 64
sum_bound VarI64 = 2 ^ 70
