-- When two errors are equal.
use Rattle.std.specs.Prelude.{Bool, nat_eq}
use Rattle.std.specs.Cmp.{IsEquivalence, and_equiv, nat_eq_equiv, on_equiv}
use Rattle.std.specs.Cmp.Lexicographic.{options_equiv}
use Rattle.std.specs.Option.{option_eq}
use Rattle.std.specs.Ordering.{on, eq_of_both}
use Rattle.wasm_base.specs.FaultAt.{number_of}
use Rattle.wasm_base.specs.contracts.fault.FaultEq.TheImpl.Laws.{laws-law}
use Rattle.wasm_base.specs.contracts.fault.FaultPartialEq.TheImpl as FaultCompared
use Rattle.wasm_base.specs.declared.error.Error.{Error}

-- whether two errors have the same fault, offset and number
abbrev pub same_errors : Error → Error → Bool
same_errors = eq_of_both (on (λ e. e.fault) (FaultCompared.ghosts).eq)
    (eq_of_both (on (λ e. e.offset) nat_eq) (on number_of (option_eq nat_eq)))

pub same_errors_equiv : IsEquivalence same_errors
same_errors_equiv = and_equiv (on_equiv (λ e. e.fault) laws-law)
    (and_equiv (on_equiv (λ e. e.offset) nat_eq_equiv) (on_equiv number_of (options_equiv nat_eq_equiv)))
