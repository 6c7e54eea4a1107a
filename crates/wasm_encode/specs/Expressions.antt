-- The bytes of constant expressions. Core specification, Binary format, Instructions, Expressions.
use Rattle.std.specs.Prelude.{◌≡◌, ℕ, ◌+◌, ◌<◌, ◌^◌, false, List, [], ◌∷◌, ◌++◌, length, Ok, map, All}
use Rattle.wasm_base.specs.Section.{as_read}
use Rattle.wasm_base.specs.Window.{place, window_over}
use Rattle.wasm_encode.specs.Globals.{IsExpression}
use Rattle.wasm_encode.specs.Operators.{OperatorFits, operator_bytes}
use Rattle.wasm_encode.specs.ReadsBack.{spot}
use Rattle.wasm_encode.specs.Sections.{items_bytes}
use Rattle.wasm_items.specs.Init.{expression_at}
use Rattle.wasm_items.specs.Instructions.{instructions_in, is_end}
use Rattle.wasm_items.specs.Windows.{expression_window}
use Rattle.wasm_items.specs.declared.init.ConstExpr.{ConstExpr}
use Rattle.wasm_items.specs.declared.init.ConstOperator.{ConstOperator}
use Rattle.wasm_items.specs.declared.init.ConstOperator.TheVariants.{End}
use Rattle.wasm_items.specs.declared.instructions.ConstInstruction.{ConstInstruction}

-- ---- expressions that are copied

-- | the bytes of an expression that is copied, and the expression as it is read at an offset [`expression_placed`]
--   <Instructions, Expressions>
-- the bytes of an expression: those that its window has in front of its reader
abbrev pub expression_bytes : ConstExpr → List ℕ
expression_bytes expression = (place (expression_window expression)).rest

-- an expression as it is read with these features at an offset
abbrev pub expression_placed : (features offset : ℕ) → ConstExpr → ConstExpr
expression_placed features offset init = record { reader = window_over features offset (expression_bytes init) }

-- ---- expressions that are made of operators

-- | the bytes of an expression of given operators: the operators and `end`; whether it fits: none is `end`, and it has
--   fewer than 2^32 bytes [; `OperatorsFit`] <Instructions, Expressions>
-- the operators, and `end`
abbrev pub operators_bytes : List ConstOperator → List ℕ
operators_bytes operators = items_bytes operator_bytes operators ++ 0x0B ∷ []

-- Each operator is within its limits and none is `end`. The expression has fewer than 2^32 bytes, as all items have.
pub record OperatorsFit (operators : List ConstOperator) : Type 0 where
  pub each : All OperatorFits operators
  pub inner : All (λ x. is_end x ≡ false) operators
  pub short : length (operators_bytes operators) < 2 ^ 32

-- the instructions as they are read, the first one at this offset
abbrev pub instructions_placed : (offset : ℕ) → List ConstOperator → List ConstInstruction
instructions_placed offset [] = record { offset = offset; operator = End } ∷ []
instructions_placed offset (x ∷ xs) = record { offset = offset; operator = x }
    ∷ instructions_placed (offset + length (operator_bytes x)) xs

-- | the bytes of operators and `end`, at an offset, are read as one constant expression, whose instructions are exactly
--   these [`instructions_placed`]
-- The bytes of operators and `end`, at an offset, are one constant expression: it is read as their window, whatever
-- comes after them, and its instructions are exactly these.
pub record OperatorsBack (features offset : ℕ) (operators : List ConstOperator) : Type 0 where
  pub expression : (later : List ℕ) → expression_at (spot features offset (operators_bytes operators ++ later))
      ≡ Ok (
        window_over features offset (operators_bytes operators),
        spot features (offset + length (operators_bytes operators)) later,
      )
  pub whole : IsExpression (window_over features offset (operators_bytes operators))
  pub instructions : instructions_in (spot features offset (operators_bytes operators))
      ≡ map as_read (instructions_placed offset operators)
