-- Expressions that are copied are read as their windows, and those made of operators as these.
use Rattle.std.proofs.Common.{◌≡◌, ℕ, zero, suc, ◌+◌, ◌<◌, ◌≤◌, ◌^◌, false, List, [], ◌∷◌, ◌++◌, length, Ok, All, map, arith, ap, sym, ◌∙◌}
use Rattle.std.proofs.Common.{append-nil, append_assoc, length-append, refl}
use Rattle.std.proofs.lemmas.List.Elements.{All-head, All-tail}
use Rattle.wasm_base.specs.Section.{as_read}
use Rattle.wasm_base.specs.Window.{Window, place, window_over}
use Rattle.wasm_encode.specs.Expressions.{OperatorsBack, OperatorsFit, expression_bytes, instructions_placed, operators_bytes}
use Rattle.wasm_encode.specs.Globals.{IsExpression}
use Rattle.wasm_encode.specs.Operators.{OperatorFits, after_opcode_bytes, opcode, operator_bytes}
use Rattle.wasm_encode.specs.ReadsBack.{spot}
use Rattle.wasm_encode.specs.Sections.{items_bytes}
use Rattle.wasm_encode.proofs.CopiedExpressions.{reads_expression}
use Rattle.wasm_encode.proofs.GlobalsBack.{expression_spot}
use Rattle.wasm_encode.proofs.OperatorsBack.{after_back, end_back, inner_back, not_the_end}
use Rattle.wasm_encode.proofs.Readings.{Reads, same_spot}
use Rattle.wasm_items.proofs.Expressions.{end_or_instruction}
use Rattle.wasm_items.specs.Init.{end_of_expression, expression_at}
use Rattle.wasm_items.specs.Instructions.{instructions_from, instructions_in, is_end}
use Rattle.wasm_items.specs.Windows.{expression_window}
use Rattle.wasm_items.specs.declared.init.ConstExpr.{ConstExpr}
use Rattle.wasm_items.specs.declared.init.ConstOperator.{ConstOperator}

-- a copied expression as the window of its bytes
pub copied : (expression : ConstExpr) → IsExpression (expression_window expression) → (features offset : ℕ) (later : List ℕ)
    → expression_at (spot features offset (expression_bytes expression ++ later))
    ≡ Ok (window_over features offset (expression_bytes expression), spot features (offset + length (expression_bytes expression)) later)
copied expression h features offset later =
    let w : Window = expression_window expression in
    expression_spot features offset (expression_bytes expression) later
    (reads_expression w.features (place w).offset (expression_bytes expression) h features)

-- ---- expressions made of operators

abbrev Inner : ConstOperator → Type 0
Inner x = is_end x ≡ false

pub inner_few : (operators : List ConstOperator) → OperatorsFit operators → length (items_bytes operator_bytes operators) < 2 ^ 32
inner_few operators h =
    let short = h.short in omega (arith, short, length-append (items_bytes operator_bytes operators) (0x0B ∷ []))

-- The end is one byte more.
pub one_after : (operators : List ConstOperator) → length (operators_bytes operators) ≡ 1 + length (items_bytes operator_bytes operators)
one_after operators = omega (arith, length-append (items_bytes operator_bytes operators) (0x0B ∷ []))

-- the bytes of one operator and then of others
one_more : (x : ConstOperator) (xs : List ConstOperator) (later : List ℕ)
    → operators_bytes (x ∷ xs) ++ later ≡ operator_bytes x ++ (operators_bytes xs ++ later)
one_more x xs later =
    let others : List ℕ = items_bytes operator_bytes xs in
    let end : List ℕ = 0x0B ∷ [] in
    ap (λ (bytes : List ℕ). bytes ++ later) (append_assoc (operator_bytes x) others end)
    ∙ append_assoc (operator_bytes x) (others ++ end) later

one_longer : (x : ConstOperator) (xs : List ConstOperator)
    → length (operators_bytes (x ∷ xs)) ≡ length (operator_bytes x) + length (operators_bytes xs)
one_longer x xs =
    let others : List ℕ = items_bytes operator_bytes xs in
    let end : List ℕ = 0x0B ∷ [] in
    ap length (append_assoc (operator_bytes x) others end) ∙ length-append (operator_bytes x) (others ++ end)

step : (x : ConstOperator) (features offset : ℕ) (rest : List ℕ) → OperatorFits x → Inner x
    → end_of_expression (spot features offset (operator_bytes x ++ rest))
    ≡ end_of_expression (spot features (offset + length (operator_bytes x)) rest)
unfolding operator_bytes
step x features offset rest h inner =
    let more : List ℕ = after_opcode_bytes x in
    let e : offset + 1 + length more ≡ offset + length (opcode x ∷ more) = omega arith in
    end_or_instruction (spot features offset (opcode x ∷ (more ++ rest)))
    ∙ rw (not_the_end x inner, after_back x h inner offset features (offset + 1) rest)
    (ap (λ (k : ℕ). end_of_expression (spot features k rest)) e)

ended : (operators : List ConstOperator) (features offset : ℕ) (later : List ℕ) → All OperatorFits operators → All Inner operators
    → end_of_expression (spot features offset (operators_bytes operators ++ later))
    ≡ Ok (tt, spot features (offset + length (operators_bytes operators)) later)
ended [] features offset later fits inner = end_or_instruction (spot features offset (0x0B ∷ later))
ended (x ∷ xs) features offset later fits inner =
    let after : ℕ = offset + length (operator_bytes x) in
    let n : after + length (operators_bytes xs) ≡ offset + length (operators_bytes (x ∷ xs)) = omega (arith, one_longer x xs) in
    ap (λ (bytes : List ℕ). end_of_expression (spot features offset bytes)) (one_more x xs later)
    ∙ (step x features offset (operators_bytes xs ++ later) (All-head OperatorFits x xs fits) (All-head Inner x xs inner)
    ∙ (ended xs features after later (All-tail OperatorFits x xs fits) (All-tail Inner x xs inner)
    ∙ same_spot features (after + length (operators_bytes xs)) (offset + length (operators_bytes (x ∷ xs))) tt later n))

listed : (most : ℕ) (operators : List ConstOperator) (features offset : ℕ) → length operators < most → All OperatorFits operators
    → All Inner operators → instructions_from most (spot features offset (operators_bytes operators))
    ≡ map as_read (instructions_placed offset operators)
listed zero operators features offset few fits inner = absurd (omega arith)
listed (suc most) [] features offset few fits inner = rw (end_back features offset []) refl
listed (suc most) (x ∷ xs) features offset few fits inner =
    let after : ℕ = offset + length (operator_bytes x) in
    let w : operators_bytes (x ∷ xs) ≡ operator_bytes x ++ operators_bytes xs =
    append_assoc (operator_bytes x) (items_bytes operator_bytes xs) (0x0B ∷ []) in
    let i : is_end x ≡ false = All-head Inner x xs inner in
    rw (w, inner_back x features offset (operators_bytes xs) (All-head OperatorFits x xs fits) i, i)
    (ap (λ ys. as_read (record { offset = offset; operator = x }) ∷ ys)
    (listed most xs features after (omega arith) (All-tail OperatorFits x xs fits) (All-tail Inner x xs inner)))

fewer : (operators : List ConstOperator) → length operators ≤ length (items_bytes operator_bytes operators)
unfolding operator_bytes
fewer [] = omega arith
fewer (x ∷ xs) = omega (arith, fewer xs, length-append (after_opcode_bytes x) (items_bytes operator_bytes xs))

pub operators_back : (operators : List ConstOperator) (features offset : ℕ) → OperatorsFit operators
    → OperatorsBack features offset operators
unfolding instructions_in
operators_back operators features offset h =
    let bytes : List ℕ = operators_bytes operators in
    let r : Reads end_of_expression features tt bytes = record { at = λ o later. ended operators features o later h.each h.inner } in
    record {
      expression = λ later. expression_spot features offset bytes later r;
      whole = ap (λ (xs : List ℕ). end_of_expression (spot features (offset + 0) xs)) (sym (append-nil bytes)) ∙ r.at (offset + 0) [];
      instructions = listed (suc (length bytes)) operators features offset
          (omega (arith, fewer operators, length-append (items_bytes operator_bytes operators) (0x0B ∷ []))) h.each h.inner;
    }
