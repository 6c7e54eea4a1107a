-- The instructions of an expression one by one: which remain after each, and that those of an expression tile its window.
use Rattle.std.proofs.Common.{◌≡◌, ℕ, zero, suc, ◌+◌, ◌-◌, ◌≤◌, Bool, true, false, cond, List, [], ◌∷◌, ◌++◌, length, take, Option}
use Rattle.std.proofs.Common.{Some, None, Result, Ok, Err, nat_eq, ℤ, refl, sym, ap, subst, ◌∙◌, if◌then◌else◌, arith, map, add-zero}
use Rattle.std.proofs.lemmas.List.{length-take}
use Rattle.std.specs.List.{list_any}
use Rattle.wasm_base.specs.FaultAt.{FaultAt}
use Rattle.wasm_base.specs.Name.{byte_at}
use Rattle.wasm_base.specs.Outcome.{Outcome, ◌>>=◌, Gives}
use Rattle.wasm_base.specs.Number.{unsigned_at}
use Rattle.wasm_base.specs.Section.{item_or_fault, as_read}
use Rattle.wasm_base.specs.Window.{Window, Place, place, advanced, window_between}
use Rattle.wasm_base.specs.declared.error.Error.{Error}
use Rattle.wasm_base.specs.declared.fault.NumberKind.TheVariants.{VarU32, VarI32, VarI64}
use Rattle.wasm_base.proofs.OwnBytes.{cut, same_read}
use Rattle.wasm_items.proofs.Expressions.{Within, then_within, after_within, same_bound}
use Rattle.wasm_items.proofs.PassedInstructions.{byte_passed}
use Rattle.wasm_items.proofs.OwnBytes.{own_expression}
use Rattle.wasm_items.proofs.PassedItems.{expression_passed}
use Rattle.wasm_items.proofs.ToCome.{gives_all}
use Rattle.wasm_items.specs.Init.{Operands, done, signed, float_32, float_64, raw, u32_index, heap, index, operands_at}
use Rattle.wasm_items.specs.Init.{constant_operands_at}
use Rattle.wasm_items.specs.Init.{numbered_operands_at, operands_of, aggregate_operands_of, vector_operands_of, after_opcode}
use Rattle.wasm_items.specs.Init.{instructions_at, end_of_expression, expression_at}
use Rattle.wasm_items.specs.Instructions.{is_end, operator_at, instruction_at, with_more, instructions_from, instructions_in}
use Rattle.wasm_items.specs.Instructions.{instructions_left, is_last, NextInstruction, Tile, end_of_window}
use Rattle.wasm_items.specs.Instructions.{GivesItsInstructions}
use Rattle.wasm_items.specs.Windows.{expression_window}
use Rattle.wasm_items.specs.declared.init.ConstExpr.{ConstExpr}
use Rattle.wasm_items.specs.declared.init.ConstOperator.{ConstOperator}
use Rattle.wasm_items.specs.declared.init.ConstOperator.TheVariants.{End, GlobalGet, I32Const, I64Const, F32Const, F64Const, V128Const}
use Rattle.wasm_items.specs.declared.init.ConstOperator.TheVariants.{I32Add, I32Sub, I32Mul, I64Add, I64Sub, I64Mul, RefNull, RefFunc}
use Rattle.wasm_items.specs.declared.init.ConstOperator.TheVariants.{StructNew, StructNewDefault, ArrayNew, ArrayNewDefault, ArrayNewFixed}
use Rattle.wasm_items.specs.declared.init.ConstOperator.TheVariants.{AnyConvertExtern, ExternConvertAny, RefI31}
use Rattle.wasm_items.specs.declared.instructions.ConstInstruction.{ConstInstruction}

-- ---- an instruction has at least one byte

operator_within : (start opcode n : ℕ) (p : Place) → length p.rest ≤ n → Within n (operator_at start opcode p)
operator_within start opcode n p le = by (nat_eq opcode 0x0B)
  where
    by : (t : Bool) → Within n (cond t (let o : Outcome ConstOperator = Ok (End, p) in o) (after_opcode start opcode p))
    by true = le
    by false = after_within start opcode n p le

-- the operator of an instruction that begins at this offset, as an instruction
abbrev with_offset : (start : ℕ) → ConstOperator × Place → Outcome ConstInstruction
with_offset start operator = Ok (record { offset = start; operator = operator.0 }, operator.1)

instruction_within : (n : ℕ) (p : Place) → length p.rest ≤ suc n → Within n (instruction_at p)
unfolding instruction_at
instruction_within n p le = by (byte_at p) refl
  where
    by : (r : Outcome ℕ) → byte_at p ≡ r → Within n (r >>= λ opcode. operator_at p.offset opcode.0 opcode.1 >>= with_offset p.offset)
    by (Err e) b = tt
    by (Ok x) b = then_within n (operator_at p.offset x.0 x.1) (with_offset p.offset)
        (operator_within p.offset x.0 n x.1 (omega (arith, byte_passed p x.0 x.1 b))) (λ y h. h)

shorter : (p : Place) (x : ConstInstruction) (q : Place) → instruction_at p ≡ Ok (x, q) → length q.rest + 1 ≤ length p.rest
unfolding instruction_at
shorter p x q e = by p.rest refl
  where
    by : (rest : List ℕ) → p.rest ≡ rest → length q.rest + 1 ≤ length p.rest
    by [] is = let no = rw is at e in cc
    by (b ∷ bs) is =
        let w : Within (length bs) (let o : Outcome ConstInstruction = Ok (x, q) in o) =
        subst (Within (length bs)) e (instruction_within (length bs) p (omega (arith, ap length is))) in
        let n : length p.rest ≡ length (b ∷ bs) = ap length is in
        omega (arith, w, n)

-- ---- the remaining instructions

-- The bound on the number of instructions makes no difference if it is more than the number of bytes.
same_from : (m n : ℕ) (p : Place) → length p.rest + 1 ≤ m → length p.rest + 1 ≤ n → instructions_from m p ≡ instructions_from n p
same_from zero n p lm ln = absurd (omega arith)
same_from (suc m) zero p lm ln = absurd (omega arith)
same_from (suc m) (suc n) p lm ln = by (λ q le. same_from m n q (omega (arith, le)) (omega (arith, le))) (instruction_at p) refl
  where
    by_end : (x : ConstInstruction) (xs ys : List (Result ConstInstruction FaultAt)) → xs ≡ ys → (t : Bool)
        → (let o : List (Result ConstInstruction FaultAt) = Ok x ∷ (if t then [] else xs) in o) ≡ Ok x ∷ (if t then [] else ys)
    by_end x xs ys e true = refl
    by_end x xs ys e false = ap (λ (l : List (Result ConstInstruction FaultAt)). Ok x ∷ l) e

    by : ((q : Place) → length q.rest + 1 ≤ length p.rest → instructions_from m q ≡ instructions_from n q) → (r : Outcome ConstInstruction)
        → instruction_at p ≡ r → with_more (λ q. instructions_from m q) r ≡ with_more (λ q. instructions_from n q) r
    by again (Err e) is = refl
    by again (Ok x) is = by_end x.0 (instructions_from m x.1) (instructions_from n x.1) (again x.1 (shorter p x.0 x.1 is))
        (is_end x.0.operator)

-- One was read: it is the first of the remaining instructions, and the others remain.
pub next_given : (p q : Place) (read : Result ConstInstruction Error) (ended : Bool) → Gives (λ x. x) read q (instruction_at p)
    → ended ≡ is_last read → instructions_in p ≡ item_or_fault read ∷ instructions_left ended q
unfolding instructions_in
next_given p q (Err e) ended g b = ap (with_more (λ r. instructions_from (length p.rest) r)) g ∙ rw b refl
next_given p q (Ok x) ended g b = ap (with_more (λ r. instructions_from (length p.rest) r)) g ∙ by ended b
  where
    by : (t : Bool) → t ≡ is_end x.operator
        → (let o : List (Result ConstInstruction FaultAt) = Ok x ∷ (if is_end x.operator then [] else instructions_from (length p.rest) q)
        in o) ≡ Ok x ∷ instructions_left t q
    by true b = rw (sym b) refl
    by false b = rw (sym b) (ap (λ (l : List (Result ConstInstruction FaultAt)). Ok x ∷ l)
        (same_from (length p.rest) (suc (length q.rest)) q (omega (arith, shorter p x q g)) (omega arith)))

-- ---- no other opcode is `end`

-- No operands make the operator `end`.
abbrev NotEnd : Operands → Type 0
NotEnd (done operator) = is_end operator ≡ false
NotEnd (signed kind more) = (n : ℤ) → NotEnd (more n)
NotEnd (float_32 more) = (n : _) → NotEnd (more n)
NotEnd (float_64 more) = (n : _) → NotEnd (more n)
NotEnd (raw count more) = (bytes : List ℕ) → NotEnd (more bytes)
NotEnd (u32_index more) = (n : ℕ) → NotEnd (more n)
NotEnd (heap more) = (ty : _) → NotEnd (more ty)

abbrev IfAny : Option Operands → Type 0
IfAny (Some operands) = NotEnd operands
IfAny None = Unit {0}

record NoneEnds (operands : Option Operands) : Type 0 where
  if_any : IfAny operands

no_row : NoneEnds None
no_row = record { if_any = tt }

row : (t : Bool) (operands : Operands) (others : Option Operands) → NotEnd operands → NoneEnds others
    → NoneEnds (cond t (Some operands) others)
row true operands others first more = record { if_any = first }
row false operands others first more = more

plain_rows : (opcode : ℕ) → NoneEnds (operands_of opcode)
plain_rows opcode =
    (row _ (index (λ n. GlobalGet n)) _ (λ n. refl)
    (row _ (signed VarI32 (λ n. done (I32Const n))) _ (λ n. refl)
    (row _ (signed VarI64 (λ n. done (I64Const n))) _ (λ n. refl)
    (row _ (float_32 (λ n. done (F32Const n))) _ (λ n. refl)
    (row _ (float_64 (λ n. done (F64Const n))) _ (λ n. refl)
    (row _ (done I32Add) _ refl
    (row _ (done I32Sub) _ refl
    (row _ (done I32Mul) _ refl
    (row _ (done I64Add) _ refl
    (row _ (done I64Sub) _ refl
    (row _ (done I64Mul) _ refl
    (row _ (heap (λ n. done (RefNull n))) _ (λ n. refl)
    (row _ (index (λ n. RefFunc n)) _ (λ n. refl) no_row)))))))))))))

aggregate_rows : (number : ℕ) → NoneEnds (aggregate_operands_of number)
aggregate_rows number =
    (row _ (index (λ n. StructNew n)) _ (λ n. refl)
    (row _ (index (λ n. StructNewDefault n)) _ (λ n. refl)
    (row _ (index (λ n. ArrayNew n)) _ (λ n. refl)
    (row _ (index (λ n. ArrayNewDefault n)) _ (λ n. refl)
    (row _ (u32_index (λ n. index (λ size. ArrayNewFixed n size))) _ (λ n size. refl)
    (row _ (done AnyConvertExtern) _ refl
    (row _ (done ExternConvertAny) _ refl
    (row _ (done RefI31) _ refl no_row))))))))

vector_rows : (number : ℕ) → NoneEnds (vector_operands_of number)
vector_rows number =
    (row _ (raw 16 (λ bytes. done (V128Const (record { 0 = bytes })))) _ (λ bytes. refl) no_row)

-- An operator that was read isn't `end`.
abbrev IsOther : Outcome ConstOperator → Type 0
IsOther (Ok x) = is_end x.0 ≡ false
IsOther (Err e) = Unit {0}

then_other : {A : Type 0} (r : Outcome A) (f : A × Place → Outcome ConstOperator) → ((x : A × Place) → IsOther (f x)) → IsOther (r >>= f)
then_other (Ok x) f h = h x
then_other (Err e) f h = tt

other_operands : (operands : Operands) (p : Place) → NotEnd operands → IsOther (operands_at operands p)
other_operands (done operator) p h = h
other_operands (signed kind more) p h = then_other _ _ (λ x. other_operands (more x.0) x.1 (h x.0))
other_operands (float_32 more) p h = then_other _ _ (λ x. other_operands (more (record { 0 = x.0 })) x.1 (h (record { 0 = x.0 })))
other_operands (float_64 more) p h = then_other _ _ (λ x. other_operands (more (record { 0 = x.0 })) x.1 (h (record { 0 = x.0 })))
other_operands (raw n more) p h = then_other _ _ (λ x. other_operands (more x.0) x.1 (h x.0))
other_operands (u32_index more) p h = then_other _ _ (λ x. other_operands (more x.0) x.1 (h x.0))
other_operands (heap more) p h = then_other _ _ (λ x. other_operands (more x.0) x.1 (h x.0))

other_constant : (start : ℕ) (operands : Option Operands) (p : Place) → NoneEnds operands → IsOther (constant_operands_at start operands p)
other_constant start (Some operands) p h = other_operands operands p h.if_any
other_constant start None p h = tt

after_other : (start opcode : ℕ) (p : Place) → IsOther (after_opcode start opcode p)
unfolding after_opcode
after_other start opcode p = by (nat_eq opcode 0xFB) (nat_eq opcode 0xFD)
  where
    by : (s t : Bool) → IsOther (cond s (numbered_operands_at start aggregate_operands_of p)
        (cond t (numbered_operands_at start vector_operands_of p) (constant_operands_at start (operands_of opcode) p)))
    by true t = then_other (unsigned_at VarU32 p) _ (λ x. other_constant start (aggregate_operands_of x.0) x.1 (aggregate_rows x.0))
    by false true = then_other (unsigned_at VarU32 p) _ (λ x. other_constant start (vector_operands_of x.0) x.1 (vector_rows x.0))
    by false false = other_constant start (operands_of opcode) p (plain_rows opcode)

-- ---- an expression that was read

-- at most `most` instructions, from one place to another
record Listed (most : ℕ) (p q : Place) : Type 0 where
  first : List ConstInstruction
  last : ConstInstruction
  listed : instructions_from most p ≡ map as_read (first ++ last ∷ [])
  tile : Tile p (first ++ last ∷ []) q
  only_last : list_any (λ x. is_end x.operator) first ≡ false
  is_the_end : last.operator ≡ End

end_read : (most : ℕ) (p q : Place) → instruction_at p ≡ Ok (record { offset = p.offset; operator = End }, q) → Listed (suc most) p q
end_read most p q e = record {
  first = [];
  last = record { offset = p.offset; operator = End };
  listed = rw e refl;
  tile = (q, e, refl);
  only_last = refl;
  is_the_end = refl;
}

one_more : (most : ℕ) (p q r : Place) (x : ConstInstruction) → instruction_at p ≡ Ok (x, r) → is_end x.operator ≡ false → Listed most r q
    → Listed (suc most) p q
one_more most p q r x e other l = record {
  first = x ∷ l.first;
  last = l.last;
  listed = rw (e, other, l.listed) refl;
  tile = (r, e, l.tile);
  only_last = rw (other, l.only_last) refl;
  is_the_end = l.is_the_end;
}

listed : (most : ℕ) (p q : Place) → instructions_at most p ≡ Ok (tt, q) → Listed most p q
unfolding instruction_at
listed zero p q e = cc
listed (suc most) p q e = by (λ r h. listed most r q h) (byte_at p) refl e
  where
    by : ((r : Place) → instructions_at most r ≡ Ok (tt, q) → Listed most r q) → (o : Outcome ℕ) → byte_at p ≡ o
        → (o >>= λ opcode. if nat_eq opcode.0 0x0B then Ok (tt, opcode.1) else (after_opcode p.offset opcode.0 opcode.1 >>= λ i.
        instructions_at most i.1)) ≡ Ok (tt, q) → Listed (suc most) p q
    by again (Err f) b e = cc
    by again (Ok x) b e = by_end (nat_eq x.0 0x0B) refl e
      where
        by_end : (t : Bool) → nat_eq x.0 0x0B ≡ t → cond t (let o : Outcome (Unit {0}) = Ok (tt, x.1) in o)
            (after_opcode p.offset x.0 x.1 >>= λ i. instructions_at most i.1) ≡ Ok (tt, q) → Listed (suc most) p q
        by_end true t e =
            let same = same_read tt tt x.1 q e in
            end_read most p q (read_end (sym same.1))
          where
            read_end : q ≡ x.1 → instruction_at p ≡ Ok (record { offset = p.offset; operator = End }, q)
            read_end same = rw (b, t, same) refl
        by_end false t e = by_operator (after_opcode p.offset x.0 x.1) refl e
          where
            by_operator : (o : Outcome ConstOperator) → after_opcode p.offset x.0 x.1 ≡ o → (o >>= λ i. instructions_at most i.1)
                ≡ Ok (tt, q) → Listed (suc most) p q
            by_operator (Err f) is e = cc
            by_operator (Ok y) is e = one_more most p q y.1 (record { offset = p.offset; operator = y.0 }) read_one
                (subst IsOther is (after_other p.offset x.0 x.1)) (again y.1 e)
              where
                read_one : instruction_at p ≡ Ok (record { offset = p.offset; operator = y.0 }, y.1)
                read_one = rw (b, t, is) refl

-- the window of an expression that was read
window_is : (p q : Place) (window : Window) → expression_at p ≡ Ok (window, q) → window ≡ window_between p q
unfolding expression_at
window_is p q window e =
    let passed = expression_passed p q window e in
    let read = rw passed at e in
    sym (same_read (window_between p q) window q q read).0

-- the places at the start of such a window, and at its end
window_start : (p q : Place) (used : ℕ) → q ≡ advanced used p → place (window_between p q) ≡ cut used p
window_start p q used after =
    let count : q.offset - p.offset ≡ used = omega (arith, ap (λ (r : Place). r.offset) after) in
    rw (count, add-zero) refl

window_end : (p q : Place) (used : ℕ) → q ≡ advanced used p → used ≤ length p.rest → end_of_window (window_between p q) ≡ cut 0 q
window_end p q used after there = subst (λ (r : Place). end_of_window (window_between p r) ≡ cut 0 r) (sym after) at_end
  where
    at_end : end_of_window (window_between p (advanced used p)) ≡ cut 0 (advanced used p)
    at_end =
        let count : length (take ((p.offset + used) - p.offset) p.rest) ≡ used =
        omega (arith, length-take ((p.offset + used) - p.offset) p.rest, there) in
        rw count refl

in_window : (p q : Place) → end_of_expression p ≡ Ok (tt, q)
    → Listed (suc (length (place (window_between p q)).rest)) (place (window_between p q)) (end_of_window (window_between p q))
unfolding end_of_expression
in_window p q e =
    let own = own_expression.at p tt q e in
    let alone : instructions_at (length (cut own.used p).rest) (cut own.used p) ≡ Ok (tt, cut 0 q) =
    own.alone own.used 0 (omega arith) in
    let more : instructions_at (suc (length (cut own.used p).rest)) (cut own.used p) ≡ Ok (tt, cut 0 q) =
    same_bound (suc (length (cut own.used p).rest)) (length (cut own.used p).rest) (cut own.used p) (omega arith) (omega arith) ∙ alone in
    let l : Listed (suc (length (cut own.used p).rest)) (cut own.used p) (cut 0 q) =
    listed (suc (length (cut own.used p).rest)) (cut own.used p) (cut 0 q) more in
    let at_start : Listed (suc (length (place (window_between p q)).rest)) (place (window_between p q)) (cut 0 q) =
    subst (λ (r : Place). Listed (suc (length r.rest)) r (cut 0 q)) (sym (window_start p q own.used own.after)) l in
    subst (λ (r : Place). Listed (suc (length (place (window_between p q)).rest)) (place (window_between p q)) r)
    (sym (window_end p q own.used own.after own.there)) at_start

pub expression_tiles : (p q : Place) (expression : ConstExpr) → expression_at p ≡ Ok (expression_window expression, q)
    → GivesItsInstructions NextInstruction expression
unfolding instructions_in
expression_tiles p q expression e given drained =
    let window : expression_window expression ≡ window_between p q = window_is p q (expression_window expression) e in
    let all : map item_or_fault given ≡ instructions_in (place (expression_window expression)) =
    (gives_all item_or_fault).items (instructions_in (place (expression_window expression))) given drained in
    let l : Listed (suc (length (place (expression_window expression)).rest)) (place (expression_window expression))
    (end_of_window (expression_window expression)) =
    subst (λ (w : Window). Listed (suc (length (place w).rest)) (place w) (end_of_window w)) (sym window)
    (in_window p q (expression_passed p q (expression_window expression) e)) in
    record {
      first = l.first;
      last = l.last;
      without_fault = all ∙ l.listed;
      tile = l.tile;
      only_last = l.only_last;
      is_the_end = l.is_the_end;
    }
