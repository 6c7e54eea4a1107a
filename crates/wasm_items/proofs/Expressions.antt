-- An expression is `end`, or an instruction followed by an expression: the bound on the number of instructions is no limit.
use Rattle.std.proofs.Common.{◌≡◌, ℕ, zero, suc, ◌+◌, ◌-◌, ◌*◌, ◌^◌, ◌≤◌, Bool, true}
use Rattle.std.proofs.Common.{false, cond, List, [], ◌∷◌, length, take, drop, Option, Some, None}
use Rattle.std.proofs.Common.{ap, Ok, Err, nat_lt, nat_eq, ℤ, pos, negsuc, refl, sym, ◌==◌, if◌then◌else◌, arith, length-drop, ◌∙◌}
use Rattle.wasm_base.specs.FaultAt.{FaultAt, at_offset}
use Rattle.wasm_base.specs.Float.{u64_at}
use Rattle.wasm_base.specs.Name.{bytes_at, byte_at, first_of, first_peeked, of_four, u32_at}
use Rattle.wasm_base.specs.Number.{Number, read, bad, short, number, in_window, unsigned_at}
use Rattle.wasm_base.specs.Outcome.{Outcome, ◌>>=◌}
use Rattle.wasm_base.specs.Signed.{signed_at, signed_value}
use Rattle.wasm_base.specs.Window.{Place, advanced}
use Rattle.wasm_base.specs.declared.fault.Fault.TheVariants.{UnexpectedEof}
use Rattle.wasm_base.specs.declared.fault.NumberKind.{NumberKind}
use Rattle.wasm_base.specs.declared.fault.NumberKind.TheVariants.{VarU32, VarI32, VarS33}
use Rattle.wasm_items.proofs.PassedInstructions.{byte_passed}
use Rattle.wasm_items.specs.Init.{Operands, done, signed, float_32, float_64, raw, u32_index, heap, operands_at, constant_operands_at}
use Rattle.wasm_items.specs.Init.{numbered_operands_at, operands_of, aggregate_operands_of, vector_operands_of, after_opcode}
use Rattle.wasm_items.specs.Init.{instructions_at, end_of_expression, IsEndOrInstruction}
use Rattle.wasm_items.specs.Values.{heap_type_at, heap_type_from, abstract_heap_of, type_index}
use Rattle.wasm_items.specs.declared.init.ConstOperator.{ConstOperator}
use Rattle.wasm_items.specs.declared.init.ConstOperator.TheVariants.{I32Const}
use Rattle.wasm_items.specs.declared.types.HeapType.{HeapType}

-- At most n bytes remain after a reading.
abbrev pub Within : {A : Type 0} → ℕ → Outcome A → Type 0
Within n (Ok x) = length x.1.rest ≤ n
Within n (Err e) = Unit {0}

-- one reading after the other
pub then_within : {A B : Type 0} (n : ℕ) (r : Outcome A) (f : A × Place → Outcome B) → Within n r
    → ((x : A × Place) → length x.1.rest ≤ n → Within n (f x)) → Within n (r >>= f)
then_within n (Ok x) f h k = k x h
then_within n (Err e) f h k = tt

number_within : (p : Place) (n : Number) → Within (length p.rest) (in_window p n)
number_within p (read sum used) = omega (arith, length-drop used p.rest)
number_within p (bad fault i) = tt
number_within p short = tt

less : {A : Type 0} (n m : ℕ) (r : Outcome A) → m ≤ n → Within m r → Within n r
less n m (Ok x) le h = omega (arith, h)
less n m (Err e) le h = tt

unsigned_within : (kind : NumberKind) (n : ℕ) (p : Place) → length p.rest ≤ n → Within n (unsigned_at kind p)
unfolding unsigned_at
unsigned_within kind n p le = less n (length p.rest) (in_window p (number kind p.rest)) le (number_within p (number kind p.rest))

signed_within : (kind : NumberKind) (n : ℕ) (p : Place) → length p.rest ≤ n → Within n (signed_at kind p)
unfolding signed_at
signed_within kind n p le = then_within n (unsigned_at kind p) (λ sum. Ok (signed_value sum.0 (sum.1.offset - p.offset), sum.1))
    (unsigned_within kind n p le) (λ x h. h)

pub bytes_within : (count n : ℕ) (p : Place) → length p.rest ≤ n → Within n (bytes_at count p)
bytes_within count n p le = by_test (nat_lt (length p.rest) count)
  where
    by_test : (t : Bool) → Within n (cond t (Err (at_offset UnexpectedEof p.offset)) (Ok (take count p.rest, advanced count p)))
    by_test true = tt
    by_test false = omega (arith, length-drop count p.rest)

index_within : (first start n : ℕ) (value : ℤ) (p : Place) → length p.rest ≤ n → Within n (type_index first start (value, p))
index_within first start n (pos value) p le = le
index_within first start n (negsuc m) p le = tt

heap_from_within : (first n : ℕ) (p : Place) (ty : Option HeapType) → length p.rest ≤ n → Within n (heap_type_from first p ty)
heap_from_within first n p (Some ty) le = omega (arith, length-drop 1 p.rest)
heap_from_within first n p None le = then_within n (signed_at VarS33 p) (λ value. type_index first p.offset value)
    (signed_within VarS33 n p le) (λ x h. index_within first p.offset n x.0 x.1 h)

peeked_within : (p : Place) (rest : List ℕ) (n : ℕ) → length p.rest ≤ n
    → Within n (first_peeked p rest >>= λ first. heap_type_from first.0 p (abstract_heap_of first.0))
peeked_within p [] n le = tt
peeked_within p (b ∷ rest) n le = heap_from_within b n p (abstract_heap_of b) le

heap_within : (n : ℕ) (p : Place) → length p.rest ≤ n → Within n (heap_type_at p)
unfolding heap_type_at
heap_within n p le = peeked_within p p.rest n le

number_32_within : (n : ℕ) (p : Place) → length p.rest ≤ n → Within n (u32_at p)
unfolding u32_at
number_32_within n p le = then_within n (bytes_at 4 p) (λ bytes. Ok (of_four bytes.0, bytes.1)) (bytes_within 4 n p le) (λ x h. h)

number_64_within : (n : ℕ) (p : Place) → length p.rest ≤ n → Within n (u64_at p)
unfolding u64_at
number_64_within n p le = then_within n (bytes_at 8 p)
    (λ bytes. Ok (of_four (take 4 bytes.0) + 2 ^ 32 * of_four (drop 4 bytes.0), bytes.1)) (bytes_within 8 n p le) (λ x h. h)

operands_within : (operands : Operands) (n : ℕ) (p : Place) → length p.rest ≤ n → Within n (operands_at operands p)
operands_within (done operator) n p le = le
operands_within (signed kind more) n p le = then_within n (signed_at kind p) (λ x. operands_at (more x.0) x.1)
    (signed_within kind n p le) (λ x h. operands_within (more x.0) n x.1 h)
operands_within (float_32 more) n p le = then_within n (u32_at p) (λ x. operands_at (more (record { 0 = x.0 })) x.1)
    (number_32_within n p le) (λ x h. operands_within (more (record { 0 = x.0 })) n x.1 h)
operands_within (float_64 more) n p le = then_within n (u64_at p) (λ x. operands_at (more (record { 0 = x.0 })) x.1)
    (number_64_within n p le) (λ x h. operands_within (more (record { 0 = x.0 })) n x.1 h)
operands_within (raw count more) n p le = then_within n (bytes_at count p) (λ x. operands_at (more x.0) x.1)
    (bytes_within count n p le) (λ x h. operands_within (more x.0) n x.1 h)
operands_within (u32_index more) n p le = then_within n (unsigned_at VarU32 p) (λ x. operands_at (more x.0) x.1)
    (unsigned_within VarU32 n p le) (λ x h. operands_within (more x.0) n x.1 h)
operands_within (heap more) n p le = then_within n (heap_type_at p) (λ x. operands_at (more x.0) x.1)
    (heap_within n p le) (λ x h. operands_within (more x.0) n x.1 h)

constant_within : (start : ℕ) (operands : Option Operands) (n : ℕ) (p : Place) → length p.rest ≤ n
    → Within n (constant_operands_at start operands p)
constant_within start (Some operands) n p le = operands_within operands n p le
constant_within start None n p le = tt

numbered_within : (start : ℕ) (table : ℕ → Option Operands) (n : ℕ) (p : Place) → length p.rest ≤ n
    → Within n (numbered_operands_at start table p)
numbered_within start table n p le = then_within n (unsigned_at VarU32 p) (λ number. constant_operands_at start (table number.0) number.1)
    (unsigned_within VarU32 n p le) (λ x h. constant_within start (table x.0) n x.1 h)

-- No more bytes remain after an instruction than before it.
pub after_within : (start opcode n : ℕ) (p : Place) → length p.rest ≤ n → Within n (after_opcode start opcode p)
unfolding after_opcode
after_within start opcode n p le = by_test (nat_eq opcode 0xFB) (nat_eq opcode 0xFD)
  where
    by_test : (s t : Bool) → Within n (cond s (numbered_operands_at start aggregate_operands_of p)
        (cond t (numbered_operands_at start vector_operands_of p) (constant_operands_at start (operands_of opcode) p)))
    by_test true t = numbered_within start aggregate_operands_of n p le
    by_test false true = numbered_within start vector_operands_of n p le
    by_test false false = constant_within start (operands_of opcode) n p le

-- `end`, or an instruction and then more
abbrev first_and_more : (Place → Outcome (Unit {0})) → Place → Outcome (Unit {0})
first_and_more more p = byte_at p >>= λ opcode. if opcode.0 == 0x0B then Ok (tt, opcode.1) else
    (after_opcode p.offset opcode.0 opcode.1 >>= λ instruction. more instruction.1)

agree_after : (f g : Place → Outcome (Unit {0})) (n : ℕ) (r : Outcome ConstOperator) → Within n r
    → ((q : Place) → length q.rest ≤ n → f q ≡ g q) → (r >>= λ instruction. f instruction.1) ≡ (r >>= λ instruction. g instruction.1)
agree_after f g n (Ok x) h same = same x.1 h
agree_after f g n (Err e) h same = refl

agree_by : (f g : Place → Outcome (Unit {0})) (t : Bool) (n : ℕ) (q : Place) (r : Outcome ConstOperator) → Within n r
    → ((q : Place) → length q.rest ≤ n → f q ≡ g q)
    → cond t (Ok (tt, q)) (r >>= λ instruction. f instruction.1) ≡ cond t (Ok (tt, q)) (r >>= λ instruction. g instruction.1)
agree_by f g true n q r h same = refl
agree_by f g false n q r h same = agree_after f g n r h same

agree_from : (f g : Place → Outcome (Unit {0})) (p : Place) (r : Outcome ℕ) → byte_at p ≡ r
    → ((q : Place) → length q.rest + 1 ≤ length p.rest → f q ≡ g q)
    → (r >>= λ opcode. if opcode.0 == 0x0B then Ok (tt, opcode.1) else
    (after_opcode p.offset opcode.0 opcode.1 >>= λ instruction. f instruction.1))
    ≡ (r >>= λ opcode. if opcode.0 == 0x0B then Ok (tt, opcode.1) else
    (after_opcode p.offset opcode.0 opcode.1 >>= λ instruction. g instruction.1))
agree_from f g p (Err e) b same = refl
agree_from f g p (Ok x) b same =
    let one : length x.1.rest + 1 ≡ length p.rest = byte_passed p x.0 x.1 b in
    agree_by f g (nat_eq x.0 0x0B) (length x.1.rest) x.1 (after_opcode p.offset x.0 x.1)
    (after_within p.offset x.0 (length x.1.rest) x.1 (omega arith)) (λ q le. same q (omega (arith, one)))

agree : (f g : Place → Outcome (Unit {0})) (p : Place) → ((q : Place) → length q.rest + 1 ≤ length p.rest → f q ≡ g q) → first_and_more f p
    ≡ first_and_more g p
agree f g p same = agree_from f g p (byte_at p) refl same

none_of : (f : Place → Outcome (Unit {0})) (p : Place) (rest : List ℕ) → length rest ≤ 0
    → (first_of p rest >>= λ opcode. if opcode.0 == 0x0B then Ok (tt, opcode.1) else
    (after_opcode p.offset opcode.0 opcode.1 >>= λ instruction. f instruction.1)) ≡ Err (at_offset UnexpectedEof p.offset)
none_of f p [] le = refl
none_of f p (b ∷ rest) le = absurd (omega arith)

-- The bound on the number of instructions makes no difference if it is at least the number of bytes.
pub same_bound : (m n : ℕ) (p : Place) → length p.rest ≤ m → length p.rest ≤ n → instructions_at m p ≡ instructions_at n p
same_bound zero zero p lm ln = refl
same_bound zero (suc n) p lm ln = sym (none_of (λ q. instructions_at n q) p p.rest lm)
same_bound (suc m) zero p lm ln = none_of (λ q. instructions_at m q) p p.rest ln
same_bound (suc m) (suc n) p lm ln = agree (λ q. instructions_at m q) (λ q. instructions_at n q) p
    (λ q le. same_bound m n q (omega (arith, le)) (omega (arith, le)))

pub end_or_instruction : (p : Place) → IsEndOrInstruction p
unfolding end_of_expression
end_or_instruction p =
    let more : instructions_at (length p.rest) p ≡ instructions_at (suc (length p.rest)) p =
    same_bound (length p.rest) (suc (length p.rest)) p (omega arith) (omega arith) in
    more ∙ agree (λ q. instructions_at (length p.rest) q) (λ q. instructions_at (length q.rest) q) p
    (λ q le. same_bound (length p.rest) (length q.rest) q (omega (arith, le)) (omega arith))

same_byte : (p : Place) (rest : List ℕ) (opcode byte : ℕ) (peeked after : Place) → first_peeked p rest ≡ Ok (opcode, peeked)
    → first_of p rest ≡ Ok (byte, after) → byte ≡ opcode
same_byte p [] opcode byte peeked after peek taken = cc
same_byte p (b ∷ rest) opcode byte peeked after peek taken =
    let one : ℕ × Place = (b, p) in
    let two : ℕ × Place = (opcode, peeked) in
    let three : ℕ × Place = (b, advanced 1 p) in
    let four : ℕ × Place = (byte, after) in
    let left : one ≡ two = cc in
    let right : three ≡ four = cc in
    sym (ap (λ (w : ℕ × Place). w.0) right) ∙ ap (λ (w : ℕ × Place). w.0) left

-- An instruction was skipped: the expression goes on after it.
number_passed : (p peeked after next : Place) (opcode byte : ℕ) (operator : ConstOperator)
    → first_peeked p p.rest ≡ Ok (opcode, peeked) → first_of p p.rest ≡ Ok (byte, after) → nat_eq opcode 0x0B ≡ false
    → after_opcode p.offset opcode after ≡ Ok (operator, next) → end_of_expression next ≡ end_of_expression p
number_passed p peeked after next opcode byte operator peek taken other operands =
    let same : byte ≡ opcode = same_byte p p.rest opcode byte peeked after peek taken in
    let first : byte_at p ≡ Ok (opcode, after) = rw same at taken in
    sym (rw (first, other, operands) at (end_or_instruction p))

-- The operands of an instruction are malformed.
number_fault : (p peeked after : Place) (opcode byte : ℕ) (fault : FaultAt)
    → first_peeked p p.rest ≡ Ok (opcode, peeked) → first_of p p.rest ≡ Ok (byte, after) → nat_eq opcode 0x0B ≡ false
    → after_opcode p.offset opcode after ≡ Err fault → end_of_expression p ≡ Err fault
number_fault p peeked after opcode byte fault peek taken other operands =
    let same : byte ≡ opcode = same_byte p p.rest opcode byte peeked after peek taken in
    let first : byte_at p ≡ Ok (opcode, after) = rw same at taken in
    rw (first, other, operands) at (end_or_instruction p)

-- The instruction that was skipped is `i32.const`.
pub i32_passed : (p peeked after next : Place) (opcode byte : ℕ) (n : ℤ) → first_peeked p p.rest ≡ Ok (opcode, peeked)
    → opcode ≡ 0x41 → first_of p p.rest ≡ Ok (byte, after) → signed_at VarI32 after ≡ Ok (n, next)
    → end_of_expression next ≡ end_of_expression p
unfolding after_opcode
i32_passed p peeked after next opcode byte n peek is_const taken number =
    number_passed p peeked after next 0x41 byte (I32Const n) (rw is_const at peek) taken refl (rw number refl)

-- The number of `i32.const` is malformed.
pub i32_fault : (p peeked after : Place) (opcode byte : ℕ) (fault : FaultAt) → first_peeked p p.rest ≡ Ok (opcode, peeked)
    → opcode ≡ 0x41 → first_of p p.rest ≡ Ok (byte, after) → signed_at VarI32 after ≡ Err fault
    → end_of_expression p ≡ Err fault
unfolding after_opcode
i32_fault p peeked after opcode byte fault peek is_const taken number =
    number_fault p peeked after 0x41 byte fault (rw is_const at peek) taken refl (rw number refl)

-- The next byte is `end`.
pub end_passed : (p peeked after : Place) (opcode byte : ℕ) → first_peeked p p.rest ≡ Ok (opcode, peeked)
    → first_of p p.rest ≡ Ok (byte, after) → opcode ≡ 0x0B → end_of_expression p ≡ Ok (tt, after)
end_passed p peeked after opcode byte peek taken e =
    let same : byte ≡ opcode = same_byte p p.rest opcode byte peeked after peek taken in
    let first : byte_at p ≡ Ok (0x0B, after) = rw (same, e) at taken in
    rw first at (end_or_instruction p)

-- No byte remains.
pub none_remains : (p : Place) (fault : FaultAt) → first_peeked p p.rest ≡ Err fault → end_of_expression p ≡ Err fault
none_remains p fault peek = rw (none_taken p p.rest fault peek) at (end_or_instruction p)
  where
    none_taken : (p : Place) (rest : List ℕ) (fault : FaultAt) → first_peeked p rest ≡ Err fault → first_of p rest ≡ Err fault
    none_taken p [] fault peek = peek
    none_taken p (b ∷ rest) fault peek = cc
