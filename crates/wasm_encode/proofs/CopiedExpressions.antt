-- The bytes of a constant expression that was read are one wherever they are copied to.
use Rattle.std.proofs.Common.{◌≡◌, ℕ, zero, suc, ◌+◌, ◌-◌, ◌*◌, ◌<◌, ◌≤◌, ◌^◌, Bool, true, false, cond, List, [], ◌∷◌}
use Rattle.std.proofs.Common.{◌++◌, length, take, drop, arith, ap, sym, ◌∙◌, Option, Some, None, Ok, Err, refl, subst}
use Rattle.std.proofs.Common.{append-nil, append_assoc, length-append, nat_lt, nat_eq, ℤ, pos, negsuc, ltb-false}
use Rattle.std.proofs.Math.Seq.{take-append_seam, drop-append_seam}
use Rattle.std.proofs.lemmas.Bool.{le-ltb}
use Rattle.std.proofs.lemmas.List.{take-append-drop, length-take}
use Rattle.wasm_base.proofs.NumberLaws.{number-more, number-used}
use Rattle.wasm_base.proofs.OwnBytes.{same_read}
use Rattle.wasm_base.specs.FaultAt.{at_offset}
use Rattle.wasm_base.specs.Float.{u64_at}
use Rattle.wasm_base.specs.Name.{bytes_at, of_four, u32_at}
use Rattle.wasm_base.specs.Number.{Number, read, bad, short, number, in_window, unsigned_at}
use Rattle.wasm_base.specs.Outcome.{Outcome, ◌>>=◌}
use Rattle.wasm_base.specs.Signed.{signed_value, signed_at}
use Rattle.wasm_base.specs.Window.{Place, advanced}
use Rattle.wasm_base.specs.declared.fault.Fault.TheVariants.{UnexpectedEof, NotConstant}
use Rattle.wasm_base.specs.declared.fault.NumberKind.{NumberKind}
use Rattle.wasm_base.specs.declared.fault.NumberKind.TheVariants.{VarU32, VarS33}
use Rattle.wasm_encode.specs.Consumed.{CopiesItsBytes}
use Rattle.wasm_encode.specs.ReadsBack.{spot}
use Rattle.wasm_encode.proofs.Moves.{Any, Copies, Moved, either, fails, in_turn, nothing, Moves, moves}
use Rattle.wasm_encode.proofs.NumbersBack.{unsigned_read, signed_read}
use Rattle.wasm_encode.proofs.Readings.{Reads, same_spot}
use Rattle.wasm_items.proofs.Expressions.{end_or_instruction}
use Rattle.wasm_items.specs.Init.{Operands, done, signed, float_32, float_64, raw, u32_index, heap, operands_at}
use Rattle.wasm_items.specs.Init.{constant_operands_at, numbered_operands_at, aggregate_operands_of}
use Rattle.wasm_items.specs.Init.{vector_operands_of, operands_of, after_opcode, instructions_at, end_of_expression}
use Rattle.wasm_items.specs.Values.{abstract_heap_of, type_index, heap_type_from, heap_type_at}
use Rattle.wasm_items.specs.declared.init.ConstOperator.{ConstOperator}
use Rattle.wasm_items.specs.declared.types.HeapType.{HeapType}

-- a number, which has a byte at least
record Numbered {A : Type 0} (reading : ℕ → Place → Outcome A) (f o : ℕ) (bytes : List ℕ) (x : A) (q : Place) : Type 0 where
  from : Moved Any reading f o bytes x q
  some : 0 < length from.taken

numbered : (kind : NumberKind) (s f o : ℕ) (bytes : List ℕ) (x : ℕ) (q : Place) → unsigned_at kind (spot f o bytes) ≡ Ok (x, q)
    → (k : ℕ) × (x ≡ x) × (number kind bytes ≡ read x k) × (q ≡ spot f (o + k) (drop k bytes))
unfolding unsigned_at
numbered kind s f o bytes x q e = by (number kind bytes) refl e
  where
    by : (n : Number) → number kind bytes ≡ n → in_window (spot f o bytes) n ≡ Ok (x, q)
        → (k : ℕ) × (x ≡ x) × (number kind bytes ≡ read x k) × (q ≡ spot f (o + k) (drop k bytes))
    by (bad g i) is e = cc
    by short is e = cc
    by (read v k) is e =
        let z = same_read v x (advanced k (spot f o bytes)) q e in
        (k, refl, is ∙ ap (λ (j : ℕ). read j k) z.0, sym z.1)

-- the bytes of a number, before anything else
again : (kind : NumberKind) (bytes later : List ℕ) (x k : ℕ) → number kind bytes ≡ read x k
    → (0 < k) × (length (take k bytes) ≡ k) × (number kind (take k bytes ++ later) ≡ read x (length (take k bytes)))
again kind bytes later x k is =
    let u = number-used kind bytes x k is in
    let there = u.there in
    let l : length (take k bytes) ≡ k = omega (arith, length-take k bytes) in (
      u.some,
      l,
      number-more kind (take k bytes) later (λ z. let w : read x k ≡ short = sym u.alone ∙ z in cc)
          ∙ (u.alone ∙ ap (λ (j : ℕ). read x j) (sym l)),
    )

pub unsigned : (kind : NumberKind) → Copies (λ start. unsigned_at kind)
unsigned kind = record {
  at = λ s f o bytes x q e.
      let n = numbered kind s f o bytes x q e in
      let k = n.0 in
      let l = (again kind bytes [] x k n.2).1 in
      record {
        taken = take k bytes;
        rest = drop k bytes;
        split = sym (take-append-drop k bytes);
        after = n.3 ∙ ap (λ (j : ℕ). spot f (o + j) (drop k bytes)) (sym l);
        reads = λ t g any. record { at = λ p later. unsigned_read kind g p x (take k bytes) later (again kind bytes later x k n.2).2 };
      };
}

signed_numbered : (kind : NumberKind) (s f o : ℕ) (bytes : List ℕ) (x : ℤ) (q : Place) → signed_at kind (spot f o bytes) ≡ Ok (x, q)
    → Numbered (λ start. signed_at kind) f o bytes x q
unfolding signed_at
signed_numbered kind s f o bytes x q e = by (unsigned_at kind (spot f o bytes)) refl e
  where
    by : (r : Outcome ℕ) → unsigned_at kind (spot f o bytes) ≡ r → (r >>= λ sum.
        let z : Outcome ℤ = Ok (signed_value sum.0 (sum.1.offset - o), sum.1) in z) ≡ Ok (x, q)
        → Numbered (λ start. signed_at kind) f o bytes x q
    by (Err g) is e = cc
    by (Ok r) is e =
        let z = same_read (signed_value r.0 (r.1.offset - o)) x r.1 q e in
        let n = numbered kind s f o bytes r.0 r.1 is in
        let k = n.0 in
        let b = again kind bytes [] r.0 k n.2 in
        let l = b.1 in
        let positive = b.0 in
        let w : r.1.offset - o ≡ length (take k bytes) =
        let d : r.1.offset ≡ o + k = ap (λ (p : Place). p.offset) n.3 in omega (arith, d, l) in
        let v : signed_value r.0 (length (take k bytes)) ≡ x = ap (λ (j : ℕ). signed_value r.0 j) (sym w) ∙ z.0 in
        record {
          from = record {
            taken = take k bytes;
            rest = drop k bytes;
            split = sym (take-append-drop k bytes);
            after = sym z.1 ∙ n.3 ∙ ap (λ (j : ℕ). spot f (o + j) (drop k bytes)) (sym l);
            reads = λ t g any. record {
              at = λ p later.
                  signed_read kind g p r.0 x (take k bytes) later (again kind bytes later r.0 k n.2).2 v;
            };
          };
          some = omega (arith, l, positive);
        }

signed_copies : (kind : NumberKind) → Copies (λ start. signed_at kind)
signed_copies kind = record { at = λ s f o bytes x q e. (signed_numbered kind s f o bytes x q e).from }

-- ---- raw bytes and heap types

pub bytes_back : (f p : ℕ) (t later : List ℕ) → bytes_at (length t) (spot f p (t ++ later)) ≡ Ok (t, spot f (p + length t) later)
bytes_back f p t later =
    rw (
      le-ltb (length (t ++ later)) (length t) (omega (arith, length-append t later)),
      take-append_seam t later,
      drop-append_seam t later,
    ) refl

pub bytes_copies : (n : ℕ) → Copies (λ start. bytes_at n)
bytes_copies n = record { at = λ s f o bytes x q e. by f o bytes x q (nat_lt (length bytes) n) refl e }
  where
    by : (f o : ℕ) (bytes x : List ℕ) (q : Place) (t : Bool) → nat_lt (length bytes) n ≡ t
        → (let r : Outcome (List ℕ) = cond t (Err (at_offset UnexpectedEof o))
        (Ok (take n bytes, advanced n (spot f o bytes))) in r) ≡ Ok (x, q)
        → Moved Any (λ start. bytes_at n) f o bytes x q
    by f o bytes x q true is e = cc
    by f o bytes x q false is e =
        let z = same_read (take n bytes) x (advanced n (spot f o bytes)) q e in
        let there : n ≤ length bytes = ltb-false (length bytes) n is in
        let l : length (take n bytes) ≡ n = omega (arith, length-take n bytes) in
        record {
          taken = take n bytes;
          rest = drop n bytes;
          split = sym (take-append-drop n bytes);
          after = sym z.1 ∙ ap (λ (j : ℕ). spot f (o + j) (drop n bytes)) (sym l);
          reads = λ t g any. record {
            at = λ p later.
                ap (λ (m : ℕ). bytes_at m (spot g p (take n bytes ++ later))) (sym l) ∙ bytes_back g p (take n bytes) later
                ∙ ap (λ (y : List ℕ). Ok (y, spot g (p + length (take n bytes)) later)) z.0;
          };
        }

copies_32 : Copies (λ start. u32_at)
unfolding u32_at
copies_32 = in_turn (λ s. bytes_at 4) (λ s bytes p. Ok (of_four bytes, p)) (bytes_copies 4) (λ bytes. nothing (of_four bytes))

copies_64 : Copies (λ start. u64_at)
unfolding u64_at
copies_64 = in_turn (λ s. bytes_at 8) (λ s bytes p. Ok (of_four (take 4 bytes) + 2 ^ 32 * of_four (drop 4 bytes), p)) (bytes_copies 8)
    (λ bytes. nothing (of_four (take 4 bytes) + 2 ^ 32 * of_four (drop 4 bytes)))

index_is : (first start : ℕ) (z : ℤ) (m : Place) (x : HeapType) (q : Place) → type_index first start (z, m) ≡ Ok (x, q) → (m ≡ q)
    × ((i j : ℕ) (n : Place) → type_index i j (z, n) ≡ Ok (x, n))
index_is first start (pos n) m x q e = let s = same_read _ x m q e in (s.1, λ i j r. rw s.0 refl)
index_is first start (negsuc n) m x q e = cc

head_is : (b : ℕ) (bs taken rest : List ℕ) → b ∷ bs ≡ taken ++ rest → 0 < length taken → (ts : List ℕ) × (taken ≡ b ∷ ts)
head_is b bs [] rest e h = absurd (omega arith)
head_is b bs (t ∷ ts) rest e h = let z : t ≡ b = cc in (ts, ap (λ (c : ℕ). c ∷ ts) z)

concrete : (f p b : ℕ) (ts later : List ℕ) (z : ℤ) (x : HeapType) (q : Place) → abstract_heap_of b ≡ None
    → signed_at VarS33 (spot f p (b ∷ (ts ++ later))) ≡ Ok (z, q) → type_index b p (z, q) ≡ Ok (x, q)
    → heap_type_at (spot f p (b ∷ (ts ++ later))) ≡ Ok (x, q)
unfolding heap_type_at
concrete f p b ts later z x q none s i = rw (none, s) i

heap_by : (s f o : ℕ) (bytes : List ℕ) (x : HeapType) (q : Place) → heap_type_at (spot f o bytes) ≡ Ok (x, q)
    → Moved Any (λ start. heap_type_at) f o bytes x q
unfolding heap_type_at
heap_by s f o [] x q e = cc
heap_by s f o (b ∷ bs) x q e = by (abstract_heap_of b) refl e
  where
    by : (h : Option HeapType) → abstract_heap_of b ≡ h → heap_type_from b (spot f o (b ∷ bs)) h ≡ Ok (x, q)
        → Moved Any (λ start. heap_type_at) f o (b ∷ bs) x q
    by (Some h) is e =
        let z = same_read h x (advanced 1 (spot f o (b ∷ bs))) q e in
        record {
          taken = b ∷ [];
          rest = bs;
          split = refl;
          after = sym z.1;
          reads = λ t g any. record { at = λ p later. rw (is, z.0) refl };
        }
    by None is e = signed_type (signed_at VarS33 (spot f o (b ∷ bs))) refl e
      where
        signed_type : (r : Outcome ℤ) → signed_at VarS33 (spot f o (b ∷ bs)) ≡ r → (r >>= λ i. type_index b o i) ≡ Ok (x, q)
            → Moved Any (λ start. heap_type_at) f o (b ∷ bs) x q
        signed_type (Err g) at e = cc
        signed_type (Ok r) at e =
            let n = signed_numbered VarS33 s f o (b ∷ bs) r.0 r.1 at in
            let a = n.from in
            let i = index_is b o r.0 r.1 x q e in
            let head = head_is b bs a.taken a.rest a.split n.some in
            record {
              taken = a.taken;
              rest = a.rest;
              split = a.split;
              after = sym i.0 ∙ a.after;
              reads = λ t g any. record {
                at = λ p later.
                    let q' : Place = spot g (p + length a.taken) later in
                    let w : a.taken ++ later ≡ b ∷ (head.0 ++ later) = ap (λ (xs : List ℕ). xs ++ later) head.1 in
                    subst (λ (xs : List ℕ). heap_type_at (spot g p xs) ≡ Ok (x, q')) (sym w)
                    (concrete g p b head.0 later r.0 x q' is
                    (subst (λ (xs : List ℕ). signed_at VarS33 (spot g p xs) ≡ Ok (r.0, q')) w ((a.reads t g tt).at p later)) (i.1 b p q'));
              };
            }

pub heap_copies : Copies (λ start. heap_type_at)
heap_copies = record { at = λ s f o bytes x q e. heap_by s f o bytes x q e }

-- ---- instructions

operands_copy : (operands : Operands) → Copies (λ start. operands_at operands)
operands_copy (done operator) = nothing operator
operands_copy (signed kind more) = in_turn (λ s. signed_at kind) (λ s n p. operands_at (more n) p) (signed_copies kind)
    (λ n. operands_copy (more n))
operands_copy (float_32 more) = in_turn (λ s. u32_at) (λ s n p. operands_at (more (record { 0 = n })) p) copies_32
    (λ n. operands_copy (more (record { 0 = n })))
operands_copy (float_64 more) = in_turn (λ s. u64_at) (λ s n p. operands_at (more (record { 0 = n })) p) copies_64
    (λ n. operands_copy (more (record { 0 = n })))
operands_copy (raw n more) = in_turn (λ s. bytes_at n) (λ s b p. operands_at (more b) p) (bytes_copies n) (λ b. operands_copy (more b))
operands_copy (u32_index more) = in_turn (λ s. unsigned_at VarU32) (λ s n p. operands_at (more n) p) (unsigned VarU32)
    (λ n. operands_copy (more n))
operands_copy (heap more) = in_turn (λ s. heap_type_at) (λ s ty p. operands_at (more ty) p) heap_copies (λ ty. operands_copy (more ty))

constant_copy : (operands : Option Operands) → Copies (λ start. constant_operands_at start operands)
constant_copy (Some operands) = operands_copy operands
constant_copy None = fails (λ start. at_offset NotConstant start)

numbered_copy : (table : ℕ → Option Operands) → Copies (λ start. numbered_operands_at start table)
numbered_copy table = in_turn (λ s. unsigned_at VarU32) (λ s number p. constant_operands_at s (table number) p) (unsigned VarU32)
    (λ number. constant_copy (table number))

instruction_copy : (opcode : ℕ) → Copies (λ start. after_opcode start opcode)
unfolding after_opcode
instruction_copy opcode =
    either (nat_eq opcode 0xFB) (λ s. numbered_operands_at s aggregate_operands_of)
    (λ s p. cond (nat_eq opcode 0xFD) (numbered_operands_at s vector_operands_of p) (constant_operands_at s (operands_of opcode) p))
    (numbered_copy aggregate_operands_of)
    (either (nat_eq opcode 0xFD) (λ s. numbered_operands_at s vector_operands_of) (λ s. constant_operands_at s (operands_of opcode))
    (numbered_copy vector_operands_of) (constant_copy (operands_of opcode)))

-- ---- expressions

-- The bytes up to the end of an expression are an expression wherever they are copied to.
pub record Ended (f o : ℕ) (bytes : List ℕ) (q : Place) : Type 0 where
  pub taken : List ℕ
  pub rest : List ℕ
  pub split : bytes ≡ taken ++ rest
  pub after : q ≡ spot f (o + length taken) rest
  pub reads : (any : ℕ) → Reads end_of_expression any tt taken

step : (most f o b : ℕ) (bs : List ℕ) (q : Place)
    → ((o' : ℕ) (bytes : List ℕ) (q' : Place) → instructions_at most (spot f o' bytes) ≡ Ok (tt, q') → Ended f o' bytes q')
    → (t : Bool) → nat_eq b 0x0B ≡ t
    → (let r : Outcome (Unit {0}) = cond t (Ok (tt, spot f (o + 1) bs))
    (after_opcode o b (spot f (o + 1) bs) >>= λ i. instructions_at most i.1) in r)
    ≡ Ok (tt, q) → Ended f o (b ∷ bs) q
step most f o b bs q ih true is e =
    let one : Unit {0} = tt in
    let z = same_read one one (spot f (o + 1) bs) q e in
    record {
      taken = b ∷ [];
      rest = bs;
      split = refl;
      after = sym z.1;
      reads = λ g. record { at = λ p later. end_or_instruction (spot g p (b ∷ later)) ∙ rw is refl };
    }
step most f o b bs q ih false is e = by (after_opcode o b (spot f (o + 1) bs)) refl e
  where
    by : (r : Outcome ConstOperator) → after_opcode o b (spot f (o + 1) bs) ≡ r → (r >>= λ i. instructions_at most i.1) ≡ Ok (tt, q)
        → Ended f o (b ∷ bs) q
    by (Err g) at e = cc
    by (Ok r) at e =
        let a = (instruction_copy b).at o f (o + 1) bs r.0 r.1 at in
        let there : instructions_at most (spot f (o + 1 + length a.taken) a.rest) ≡ Ok (tt, q) =
        subst (λ (p : Place). instructions_at most p ≡ Ok (tt, q)) a.after e in
        let c = ih (o + 1 + length a.taken) a.rest q there in
        let m : o + 1 + length a.taken + length c.taken ≡ o + length (b ∷ (a.taken ++ c.taken)) =
        omega (arith, length-append a.taken c.taken) in
        record {
          taken = b ∷ (a.taken ++ c.taken);
          rest = c.rest;
          split = ap (λ (xs : List ℕ). b ∷ xs)
              (a.split ∙ (ap (λ (xs : List ℕ). a.taken ++ xs) c.split ∙ sym (append_assoc a.taken c.taken c.rest)));
          after = c.after ∙ ap (λ (k : ℕ). spot f k c.rest) m;
          reads = λ g. record {
            at = λ p later.
                let n : p + 1 + length a.taken + length c.taken ≡ p + length (b ∷ (a.taken ++ c.taken)) =
                omega (arith, length-append a.taken c.taken) in
                end_or_instruction (spot g p (b ∷ ((a.taken ++ c.taken) ++ later)))
                ∙ rw (is, append_assoc a.taken c.taken later, (a.reads p g tt).at (p + 1) (c.taken ++ later))
                ((c.reads g).at (p + 1 + length a.taken) later
                ∙ same_spot g (p + 1 + length a.taken + length c.taken) (p + length (b ∷ (a.taken ++ c.taken))) tt later n);
          };
        }

ends : (most f o : ℕ) (bytes : List ℕ) (q : Place) → instructions_at most (spot f o bytes) ≡ Ok (tt, q) → Ended f o bytes q
ends zero f o bytes q e = cc
ends (suc most) f o [] q e = cc
ends (suc most) f o (b ∷ bs) q e = step most f o b bs q (λ o' bytes q' h. ends most f o' bytes q' h) (nat_eq b 0x0B) refl e

pub expressions_end : (f o : ℕ) (bytes : List ℕ) (q : Place) → end_of_expression (spot f o bytes) ≡ Ok (tt, q) → Ended f o bytes q
unfolding end_of_expression
expressions_end f o bytes q e = ends (length bytes) f o bytes q e

-- Bytes that are one expression are one for every reader, wherever they are and whatever comes after them.
pub reads_expression : (f o : ℕ) (bytes : List ℕ) → end_of_expression (spot f o bytes) ≡ Ok (tt, spot f (o + length bytes) [])
    → (g : ℕ) → Reads end_of_expression g tt bytes
reads_expression f o bytes e g =
    let a = expressions_end f o bytes (spot f (o + length bytes) []) e in
    let r : [] ≡ a.rest = ap (λ (p : Place). p.rest) a.after in
    let w : bytes ≡ a.taken = a.split ∙ (ap (λ (xs : List ℕ). a.taken ++ xs) (sym r) ∙ append-nil a.taken) in
    subst (λ (xs : List ℕ). Reads end_of_expression g tt xs) (sym w) (a.reads g)

-- ---- readers with the same features

-- readers with the same features
abbrev pub Same : (f g : ℕ) → Type 0
Same f g = f ≡ g

pub copies_bytes : {A : Type 0} (reading : Place → Outcome A) → Moves Same (λ s. reading) → CopiesItsBytes reading
copies_bytes reading one = record {
  at = λ f o bytes x q e.
      let a = one.at 0 f o bytes x q e in
      record {
        taken = a.taken;
        rest = a.rest;
        split = a.split;
        after = a.after;
        encodes = record { read = (a.reads 0 f refl).at };
      };
}

pub copies_number : (kind : NumberKind) → CopiesItsBytes (unsigned_at kind)
copies_number kind = copies_bytes (unsigned_at kind) (moves (unsigned kind))
