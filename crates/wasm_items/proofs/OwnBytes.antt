-- Types and expressions depend on no byte after those that they consume.
use Rattle.std.proofs.Common.{length-drop, ◌≡◌, ℕ, zero, suc, ◌+◌, ◌*◌, ◌^◌, ◌<◌, ◌≤◌}
use Rattle.std.proofs.Common.{Bool, true, false, cond, List, [], ◌∷◌, length, take, drop}
use Rattle.std.proofs.Common.{Option, Some, None, nat_eq, Ok, Err, refl, sym, ap, arith, ◌∙◌, ℤ, pos, negsuc}
use Rattle.std.proofs.lemmas.List.{length-take}
use Rattle.wasm_base.proofs.Texts.{advanced_twice}
use Rattle.wasm_base.proofs.OwnBytes.{cut, same_read, OwnAt, Own, own_nothing, own_fault, own_both, own_cond, own_number, own_signed_at}
use Rattle.wasm_base.proofs.OwnBytes.{own_signed, own_bytes}
use Rattle.wasm_base.specs.Float.{u64_at}
use Rattle.wasm_base.specs.Name.{bytes_at, of_four, u32_at}
use Rattle.wasm_base.specs.Number.{unsigned_at}
use Rattle.wasm_base.specs.Outcome.{Outcome, ◌>>=◌}
use Rattle.wasm_base.specs.Signed.{signed_at}
use Rattle.wasm_base.specs.Window.{Place, advanced}
use Rattle.wasm_base.specs.declared.fault.NumberKind.TheVariants.{VarU32, VarS33}
use Rattle.wasm_items.specs.Init.{Operands, done, signed, float_32, float_64, raw, u32_index, heap, operands_at, constant_operands_at}
use Rattle.wasm_items.specs.Init.{numbered_operands_at, aggregate_operands_of, vector_operands_of, operands_of, after_opcode}
use Rattle.wasm_items.specs.Init.{instructions_at, end_of_expression}
use Rattle.wasm_items.specs.Values.{abstract_heap_of, type_index, heap_type_from, heap_type_at}
use Rattle.wasm_items.specs.declared.init.ConstOperator.{ConstOperator}
use Rattle.wasm_items.specs.declared.types.HeapType.{HeapType}

index_own : (first start : ℕ) (z : ℤ) (m : Place) (x : HeapType) (q : Place) → type_index first start (z, m) ≡ Ok (x, q) → (m ≡ q)
    × ((n : Place) → type_index first start (z, n) ≡ Ok (x, n))
index_own first start (pos n) m x q e = let s = same_read _ x m q e in (s.1, λ r. rw s.0 refl)
index_own first start (negsuc n) m x q e = cc

heap_own : (features offset : ℕ) (rest : List ℕ) (x : HeapType) (q : Place)
    → heap_type_at (record { features = features; offset = offset; rest = rest }) ≡ Ok (x, q)
    → OwnAt heap_type_at (record { features = features; offset = offset; rest = rest }) x q
unfolding heap_type_at
heap_own features offset [] x q e = cc
heap_own features offset (b ∷ bs) x q e = by (abstract_heap_of b) refl e
  where
    by : (o : Option HeapType) → abstract_heap_of b ≡ o → heap_type_from b (record { features = features; offset = offset; rest = b ∷ bs })
        o ≡ Ok (x, q) → OwnAt heap_type_at (record { features = features; offset = offset; rest = b ∷ bs }) x q
    by (Some abstract) is e =
        let p : Place = record { features = features; offset = offset; rest = b ∷ bs } in
        let s = same_read abstract x (advanced 1 p) q e in
        record { used = 1; there = omega arith; after = sym s.1; alone = λ n m k. alone n m k s.0 s.1 }
      where
        alone : (n m : ℕ) → n ≡ 1 + m → abstract ≡ x → advanced 1 (record { features = features; offset = offset; rest = b ∷ bs }) ≡ q
            → heap_type_at (cut n (record { features = features; offset = offset; rest = b ∷ bs })) ≡ Ok (x, cut m q)
        alone zero m k h i = absurd (omega (arith, k))
        alone (suc n) m k h i = let z : n ≡ m = omega (arith, k) in rw (is, sym h, sym i, sym z) refl
    by None is e = signed_type (signed_at VarS33 (record { features = features; offset = offset; rest = b ∷ bs })) refl e
      where
        signed_type : (o : Outcome ℤ) → signed_at VarS33 (record { features = features; offset = offset; rest = b ∷ bs }) ≡ o
            → (o >>= λ i. type_index b offset i) ≡ Ok (x, q) → OwnAt heap_type_at
            (record { features = features; offset = offset; rest = b ∷ bs }) x q
        signed_type (Err f) at e = cc
        signed_type (Ok i) at e =
            let g = own_signed_at VarS33 (record { features = features; offset = offset; rest = b ∷ bs }) i.0 i.1 at in
            let t = index_own b offset i.0 i.1 x q e in
            record {
              used = g.own.used;
              there = g.own.there;
              after = sym t.0 ∙ g.own.after;
              alone = λ n m k. alone n m (omega (arith, k, g.some)) (g.own.alone n m k) t.0 t.1;
            }
          where
            alone : (n m : ℕ) → 0 < n → signed_at VarS33 (cut n (record { features = features; offset = offset; rest = b ∷ bs }))
                ≡ Ok (i.0, cut m i.1) → i.1 ≡ q → ((r : Place) → type_index b offset (i.0, r) ≡ Ok (x, r))
                → heap_type_at (cut n (record { features = features; offset = offset; rest = b ∷ bs })) ≡ Ok (x, cut m q)
            alone zero m k h same typed = absurd (omega (arith, k))
            alone (suc n) m k h same typed = rw (is, h, typed (cut m i.1), same) refl

pub own_heap_type : Own heap_type_at
own_heap_type = record { at = λ p x q e. heap_own p.features p.offset p.rest x q e }

own_32 : Own u32_at
unfolding u32_at
own_32 = own_both (bytes_at 4) (λ bytes p. Ok (of_four bytes, p)) (own_bytes 4) (λ bytes. own_nothing (of_four bytes))

own_64 : Own u64_at
unfolding u64_at
own_64 = own_both (bytes_at 8) (λ bytes p. Ok (of_four (take 4 bytes) + 2 ^ 32 * of_four (drop 4 bytes), p)) (own_bytes 8)
    (λ bytes. own_nothing (of_four (take 4 bytes) + 2 ^ 32 * of_four (drop 4 bytes)))

own_operands : (operands : Operands) → Own (operands_at operands)
own_operands (done operator) = own_nothing operator
own_operands (signed kind more) = own_both (signed_at kind) (λ n p. operands_at (more n) p) (own_signed kind) (λ n. own_operands (more n))
own_operands (float_32 more) = own_both u32_at (λ n p. operands_at (more (record { 0 = n })) p) own_32
    (λ n. own_operands (more (record { 0 = n })))
own_operands (float_64 more) = own_both u64_at (λ n p. operands_at (more (record { 0 = n })) p) own_64
    (λ n. own_operands (more (record { 0 = n })))
own_operands (raw n more) = own_both (bytes_at n) (λ b p. operands_at (more b) p) (own_bytes n) (λ b. own_operands (more b))
own_operands (u32_index more) = own_both (unsigned_at VarU32) (λ n p. operands_at (more n) p) (own_number VarU32)
    (λ n. own_operands (more n))
own_operands (heap more) = own_both heap_type_at (λ ty p. operands_at (more ty) p) own_heap_type (λ ty. own_operands (more ty))

own_constant : (start : ℕ) (operands : Option Operands) → Own (constant_operands_at start operands)
own_constant start (Some operands) = own_operands operands
own_constant start None = own_fault _

own_numbered : (start : ℕ) (table : ℕ → Option Operands) → Own (numbered_operands_at start table)
own_numbered start table = own_both (unsigned_at VarU32) (λ number p. constant_operands_at start (table number) p) (own_number VarU32)
    (λ number. own_constant start (table number))

own_instruction : (start opcode : ℕ) → Own (after_opcode start opcode)
unfolding after_opcode
own_instruction start opcode =
    own_cond (nat_eq opcode 0xFB) (numbered_operands_at start aggregate_operands_of)
    (λ p. cond (nat_eq opcode 0xFD) (numbered_operands_at start vector_operands_of p)
    (constant_operands_at start (operands_of opcode) p)) (own_numbered start aggregate_operands_of)
    (own_cond (nat_eq opcode 0xFD) (numbered_operands_at start vector_operands_of) (constant_operands_at start (operands_of opcode))
    (own_numbered start vector_operands_of) (own_constant start (operands_of opcode)))

-- Instructions up to `end` have at least one byte each, so any bound that is at least their number of bytes will do.
record OwnInstructions (p q : Place) : Type 0 where
  used : ℕ
  there : used ≤ length p.rest
  after : q ≡ advanced used p
  alone : (most n m : ℕ) → used ≤ most → n ≡ used + m → instructions_at most (cut n p) ≡ Ok (tt, cut m q)

instructions_own : (most features offset : ℕ) (rest : List ℕ) (q : Place)
    → instructions_at most (record { features = features; offset = offset; rest = rest }) ≡ Ok (tt, q)
    → OwnInstructions (record { features = features; offset = offset; rest = rest }) q
instructions_own zero features offset rest q e = cc
instructions_own (suc most) features offset [] q e = cc
instructions_own (suc most) features offset (b ∷ bs) q e = by (λ r h. instructions_own most r.features r.offset r.rest q h) (nat_eq b 0x0B)
    refl e
  where
    by : ((r : Place) → instructions_at most r ≡ Ok (tt, q) → OwnInstructions r q) → (t : Bool) → nat_eq b 0x0B ≡ t
        → cond t (let o : Outcome (Unit {0}) = Ok (tt, record { features = features; offset = offset + 1; rest = bs }) in o)
        (after_opcode offset b (record { features = features; offset = offset + 1; rest = bs }) >>= λ i. instructions_at most i.1)
        ≡ Ok (tt, q)
        → OwnInstructions (record { features = features; offset = offset; rest = b ∷ bs }) q
    by again true is e =
        let s = same_read tt tt (record { features = features; offset = offset + 1; rest = bs }) q e in
        record { used = 1; there = omega arith; after = sym s.1; alone = λ more n m l k. alone more n m l k s.1 }
      where
        alone : (more n m : ℕ) → 1 ≤ more → n ≡ 1 + m → record { features = features; offset = offset + 1; rest = bs } ≡ q
            → instructions_at more (cut n (record { features = features; offset = offset; rest = b ∷ bs })) ≡ Ok (tt, cut m q)
        alone zero n m l k i = absurd (omega (arith, l))
        alone (suc more) zero m l k i = absurd (omega (arith, k))
        alone (suc more) (suc n) m l k i = let z : n ≡ m = omega (arith, k) in rw (is, sym i, sym z) refl
    by again false is e = instruction (after_opcode offset b (record { features = features; offset = offset + 1; rest = bs })) refl e
      where
        instruction : (o : Outcome ConstOperator)
            → after_opcode offset b (record { features = features; offset = offset + 1; rest = bs }) ≡ o
            → (o >>= λ i. instructions_at most i.1) ≡ Ok (tt, q)
            → OwnInstructions (record { features = features; offset = offset; rest = b ∷ bs }) q
        instruction (Err f) at e = cc
        instruction (Ok i) at e =
            let f = (own_instruction offset b).at (record { features = features; offset = offset + 1; rest = bs }) i.0 i.1 at in
            let s = again i.1 e in
            let next : Place = record { features = features; offset = offset + 1; rest = bs } in
            let there : length i.1.rest ≡ length (drop f.used bs) = ap (λ (w : Place). length w.rest) f.after in
            record {
              used = 1 + (f.used + s.used);
              there = omega (arith, there, f.there, s.there, length-drop f.used bs);
              after = s.after ∙ ap (advanced s.used) f.after ∙ advanced_twice f.used s.used next
                  ∙ advanced_twice 1 (f.used + s.used) (record { features = features; offset = offset; rest = b ∷ bs });
              alone = λ more n m l k. alone f s more n m l k;
            }
          where
            alone : (f : OwnAt (after_opcode offset b) (record { features = features; offset = offset + 1; rest = bs }) i.0 i.1)
                (s : OwnInstructions i.1 q) (more n m : ℕ) → 1 + (f.used + s.used) ≤ more → n ≡ 1 + (f.used + s.used) + m
                → instructions_at more (cut n (record { features = features; offset = offset; rest = b ∷ bs })) ≡ Ok (tt, cut m q)
            alone f s zero n m l k = absurd (omega (arith, l))
            alone f s (suc more) zero m l k = absurd (omega (arith, k))
            alone f s (suc more) (suc n) m l k = rw (is, f.alone n (s.used + m) (omega (arith, k)))
                (s.alone more (s.used + m) m (omega (arith, l)) refl)

pub own_expression : Own end_of_expression
unfolding end_of_expression
own_expression = record {
  at = λ p x q e. let s = instructions_own (length p.rest) p.features p.offset p.rest q e in
      record {
        used = s.used;
        there = s.there;
        after = s.after;
        alone = λ n m k.
            s.alone (length (take n p.rest)) n m (omega (arith, length-take n p.rest, s.there, k)) k;
      };
}
