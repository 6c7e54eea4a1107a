-- The bytes of lists that are copied are read as the lists.
use Rattle.std.proofs.Common.{◌≡◌, ℕ, zero, suc, ◌+◌, ◌-◌, List, [], ◌∷◌, ◌++◌, Option, Some, None, Ok, Err, append-nil, append_assoc}
use Rattle.std.proofs.Common.{Bool, IsTrue, ap, arith, cond, eqb-true, false, length, length-append, refl, subst, sym, take, ◌<◌, ◌==◌, ◌^◌}
use Rattle.std.proofs.Common.{◌↔◌, ◌∙◌}
use Rattle.std.proofs.Math.Seq.{take-append_seam}
use Rattle.std.proofs.lemmas.Bool.{eq-eqb}
use Rattle.std.proofs.lemmas.List.{nil_from_length}
use Rattle.wasm_base.proofs.OwnBytes.{same_read}
use Rattle.wasm_base.specs.FaultAt.{FaultAt, at_offset}
use Rattle.wasm_base.specs.Inner.{after_reading, all_skipped_at, inner_section_at}
use Rattle.wasm_base.specs.Leading.{in_table, leading_byte, lookup, or_leading}
use Rattle.wasm_base.specs.Name.{byte_at, bytes_at, is_above, name_limit}
use Rattle.wasm_base.specs.Number.{unsigned_at}
use Rattle.wasm_base.specs.Outcome.{Outcome}
use Rattle.wasm_base.specs.Section.{Section}
use Rattle.wasm_base.specs.Skip.{skipped_at, skipped_name_at}
use Rattle.wasm_base.specs.Window.{Place, Window, advanced, place}
use Rattle.wasm_base.specs.declared.fault.Fault.TheVariants.{StringSize}
use Rattle.wasm_base.specs.declared.fault.Lead.{Lead}
use Rattle.wasm_base.specs.declared.fault.NumberKind.TheVariants.{VarU32}
use Rattle.wasm_encode.specs.Lists.{IsList, LeavesNothing, list_bytes, list_placed}
use Rattle.wasm_encode.specs.Numbers.{unsigned_bytes}
use Rattle.wasm_encode.specs.ReadsBack.{spot}
use Rattle.wasm_encode.proofs.CopiedExpressions.{bytes_copies, expressions_end, unsigned}
use Rattle.wasm_encode.proofs.Moves.{Any, Copies, Moved, Moves, either, fails, here, in_turn, moves, nothing}
use Rattle.wasm_encode.proofs.NumbersBack.{unsigned_at_spot}
use Rattle.wasm_encode.proofs.Readings.{Reads}
use Rattle.wasm_items.specs.Init.{end_of_expression}

-- ---- what copies its bytes

byte_by : {Kept : ℕ → ℕ → Type 0} (f o : ℕ) (bytes : List ℕ) (x : ℕ) (q : Place) → byte_at (spot f o bytes) ≡ Ok (x, q)
    → Moved Kept (λ s. byte_at) f o bytes x q
byte_by f o [] x q e = absurd (let z = e in cc)
byte_by f o (b ∷ bs) x q e = let z = same_read b x (advanced 1 (spot f o (b ∷ bs))) q e in record {
  taken = b ∷ [];
  rest = bs;
  split = refl;
  after = sym z.1;
  reads = λ t g k. record { at = λ p later. ap (λ (c : ℕ). Ok (c, spot g (p + 1) later)) z.0 };
}

pub copies_byte : {Kept : ℕ → ℕ → Type 0} → Moves Kept (λ s. byte_at)
copies_byte = record { at = λ s f o bytes x q e. byte_by f o bytes x q e }

-- a byte, and what a table has for it
pub copies_table : {Kept : ℕ → ℕ → Type 0} {A : Type 0} (lead : Lead) (table : List (ℕ × A)) → Moves Kept (λ s. in_table lead table)
unfolding in_table
copies_table {Kept} {A} lead table =
    in_turn (λ s. byte_at) (λ s byte p. or_leading lead byte (p.offset - 1) (lookup table byte) p) copies_byte
    (λ byte. here (λ s p. or_leading lead byte (s - 1) (lookup table byte) p) (by byte (lookup table byte)))
  where
    by : (byte : ℕ) (found : Option A) → Moves Kept (λ s p. or_leading lead byte (s - 1) found p)
    by byte (Some x) = nothing x
    by byte None = fails (λ s. leading_byte lead byte (s - 1))

pub copies_skip : {Kept : ℕ → ℕ → Type 0} {A : Type 0} (reading : Place → Outcome A) → Moves Kept (λ s. reading)
    → Moves Kept (λ s. after_reading reading)
copies_skip reading one = in_turn (λ s. reading) (λ s x p. Ok (tt, p)) one (λ x. nothing tt)

-- a name that is skipped
pub copies_name : {Kept : ℕ → ℕ → Type 0} → Moves Kept (λ s. skipped_name_at)
unfolding skipped_name_at
copies_name = in_turn (λ s. unsigned_at VarU32)
    (λ s size p. cond (is_above (Some name_limit) size) (Err (at_offset StringSize (p.offset - 1))) (skipped_at size p))
    (moves (unsigned VarU32))
    (λ size. here (λ s p. cond (is_above (Some name_limit) size) (Err (at_offset StringSize (s - 1))) (skipped_at size p))
    (either (is_above (Some name_limit) size) (λ s p. Err (at_offset StringSize (s - 1))) (λ s. skipped_at size)
    (fails (λ s. at_offset StringSize (s - 1))) (copies_skip (bytes_at size) (moves (bytes_copies size)))))

pub copies_expression : Copies (λ s. end_of_expression)
copies_expression = record {
  at = λ s f o bytes x q e.
      let a = expressions_end f o bytes q e in
      record { taken = a.taken; rest = a.rest; split = a.split; after = a.after; reads = λ t g k. a.reads g };
}

copies_all : {Kept : ℕ → ℕ → Type 0} (pass : Place → Outcome (Unit {0})) → Moves Kept (λ s. pass) → (count : ℕ)
    → Moves Kept (λ s. all_skipped_at pass count)
copies_all pass one zero = nothing tt
copies_all pass one (suc count) = in_turn (λ s. pass) (λ s x p. all_skipped_at pass count p) one (λ x. copies_all pass one count)

-- ---- lists

-- The items of a list are skipped wherever their bytes are.
reads_items : (Kept : ℕ → ℕ → Type 0) (pass : Place → Outcome (Unit {0})) → Moves Kept (λ s. pass) → (list : Section) (features : ℕ)
    → Kept list.reader.features features → IsList pass list
    → Reads (all_skipped_at pass list.count) features tt (place list.reader).rest
reads_items Kept pass one list features kept h = by (all_skipped_at pass list.count (place list.reader)) refl h.items
  where
    by : (o : Outcome (Unit {0})) → all_skipped_at pass list.count (place list.reader) ≡ o → LeavesNothing o
        → Reads (all_skipped_at pass list.count) features tt (place list.reader).rest
    by (Err fault) is none = absurd none
    by (Ok end) is none =
        let p : Place = place list.reader in
        let a = (copies_all pass one list.count).at 0 p.features p.offset p.rest end.0 end.1 is in
        let l : length a.rest ≡ 0 = ap (λ (q : Place). length q.rest) (sym a.after) ∙ none in
        let w : p.rest ≡ a.taken =
        a.split ∙ (ap (λ (xs : List ℕ). a.taken ++ xs) (nil_from_length a.rest l) ∙ append-nil a.taken) in
        subst (λ (xs : List ℕ). Reads (all_skipped_at pass list.count) features tt xs) (sym w) (a.reads 0 features kept)

-- A list is read as it is, wherever it is.
pub kept_list : (Kept : ℕ → ℕ → Type 0) (pass : Place → Outcome (Unit {0})) → Moves Kept (λ s. pass) → (list : Section)
    (features offset : ℕ) (later : List ℕ) → Kept list.reader.features features → IsList pass list
    → inner_section_at pass (spot features offset (list_bytes list ++ later))
    ≡ Ok (list_placed features offset list, spot features (offset + length (list_bytes list)) later)
unfolding inner_section_at
kept_list Kept pass one list features offset later kept h =
    let size : List ℕ = unsigned_bytes list.count in
    let items : List ℕ = (place list.reader).rest in
    let there : ℕ = offset + length size in
    let d : there - offset ≡ length size = omega arith in
    let n : there + length items - offset ≡ length (size ++ items) = omega (arith, length-append size items) in
    let e : there + length items ≡ offset + length (size ++ items) = omega (arith, length-append size items) in
    let t : take (length (size ++ items)) (size ++ (items ++ later)) ≡ size ++ items =
    ap (λ (xs : List ℕ). take (length (size ++ items)) xs) (sym (append_assoc size items later)) ∙ take-append_seam (size ++ items) later in
    rw (
      append_assoc size items later,
      unsigned_at_spot VarU32 features offset list.count (items ++ later) refl h.count,
      (reads_items Kept pass one list features kept h).at there later,
    )
    (rw (d, n, t, e) refl)

-- the same for readers with any features
pub list_back : (pass : Place → Outcome (Unit {0})) → Copies (λ s. pass) → (list : Section) (features offset : ℕ) (later : List ℕ)
    → IsList pass list
    → inner_section_at pass (spot features offset (list_bytes list ++ later))
    ≡ Ok (list_placed features offset list, spot features (offset + length (list_bytes list)) later)
list_back pass one list features offset later h = kept_list Any pass one list features offset later tt h

-- ---- whether a section is a list

skipped_so : (pass : Place → Outcome (Unit {0})) (list : Section) (count : ℕ) (reader : Window) (o : Outcome (Unit {0}))
    → count ≡ list.count → reader ≡ list.reader → all_skipped_at pass count (place reader) ≡ o
    → all_skipped_at pass list.count (place list.reader) ≡ o
skipped_so pass list count reader o n r e =
    ap (λ (k : ℕ). all_skipped_at pass k (place list.reader)) (sym n)
    ∙ (ap (λ (w : Window). all_skipped_at pass count (place w)) (sym r) ∙ e)

pub whole_list : (pass : Place → Outcome (Unit {0})) (list : Section) (count : ℕ) (reader : Window) (q : Place) (b : Bool)
    → count ≡ list.count → reader ≡ list.reader → count < 2 ^ 32 → all_skipped_at pass count (place reader) ≡ Ok (tt, q)
    → b ≡ (length q.rest == 0) → IsTrue b ↔ IsList pass list
whole_list pass list count reader q b n r few e f =
    let all = skipped_so pass list count reader (Ok (tt, q)) n r e in (
      λ t. record {
        count = omega (arith, n, few);
        items = subst LeavesNothing (sym all) (eqb-true (length q.rest) 0 (sym f ∙ t));
      },
      λ h. f ∙ eq-eqb (length q.rest) 0 (subst LeavesNothing all h.items),
    )

pub no_list : (pass : Place → Outcome (Unit {0})) (list : Section) (count : ℕ) (reader : Window) (fault : FaultAt)
    → count ≡ list.count → reader ≡ list.reader → all_skipped_at pass count (place reader) ≡ Err fault → IsTrue false ↔ IsList pass list
no_list pass list count reader fault n r e =
    (λ t. cc, λ h. absurd (subst LeavesNothing (skipped_so pass list count reader (Err fault) n r e) h.items))
