-- The bytes of types and of what is imported are read as the same wherever they are copied to.
use Rattle.std.proofs.Common.{◌≡◌, ℕ, ◌+◌, ◌==◌, Bool, true, false, cond, List, [], ◌∷◌, ◌++◌, length, nat_lt}
use Rattle.std.proofs.Common.{ap, sym, ◌∙◌, Option, Some, None, Ok, Err, refl}
use Rattle.wasm_base.proofs.OwnBytes.{same_read}
use Rattle.wasm_base.specs.Bits.{has_bit}
use Rattle.wasm_base.specs.FaultAt.{FaultAt, at_offset}
use Rattle.wasm_base.specs.Features.{takes_wide_limits}
use Rattle.wasm_base.specs.Leading.{leading_byte}
use Rattle.wasm_base.specs.Name.{byte_at}
use Rattle.wasm_base.specs.Number.{unsigned_at}
use Rattle.wasm_base.specs.Outcome.{Outcome, ◌>>=◌}
use Rattle.wasm_base.specs.Skip.{skipped_name_at}
use Rattle.wasm_base.specs.Window.{Place, advanced}
use Rattle.wasm_base.specs.declared.fault.Fault.TheVariants.{GlobalFlags, MemoryFlags, PageSize, TableFlags, TagAttributes}
use Rattle.wasm_base.specs.declared.fault.Lead.{Lead}
use Rattle.wasm_base.specs.declared.fault.Lead.TheVariants as Leads
use Rattle.wasm_base.specs.declared.fault.NumberKind.{NumberKind}
use Rattle.wasm_base.specs.declared.fault.NumberKind.TheVariants.{VarU32, VarU64}
use Rattle.wasm_encode.specs.Copied.{TypesAreCopied}
use Rattle.wasm_encode.specs.ReadsBack.{spot}
use Rattle.wasm_encode.proofs.CopiedExpressions.{heap_copies, unsigned, Same, copies_bytes}
use Rattle.wasm_encode.proofs.ListsBack.{copies_byte, copies_expression, copies_name, copies_table}
use Rattle.wasm_encode.proofs.Moves.{Moved, Moves, either, fails, here, in_turn, moves, nothing}
use Rattle.wasm_encode.proofs.Readings.{Reads}
use Rattle.wasm_items.specs.Externals.{external_kinds, kind_at}
use Rattle.wasm_items.specs.Globals.{global_type_at}
use Rattle.wasm_items.specs.Imports.{as_type, skipped_item_at, type_of_kind_at, type_ref_at}
use Rattle.wasm_items.specs.Init.{end_of_expression}
use Rattle.wasm_items.specs.Limits.{has_maximum, has_page_size, limit_at, limits_at, maximum_at, some_limit_at, is_shared, is_wide}
use Rattle.wasm_items.specs.Memories.{memory_after_flags, memory_type_at, page_size_at, small_page_size}
use Rattle.wasm_items.specs.Tables.{table_after_flags, table_type_at}
use Rattle.wasm_items.specs.Tags.{exception_at, tag_type_at}
use Rattle.wasm_items.specs.Values.{abstract_heap_of, plain_type_of, ref_type_after, ref_type_at, ref_type_in, reference_to, heap_type_at}
use Rattle.wasm_items.specs.Values.{val_type_at, val_type_from}
use Rattle.wasm_items.specs.declared.exports.ExternalKind.{ExternalKind}
use Rattle.wasm_items.specs.declared.exports.ExternalKind.TheVariants as Kinds
use Rattle.wasm_items.specs.declared.imports.TypeRef.{TypeRef}
use Rattle.wasm_items.specs.declared.imports.TypeRef.TheVariants as Refs
use Rattle.wasm_items.specs.declared.types.GlobalType.{GlobalType}
use Rattle.wasm_items.specs.declared.types.HeapType.{HeapType}
use Rattle.wasm_items.specs.declared.types.MemoryType.{MemoryType}
use Rattle.wasm_items.specs.declared.types.RefType.{RefType}
use Rattle.wasm_items.specs.declared.types.TableType.{TableType}
use Rattle.wasm_items.specs.declared.types.TagKind.TheVariants.{Exception}
use Rattle.wasm_items.specs.declared.types.ValType.{ValType}
use Rattle.wasm_items.specs.declared.types.ValType.TheVariants as Values

module _ (Kept : ℕ → ℕ → Type 0) where
  -- a byte of flags, which is at most a number
  flags : {A : Type 0} (most : ℕ) (fault : ℕ → FaultAt) (next : ℕ → ℕ → Place → Outcome A) → ((b : ℕ) → Moves Kept (λ s. next s b))
      → Moves Kept (λ s p. byte_at p >>= λ b. cond (nat_lt most b.0) (Err (fault p.offset)) (next p.offset b.0 b.1))
  flags most fault next n =
      here (λ s p. byte_at p >>= λ b. cond (nat_lt most b.0) (Err (fault s)) (next s b.0 b.1))
      (in_turn (λ s. byte_at) (λ s b p. cond (nat_lt most b) (Err (fault s)) (next s b p)) copies_byte
      (λ b. either (nat_lt most b) (λ s p. Err (fault s)) (λ s. next s b) (fails fault) (n b)))

  index : Moves Kept (λ s. unsigned_at VarU32)
  index = moves (unsigned VarU32)

  -- ---- types of references and values

  reference : (nullable : Bool) → Moves Kept (λ s. reference_to nullable)
  reference nullable =
      in_turn (λ s. heap_type_at) (λ s heap p. Ok (record { nullable = nullable; heap = heap }, p)) (moves heap_copies)
      (λ heap. nothing (record { nullable = nullable; heap = heap }))

  after_first : (lead : Lead) (b : ℕ) (heap : Option HeapType)
      → Moves Kept (λ s p. ref_type_after (leading_byte lead b s) (b, p) heap)
  after_first lead b (Some heap) = nothing (record { nullable = true; heap = heap })
  after_first lead b None =
      either (b == 0x63) (λ s. reference_to true) (λ s p. cond (b == 0x64) (reference_to false p) (Err (leading_byte lead b s)))
      (reference true)
      (either (b == 0x64) (λ s. reference_to false) (λ s p. Err (leading_byte lead b s)) (reference false)
      (fails (λ s. leading_byte lead b s)))

  ref_moves : (lead : Lead) → Moves Kept (λ s. ref_type_in lead)
  unfolding ref_type_in
  ref_moves lead =
      here (λ s p. byte_at p >>= λ b. ref_type_after (leading_byte lead b.0 s) b (abstract_heap_of b.0))
      (in_turn (λ s. byte_at) (λ s b p. ref_type_after (leading_byte lead b s) (b, p) (abstract_heap_of b)) copies_byte
      (λ b. after_first lead b (abstract_heap_of b)))

  abbrev referenced : Place → Outcome ValType
  referenced p = ref_type_in Leads.Value p >>= λ r. Ok (Values.Ref r.0, r.1)

  -- a reference type as a value type, whose first byte is that of no other value type
  val_reads : (g b : ℕ) (bs taken rest : List ℕ) (x : ValType) → plain_type_of b ≡ None → b ∷ bs ≡ taken ++ rest
      → Reads referenced g x taken → Reads val_type_at g x taken
  unfolding val_type_at ref_type_in
  val_reads g b bs [] rest x none split r = absurd (let z = r.at 0 [] in cc)
  val_reads g b bs (t ∷ ts) rest x none split r =
      let h : t ≡ b = cc in
      record { at = λ p later. rw (ap plain_type_of h ∙ none) (r.at p later) }

  val_by : (s f o : ℕ) (bytes : List ℕ) (x : ValType) (q : Place) → val_type_at (spot f o bytes) ≡ Ok (x, q)
      → Moved Kept (λ s. val_type_at) f o bytes x q
  unfolding val_type_at
  val_by s f o [] x q e = cc
  val_by s f o (b ∷ bs) x q e = by (plain_type_of b) refl e
    where
      by : (plain : Option ValType) → plain_type_of b ≡ plain → val_type_from (spot f o (b ∷ bs)) plain ≡ Ok (x, q)
          → Moved Kept (λ s. val_type_at) f o (b ∷ bs) x q
      by (Some plain) is e =
          let z = same_read plain x (advanced 1 (spot f o (b ∷ bs))) q e in
          record {
            taken = b ∷ [];
            rest = bs;
            split = refl;
            after = sym z.1;
            reads = λ t g k. record { at = λ p later. rw (is, z.0) refl };
          }
      by None is e =
          let m = in_turn (λ s. ref_type_in Leads.Value) (λ s r p. Ok (Values.Ref r, p)) (ref_moves Leads.Value)
          (λ r. nothing (Values.Ref r)) in
          let a = m.at s f o (b ∷ bs) x q e in
          record {
            taken = a.taken;
            rest = a.rest;
            split = a.split;
            after = a.after;
            reads = λ t g k. val_reads g b bs a.taken a.rest x is a.split (a.reads t g k);
          }

  val_moves : Moves Kept (λ s. val_type_at)
  val_moves = record { at = λ s f o bytes x q e. val_by s f o bytes x q e }

  -- ---- limits and the types that have them, where features agree on limits

  module _ (same : (f g : ℕ) → Kept f g → takes_wide_limits g ≡ takes_wide_limits f) where
    limit_by : (kind : NumberKind) (s f o : ℕ) (bytes : List ℕ) (x : ℕ) (q : Place)
        → ((g p : ℕ) (more : List ℕ) → takes_wide_limits g ≡ takes_wide_limits f
        → limit_at (spot g p more) ≡ unsigned_at kind (spot g p more))
        → limit_at (spot f o bytes) ≡ Ok (x, q) → Moved Kept (λ s. limit_at) f o bytes x q
    limit_by kind s f o bytes x q is e =
        let a = (unsigned kind).at s f o bytes x q (sym (is f o bytes refl) ∙ e) in
        record {
          taken = a.taken;
          rest = a.rest;
          split = a.split;
          after = a.after;
          reads = λ t g k. record { at = λ p later. is g p (a.taken ++ later) (same f g k) ∙ (a.reads t g tt).at p later };
        }

    limit : Moves Kept (λ s. limit_at)
    unfolding limit_at
    limit = record { at = λ s f o bytes x q e. by s f o bytes x q (takes_wide_limits f) refl e }
      where
        by : (s f o : ℕ) (bytes : List ℕ) (x : ℕ) (q : Place) (wide : Bool) → takes_wide_limits f ≡ wide
            → limit_at (spot f o bytes) ≡ Ok (x, q) → Moved Kept (λ s. limit_at) f o bytes x q
        by s f o bytes x q true is e = limit_by VarU64 s f o bytes x q (λ g p more h. rw (h ∙ is) refl) e
        by s f o bytes x q false is e = limit_by VarU32 s f o bytes x q (λ g p more h. rw (h ∙ is) refl) e

    maximum : (flags : ℕ) → Moves Kept (λ s. maximum_at flags)
    unfolding maximum_at
    maximum flags =
        either (has_maximum flags) (λ s. some_limit_at) (λ s p. Ok (None, p))
        (in_turn (λ s. limit_at) (λ s n p. Ok (Some n, p)) limit (λ n. nothing (Some n))) (nothing None)

    limits : (flags : ℕ) → Moves Kept (λ s. limits_at flags)
    unfolding limits_at
    limits flags =
        in_turn (λ s. limit_at) (λ s least p. maximum_at flags p >>= λ most. Ok ((least, most.0), most.1)) limit
        (λ least. in_turn (λ s. maximum_at flags) (λ s most p. Ok ((least, most), p)) (maximum flags) (λ most. nothing (least, most)))

    table_type : Moves Kept (λ s. table_type_at)
    unfolding table_type_at table_after_flags
    table_type =
        in_turn (λ s. ref_type_at)
        (λ s element p. byte_at p >>= λ b.
        cond (nat_lt 7 b.0) (Err (at_offset TableFlags p.offset)) (table_after_flags element b.0 b.1)) (ref_moves Leads.Reference)
        (λ element. flags 7 (at_offset TableFlags) (λ s b. table_after_flags element b) (λ b.
        in_turn (λ s. limits_at b) (λ s l p. Ok (after element b l, p)) (limits b) (λ l. nothing (after element b l))))
      where
        after : RefType → ℕ → ℕ × Option ℕ → TableType
        after element b l = record {
          element_type = element;
          table64 = is_wide b;
          initial = l.0;
          maximum = l.1;
          shared = is_shared b;
        }

    page_size : (b : ℕ) → Moves Kept (λ s. page_size_at s b)
    unfolding page_size_at
    page_size b =
        either (has_page_size b) (λ s p. unsigned_at VarU32 p >>= small_page_size s) (λ s p. Ok (None, p))
        (in_turn (λ s. unsigned_at VarU32) (λ s n p. small_page_size s (n, p)) index
        (λ n. either (nat_lt n 64) (λ s p. Ok (Some n, p)) (λ s p. Err (at_offset PageSize s)) (nothing (Some n))
        (fails (at_offset PageSize)))) (nothing None)

    memory_type : Moves Kept (λ s. memory_type_at)
    unfolding memory_type_at memory_after_flags
    memory_type = flags 15 (at_offset MemoryFlags) memory_after_flags (λ b.
        in_turn (λ s. limits_at b) (λ s l p. page_size_at s b p >>= λ page. Ok (after b l page.0, page.1)) (limits b)
        (λ l. in_turn (λ s. page_size_at s b) (λ s page p. Ok (after b l page, p)) (page_size b) (λ page. nothing (after b l page))))
      where
        after : ℕ → ℕ × Option ℕ → Option ℕ → MemoryType
        after b l page = record {
          memory64 = is_wide b;
          shared = is_shared b;
          initial = l.0;
          maximum = l.1;
          page_size_log2 = page;
        }

    global_type : Moves Kept (λ s. global_type_at)
    unfolding global_type_at
    global_type =
        in_turn (λ s. val_type_at)
        (λ s content p. byte_at p >>= λ b. cond (nat_lt 3 b.0) (Err (at_offset GlobalFlags p.offset)) (Ok (after content b.0, b.1)))
        val_moves (λ content. flags 3 (at_offset GlobalFlags) (λ s b p. Ok (after content b, p)) (λ b. nothing (after content b)))
      where
        after : ValType → ℕ → GlobalType
        after content b = record { content_type = content; mutable = has_bit b 0; shared = has_bit b 1 }

    tag_type : Moves Kept (λ s. tag_type_at)
    unfolding tag_type_at
    tag_type =
        here (λ s p. byte_at p >>= λ b. cond (b.0 == 0x00) (exception_at b.1) (Err (at_offset TagAttributes s)))
        (in_turn (λ s. byte_at) (λ s b p. cond (b == 0x00) (exception_at p) (Err (at_offset TagAttributes s))) copies_byte
        (λ b. either (b == 0x00) (λ s. exception_at) (λ s p. Err (at_offset TagAttributes s))
        (in_turn (λ s. unsigned_at VarU32) (λ s i p. Ok (record { kind = Exception; func_type_idx = i }, p)) index
        (λ i. nothing (record { kind = Exception; func_type_idx = i }))) (fails (at_offset TagAttributes))))

    -- ---- what is imported

    made : {A : Type 0} (make : A → TypeRef) (reading : Place → Outcome A) → Moves Kept (λ s. reading)
        → Moves Kept (λ s p. as_type make (reading p))
    made {A} make reading one = record { at = λ s f o bytes x q e. by s f o bytes x q (reading (spot f o bytes)) refl e }
      where
        by : (s f o : ℕ) (bytes : List ℕ) (x : TypeRef) (q : Place) (r : Outcome A) → reading (spot f o bytes) ≡ r
            → as_type make r ≡ Ok (x, q) → Moved Kept (λ s p. as_type make (reading p)) f o bytes x q
        by s f o bytes x q (Err g) is e = cc
        by s f o bytes x q (Ok r) is e =
            let a = one.at s f o bytes r.0 r.1 is in
            let z = same_read (make r.0) x r.1 q e in
            record {
              taken = a.taken;
              rest = a.rest;
              split = a.split;
              after = sym z.1 ∙ a.after;
              reads = λ t g k. record {
                at = λ p later.
                    rw ((a.reads t g k).at p later) (ap (λ (y : TypeRef). Ok (y, spot g (p + length a.taken) later)) z.0);
              };
            }

    type_of : (kind : ExternalKind) → Moves Kept (λ s. type_of_kind_at kind)
    type_of Kinds.Func = made (λ n. Refs.Func n) (unsigned_at VarU32) index
    type_of Kinds.Table = made (λ ty. Refs.Table ty) table_type_at table_type
    type_of Kinds.Memory = made (λ ty. Refs.Memory ty) memory_type_at memory_type
    type_of Kinds.Global = made (λ ty. Refs.Global ty) global_type_at global_type
    type_of Kinds.Tag = made (λ ty. Refs.Tag ty) tag_type_at tag_type
    type_of Kinds.FuncExact = made (λ n. Refs.FuncExact n) (unsigned_at VarU32) index

    type_ref : Moves Kept (λ s. type_ref_at)
    unfolding type_ref_at
    type_ref = in_turn (λ s. kind_at) (λ s kind. type_of_kind_at kind) (copies_table Leads.External external_kinds) type_of

    pub copies_item : Moves Kept (λ s. skipped_item_at)
    unfolding skipped_item_at
    copies_item =
        in_turn (λ s. skipped_name_at) (λ s name p. type_ref_at p >>= λ ty. Ok (tt, ty.1)) copies_name
        (λ name. in_turn (λ s. type_ref_at) (λ s ty p. Ok (tt, p)) type_ref (λ ty. nothing tt))

-- ---- all of them

pub same_limits : (f g : ℕ) → Same f g → takes_wide_limits g ≡ takes_wide_limits f
same_limits f g e = ap takes_wide_limits (sym e)

pub types_copied : TypesAreCopied
types_copied = record {
  heap = copies_bytes heap_type_at (moves heap_copies);
  reference = copies_bytes ref_type_at (ref_moves Same Leads.Reference);
  value = copies_bytes val_type_at (val_moves Same);
  table = copies_bytes table_type_at (table_type Same same_limits);
  memory = copies_bytes memory_type_at (memory_type Same same_limits);
  global = copies_bytes global_type_at (global_type Same same_limits);
  tag = copies_bytes tag_type_at (tag_type Same same_limits);
  imported = copies_bytes type_ref_at (type_ref Same same_limits);
  skipped = copies_bytes skipped_item_at (copies_item Same same_limits);
  expression = copies_bytes end_of_expression (moves copies_expression);
}
