-- Whether a section may follow those of a module so far.
use Rattle.std.proofs.Common.{◌≡◌, ℕ, ◌<◌, Bool, true, false, List, refl, ap, sym, ◌∙◌, arith, nat_lt, nat_eq, length}
use Rattle.std.proofs.Common.{not, ◌&&◌, ◌||◌, None, Some, Option, option_to_list, eq-eqb, eqb-true}
use Rattle.std.proofs.lemmas.Grind.{common_steps}
use Rattle.std.specs.List.{Any, list_all}
use Rattle.std.specs.Prelude.{unwrap_or}
use Rattle.wasm_encode.specs.Modules.{Holds, IsOrdered, Misplaced, agrees, counts_of, lacks, may_follow, rank_of_id}
use Rattle.wasm_encode.specs.declared.modules.Module.{Module}
use Rattle.wasm_encode.proofs.SoFar.{context, knows, same_counts}
use Rattle.wasm_grammar.proofs.accepted.Counts.{HasCount, Knows, same_of, same_to}
use Rattle.wasm_grammar.proofs.accepted.Counts as tiles
use Rattle.wasm_grammar.proofs.accepted.Fits.{CodeFits, code_from, code_to, rank_from, rank_to, some_from, some_to}
use Rattle.wasm_grammar.specs.Accepted.{FitsAfter, IsMatched, IsSection, SectionFrame, frame_count}
use Rattle.wasm_grammar.specs.Grammar.{SectionContext, wrong_count}
use Rattle.wasm_grammar.specs.Ids.{code_id, data_count_id, data_id}
use Rattle.wasm_grammar.specs.declared.encoding.Encoding.TheVariants as encoding

-- ---- decisions by what is kept of the sections

-- the counts of functions agree with a code section
count_right : (functions : Option ℕ) (count : ℕ) → nat_eq (unwrap_or functions 0) count ≡ true → (p : SectionContext)
    → p.functions ≡ option_to_list functions → wrong_count p 0 count ≡ None
count_right None count e p is = rw (is, sym (eqb-true 0 count e)) refl
count_right (Some n) count e p is = rw (is, sym (eqb-true n count e), eq-eqb n n refl) grind arith

count_right_only : (functions : Option ℕ) (count : ℕ) (p : SectionContext) → p.functions ≡ option_to_list functions
    → wrong_count p 0 count ≡ None → nat_eq (unwrap_or functions 0) count ≡ true
count_right_only None count p is h = grind (arith, common_steps)
count_right_only (Some n) count p is h = grind (arith, common_steps, eqb-true, eq-eqb)

segments_right : (announced : Option ℕ) (count : ℕ) → nat_eq (unwrap_or announced count) count ≡ true
    → list_all (nat_eq count) (option_to_list announced) ≡ true
segments_right None count e = refl
segments_right (Some n) count e = grind (arith, common_steps, eqb-true, eq-eqb)

segments_right_only : (announced : Option ℕ) (count : ℕ) → list_all (nat_eq count) (option_to_list announced) ≡ true
    → nat_eq (unwrap_or announced count) count ≡ true
segments_right_only None count e = eq-eqb count count refl
segments_right_only (Some n) count e = grind (arith, common_steps, eqb-true, eq-eqb)

follows_right : (rank above : ℕ) → (nat_eq rank 0 || nat_lt above rank) ≡ true → (nat_lt 0 rank && not (nat_lt above rank)) ≡ false
follows_right rank above e = grind (arith, common_steps)

follows_right_only : (rank above : ℕ) → (nat_lt 0 rank && not (nat_lt above rank)) ≡ false → (nat_eq rank 0 || nat_lt above rank) ≡ true
follows_right_only rank above e = grind (arith, common_steps)

-- ---- a section after those so far

module _ {A : Type 0} (frames : List SectionFrame) (m : Module A) (h : Holds frames m) (f : SectionFrame) where
  k : Knows encoding.Module frames (context m)
  k = knows frames m h

  -- what its id and count have to be
  fits : may_follow m f.id ≡ true → agrees m f.id (frame_count f) ≡ true → FitsAfter encoding.Module frames f
  fits r a = record {
    ranks = rank_from encoding.Module frames (context m) k (rank_of_id f.id) (follows_right (rank_of_id f.id) m.rank r);
    bodies = λ is. (of_code is.1).bodies;
    functions = λ is. (of_code is.1).functions;
    segments = λ is. same_of encoding.Module data_count_id (frame_count f) frames
        (ap (λ (xs : List ℕ). list_all (nat_eq (frame_count f)) xs) (sym k.data_counts)
        ∙ segments_right m.announced (frame_count f) (rw is.1 at a));
  }
    where
      of_code : f.id ≡ code_id → CodeFits encoding.Module frames (frame_count f)
      of_code is = code_from encoding.Module frames (context m) k 0 (frame_count f)
          (count_right m.functions (frame_count f) (rw is at a) (context m) refl)

  ordered : may_follow m f.id ≡ true → IsOrdered frames f
  ordered r = rank_from encoding.Module frames (context m) k (rank_of_id f.id) (follows_right (rank_of_id f.id) m.rank r)

  ordered_only : IsOrdered frames f → may_follow m f.id ≡ true
  ordered_only o = follows_right_only (rank_of_id f.id) m.rank (rank_to encoding.Module frames (context m) k (rank_of_id f.id) o)

  code_agrees : FitsAfter encoding.Module frames f → f.id ≡ code_id → nat_eq (unwrap_or m.functions 0) (frame_count f) ≡ true
  code_agrees a is = count_right_only m.functions (frame_count f) (context m) refl (code_to encoding.Module frames (context m) k 0
      (frame_count f) (record { bodies = a.bodies (refl, is); functions = a.functions (refl, is) }))

  data_agrees : FitsAfter encoding.Module frames f → f.id ≡ data_id
      → nat_eq (unwrap_or m.announced (frame_count f)) (frame_count f) ≡ true
  data_agrees a is = segments_right_only m.announced (frame_count f)
      (ap (λ (xs : List ℕ). list_all (nat_eq (frame_count f)) xs) k.data_counts
      ∙ same_to encoding.Module data_count_id (frame_count f) frames (a.segments (refl, is)))

  agrees_only : FitsAfter encoding.Module frames f → agrees m f.id (frame_count f) ≡ true
  agrees_only a = by_id (nat_eq f.id code_id) (nat_eq f.id data_id) refl refl
    where
      by_id : (is_code is_data : Bool) → nat_eq f.id code_id ≡ is_code → nat_eq f.id data_id ≡ is_data
          → agrees m f.id (frame_count f) ≡ true
      by_id true b e d = rw e (code_agrees a (eqb-true f.id code_id e))
      by_id false true e d = rw (e, d) (data_agrees a (eqb-true f.id data_id d))
      by_id false false e d = rw (e, d) refl

  pub refuses_order : may_follow m f.id ≡ false → ¬ IsOrdered frames f
  refuses_order r o = let t = ordered_only o in cc

  pub refuses_count : may_follow m f.id ≡ true → agrees m f.id (frame_count f) ≡ false
      → IsOrdered frames f × Misplaced frames f
  refuses_count r a = (ordered r, λ y. let t = agrees_only y in cc)

  pub admits : may_follow m f.id ≡ true → agrees m f.id (frame_count f) ≡ true → FitsAfter encoding.Module frames f
  admits r a = fits r a

-- ---- the end of a module

module _ (n other : ℕ) (frames : List SectionFrame) (items sections : Option ℕ) (e : counts_of n frames ≡ option_to_list items)
    (o : counts_of other frames ≡ option_to_list sections) where
  there : (c : ℕ) → sections ≡ Some c → Any (IsSection encoding.Module other) frames
  there c is = some_from encoding.Module other frames
      (rw (same_counts other frames, o, is) refl)

  none_there : sections ≡ None → Any (IsSection encoding.Module other) frames → ⊥
  none_there is a =
      let f = some_to encoding.Module other frames a in
      let t : nat_eq (length (tiles.counts_of encoding.Module other frames)) 0 ≡ true =
      rw (same_counts other frames, o, is) refl in
      cc

  none_counted : unwrap_or items 0 ≡ 0 → (x : Option ℕ) → items ≡ x → HasCount encoding.Module n 0 frames
  none_counted z None is = same_of encoding.Module n 0 frames (rw (same_counts n frames, e, is) refl)
  none_counted z (Some c) is =
      let zero : c ≡ 0 = rw is at z in
      same_of encoding.Module n 0 frames (rw (same_counts n frames, e, is, zero) refl)

  pub matched : lacks items sections ≡ false → (x : Option ℕ) → sections ≡ x → IsMatched encoding.Module n other frames
  matched l (Some c) is = λ k d lt s some. there c is
  matched l None is = λ k d lt s some.
      let zero : unwrap_or items 0 ≡ 0 = eqb-true (unwrap_or items 0) 0 (grind (arith, common_steps)) in
      let none = none_counted zero items refl k d lt s in
      absurd (omega (arith, some, none))

  pub unmatched : lacks items sections ≡ true → (x : Option ℕ) → items ≡ x → ¬ IsMatched encoding.Module n other frames
  unmatched l None is m = grind (arith, common_steps)
  unmatched l (Some c) is m =
      let none : sections ≡ None = no_sections sections refl l in
      let (k, g, lt, at, s) = some_from encoding.Module n frames (rw (same_counts n frames, e, is) refl) in
      let has : HasCount encoding.Module n c frames =
      same_of encoding.Module n c frames (rw (same_counts n frames, e, is) (eq_and c)) in
      none_there none (rw at at (m k g lt) s (positive c is l (rw at at (has k g lt) s)))
    where
      eq_and : (c : ℕ) → (nat_eq c c && true) ≡ true
      eq_and c = grind (arith, common_steps, eq-eqb)

      no_sections : (x : Option ℕ) → sections ≡ x → lacks items sections ≡ true → sections ≡ None
      no_sections None is l = is
      no_sections (Some c) is l = grind (arith, common_steps)

      positive : (c : ℕ) → items ≡ Some c → lacks items sections ≡ true → {count : ℕ} → count ≡ c → 0 < count
      positive c is l e = grind (arith, common_steps)
