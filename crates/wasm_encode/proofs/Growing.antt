-- A module with one section more.
use Rattle.std.proofs.Common.{◌≡◌, ℕ, ◌<◌, Bool, true, false, List, [], ◌∷◌, ◌++◌, refl, ap, sym, ◌∙◌, arith, nat_eq, length}
use Rattle.std.proofs.Common.{max, Option, Some, None, option_to_list, eqb-true, if◌then◌else◌, subst}
use Rattle.std.proofs.lemmas.Grind.{common_steps}
use Rattle.std.specs.List.{Any}
use Rattle.wasm_encode.specs.Modules.{Holds, Keeps, Notes, counts_of, highest, module_bytes, rank_of_id}
use Rattle.wasm_encode.specs.declared.modules.Module.{Module}
use Rattle.wasm_encode.proofs.SoFar.{same_counts}
use Rattle.wasm_grammar.proofs.accepted.Counts.{counts_push, one_count}
use Rattle.wasm_grammar.proofs.accepted.Counts as tiles
use Rattle.wasm_grammar.proofs.accepted.Fits.{some_from}
use Rattle.wasm_grammar.proofs.accepted.States.{InOrder, in_order_none, in_order_push}
use Rattle.wasm_grammar.proofs.accepted.Walks.{stream_more}
use Rattle.wasm_grammar.specs.Accepted.{FitsAfter, IsFrame, IsSection, SectionFrame, frame_bytes, frame_count, frame_rank}
use Rattle.wasm_grammar.specs.Ids.{code_id, data_count_id, data_id, function_id}
use Rattle.wasm_grammar.specs.declared.encoding.Encoding.TheVariants as encoding

highest_push : (frames : List SectionFrame) (f : SectionFrame)
    → highest (frames ++ f ∷ []) ≡ max (highest frames) (frame_rank encoding.Module f)
highest_push [] f = grind (arith, common_steps)
highest_push (g ∷ frames) f = grind (arith, common_steps, highest_push frames f)

-- no list of counts, by its length
nothing : (xs : List ℕ) → (nat_eq (length xs) 0 ≡ false → ⊥) → xs ≡ []
nothing [] none = refl
nothing (x ∷ xs) none = absurd (none (grind (arith, common_steps)))

module _ (frames : List SectionFrame) (f : SectionFrame) (fits : FitsAfter encoding.Module frames f) where
  -- a section with a rank is the first one with its id
  first : (n : ℕ) → f.id ≡ n → 0 < rank_of_id n → counts_of n frames ≡ []
  first n is some = sym (same_counts n frames)
      ∙ nothing (tiles.counts_of encoding.Module n frames) (λ e. clash (some_from encoding.Module n frames e))
    where
      clash : Any (IsSection encoding.Module n) frames → ⊥
      clash (k, g, lt, at, s) =
          let below : frame_rank encoding.Module g < frame_rank encoding.Module f =
          rw at at (fits.ranks (subst (λ (id : ℕ). 0 < rank_of_id id) (sym is) some) k g lt) in
          let same : frame_rank encoding.Module g ≡ frame_rank encoding.Module f = ap rank_of_id (s.1 ∙ sym is) in
          omega (arith, below, same)

  -- what is kept of the counts of one kind of section
  noted : (n id count : ℕ) (old new : Option ℕ) → f.id ≡ id → frame_count f ≡ count → 0 < rank_of_id n
      → counts_of n frames ≡ option_to_list old → new ≡ (if nat_eq id n then Some count else old)
      → counts_of n (frames ++ f ∷ []) ≡ option_to_list new
  noted n id count old new z c some had is = sym (same_counts n (frames ++ f ∷ [])) ∙ (counts_push encoding.Module n frames f
      ∙ (ap (λ (xs : List ℕ). one_count encoding.Module n f ++ xs) (same_counts n frames) ∙ by (nat_eq id n) refl))
    where
      by : (b : Bool) → nat_eq id n ≡ b → one_count encoding.Module n f ++ counts_of n frames ≡ option_to_list new
      by true e =
          let here : f.id ≡ n = z ∙ eqb-true id n e in
          let none : counts_of n frames ≡ [] = first n here some in
          rw (is, e, none, z, e, c) refl
      by false e = rw (is, e, had, z, e) refl

module _ {A : Type 0} (frames : List SectionFrame) (old mid new : Module A) (h : Holds frames old) (f : SectionFrame)
    (good : IsFrame encoding.Module f) (fits : FitsAfter encoding.Module frames f) (id count : ℕ) (z : f.id ≡ id)
    (c : frame_count f ≡ count) (keeps : Keeps old mid) (notes : Notes id count mid new)
    (bytes : mid.bytes.items ≡ old.bytes.items ++ frame_bytes f) where
  ordered : InOrder encoding.Module (frames ++ f ∷ [])
  ordered = in_order_push encoding.Module frames f (record { each = h.each; order = h.order }) good fits

  one : (n : ℕ) (was between now : Option ℕ) → 0 < rank_of_id n → counts_of n frames ≡ option_to_list was → between ≡ was
      → now ≡ (if nat_eq id n then Some count else between) → counts_of n (frames ++ f ∷ []) ≡ option_to_list now
  one n was between now some had kept is = noted frames f fits n id count was now z c some had
      (is ∙ ap (λ (o : Option ℕ). if nat_eq id n then Some count else o) kept)

  pub one_more : Holds (frames ++ f ∷ []) new
  one_more = record {
    bytes = notes.bytes ∙ (bytes ∙ stream_more encoding.Module frames f old.bytes.items h.bytes);
    each = ordered.each;
    order = ordered.order;
    rank = notes.rank ∙ (ap (λ (x : ℕ). max x (rank_of_id id)) (keeps.rank ∙ h.rank)
        ∙ (ap (λ (i : ℕ). max (highest frames) (rank_of_id i)) (sym z) ∙ sym (highest_push frames f)));
    functions = one function_id old.functions mid.functions new.functions (omega arith) h.functions keeps.functions notes.functions;
    bodies = one code_id old.bodies mid.bodies new.bodies (omega arith) h.bodies keeps.bodies notes.bodies;
    announced = one data_count_id old.announced mid.announced new.announced (omega arith) h.announced keeps.announced notes.announced;
    segments = one data_id old.segments mid.segments new.segments (omega arith) h.segments keeps.segments notes.segments;
  }

-- the module is as it was
pub as_before : {A : Type 0} (frames : List SectionFrame) (old new : Module A) → Holds frames old → Keeps old new
    → new.bytes.items ≡ old.bytes.items → Holds frames new
as_before frames old new h k bytes = record {
  bytes = bytes ∙ h.bytes;
  each = h.each;
  order = h.order;
  rank = k.rank ∙ h.rank;
  functions = h.functions ∙ ap option_to_list (sym k.functions);
  bodies = h.bodies ∙ ap option_to_list (sym k.bodies);
  announced = h.announced ∙ ap option_to_list (sym k.announced);
  segments = h.segments ∙ ap option_to_list (sym k.segments);
}

pub none_yet : {A : Type 0} (m : Module A) → m.bytes.items ≡ module_bytes [] → m.rank ≡ 0 → m.functions ≡ None → m.bodies ≡ None
    → m.announced ≡ None → m.segments ≡ None → Holds [] m
none_yet m b r f c a s =
    let o = in_order_none encoding.Module in
    record {
      bytes = b;
      each = o.each;
      order = o.order;
      rank = r;
      functions = ap option_to_list (sym f);
      bodies = ap option_to_list (sym c);
      announced = ap option_to_list (sym a);
      segments = ap option_to_list (sym s);
    }
