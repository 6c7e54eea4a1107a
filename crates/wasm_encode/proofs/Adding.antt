-- A section that is added to a module.
use Rattle.std.proofs.Common.{◌≡◌, ℕ, ◌+◌, ◌≤◌, ◌<◌, ◌^◌, List, [], ◌∷◌, ◌++◌}
use Rattle.std.proofs.Common.{refl, ap, sym, ◌∙◌, arith, length, length-append, take, take_all}
use Rattle.std.proofs.Common.{drop, replicate, subst, Err}
use Rattle.std.proofs.Math.Seq.{take-append_seam}
use Rattle.std.proofs.lemmas.Grind.{common_steps}
use Rattle.std.proofs.lemmas.List.{length-replicate}
use Rattle.wasm_base.specs.Number.{number}
use Rattle.wasm_base.specs.declared.fault.NumberKind.TheVariants.{VarU32}
use Rattle.wasm_encode.specs.Frames.{frame_of}
use Rattle.wasm_encode.specs.Modules.{Adds, AdmitsFrame, Holds, Keeps, Notes}
use Rattle.wasm_encode.specs.Numbers.{unsigned_bytes}
use Rattle.wasm_encode.specs.Sections.{content_bytes, items_bytes}
use Rattle.wasm_encode.specs.declared.modules.Module.{Module}
use Rattle.wasm_encode.specs.declared.modules.Refused.{Refused}
use Rattle.wasm_encode.specs.declared.modules.Refused.TheVariants.{Order, Count, Item, Size, Memory}
use Rattle.wasm_encode.proofs.Admitting.{admits}
use Rattle.wasm_encode.proofs.FramesBack.{alone}
use Rattle.wasm_encode.proofs.Growing.{as_before, one_more}
use Rattle.wasm_encode.proofs.NumbersBack.{unsigned_back}
use Rattle.wasm_grammar.specs.Accepted.{FitsAfter, IsFrame, SectionFrame, frame_bytes, frame_count}
use Rattle.wasm_grammar.specs.Content.{value_of}
use Rattle.wasm_grammar.specs.Ids.{custom_id}
use Rattle.wasm_grammar.specs.declared.encoding.Encoding.TheVariants as encoding

-- bytes that were written in room at the end
pub at_the_end : (old now new piece : List ℕ) (at end size : ℕ) → at ≡ length old → now ≡ old ++ replicate size 0 → size ≡ length piece
    → end ≡ at + length piece → take end new ≡ take at now ++ piece → length new ≡ length now → new ≡ old ++ piece
at_the_end old now new piece at end size begins grown long ends written kept =
    let size_of : length now ≡ length old + size = ap length grown ∙ (length-append old (replicate size 0)
    ∙ ap (λ (n : ℕ). length old + n) (length-replicate size 0)) in
    sym (take_all end new (omega (arith, kept, size_of, begins, long, ends)))
    ∙ (written ∙ ap (λ (xs : List ℕ). xs ++ piece) (ap (λ (xs : List ℕ). take at xs) grown
    ∙ (ap (λ (n : ℕ). take n (old ++ replicate size 0)) begins ∙ take-append_seam old (replicate size 0))))

-- what a vector holds once its bytes were written
pub held : (len : ℕ) (new now : List ℕ) → len ≡ length new → take len (new ++ drop (length new) now) ≡ new
held len new now e = ap (λ (n : ℕ). take n (new ++ drop (length new) now)) e ∙ take-append_seam new (drop (length new) now)

-- the room that was made is enough
pub has_room : (old now piece : List ℕ) (at size : ℕ) → at ≡ length old → now ≡ old ++ replicate size 0 → size ≡ length piece
    → at + length piece ≤ length now
has_room old now piece at size begins grown long =
    let size_of : length now ≡ length old + size = ap length grown ∙ (length-append old (replicate size 0)
    ∙ ap (λ (n : ℕ). length old + n) (length-replicate size 0)) in
    omega (arith, size_of, begins, long)

nothing_noted : {A : Type 0} (count : ℕ) (m : Module A) → Notes custom_id count m m
nothing_noted count m = record {
  bytes = refl;
  rank = grind (arith, common_steps);
  functions = refl;
  bodies = refl;
  announced = refl;
  segments = refl;
}

module _ {A : Type 0} (before : List SectionFrame) (old : Module A) (h : Holds before old) (f : SectionFrame) where
  pub not_admitted : (why : Refused) → AdmitsFrame before f (Err why) → Adds before f (Err why) old
  not_admitted Order a = (h, a)
  not_admitted Count a = (h, a.0, a.1)
  not_admitted (Item index) a = absurd a
  not_admitted Size a = absurd a
  not_admitted Memory a = absurd a

  pub not_grown : (why : Refused) (new : Module A) → FitsAfter encoding.Module before f → why ≡ Memory → Keeps old new
      → new.bytes.items ≡ old.bytes.items → Adds before f (Err why) new
  not_grown why new fits is keeps bytes =
      subst (λ (x : Refused). Adds before f (Err x) new) (sym is) (as_before before old new h keeps bytes, fits)

  -- a section that may come anywhere, of which nothing is kept
  pub anywhere : f.id ≡ custom_id → FitsAfter encoding.Module before f
  anywhere is = admits before old h f (rw is refl) (rw is refl)

  pub added_anywhere : (mid : Module A) → IsFrame encoding.Module f → f.id ≡ custom_id → Keeps old mid
      → mid.bytes.items ≡ old.bytes.items ++ frame_bytes f → Holds (before ++ f ∷ []) mid
  added_anywhere mid good is keeps bytes =
      one_more before old mid mid h f good (anywhere is) custom_id (frame_count f) is refl keeps (nothing_noted (frame_count f) mid) bytes

-- the count that a section of items begins with
pub counted : {T : Type 0} (encoded : T → List ℕ) (id : ℕ) (xs : List T) → length xs < 2 ^ 32
    → frame_count (frame_of id (content_bytes encoded xs)) ≡ length xs
counted encoded id xs few = ap value_of (unsigned_back VarU32 (length xs) (items_bytes encoded xs) refl few)

-- the number that a section is
pub numbered : (id number : ℕ) → number < 2 ^ 32 → frame_count (frame_of id (unsigned_bytes number)) ≡ number
numbered id number few = ap value_of (alone number few)
