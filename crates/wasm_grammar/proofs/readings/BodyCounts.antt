-- As many bodies follow the start of a code section as it counts, or a fault comes first.
use Rattle.wasm_grammar.proofs.Common.{arith, ◌≡◌, ◌⊎◌, inl, inr, Bool, true, false, cond, List, [], ◌∷◌, ◌++◌, refl, ap, ℕ, ◌+◌, length}
use Rattle.wasm_grammar.proofs.Common.{sym, ◌∙◌, nat_eq, eqb-true, append_assoc, subst, ◌-◌, length-append, append_cancel_left, All-nil}
use Rattle.wasm_grammar.proofs.Common.{All-push, All, Ending, Tile, tile, final, verdict, section_grammar, body_grammar, events_of, Event}
use Rattle.wasm_grammar.proofs.Common.{last_event, tile_report, event_of, bytes_of, context_of, bodies_left, bytes_left, grammar, Faultless}
use Rattle.wasm_grammar.specs.Reading.{code_start, code_entry}
use Rattle.wasm_grammar.specs.SectionLaws.{BodiesFollowTheirCount}
use Rattle.wasm_grammar.specs.Sections.{ReportsBody, BodiesFollow}
use Rattle.wasm_grammar.proofs.PlainLists.{split_last}
use Rattle.wasm_grammar.proofs.accepted.Parts.{BodyParts, body_parts}
use Rattle.wasm_grammar.proofs.parts.Placed.{placed, headed}
use Rattle.wasm_grammar.proofs.readings.Endings.{inside_end}
use Rattle.wasm_grammar.specs.Grammar

-- where the last element of a list is, or an earlier one, with what is after it
split_end : {X : Type 0} (xs earlier later : List X) (x y : X) → xs ++ x ∷ [] ≡ earlier ++ y ∷ later
    → ((y ≡ x) × (later ≡ [])) ⊎ ((more : List X) × (xs ≡ earlier ++ y ∷ more) × (later ≡ more ++ x ∷ []))
split_end {X} xs earlier later x y e = grind (arith, split_last, append_cancel_left, append_assoc)

-- ---- after a start

-- bodies alone, with those that are missed as many as it counts
record Open (ts : List Tile) (count : ℕ) (after : List Event) : Type 0 where
  each : All ReportsBody after
  misses : length after + bodies_left ts ≡ count

-- as many bodies as it counts, and another event
record Shut (count : ℕ) (after : List Event) : Type 0 where
  bodies : List Event
  next : Event
  later : List Event
  whole : after ≡ bodies ++ next ∷ later
  each : All ReportsBody bodies
  other : ¬ ReportsBody next
  many : length bodies ≡ count

-- further events change nothing
shut_more : (count : ℕ) (after : List Event) (e : Event) → Shut count after → Shut count (after ++ e ∷ [])
shut_more count after e s = grind (arith, append_assoc)

-- a tile more after the bodies so far
open_more : (start features : ℕ) (u : Tile) (ts : List Tile) (t : Tile) (count : ℕ) (after : List Event) (b : Bool)
    → nat_eq (bodies_left (u ∷ ts) + bytes_left (u ∷ ts)) 0 ≡ b → (o : ℕ)
    → verdict (cond b (section_grammar (context_of (u ∷ ts)) o) (body_grammar (bodies_left (u ∷ ts)) (bytes_left (u ∷ ts)) o)) t.bytes
    ≡ tile t → Open (u ∷ ts) count after
    → (Open (t ∷ u ∷ ts) count (after ++ event_of features o t ∷ [])) ⊎ Shut count (after ++ event_of features o t ∷ [])
open_more start features u ts t count after true z o e s = grind (arith, placed)
open_more start features u ts t count after false z o e s =
    let p : BodyParts (bodies_left (u ∷ ts)) (bytes_left (u ∷ ts)) t = grind (arith, body_parts) in
    let h : t.shape ≡ Grammar.code_entry p.content = ap (λ (x : Tile). x.shape) p.is in
    let l : bodies_left (t ∷ u ∷ ts) ≡ bodies_left (u ∷ ts) - 1 = rw h in
    inl (record {
      each = All-push ReportsBody after (event_of features o t) s.each (_, ap (tile_report features o (o + length t.bytes)) h);
      misses = omega (arith, s.misses, p.missing, length-append after (event_of features o t ∷ []));
    })

-- after a start among the events of tiles
follows : (start features : ℕ) (ts : List Tile) → Faultless start ts → (before after : List Event) (e : Event) (count from to size : ℕ)
    → events_of start features ts ≡ before ++ e ∷ after → e.report ≡ code_start count from to size → Open ts count after ⊎ Shut count after
follows start features [] f before after e count from to size z c = absurd (no_split before z)
  where
    no_split : (before : List Event) → [] ≡ before ++ e ∷ after → ⊥
    no_split [] z = cc
    no_split (x ∷ before) z = cc
follows start features (t ∷ ts) f before after e count from to size z c =
    elim (split_end (events_of start features ts) before after (event_of features (start + length (bytes_of ts)) t) e z) [
      | inl q ↦ inl (grind arith)
      | inr q ↦ subst (λ (l : List Event). Open (t ∷ ts) count l ⊎ Shut count l) (sym q.2)
          (more t ts f q.0 (follows start features ts f.0 before q.0 e count from to size q.1 c))
    ]
  where
    started : (t : Tile) (ts : List Tile) (o : ℕ) → e ≡ event_of features o t → after ≡ [] → Open (t ∷ ts) count after
    started t ts o q n =
        let m : bodies_left (t ∷ ts)
        ≡ count = grind arith in
        subst (Open (t ∷ ts) count) (sym n) (record { each = All-nil ReportsBody; misses = omega arith })

    more : (t : Tile) (ts : List Tile) → Faultless start (t ∷ ts) → (l : List Event) → Open ts count l ⊎ Shut count l
        → Open (t ∷ ts) count (l ++ event_of features (start + length (bytes_of ts)) t ∷ [])
        ⊎ Shut count (l ++ event_of features (start + length (bytes_of ts)) t ∷ [])
    more t ts f l (inr s) = inr (shut_more count l _ s)
    more t [] f l (inl s) = inr (grind (arith, headed))
    more t (u ∷ ts) f l (inl s) = open_more start features u ts t count l (nat_eq (bodies_left (u ∷ ts) + bytes_left (u ∷ ts)) 0) refl
        (start + length (bytes_of (u ∷ ts))) f.1 s

-- after a start among the events of a reading, which end with its last event
ends : (start features : ℕ) (ts : List Tile) (rest : List ℕ) (end : Ending) → verdict (grammar start ts) rest ≡ final end
    → (count : ℕ) (after : List Event) → Open ts count after → BodiesFollow count (after ++ last_event end ∷ [])
ends start features ts rest end v count after s = grind (arith, inside_end, eqb-true)

shut_follow : (count : ℕ) (after : List Event) → Shut count after → BodiesFollow count after
shut_follow count after s = grind arith

pub bodies_follow : BodiesFollowTheirCount
bodies_follow stream start features events before after e count from to size r z c =
    elim (split_end (events_of start features r.tiles) before after (last_event r.end) e (sym r.listed ∙ z)) [
      | inl q ↦ absurd (cc)
      | inr q ↦ subst (BodiesFollow count) (sym q.2) (all_of q.0
          (search follows))
    ]
  where
    all_of : (l : List Event) → Open r.tiles count l ⊎ Shut count l → BodiesFollow count (l ++ last_event r.end ∷ [])
    all_of l (inl s) = ends start features r.tiles r.reads.rest r.end r.reads.stops count l s
    all_of l (inr s) = shut_follow count (l ++ last_event r.end ∷ []) (shut_more count l (last_event r.end) s)
