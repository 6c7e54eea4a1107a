-- What visitors of a stream collect, and pass on.
use Rattle.wasm_examples.proofs.Common.{◌≡◌, ℕ, List, [], ◌∷◌, ◌++◌, flat_map, Bor, Result, Ok, Err, sym, ap, subst, ◌∙◌, append-nil}
use Rattle.wasm_examples.proofs.Common.{append_assoc, inl, inr, Window, Error, Event, Visits, ReadsPieces}
use Rattle.wasm_examples.specs.Compiling.{bodies_of}

-- what is so of the events before an end or a fault
pub weaker : {P Q : List Event → Type 0} → ((events : List Event) → P events → Q events) → (pieces : List (Bor (List ℕ)))
    (features : ℕ) (r : Result ℕ Error) → ReadsPieces P pieces features r → ReadsPieces Q pieces features r
weaker f pieces features (Ok most) (all, stores) =
    ((all.0, record { events = all.1.events; reading = all.1.reading; so = f all.1.events all.1.so }), stores)
weaker f pieces features (Err e) (inl m) = inl m
weaker f pieces features (Err e) (inr r) = inr (record { events = r.events; reading = r.reading; so = f r.events r.so })

-- each event adds what it yields
pub collected : {V X : Type 0} (view : V → List X) (of : Event → List X) (v w : V) (events : List Event)
    → Visits (λ (a : V) (e : Event) (b : V). view b ≡ view a ++ of e) v events w → view w ≡ view v ++ flat_map of events
collected view of v w [] h = ap view (sym h) ∙ sym (append-nil (view v))
collected view of v w (e ∷ events) h = collected view of h.0 w events h.2 ∙ (ap (λ x. x ++ flat_map of events) h.1
    ∙ append_assoc (view v) (of e) (flat_map of events))

-- a compiler inside a visitor of a stream is passed what each event has
module _ {C D : Type 0} (compiles : C → Window → C → Type 0) (inside : D → C) where
  visits_append : (v : C) (xs ys : List Window) (u w : C) → Visits compiles v xs u → Visits compiles u ys w
      → Visits compiles v (xs ++ ys) w
  visits_append v [] ys u w h t = subst (λ (x : C). Visits compiles x ys w) (sym h) t
  visits_append v (x ∷ xs) ys u w h t = (h.0, h.1, visits_append h.0 xs ys u w h.2 t)

  pub passed_on : (v w : D) (events : List Event)
      → Visits (λ (a : D) (e : Event) (b : D). Visits compiles (inside a) (bodies_of e) (inside b)) v events w
      → Visits compiles (inside v) (flat_map bodies_of events) (inside w)
  passed_on v w [] h = ap inside h
  passed_on v w (e ∷ events) h =
      visits_append (inside v) (bodies_of e) (flat_map bodies_of events) (inside h.0) (inside w) h.1 (passed_on h.0 w events h.2)
