-- How far a visit of a stream in chunks has come.
use Rattle.wasm_examples.proofs.Common.{◌≡◌, ℕ, ◌+◌, ◌<◌, ◌^◌, Bool, true, false, List, [], ◌∷◌, ◌++◌, length, max, Bor, nat_lt}
use Rattle.wasm_examples.proofs.Common.{ltb-true, ltb-false, Result, Ok, Err, refl, sym, ap, subst, ◌∙◌, arith, length-append}
use Rattle.wasm_examples.proofs.Common.{append_assoc, append-nil, inl, inr, fault_at, out_of_memory, Error, joined, Came, is_end, Event}
use Rattle.wasm_examples.proofs.Common.{Reading, report_of, Payload, answers_go_along, part, Visits, StoresLittle, VisitsNext}
use Rattle.wasm_examples.proofs.Common.{VisitsStream, cond}
use Rattle.wasm_feed.specs.Steps.{Steps, told}
use Rattle.wasm_feed.specs.declared.feeder.Step.{Step}
use Rattle.wasm_feed.specs.declared.feeder.Step.TheVariants.{Parsed}
use Rattle.wasm_frames.specs.GivesNextEvent.{IsUndecided, MayBe}
use Rattle.wasm_streams.specs.Feed.{Feed, new_feed, pushed, finished, RefusesPush}
use Rattle.wasm_streams.specs.FeedersLaws.{IsAlong}
use Rattle.wasm_streams.specs.Step.{Stepped}
use Rattle.wasm_streams.proofs.ForCallers.{feeders_go_along, feeders_wait}
use Rattle.wasm_examples.specs.declared.visits.Done.TheVariants as done

-- a part other than the end shows some bytes
pub smaller : {f g : Feed} {bytes : Bor (List ℕ)} {payload : Payload} → Steps f (Ok (Parsed bytes payload)) g
    → is_end (report_of payload) ≡ false → length g.held < length f.held
smaller {f} {g} {bytes} {payload} s goes =
    let n : length f.held ≡ length bytes.now + length g.held =
    ap (λ (x : List ℕ). length x) s.moves.shows ∙ length-append bytes.now g.held in
    let some : 0 < length bytes.now = feeders_go_along.shows_some f g (report_of payload) bytes.now s.moves goes in
    omega (arith, n, some)

module _ {V : Type 0} (takes : V → Event → V → Type 0) where
  -- one event more
  visits_more : (v : V) (events : List Event) (e : Event) (u w : V) → Visits takes v events u → takes u e w
      → Visits takes v (events ++ e ∷ []) w
  visits_more v [] e u w h t = (w, subst (λ (x : V). takes x e w) (sym h) t, refl)
  visits_more v (x ∷ events) e u w h t = (h.0, h.1, visits_more h.0 events e u w h.2 t)

  -- The feeder received these bytes of the stream, and these chunks remain. Visited were the parts that it passed.
  pub record Visited (features : ℕ) (stream : List ℕ) (begun : V) (f : Feed) (rest : List (Bor (List ℕ))) (now : V) (most : ℕ)
      : Type 0 where
    pub given : List ℕ
    pub whole : stream ≡ given ++ joined rest
    pub may_be : MayBe f.eof given stream
    pub events : List Event
    pub is_along : IsAlong 0 features given f events
    pub visits : Visits takes begun events now
    pub stores : StoresLittle features stream most

  pub begun : (features : ℕ) (pieces rest : List (Bor (List ℕ))) (now : V) → rest ≡ pieces
      → Visited features (joined pieces) now (new_feed 0 features) rest now 0
  begun features pieces rest now is = record {
    given = [];
    whole = ap joined (sym is);
    may_be = (joined pieces, refl);
    events = [];
    is_along = feeders_go_along.begins 0 features;
    visits = refl;
    stores = inl refl;
  }

  module _ {features : ℕ} (pieces : List (Bor (List ℕ))) {start : V} {f : Feed} {rest : List (Bor (List ℕ))} {now : V} {most : ℕ}
      (v : Visited features (joined pieces) start f rest now most) (small : length (joined pieces) < 2 ^ 64) where
    abbrev stream : List ℕ
    stream = joined pieces

    within : length v.given < 2 ^ 64
    within = omega (arith, small, ap (λ (x : List ℕ). length x) v.whole ∙ length-append v.given (joined rest))

    -- what a step says of the stream
    stepped : {x : Result Step Error} {g : Feed} → Steps f x g → Stepped 0 features f.eof v.given v.events (told x) g.state g.held
    stepped {x} {g} s = feeders_go_along.steps 0 features v.given f g v.events (told x) v.is_along (omega (arith, within)) s.moves

    module _ (g : Feed) (after : V) where
      -- a part was visited
      pub visited : VisitsNext takes f now (Ok done.Visited) g after → Visited features stream start g rest after most
      visited (bytes, payload, s, goes, t) =
          let came : Came 0 features f.eof v.given v.events bytes.now (report_of payload) g.state g.held = stepped s in
          let same : part bytes.now payload ≡ came.event = (λ i. record { report = came.is_report i; consumed = sym came.consumed i }) in
          record {
            given = v.given;
            whole = v.whole;
            may_be = rw s.moves.eof v.may_be;
            events = v.events ++ came.event ∷ [];
            is_along = (came.goes_on goes).0;
            visits = visits_more start v.events came.event now after v.visits (subst (λ (e : Event). takes now e after) same t);
            stores = v.stores;
          }

      pub visited_less : VisitsNext takes f now (Ok done.Visited) g after
          → length g.held + length (joined rest) + length rest + cond g.eof 0 1
          < length f.held + length (joined rest) + length rest + cond f.eof 0 1
      visited_less (bytes, payload, s, goes, t) = rw s.moves.eof (omega (arith, smaller s goes))

      -- the end arrived
      pub ended_there : VisitsNext takes f now (Ok done.Ended) g after → VisitsStream takes pieces features start (Ok most) after
      ended_there (bytes, payload, s, is, same) =
          let came : Came 0 features f.eof v.given v.events bytes.now (report_of payload) g.state g.held = stepped s in
          let (offset, last) = came.last is in
          rw same (
            (
              offset,
              record {
                events = v.events;
                reading = subst (λ (e : Event). Reading stream 0 features (v.events ++ e ∷ [])) last (came.ends is stream v.may_be);
                so = v.visits;
              },
            ),
            v.stores,
          )

      -- a fault arrived, or an allocation failed
      pub stopped : (e : Error) → VisitsNext takes f now (Err e) g after → VisitsStream takes pieces features start (Err e) after
      stopped e (inl memory) = inl memory
      stopped e (inr (s, same)) = rw same (inr (record { events = v.events; reading = (stepped s).0 stream v.may_be; so = v.visits }))

      -- more was asked for
      module _ (n : VisitsNext takes f now (Ok done.Asked) g after) where
        abbrev undecided : IsUndecided g.state g.eof g.held n.0
        undecided = feeders_go_along.asks f g n.0 n.1.moves

        along : IsAlong 0 features v.given g v.events
        along = (stepped n.1).1

        -- all chunks came
        pub finishes : {later : List (Bor (List ℕ))} → length rest ≡ 0 → later ≡ rest
            → Visited features stream start (finished g) later after most
        finishes {later} none is = record {
          given = v.given;
          whole = rw is v.whole;
          may_be = by_rest rest none v.whole;
          events = v.events;
          is_along = feeders_go_along.finishes 0 features v.given g v.events along;
          visits = rw n.2 v.visits;
          stores = v.stores;
        }
          where
            by_rest : (l : List (Bor (List ℕ))) → length l ≡ 0 → stream ≡ v.given ++ joined l → stream ≡ v.given
            by_rest [] e w = w ∙ append-nil v.given
            by_rest (x ∷ l) e w = cc

        module _ {piece : Bor (List ℕ)} {later : List (Bor (List ℕ))} (first : rest ≡ piece ∷ later) where
          whole : stream ≡ v.given ++ (piece.now ++ joined later)
          whole = rw first at v.whole

          -- a push below the top of the offsets fails only when out of memory
          pub push_refused : {e : Error} → RefusesPush g piece.now (Err e) → fault_at e ≡ out_of_memory
          push_refused r = r.within (omega (
            arith,
            small,
            answers_go_along.ends 0 features v.given g.state g.held v.events along,
            ap (λ (x : List ℕ). length x) whole ∙ length-append v.given (piece.now ++ joined later),
            length-append piece.now (joined later),
          ))

          -- the bytes that are stored with the chunk
          stored : (most' : ℕ) → most' ≡ max (pushed g piece.now).stored most → StoresLittle features stream most'
          stored most' m = by_greater (nat_lt most (pushed g piece.now).stored) refl
            where
              by_greater : (b : Bool) → nat_lt most (pushed g piece.now).stored ≡ b → StoresLittle features stream most'
              by_greater false t = let l = ltb-false most (pushed g piece.now).stored t in
                  subst (StoresLittle features stream) (let z : most ≡ most' = omega (arith, l, m) in z) v.stores
              by_greater true t = inr (record {
                given = v.given;
                p = g.state;
                held = g.held;
                events = v.events;
                is_along = along;
                need = undecided.1.0;
                hint = n.0;
                asks = undecided.1.1;
                piece = piece.now;
                later = joined later;
                whole = whole;
                less = omega (
                  arith,
                  m,
                  ltb-true most (pushed g piece.now).stored t,
                  feeders_wait.bounded g piece.now undecided.1.0 n.0 undecided.1.1,
                );
              })

          pub pushes : {most' : ℕ} → most' ≡ max (pushed g piece.now).stored most
              → Visited features stream start (pushed g piece.now) later after most'
          pushes {most'} m = record {
            given = v.given ++ piece.now;
            whole = whole ∙ sym (append_assoc v.given piece.now (joined later));
            may_be = rw undecided.0 (joined later, whole ∙ sym (append_assoc v.given piece.now (joined later)));
            events = v.events;
            is_along = feeders_go_along.pushes 0 features v.given g v.events piece.now along;
            visits = rw n.2 v.visits;
            stores = stored most' m;
          }
