-- What a step adds to the events so far.
use Rattle.wasm_feed.proofs.Common.{◌≡◌, ℕ, ◌+◌, ◌^◌, ◌<◌, Bool, true, false, List, [], ◌∷◌, ◌++◌, length, take, drop, slice_index_or}
use Rattle.wasm_feed.proofs.Common.{Bor, Some, None, Ok, refl, sym, ap, subst₂, ◌∙◌, arith, length-append, nat_tests}
use Rattle.wasm_feed.proofs.Common.{fault_at, Error, fault, last_event, answers_go_along, Came, is_end}
use Rattle.wasm_feed.proofs.Common.{Feed, new_feed, pushed, finished, joined, HasCome, HasEnded, answer_of}
use Rattle.wasm_feed.proofs.Common.{Told, Request, Part, Stop, Moves}
use Rattle.std.specs.List.{AllZip}
use Rattle.wasm_frames.specs.Frame.{IsPartOrEnd}
use Rattle.wasm_feed.specs.Events.{IsKindOf, IsEvent, is_last, IsEventOfStep}
use Rattle.wasm_feed.specs.Pieces.{IsReading, GivenTo, ReadsHeld}
use Rattle.wasm_feed.specs.declared.events.Event.{Event}
use Rattle.wasm_feed.specs.declared.events.EventKind.{EventKind}
use Rattle.wasm_feed.proofs.Joining.{joined_more, joined_parts}
use Rattle.wasm_streams.proofs.ForCallers.{stepped}
use Rattle.wasm_grammar.specs.Reading as reading
use Rattle.wasm_grammar.specs.Reading.{Report}

-- the end alone is the last part
last_is_end : (report : Report) (kind : EventKind) → IsPartOrEnd report → IsKindOf report kind → is_last kind ≡ is_end report
last_is_end report kind p h = grind arith

fault_is_last : (e : Error) (kind : EventKind) → IsKindOf (last_event (fault (fault_at e))).report kind → is_last kind ≡ true
fault_is_last e kind h = grind arith

-- the event that a step gave
came_is : {A : Type 0} (start features : ℕ) (eof : Bool) (given : List ℕ) (events : List reading.Event) (bytes : List ℕ) (report : Report)
    (f : Feed) (value : Event A)
    → (c : Came start features eof given events bytes report f.state f.held)
    → IsEvent (record { report = report; consumed = bytes }) value → IsEvent c.event value
came_is start features eof given events bytes report f value c i = grind arith

-- one event more
all_more : {X Y : Type 0} (R : X → Y → Type 0) (xs : List X) (ys : List Y) (x : X) (y : Y) → AllZip R xs ys → R x y
    → AllZip R (xs ++ x ∷ []) (ys ++ y ∷ [])
all_more R [] [] x y h r = (r, tt)
all_more R (a ∷ xs) (b ∷ ys) x y h r = (h.0, all_more R xs ys x y h.1 r)
all_more R _ _ x y h r = absurd h

-- ---- a step, by what is made of it

module _ {A : Type 0} (start features : ℕ) (given : List ℕ) (f g : Feed) (values : List (Event A))
    (h : HasCome start features given f values) (l : start + length given < 2 ^ 64) where
  -- more is asked for
  pub asks : (x : Told) → Moves f x g → IsEventOfStep {A = A} x None → HasCome start features given g values × (f.eof ≡ false)
  asks x s i = grind (arith, stepped)

  -- an event arrived, and is not the last one
  pub adds : (x : Told) (value : Event A) → Moves f x g → IsEventOfStep x (Some value) → is_last value.kind ≡ false
      → HasCome start features given g (values ++ value ∷ [])
  adds (Request hint) value s i n = absurd i
  adds (Part report bytes) value s i n =
      let u : Came start features f.eof given h.0 bytes report g.state g.held =
      stepped start features given f.state f.held h.0 h.1 f.eof (Part report bytes) g.state g.held l s.parses s.shows in
      let p : IsPartOrEnd report = answers_go_along.is_part f.state g.state f.eof f.held report (length bytes) s.parses in
      grind (arith, last_is_end, all_more, came_is)
  adds (Stop e) value s i n = let no : true ≡ false = sym (fault_is_last e value.kind i.kind) ∙ n in cc

  -- the last event arrived
  pub ends : (x : Told) (value : Event A) → Moves f x g → IsEventOfStep x (Some value) → is_last value.kind ≡ true
      → HasEnded start features f.eof given (values ++ value ∷ [])
  ends (Request hint) value s i n = absurd i
  ends (Part report bytes) value s i n =
      let u : Came start features f.eof given h.0 bytes report g.state g.held =
      stepped start features given f.state f.held h.0 h.1 f.eof (Part report bytes) g.state g.held l s.parses s.shows in
      let p : IsPartOrEnd report = answers_go_along.is_part f.state g.state f.eof f.held report (length bytes) s.parses in
      let over : is_end report ≡ true = grind (arith, last_is_end) in (
        h.0 ++ u.event ∷ [],
        u.ends over,
        search (all_more, came_is),
      )
  ends (Stop e) value s i n =
      let u = stepped start features given f.state f.held h.0 h.1 f.eof (Stop e) g.state g.held l s.parses s.shows in
      (search all_more)

-- there is less to read after an event that is not the last one
pub fewer : {A : Type 0} (f g : Feed) (x : Told) (value : Event A) → Moves f x g → IsEventOfStep x (Some value)
    → is_last value.kind ≡ false → length g.held < length f.held
fewer f g (Request hint) value s i n = absurd i
fewer f g (Part report bytes) value s i n =
    let c = answers_go_along.consumes f.state g.state f.eof f.held (answer_of (Part report bytes)) s.parses in
    let p : IsPartOrEnd report = answers_go_along.is_part f.state g.state f.eof f.held report (length bytes) s.parses in
    grind (arith, length-append, nat_tests)
fewer f g (Stop e) value s i n = let no : true ≡ false = sym (fault_is_last e value.kind i.kind) ∙ n in cc

-- ---- the chunks

pub come_begins : {A : Type 0} (start features : ℕ) → HasCome {A = A} start features [] (new_feed start features) []
come_begins start features = ([], answers_go_along.begins start features, tt)

pub come_pushed : {A : Type 0} (start features : ℕ) (given : List ℕ) (f : Feed) (values : List (Event A)) (piece : List ℕ)
    → HasCome start features given f values → HasCome start features (given ++ piece) (pushed f piece) values
come_pushed start features given f values piece h = (h.0, answers_go_along.more start features given f.state f.held h.0 piece h.1, h.2)

pub come_finished : {A : Type 0} (start features : ℕ) (given : List ℕ) (f g : Feed) (values : List (Event A)) → g ≡ finished f
    → HasCome start features given f values → HasCome start features given g values
come_finished start features given f g values e h = rw e (h.0, h.1, h.2)

module _ {A : Type 0} (start features : ℕ) (pieces : List (Bor (List ℕ))) (i : ℕ) (d : Bor (List ℕ)) (f mid new : Feed)
    (before after : List (Event A)) (b : i < length pieces) (l : start + length (joined pieces) < 2 ^ 64)
    (h : HasCome start features (joined (take i pieces)) f before) (e : mid ≡ pushed f (slice_index_or pieces i d).now) where
  -- one more chunk was given
  given : HasCome start features (joined (take (i + 1) pieces)) mid before
  given =
      subst₂ (λ (x : List ℕ) (y : Feed). HasCome start features x y before) (sym (joined_more pieces i d b)) (sym e)
      (search come_pushed)

  within : start + length (joined (take (i + 1) pieces)) < 2 ^ 64
  within =
      let n : length (joined pieces) ≡ length (joined (take (i + 1) pieces)) + length (joined (drop (i + 1) pieces)) =
      ap (λ (x : List ℕ). length x) (joined_parts pieces (i + 1))
      ∙ length-append (joined (take (i + 1) pieces)) (joined (drop (i + 1) pieces)) in
      omega (arith, n, l)

  abbrev is_given : GivenTo mid before
  is_given = record { start = start; features = features; given = joined (take (i + 1) pieces); has_come = given; below = within }

  -- and more are wanted
  pub next_piece : ReadsHeld mid before (Ok false) new after → HasCome start features (joined (take (i + 1) pieces)) new after
  next_piece r = (r is_given).0

  -- and the last event arrived
  pub last_piece : mid.eof ≡ false → ReadsHeld mid before (Ok true) new after → IsReading (joined pieces) start features after
  last_piece goes r =
      let z : HasEnded start features false (joined (take (i + 1) pieces)) after =
      rw goes at (r is_given) in
      (z.0, z.1 (joined pieces) (joined (drop (i + 1) pieces), joined_parts pieces (i + 1)), z.2)

-- all was given
pub ended_last : {A : Type 0} (start features : ℕ) (given : List ℕ) (old new : Feed) (before after : List (Event A)) (over : Bool)
    → HasCome start features given old before → start + length given < 2 ^ 64 → old.eof ≡ true
    → ReadsHeld old before (Ok over) new after → IsReading given start features after
ended_last start features given old new before after true h l e r =
    let z : HasEnded start features true given after =
    rw e at (r (record { start = start; features = features; given = given; has_come = h; below = l })) in
    (z.0, z.1 given refl, z.2)
ended_last start features given old new before after false h l e r = let no : true ≡ false = sym e
    ∙ (r (grind (arith, given))).1 in cc
