-- How far a collection of names has come, turn by turn.
use Rattle.wasm_dumper.proofs.Common.{◌≡◌, ◌∷◌, ◌++◌, [], ℕ, Bool, List, Option, Ok, Err, Some, None, refl, sym, Error, Event}
use Rattle.wasm_dumper.proofs.Common.{Feed, ListError, Request, Result, Told, turn_after}
use Rattle.wasm_dumper.specs.Collecting.{Keeps, collect_stages}
use Rattle.wasm_dumper.specs.Requests.{GoesOn}
use Rattle.wasm_dumper.specs.declared.collected.Collected.{Collected}
use Rattle.wasm_io.specs.Calls.{Device}
use Rattle.wasm_streams.specs.Progress.{Asks}
use Rattle.wasm_streams.specs.Visits.{Finishes, GivesOut, MayBegin, MeetsRequest, Met, Taken, TakesStep, since, turned}
use Rattle.wasm_streams.specs.declared.turns.Turn.{Turn}
use Rattle.wasm_streams.specs.declared.turns.Turn.TheVariants as turn
use Rattle.wasm_streams.proofs.ForCallers.{next_asks, next_event, nothing_read}

pub kept : (x : Collected) → Keeps x x
kept x = record { named = λ number name is. is; linked = λ number name is. is }

-- what was kept once and then again
also : (x y z : Collected) → Keeps x y → Keeps y z → Keeps x z
also x y z a b = record {
  named = λ number name is. b.named number name (a.named number name is);
  linked = λ number name is. b.linked number name (a.linked number name is);
}

-- what was done with a request
abbrev pub MetBy : (full : Option (List ℕ)) (input : Device) (f g : Feed) (events : List Event) → Result (Option Error) ListError
    → (before after : Collected) → Type 0
MetBy full input f g events (Ok None) before after = Keeps before after × (more : List Event) × GoesOn full input.after f g more
MetBy full input f g events (Ok (Some e)) before after = Keeps before after
MetBy full input f g events (Err e) before after = Keeps before after

module _ {V : Type 0} where
  pub may_begin : (first : V) (start : Collected) (full : Option (List ℕ)) (had : Bool)
      → MayBegin collect_stages first start full had
  may_begin first start full had =
      record { events = []; reached = nothing_read full; keeps = kept start }

  pub takes : (old new : V) (before after : Collected) (x : Told) → ((hint : ℕ) → x ≡ Request hint → ⊥)
      → (result : Result (Unit {0}) ListError) → Keeps before after → TakesStep collect_stages old before x result new after
  takes old new before after x never result keeps first start input f g same going moves = by (turn_after x) refl result
    where
      still : Keeps start after
      still = also start before after going.keeps keeps

      by : (t : Turn) → turn_after x ≡ t → (result : Result (Unit {0}) ListError)
          → Taken collect_stages first start input f g (turned t result) new after
      by turn.Advance t (Ok done) =
          let (e, is, reached, less) = next_event input.before input.after f going.events going.reached g x moves (sym t) in
          (record { events = going.events ++ e ∷ []; reached = reached; keeps = still }, less)
      by turn.Advance t (Err stop) = still
      by turn.Read t result =
          let (hint, is, asks, less) = next_asks input.before input.after f going.events going.reached g x moves (sym t) in
          absurd (never hint is)
      by (turn.End how) t (Ok done) = still
      by (turn.End how) t (Err stop) = still

  pub requests : (old new : V) (before after : Collected) (input : Device) (f g : Feed) (result : Result (Option Error) ListError)
      → ((full : Option (List ℕ)) (events : List Event) → Asks full input.before f events → MetBy full input f g events result before after)
      → MeetsRequest collect_stages old before input f result new after g
  requests old new before after input f g result m first start full had e hint mid going moves =
      let (h, is, asks, same) = next_asks full input.before e going.events going.reached f (Request hint) moves refl in
      met result (m full going.events asks)
    where
      met : (result : Result (Option Error) ListError) → MetBy full input f g going.events result before after
          → Met collect_stages first start (since full had input) f g result new after
      met (Ok None) (keeps, more, (reached, less)) =
          (record { events = more; reached = reached; keeps = also start before after going.keeps keeps }, less)
      met (Ok (Some e)) keeps = also start before after going.keeps keeps
      met (Err e) keeps = also start before after going.keeps keeps

  pub finishes : (old : V) (out : Collected) (result : Result (Unit {0}) ListError) → Finishes collect_stages old out result out
  finishes old out result first start input how same e = e

  pub gives_out : (old : V) (out : Collected) (e : ListError) → GivesOut collect_stages old out e out
  gives_out old out e first start input f same going = going.keeps
