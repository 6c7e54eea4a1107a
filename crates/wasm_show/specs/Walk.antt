-- What a walker has seen.
use Rattle.std.specs.Prelude.{◌≡◌, true, false, List, [], ◌∷◌, ◌++◌, Option, None}
use Rattle.std.specs.Option.{is_some}
use Rattle.wasm_base.specs.FaultAt.{fault_at}
use Rattle.wasm_base.specs.Hints.{is_out_of_memory}
use Rattle.wasm_base.specs.declared.error.Error.{Error}
use Rattle.wasm_io.specs.declared.devices.ListError.{ListError}
use Rattle.wasm_show.specs.Seen.{Seen, faulty}

-- A walker has seen all of these since; or a beginning of them, if it has stopped.
pub record HasSeen {W : Type 0} (saw : W → List Seen → W → Type 0) (why : W → Option ListError) (since : W)
    (all : List Seen) (now : W) : Type 0 where
  pub done : List Seen
  pub left : List Seen
  pub is : done ++ left ≡ all
  pub did : saw since done now
  pub rest : why now ≡ None → left ≡ []

-- | what a walker sees, as far as it goes before it stops [`Takes`, `TakesFault`, `HasSeen`] <this project>
-- It has seen these after the others.
abbrev pub Sees : {W : Type 0} → (saw : W → List Seen → W → Type 0) (why : W → Option ListError) → List Seen
    → (old new : W) → Type 0
Sees {W} saw why more old new = (since : W) (all : List Seen) → HasSeen saw why since all old
    → HasSeen saw why since (all ++ more) new

-- These were reported to it, and it sees them; once it has stopped, nothing becomes of them.
pub record Takes {W : Type 0} (saw : W → List Seen → W → Type 0) (why : W → Option ListError) (told : List Seen)
    (old new : W) : Type 0 where
  pub goes : why old ≡ None → (since : W) (done : List Seen) → saw since done old → saw since (done ++ told) new
  pub stays : is_some (why old) ≡ true → new ≡ old

-- A fault was reported to it: out of memory, where it stops, or one of the stream, which it sees.
pub record TakesFault {W : Type 0} (saw : W → List Seen → W → Type 0) (why : W → Option ListError) (e : Error)
    (old new : W) : Type 0 where
  pub one : is_out_of_memory (fault_at e).fault ≡ false → Takes saw why (faulty (fault_at e) ∷ []) old new
  pub none : is_out_of_memory (fault_at e).fault ≡ true → Takes saw why [] old new
  pub stops : is_out_of_memory (fault_at e).fault ≡ true → is_some (why new) ≡ true
