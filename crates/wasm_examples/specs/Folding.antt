-- What the parts of a stream, or the items of a section, come to, one after the other.
use Rattle.std.specs.Prelude.{◌≡◌, ◌⊎◌, ℕ, zero, suc, List, [], ◌∷◌, length, map, nat_eq, Result, Ok, Err}
use Rattle.std.specs.Prelude.{if◌then◌else◌}
use Rattle.wasm_base.specs.FaultAt.{FaultAt, fault_at}
use Rattle.wasm_base.specs.Features.{all_features}
use Rattle.wasm_base.specs.Outcome.{Outcome}
use Rattle.wasm_base.specs.Owned.{out_of_memory}
use Rattle.wasm_base.specs.Section.{at_the_end}
use Rattle.wasm_base.specs.Subsections.{subsection_at, after_refused}
use Rattle.wasm_base.specs.Window.{Window, Place}
use Rattle.wasm_base.specs.declared.error.Error.{Error}
use Rattle.wasm_parser.specs.ParseAll.{event_report}
use Rattle.wasm_grammar.specs.Reading.{Report, Event, Reading}

-- what comes of this, unless it is refused
abbrev pub unless_refused : {A S R : Type 0} → Result A R → (A → Result S R) → Result S R
unless_refused (Ok a) later = later a
unless_refused (Err r) later = Err r

-- ---- items

-- an item and those after it, or its fault, which ends the list
abbrev pub item_and_more : {T : Type 0} → (Place → List (Result T FaultAt)) → Outcome T → List (Result T FaultAt)
item_and_more more (Ok x) = Ok x.0 ∷ more x.1
item_and_more more (Err f) = Err f ∷ []

-- the items of a section: this many from a place on, up to the first fault, and nothing after them
abbrev pub items_at : {T : Type 0} → (Place → Outcome T) → (left : ℕ) → Place → List (Result T FaultAt)
items_at read zero p = at_the_end p
items_at read (suc left) p = item_and_more (λ q. items_at read left q) (read p)

-- a subsection and those after it; or the fault of its id or size, and those after that
abbrev pub subsection_and_more : {T : Type 0} → (ℕ → Window → Result T FaultAt) → Place
    → (Place → List (Result T FaultAt)) → Outcome (ℕ × Window) → List (Result T FaultAt)
subsection_and_more reading p more (Ok head) = reading head.0.0 head.0.1 ∷ more head.1
subsection_and_more reading p more (Err f) = Err f ∷ more (after_refused p)

-- the subsections from a place on, at most `most`
abbrev pub subsections_from : {T : Type 0} → (ℕ → Window → Result T FaultAt) → (most : ℕ) → Place
    → List (Result T FaultAt)
subsections_from reading zero p = []
subsections_from reading (suc most) p = if nat_eq (length p.rest) 0 then [] else
    subsection_and_more reading p (λ q. subsections_from reading most q) (subsection_at p)

-- the subsections from a place on. Each takes a byte at least, so there are no more of them than bytes.
abbrev pub subsections_at : {T : Type 0} → (ℕ → Window → Result T FaultAt) → Place → List (Result T FaultAt)
subsections_at reading p = subsections_from reading (length p.rest) p

-- what items make of this, in order, up to the first that is refused or a fault
abbrev pub after_each : {S T R : Type 0} (refusal : FaultAt → R) (step : S → T → Result S R) → S
    → List (Result T FaultAt) → Result S R
after_each refusal step s [] = Ok s
after_each refusal step s (Ok x ∷ later) = unless_refused (step s x) (λ t. after_each refusal step t later)
after_each refusal step s (Err f ∷ later) = Err (refusal f)

-- the same where items are only added, and a fault is the outcome
abbrev pub with_each : {S T : Type 0} (add : S → T → S) → S → List (Result T FaultAt) → Result S FaultAt
with_each add s [] = Ok s
with_each add s (Ok x ∷ later) = with_each add (add s x) later
with_each add s (Err f ∷ later) = Err f

-- ---- parts of a stream

-- | what the parts of a stream make of a starting value, one after the other [`ReadsTo`]
-- what parts make of this, in order, up to the first that is refused
abbrev pub after_all : {S R : Type 0} → (S → Report → Result S R) → S → List Report → Result S R
after_all step s [] = Ok s
after_all step s (r ∷ later) = unless_refused (step s r) (λ t. after_all step t later)

-- The fold of a stream's parts from a start value, by its reading with all features from offset 0.
pub record ReadsTo {S R : Type 0} (step : S → Report → Result S R) (begin : S) (stream : List ℕ) (end : Result S R)
    : Type 0 where
  pub events : List Event
  pub reading : Reading stream 0 all_features events
  pub made : after_all step begin (map event_report events) ≡ end

-- This is what a call that takes a part comes to: its value, or why its error refuses the part; or an allocation
-- failed.
abbrev pub ComesTo : {S R E : Type 0} (is_memory : E → Type 0) (reason : E → R) → Result S R → Result (Unit {0}) E
    → (after : S) → Type 0
ComesTo is_memory reason of (Ok done) after = of ≡ Ok after
ComesTo is_memory reason of (Err e) after = is_memory e ⊎ (of ≡ Err (reason e))

-- A call returned this fold of a stream's parts, or why it is refused; or an allocation failed.
abbrev pub ReturnsFold : {S R T E : Type 0} (is_memory : E → Type 0) (reason : E → R) (view : T → S)
    (step : S → Report → Result S R) (begin : S) (stream : List ℕ) → Result T E → Type 0
ReturnsFold is_memory reason view step begin stream (Ok x) = ReadsTo step begin stream (Ok (view x))
ReturnsFold is_memory reason view step begin stream (Err e) = is_memory e ⊎ ReadsTo step begin stream (Err (reason e))

-- Both where an error is a fault.
abbrev pub IsMemory : Error → Type 0
IsMemory e = fault_at e ≡ out_of_memory

abbrev pub FoldsTo : {S : Type 0} → Result S FaultAt → Result (Unit {0}) Error → (after : S) → Type 0
FoldsTo = ComesTo IsMemory fault_at

abbrev pub IsFold : {S T : Type 0} (view : T → S) (step : S → Report → Result S FaultAt) (begin : S) (stream : List ℕ)
    → Result T Error → Type 0
IsFold = ReturnsFold IsMemory fault_at
