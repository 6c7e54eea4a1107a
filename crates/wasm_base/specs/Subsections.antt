-- Subsections of a window. Tool conventions, Linking, Linking Metadata Section; core specification, Appendix, Custom
-- Sections, Name Section, Subsections.
use Rattle.std.specs.Prelude.{◌≡◌, ℕ, ◌<◌, ◌≤◌, ◌⊎◌, Bool, false, IsTrue, List, [], ◌∷◌, length, Option, Some, None}
use Rattle.std.specs.Prelude.{Result, Ok, Err, map}
use Rattle.std.specs.Iterator.{Drains}
use Rattle.wasm_base.specs.FaultAt.{FaultAt}
use Rattle.wasm_base.specs.Hints.{NotOutOfMemory}
use Rattle.wasm_base.specs.Name.{u7_at, window_at}
use Rattle.wasm_base.specs.Number.{after_number}
use Rattle.wasm_base.specs.Outcome.{Outcome, ◌>>=◌}
use Rattle.wasm_base.specs.Owned.{out_of_memory}
use Rattle.wasm_base.specs.Section.{item_or_fault}
use Rattle.wasm_base.specs.Window.{Window, Place, place, advanced, KeepsWindow}
use Rattle.wasm_base.specs.declared.error.Error.{Error}
use Rattle.wasm_base.specs.declared.fault.NumberKind.TheVariants.{VarU32}

-- | the id of a subsection and its window: a byte below 128, a size and as many bytes <Appendix, Name Section,
--   Subsections; tool conventions, Linking>
unfoldable pub subsection_at : Place → Outcome (ℕ × Window)
subsection_at p = do
  id ← u7_at p
  window ← window_at id.1
  Ok ((id.0, window.0), window.1)

-- the place after an id, and after the size that follows an id below 128
abbrev pub after_id : Place → Outcome ℕ → Place
after_id p (Ok id) = after_number VarU32 id.1
after_id p (Err fault) = advanced 1 p

-- where the next subsection begins after the fault of an id or a size: after the bytes that reading them takes
unfoldable pub after_refused : Place → Place
after_refused p = after_id p (u7_at p)

-- | what is returned for a subsection is what its id and its window mean, or out of memory if it allocates; one
--   outcome, as far as a view goes [`MeansSubsection`, `ReadsWindowAs`]
-- The result of a subsection is what its id and its window mean, or out of memory if it may allocate.
abbrev pub UnlessTaken : {T : Type 0} → (ℕ → Window → Result T FaultAt → Type 0) → Bool → ℕ → Window → Result T FaultAt
    → Type 0
UnlessTaken meaning takes id window (Ok x) = meaning id window (Ok x)
UnlessTaken meaning takes id window (Err e) = meaning id window (Err e) ⊎ (IsTrue takes × (e ≡ out_of_memory))

-- What a call returned for a subsection of this id is what its window means.
abbrev pub MeansSubsection : {T : Type 0} → (ℕ → Window → Result T FaultAt → Type 0) → Bool → ℕ → Window
    → Result T Error → Type 0
MeansSubsection meaning takes id window result = UnlessTaken meaning takes id window (item_or_fault result)

-- The subsection that was read at a place means this, and its reader is after it; or its id or size has this fault, and
-- its reader is after the bytes that reading them takes.
abbrev pub ReadsSubsection : {T : Type 0} → (ℕ → Window → Result T FaultAt → Type 0) → Bool → Place
    → Outcome (ℕ × Window) → Result T Error → Place → Type 0
ReadsSubsection meaning takes p (Ok head) given after = MeansSubsection meaning takes head.0.0 head.0.1 given
    × (after ≡ head.1)
ReadsSubsection meaning takes p (Err fault) given after = (item_or_fault given ≡ Err fault) × (after ≡ after_refused p)

-- | what one call of `next` over subsections returns; what all calls together return [`GivesSubsections`] <Appendix,
--   Name Section, Subsections; this project>
-- one call of `next`: a subsection as long as bytes remain, and each consumes at least one of them; never out of memory
-- if no subsection allocates
abbrev pub NextSubsection : {T : Type 0} → (ℕ → Window → Result T FaultAt → Type 0) → Bool → Window
    → Option (Result T Error) → Window → Type 0
NextSubsection meaning takes s None t = (length (place s).rest ≡ 0) × (t ≡ s)
NextSubsection meaning takes s (Some given) t = ReadsSubsection meaning takes (place s) (subsection_at (place s)) given
    (place t) × KeepsWindow s t × (s.position < t.position) × (0 < length (place s).rest)
    × (takes ≡ false → NotOutOfMemory given)

-- What comes first of the subsections of a window: what the first one means, and the others are those after it. After
-- the fault of an id or a size the others are those after the bytes that reading these takes.
abbrev pub FirstSubsection : {T : Type 0} → (ℕ → Window → Result T FaultAt → Type 0) → Place → Outcome (ℕ × Window)
    → Result T FaultAt → (Place → Type 0) → Type 0
FirstSubsection meaning p (Ok head) given Others = meaning head.0.0 head.0.1 given × Others head.1
FirstSubsection meaning p (Err fault) given Others = (given ≡ Err fault) × Others (after_refused p)

-- | the subsections of a window, one after the other to its end. If an id or a size has a fault, the next subsection
--   begins after the bytes that were consumed to read it <Appendix, Name Section, Subsections; this project>
-- The subsections that a window has from a place on, one after the other to the end.
abbrev pub SubsectionsOf : {T : Type 0} → (ℕ → Window → Result T FaultAt → Type 0) → Place → List (Result T FaultAt)
    → Type 0
SubsectionsOf meaning p [] = length p.rest ≡ 0
SubsectionsOf meaning p (x ∷ given) = (0 < length p.rest)
    × FirstSubsection meaning p (subsection_at p) x (λ q. SubsectionsOf meaning q given)

-- What calls of `next` return from here up to the first `None`, by a relation that each call meets: the subsections of
-- the window, at most as many as bytes remain. After that `None`, every call returns `None`.
pub record GivesSubsections {T : Type 0} (next : Window → Option (Result T Error) → Window → Type 0)
    (meaning : ℕ → Window → Result T FaultAt → Type 0) (s : Window) : Type 0 where
  pub subsections : (given : List (Result T Error)) → Drains next s given
      → SubsectionsOf meaning (place s) (map item_or_fault given)
  pub at_most : (given : List (Result T Error)) → Drains next s given → length given ≤ length (place s).rest
  pub after : (t u : Window) (given : Option (Result T Error)) → next s None t → next t given u → given ≡ None

-- the result, where view is what counts of a value
abbrev pub result_map : {X Y : Type 0} → (X → Y) → Result X FaultAt → Result Y FaultAt
result_map view (Ok x) = Ok (view x)
result_map view (Err e) = Err e

-- The one thing that a subsection's id and window are read as, where view is what counts of a value.
abbrev pub ReadsWindowAs : {X Y : Type 0} → (X → Y) → (ℕ → Window → Result Y FaultAt) → ℕ → Window → Result X FaultAt
    → Type 0
ReadsWindowAs view reading id window outcome = reading id window ≡ result_map view outcome
