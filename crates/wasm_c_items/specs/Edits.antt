-- Custom sections that are written, and edits of a stream, as plain numbers.
use Rattle.std.specs.Prelude.{◌≡◌, ℕ, ◌<◌, false, List, [], ◌∷◌, length, map, nat_le, if◌then◌else◌}
use Rattle.std.specs.Prelude.{Option, Some, None, Result, Ok, Err}
use Rattle.std.specs.Borrow.{Bor}
use Rattle.std.specs.Str.{IsUtf8}
use Rattle.wasm_base.specs.FaultAt.{fault_at}
use Rattle.wasm_base.specs.declared.error.Error.{Error}
use Rattle.wasm_edits.specs.Edited.{EditsTo, FillsFront}
use Rattle.wasm_edits.specs.Edits.{CanBeMade}
use Rattle.wasm_edits.specs.Encoded.{Fits, encoded_section}
use Rattle.wasm_edits.specs.declared.edits.Edit.{Edit}
use Rattle.wasm_edits.specs.declared.edits.Edit.TheVariants as edit
use Rattle.wasm_edits.specs.declared.encoding.NewSection.{NewSection}
use Rattle.wasm_edits.specs.declared.fates.Keep.{Keep}
use Rattle.wasm_c_items.specs.Faults.{no_fault, plain_fault}
use Rattle.wasm_c_items.specs.declared.edits.EditStatus.{EditStatus}
use Rattle.wasm_c_items.specs.declared.edits.EditStatus.TheVariants.{Done, NoRoom, Malformed, UnknownKind}
use Rattle.wasm_c_items.specs.declared.edits.EditStatus.TheVariants.{NameNotUtf8, SectionTooLarge}
use Rattle.wasm_c_items.specs.declared.edits.PlainEdited.{PlainEdited}

-- ---- sections

-- The section has this name and this data.
abbrev pub HasNameAndData : (name contents : List ℕ) → NewSection → Type 0
HasNameAndData name contents section = (section.name.now ≡ name) × (section.«data».now ≡ contents)

-- The section that has them can be written; or none that has them can.
abbrev pub IsNewSection : (name contents : List ℕ) → Option NewSection → Type 0
IsNewSection name contents (Some section) = HasNameAndData name contents section × Fits section
IsNewSection name contents None = (section : NewSection) → HasNameAndData name contents section → ¬ Fits section

-- A section was written to the front of other bytes, if there is room for it; without one, nothing was written.
abbrev pub WritesSection : Option NewSection → (old : List ℕ) (size : ℕ) (new : List ℕ) → Type 0
WritesSection (Some section) old size new = (size ≡ length (encoded_section section))
    × FillsFront (encoded_section section) old new
WritesSection None old size new = (size ≡ 0) × (new ≡ old)

-- | a custom section that is written to the caller's bytes, by its name and its data <Custom Section>
-- The section with this name and this data was written, if it can be, and has this size; otherwise nothing was.
pub record EncodesPlain (name contents old : List ℕ) (size : ℕ) (new : List ℕ) : Type 0 where
  pub section : Option NewSection
  pub is_new : IsNewSection name contents section
  pub writes : WritesSection section old size new

-- ---- edits

abbrev pub names_as_bytes : List (Bor (List ℕ)) → List (List ℕ)
names_as_bytes names = map (λ name. name.now) names

-- The choice keeps the sections with these names, and no others.
abbrev pub KeepsOnly : (names : List (List ℕ)) → Keep → Type 0
KeepsOnly names keep = (keep.names ≡ false) × (names_as_bytes keep.kept.now ≡ names) × (keep.removed.now ≡ [])

-- | the edit of each kind, by its name and its data; or why there is none [`IsChoice`, `IsChosen`]
abbrev pub IsEdit : (kind : ℕ) (name contents : List ℕ) → Edit → Type 0
IsEdit kind name contents (edit.Append section) = (kind ≡ 0) × HasNameAndData name contents section
IsEdit kind name contents (edit.Replace section) = (kind ≡ 1) × HasNameAndData name contents section
IsEdit kind name contents (edit.Remove removed) = (kind ≡ 2) × (removed.now ≡ name)
IsEdit kind name contents (edit.Keep keep) = (kind ≡ 3) × KeepsOnly (name ∷ []) keep

-- It is the edit of this kind; or no edit has this kind.
abbrev pub IsEditOf : (kind : ℕ) (name contents : List ℕ) → Option Edit → Type 0
IsEditOf kind name contents (Some edit) = IsEdit kind name contents edit
IsEditOf kind name contents None = 3 < kind

-- The edit can be made; or this is why not: no edit has the kind, or its new section can't be written.
abbrev pub IsChoice : (kind : ℕ) (name contents : List ℕ) → Result Edit EditStatus → Type 0
IsChoice kind name contents (Ok edit) = IsEdit kind name contents edit × CanBeMade edit
IsChoice kind name contents (Err UnknownKind) = 3 < kind
IsChoice kind name contents (Err SectionTooLarge) = (edit : Edit) × IsEdit kind name contents edit × ¬ CanBeMade edit
IsChoice kind name contents (Err other) = ⊥

-- the same, or the name is not UTF-8
abbrev pub IsChosen : (kind : ℕ) (name contents : List ℕ) → Result Edit EditStatus → Type 0
IsChosen kind name contents (Err NameNotUtf8) = ¬ IsUtf8 name
IsChosen kind name contents chosen = IsUtf8 name × IsChoice kind name contents chosen

-- the number of each status
abbrev pub status_code : EditStatus → ℕ
status_code Done = 0
status_code NoRoom = 1
status_code Malformed = 2
status_code UnknownKind = 3
status_code NameNotUtf8 = 4
status_code SectionTooLarge = 5

-- that no edit was made
abbrev pub refused : EditStatus → PlainEdited
refused status = record { fault = no_fault; size = 0; status = status_code status }

abbrev pub room_status : (room size : ℕ) → EditStatus
room_status room size = if nat_le size room then Done else NoRoom

-- how many bytes the edited stream has, and whether there was room for them; or the fault
abbrev pub plain_edit : (room : ℕ) → Result ℕ Error → PlainEdited
plain_edit room (Ok size) = record { fault = no_fault; size = size; status = status_code (room_status room size) }
plain_edit room (Err e) = record { fault = plain_fault (fault_at e); size = 0; status = status_code Malformed }

-- Edits were made, and written if there is room for the result; or the stream has a fault.
pub record MakesEdits (edits : List Edit) (stream old : List ℕ) (answer : PlainEdited) (new : List ℕ) : Type 0 where
  pub result : Result ℕ Error
  pub edits_to : EditsTo edits stream old result new
  pub answers : answer ≡ plain_edit (length old) result

abbrev pub Answers : Result Edit EditStatus → (stream old : List ℕ) → PlainEdited → (new : List ℕ) → Type 0
Answers (Ok edit) stream old answer new = MakesEdits (edit ∷ []) stream old answer new
Answers (Err status) stream old answer new = (answer ≡ refused status) × (new ≡ old)

-- | a stream that is edited in the caller's bytes, or why it is not, as plain numbers <Custom Section>
-- The edit of this kind, with this name and this data, was made; or nothing was written, and this is why.
pub record EditsPlain (kind : ℕ) (name contents stream old : List ℕ) (answer : PlainEdited) (new : List ℕ)
    : Type 0 where
  pub chosen : Result Edit EditStatus
  pub is_chosen : IsChosen kind name contents chosen
  pub answers : Answers chosen stream old answer new
