-- Streams whose custom sections were edited. Core specification, Binary format, Modules, Custom Section.
use Rattle.std.specs.Prelude.{◌≡◌, ◌≤◌, ◌<◌, ◌↔◌, ℕ, List, [], ◌∷◌, ◌++◌, Vec, Result, Ok, Err, drop, flat_map, length}
use Rattle.wasm_base.specs.declared.error.Error.{Error}
use Rattle.wasm_edits.specs.EditParts.{IsLength}
use Rattle.wasm_edits.specs.Edits.{after_edits}
use Rattle.wasm_edits.specs.Stripped.{RefusesToStrip, EndsWithFault, IsStripped}
use Rattle.wasm_edits.specs.declared.edits.Edit.{Edit}
use Rattle.wasm_edits.specs.declared.edits.Edit.TheVariants as edit
use Rattle.wasm_edits.specs.declared.fates.Keep.{Keep}
use Rattle.wasm_edits.specs.Fates.{stays_by}
use Rattle.wasm_grammar.specs.Accepted.{SectionFrame, IsAccepted, frame_bytes, header_bytes}
use Rattle.wasm_grammar.specs.Reading.{Stream}
use Rattle.wasm_grammar.specs.declared.encoding.Encoding.{Encoding}

-- | an edited stream: its header, and its sections after the edits [`Edits.after_edits`]
abbrev pub edited : List Edit → Encoding → List SectionFrame → List ℕ
edited edits encoding frames = header_bytes encoding ++ flat_map frame_bytes (after_edits edits frames)

-- The stream is accepted, these are its bytes after edits, and they are accepted too: as the same encoding, with the
-- sections after the edits. That determines how they are read.
pub record IsEdited (edits : List Edit) (stream result : List ℕ) : Type 0 where
  pub accepted : IsAccepted stream
  pub bytes : result ≡ edited edits accepted.encoding accepted.frames
  pub still : IsAccepted result
  pub encoding : still.encoding ≡ accepted.encoding
  pub frames : still.frames ≡ after_edits edits accepted.frames

-- The stream was edited, or refused, as stripping refuses it.
abbrev pub EditsStream : {A : Type 0} → List Edit → (stream : List ℕ) → Result (Vec ℕ A) Error → Type 0
EditsStream edits stream (Ok result) = IsEdited edits stream result.items
EditsStream edits stream (Err e) = RefusesToStrip stream e

-- This is the length of the edited stream, or the greatest number if that is less; or the stream is not accepted.
abbrev pub MeasuresEdited : List Edit → (stream : List ℕ) → Result ℕ Error → Type 0
MeasuresEdited edits stream (Ok size) = (result : List ℕ) × IsEdited edits stream result × IsLength size result
MeasuresEdited edits stream (Err e) = (¬ IsAccepted stream) × EndsWithFault stream e

-- What was written to the front of other bytes: the edited stream, if there is room for it. No other byte changed.
abbrev pub FillsFront : (result old new : List ℕ) → Type 0
FillsFront result old new = (length result ≤ length old → new ≡ result ++ drop (length result) old)
    × (length old < length result → new ≡ old)

-- The edited stream was written there, and this is its length, or the greatest number if that is less; or the stream
-- is not accepted.
abbrev pub EditsTo : List Edit → (stream old : List ℕ) → Result ℕ Error → (new : List ℕ) → Type 0
EditsTo edits stream old (Ok size) new = (result : List ℕ) × IsEdited edits stream result × IsLength size result
    × FillsFront result old new
EditsTo edits stream old (Err e) new = (¬ IsAccepted stream) × EndsWithFault stream e × (new ≡ old)

-- ---- laws

-- Editing twice is one edit, by all edits in turn.
abbrev pub EditingComposes : Type 0
EditingComposes = (first second : List Edit) (stream once twice : List ℕ) → IsEdited first stream once
    → IsEdited second once twice → IsEdited (first ++ second) stream twice

-- Stripping is the edit that keeps a choice.
abbrev pub StrippingIsAnEdit : Type 0
StrippingIsAnEdit = (keep : Keep) (stream kept : List ℕ) → Stream stream 0
    → IsStripped (stays_by keep) stream kept ↔ IsEdited (edit.Keep keep ∷ []) stream kept
