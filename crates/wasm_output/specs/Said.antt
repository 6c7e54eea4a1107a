-- What is put on the line that is begun.
use Rattle.std.specs.Prelude.{◌≡◌, ℕ, true, List, ◌++◌, Option, Some, None, Err}
use Rattle.wasm_io.specs.Calls.{output_failed}
use Rattle.wasm_io.specs.Page.{IsCut}
use Rattle.wasm_io.specs.declared.devices.ListError.{ListError}
use Rattle.wasm_io.specs.declared.digits.Base.{Base}
use Rattle.wasm_output.specs.Fields.{Field, with_fields}
use Rattle.wasm_output.specs.Tree.{Put, Writing, IsPushed, are_lines, base_of, of_objects, with_rest}
use Rattle.wasm_output.specs.declared.objects.Spot.TheVariants.{Outside}

-- The writer stopped on the way: a prefix of what waited and of this text was written, and no more could be.
pub record StopsIn (text : List ℕ) (why : ListError) (since now : Writing) : Type 0 where
  pub cut : IsCut since.taken now.taken (since.waiting ++ text) why
  pub begun : now.is_begun ≡ since.is_begun
  pub failed : now.has_failed ≡ output_failed {A = Unit {0}} (Err why) since.has_failed
  pub style : now.style ≡ since.style
  pub spot : now.spot ≡ since.spot

-- what becomes of a text that is put by a writer: nothing, if it had stopped
abbrev pub PutsText : (before after : Option ListError) (text : List ℕ) (since now : Writing) → Type 0
PutsText (Some why) after text since now = now ≡ since
PutsText None None text since now = IsPushed text since now
PutsText None (Some why) text since now = StopsIn text why since now

-- | what is put on the line at hand: a text, one with offsets, fields, fields with some text among them [`Says`,
--   `SaysInBase`, `SaysFields`, `SaysWith`]
-- A line was begun, and this is what was put on it since. In the style of objects there are none.
pub record HasLine (since : Writing) (text : List ℕ) (now : Writing) : Type 0 where
  pub begun : since.is_begun ≡ true
  pub lines : are_lines since.style ≡ true
  pub puts : PutsText since.why now.why text since now

-- This text, with offsets in the base of the lines, was put on the line that is begun, after what it had.
abbrev pub SaysInBase : (text : Base → List ℕ) (old new : Writing) → Type 0
SaysInBase text old new = (since : Writing) (before : List ℕ) → HasLine since before old
    → HasLine since (before ++ text (base_of since.style)) new

-- Like `SaysInBase`, for a text without offsets.
abbrev pub Says : (text : List ℕ) (old new : Writing) → Type 0
Says text old new = SaysInBase (λ base. text) old new

-- Like `SaysInBase`, for the texts of these fields.
abbrev pub SaysFields : List Field → (old new : Writing) → Type 0
SaysFields fields old new = (since : Writing) (before : List ℕ) → HasLine since before old
    → HasLine since (with_fields (base_of since.style) before fields) new

-- A line was begun, and some text was put on it since.
pub record HasMore (since now : Writing) : Type 0 where
  pub text : List ℕ
  pub has : HasLine since text now

-- What was put is on the line that is begun.
abbrev pub SaysSome : (old new : Writing) → Type 0
SaysSome old new = (since : Writing) → HasMore since old → HasMore since new

-- These fields were put on the line that is begun, for some text that is a value in them.
abbrev pub SaysWith : (fields : List ℕ → List Field) → (old new : Writing) → Type 0
SaysWith fields old new = (since : Writing) (before : List ℕ) → HasLine since before old
    → (value : List ℕ) × HasLine since (with_fields (base_of since.style) before (fields value)) new

-- ---- texts that an output puts

-- an output as what has written no objects
abbrev pub as_writing : Put → Writing
as_writing put = with_rest (of_objects Outside) put

-- This text was put since, as far as the output could.
abbrev pub HasPut : (since : Put) (text : List ℕ) (now : Put) → Type 0
HasPut since text now = PutsText since.why now.why text (as_writing since) (as_writing now)

-- | what is put on an output, after the other texts [`HasPut`]
-- This text was put after the others.
abbrev pub PutsMore : (text : List ℕ) (old new : Put) → Type 0
PutsMore text old new = (since : Put) (before : List ℕ) → HasPut since before old → HasPut since (before ++ text) new
