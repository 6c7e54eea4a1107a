-- A part that is forwarded or dropped chunk by chunk, after its first fields.
use Rattle.std.specs.Prelude.{◌≡◌, ℕ, ◌+◌, ◌<◌, ◌≤◌, Bool, true, false, List, [], ◌++◌, length, drop}
use Rattle.std.specs.Prelude.{Option, Some, None, Result, Ok, Err, if◌then◌else◌}
use Rattle.std.specs.Io.KnownBytes.{Consumes, IsAtEnd, Keeps}
use Rattle.wasm_base.specs.FaultAt.{fault_at, at_offset}
use Rattle.wasm_base.specs.declared.error.Error.{Error}
use Rattle.wasm_base.specs.declared.fault.Fault.TheVariants.{UnexpectedEof}
use Rattle.wasm_io.specs.Page.{IsCut, PutsBytes, WritesHead}
use Rattle.wasm_io.specs.declared.devices.ListError.{ListError}
use Rattle.wasm_io.specs.declared.devices.ListError.TheVariants.{Input}
use Rattle.wasm_frames.specs.SkipNext.{Head, Skip, SkipsPart, skip_of}
use Rattle.wasm_streams.specs.Beside.{seen, unseen}
use Rattle.wasm_streams.specs.declared.cursor.Cursor.{Cursor}
use Rattle.wasm_streams.specs.declared.passing.Passing.{Passing}

-- All bytes were put after those that waited; or the device or an allocation failed, a prefix of both was written, and
-- none waits.
abbrev pub PutsAll : (taken written : Option (List ℕ)) (waiting bytes new : List ℕ) → Result (Unit {0}) ListError
    → Type 0
PutsAll taken written waiting bytes new (Ok done) = PutsBytes taken written waiting bytes new
PutsAll taken written waiting bytes new (Err e) = IsCut taken written (waiting ++ bytes) e × (new ≡ [])

-- these bytes if they stay
abbrev pub if_stays : Bool → List ℕ → List ℕ
if_stays stays bytes = if stays then bytes else []

-- | the bytes of a part that is skipped, which are forwarded or dropped chunk by chunk, and how far that came when a
--   device failed [`PassesPart`, `GivesUp`]
-- The parser skipped a part, of which the bytes from the cursor on are the first. Its first fields say whether it
-- stays.
pub record SkipsHere (stays_if : Head → Bool) (old : Cursor) (bytes : List ℕ) (passing : Passing) (new : Cursor) : Type
    0 where
  pub skip : Skip
  pub skips : SkipsPart old.parser (drop old.mark bytes) skip new.parser
  pub from : passing.from ≡ skip.from
  pub size : old.parser.offset + passing.size ≡ skip.to
  pub stays : passing.stays ≡ stays_if skip.head
  pub fewer : length (drop old.mark bytes) < passing.size
  pub same : new ≡ record old { parser = new.parser }

-- No part can be skipped: these bytes have all of the next one, or not its first fields.
abbrev pub SkipsNothing : Cursor → (bytes : List ℕ) → Type 0
SkipsNothing cursor bytes = skip_of cursor.parser (drop cursor.mark bytes) ≡ None

-- A chunk was read if there was none; there is none after that only at the end of the source. A read that failed gave
-- nothing.
abbrev pub FillsChunk : (source rest : Option (List ℕ)) (old new : List ℕ) → Result (Unit {0}) ListError → Type 0
FillsChunk source rest old new (Ok done) = (fetched : List ℕ) × Consumes source rest fetched × (new ≡ old ++ fetched)
    × (new ≡ [] → IsAtEnd rest)
FillsChunk source rest old new (Err e) = Keeps source rest × (old ≡ []) × (new ≡ [])

-- Some bytes were taken from a chunk, after more were read if it was empty; none if the source is at its end.
pub record TakesSome (source rest : Option (List ℕ)) (taken written : Option (List ℕ)) (stays : Bool) (most : ℕ)
    (chunk waiting : List ℕ) (count : ℕ) (left new : List ℕ) : Type 0 where
  pub fetched : List ℕ
  pub part : List ℕ
  pub gave : Consumes source rest fetched
  pub parts : chunk ++ fetched ≡ part ++ left
  pub size : length part ≡ count
  pub within : count ≤ most
  pub puts : PutsBytes taken written waiting (if_stays stays part) new
  pub at_end : count ≡ 0 → IsAtEnd rest × (left ≡ [])

-- Some bytes of a part were forwarded or dropped: as many as were missing, or all up to the end of the source.
pub record PassesMissing (source rest : Option (List ℕ)) (taken written : Option (List ℕ)) (stays : Bool) (missing : ℕ)
    (chunk waiting : List ℕ) (whole : Bool) (left new : List ℕ) : Type 0 where
  pub fetched : List ℕ
  pub part : List ℕ
  pub gave : Consumes source rest fetched
  pub parts : chunk ++ fetched ≡ part ++ left
  pub puts : PutsBytes taken written waiting (if_stays stays part) new
  pub all : whole ≡ true → length part ≡ missing
  pub some : whole ≡ false → (length part < missing) × IsAtEnd rest × (left ≡ [])

-- the bytes from a cursor on: those that a step reads, and the others of the chunk
abbrev pub held_by : Cursor → (stored chunk : List ℕ) → List ℕ
held_by c stored chunk = drop c.mark (seen stored chunk) ++ unseen stored chunk

-- The stored bytes of what is held were put after those that waited, so that the others are in the chunk.
pub record Settles (taken written : Option (List ℕ)) (stays : Bool) (c : Cursor) (stored chunk waiting : List ℕ)
    (count : ℕ) (left new : List ℕ) : Type 0 where
  pub front : List ℕ
  pub parts : held_by c stored chunk ≡ front ++ left
  pub size : length front ≡ count
  pub within : count ≤ length (drop c.mark (seen stored chunk))
  pub puts : PutsBytes taken written waiting (if_stays stays front) new

-- The stored bytes of what is held could not be put, and are no longer stored.
pub record SettlesNot (taken written : Option (List ℕ)) (c : Cursor) (stored chunk waiting : List ℕ) (e : ListError)
    (left new : List ℕ) : Type 0 where
  pub front : List ℕ
  pub parts : held_by c stored chunk ≡ front ++ left
  pub within : length front ≤ length (drop c.mark (seen stored chunk))
  pub puts : PutsAll taken written waiting front new (Err e)

-- What became of the bytes that were passed before an error. If the source failed, all were put or dropped, and fewer
-- came than are missing. If they could not be put, a prefix of what waited and of them was written, and none waits.
abbrev pub EndsAtError : (taken written : Option (List ℕ)) (stays : Bool) (missing : ℕ)
    (waiting passed left new : List ℕ) → ListError → Type 0
EndsAtError taken written stays missing waiting passed left new Input =
    PutsBytes taken written waiting (if_stays stays passed) new × (length passed < missing) × (left ≡ [])
EndsAtError taken written stays missing waiting passed left new e =
    WritesHead taken written (waiting ++ passed) × (new ≡ []) × (length passed ≤ missing) × (stays ≡ true)

-- A call that passes the missing bytes of a part was given up, after some of what was held and of the source.
pub record GivesUp (source rest taken written : Option (List ℕ)) (stays : Bool) (missing : ℕ) (chunk waiting : List ℕ)
    (e : ListError) (left new : List ℕ) : Type 0 where
  pub given : List ℕ
  pub passed : List ℕ
  pub gave : Consumes source rest given
  pub parts : chunk ++ given ≡ passed ++ left
  pub ends : EndsAtError taken written stays missing waiting passed left new e

-- how a part ends that is forwarded or dropped: with all its bytes, or with the source, and this fault
abbrev pub PartEnds : Passing → (size : ℕ) → Option Error → (rest : Option (List ℕ)) (left : List ℕ) → Type 0
PartEnds passing size None rest left = size ≡ passing.size
PartEnds passing size (Some e) rest left = (size < passing.size) × IsAtEnd rest × (left ≡ [])
    × (fault_at e ≡ at_offset UnexpectedEof passing.from)

-- A part was forwarded or dropped: bytes that were held, then bytes of the source.
pub record PassesPart (source rest taken written : Option (List ℕ)) (passing : Passing) (c : Cursor)
    (stored chunk waiting : List ℕ) (fault : Option Error) (left new : List ℕ) : Type 0 where
  pub fetched : List ℕ
  pub part : List ℕ
  pub gave : Consumes source rest fetched
  pub parts : held_by c stored chunk ++ fetched ≡ part ++ left
  pub puts : PutsBytes taken written waiting (if_stays passing.stays part) new
  pub ends : PartEnds passing (length part) fault rest left
