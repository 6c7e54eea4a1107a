-- A feeder beside a chunk, of which it stores nothing, a part or all.
use Rattle.std.specs.Prelude.{◌≡◌, ℕ, ◌+◌, ◌-◌, ◌<◌, ◌≤◌, ◌^◌, Bool, true, false, List, [], ◌∷◌, ◌++◌, length}
use Rattle.std.specs.Prelude.{◌⊎◌, take, drop, Option, Result, Ok, Err}
use Rattle.std.specs.Io.KnownBytes.{Consumes, IsAtEnd, Keeps}
use Rattle.wasm_grammar.specs.Waiting.{enough, waiting}
use Rattle.wasm_frames.specs.Along.{is_last}
use Rattle.wasm_frames.specs.Answer.{Answer, GivesAnswer}
use Rattle.wasm_frames.specs.ParserState.{ParserState, grammar_of}
use Rattle.wasm_streams.specs.Cursors.{feed_of}
use Rattle.wasm_streams.specs.Feed.{Feed, pushed, finished, end_of}
use Rattle.wasm_streams.specs.Lists.{Refills}
use Rattle.wasm_streams.specs.Step.{Told, answer_of, is_request, Moves}
use Rattle.wasm_io.specs.declared.devices.Failed.{Failed}
use Rattle.wasm_io.specs.declared.devices.ListError.{ListError}
use Rattle.wasm_streams.specs.declared.cursor.Cursor.{Cursor}

-- | a feeder next to a chunk, as one that holds both; what a step reads of them, and what is enough for it; a step
--   over a chunk, and what a read made of a feeder next to it [`lending`, `seen`, `SeesEnough`, `MakesReady`,
--   `MayCome`, `Bounds`, `HasDecided`, `MovesOver`,
--   `RefillsAlike`]
-- a feeder and the bytes after its own, as one that holds both; how many are stored is left out, so that a step over a
-- chunk is `Moves` of this feeder, and the laws of feeders hold for it as they are
abbrev pub beside : Feed → (rest : List ℕ) → Feed
beside f rest = record f { held = f.held ++ rest; stored = 0 }

-- the bytes that a step reads: those that are stored, or the chunk if there are none
abbrev pub seen : (stored piece : List ℕ) → List ℕ
seen [] piece = piece
seen (x ∷ xs) piece = x ∷ xs

-- those of the chunk that it doesn't
abbrev pub unseen : (stored piece : List ℕ) → List ℕ
unseen [] piece = []
unseen (x ∷ xs) piece = piece

-- a cursor in the bytes that a step reads, beside the others
abbrev pub lending : (stored piece : List ℕ) → Cursor → Feed
lending stored piece c = beside (feed_of (seen stored piece) c) (unseen stored piece)

-- What a parser returns for the first bytes is what it returns for all of them.
abbrev pub SeesEnough : ParserState → (eof : Bool) → (first more : List ℕ) → Type 0
SeesEnough p eof first more = (answer : Answer) (new : ParserState) → GivesAnswer p eof first answer new
    → GivesAnswer p eof (first ++ more) answer new

-- These bytes are enough, whatever more comes.
abbrev pub AreEnough : ParserState → (bytes : List ℕ) → Type 0
AreEnough p bytes = (more : List ℕ) → p.offset + length (bytes ++ more) < 2 ^ 64 → SeesEnough p false bytes more

-- the same of what a step reads where a cursor is
abbrev pub ReadsEnough : (stored piece : List ℕ) → Cursor → Type 0
ReadsEnough stored piece c =
    SeesEnough c.parser c.is_finished (drop c.mark (seen stored piece)) (unseen stored piece)

-- This many bytes of a chunk were appended to those that were there, and these are enough: none, if those were.
pub record Gathers (p : ParserState) (old piece : List ℕ) (count : ℕ) (new : List ℕ) : Type 0 where
  pub within : count ≤ length piece
  pub stores : new ≡ old ++ take count piece
  pub idle : waiting (grammar_of p) old ≡ enough → count ≡ 0
  pub enough : SeesEnough p false new (drop count piece)

-- No bytes come after the end of input.
abbrev pub MayCome : Feed → (piece : List ℕ) → Type 0
MayCome f piece = f.eof ≡ true → piece ≡ []

-- The feeder holds bytes that decide what comes next, whatever follows, and has not asked for more.
pub record HasDecided (f : Feed) (piece : List ℕ) : Type 0 where
  pub holds : 0 < length f.held
  pub needs_none : f.wants_more ≡ false
  pub goes_on : f.eof ≡ false
  pub below : end_of f + length piece < 2 ^ 64
  pub decides : waiting (grammar_of f.state) f.held ≡ enough

-- How many bytes are stored after a chunk arrived: at most those that were held, and the chunk. Without a chunk there
-- are no more than before.
pub record Bounds (old : Feed) (piece : List ℕ) (stored : ℕ) : Type 0 where
  pub fed : 0 < length piece → stored ≤ length old.held + length piece
  pub unfed : piece ≡ [] → stored ≤ old.stored

-- A step reads the bytes that were held, of which no more are stored than before.
pub record StaysIdle (old : Feed) (count : ℕ) (stored : List ℕ) (c : Cursor) : Type 0 where
  pub takes_none : count ≡ 0
  pub reads : drop c.mark stored ≡ old.held
  pub some : 0 < length stored
  pub bounded : length stored ≤ old.stored

-- This many bytes of a chunk were stored, so that a step reads enough.
pub record MakesReady (old : Feed) (piece : List ℕ) (count : ℕ) (stored : List ℕ) (c : Cursor) : Type 0 where
  pub within : count ≤ length piece
  pub same : lending stored (drop count piece) c ≡ beside old piece
  pub enough : ReadsEnough stored (drop count piece) c
  pub starts : stored ≡ [] → c.mark ≡ 0
  pub bounded : Bounds old piece (length stored + (length piece - count))
  pub idle : HasDecided old piece → StaysIdle old count stored c

-- A step along what a feeder holds and then a chunk, of which it took this many bytes: all if more is asked for, and
-- none if the bytes that it holds decide. After the end or a fault it holds the bytes that decided that.
pub record MovesOver (old : Feed) (piece : List ℕ) (said : Told) (taken : ℕ) (new : Feed) : Type 0 where
  pub moves : Moves (beside old piece) said (beside new (drop taken piece))
  pub asks : is_request said ≡ true → taken ≡ length piece
  pub stays : is_last (answer_of said) ≡ true → GivesAnswer old.state old.eof new.held (answer_of said) new.state
  pub stores : length new.held ≤ new.stored
  pub bounded : Bounds old piece new.stored
  pub idle : HasDecided old piece → (taken ≡ 0) × (new.stored ≤ old.stored)

-- Two feeders are in one place, with the same bytes.
pub record IsAlike (f g : Feed) : Type 0 where
  pub state : f.state ≡ g.state
  pub held : f.held ≡ g.held
  pub eof : f.eof ≡ g.eof

-- what one read returned from a source: bytes, and none only at its end
abbrev pub Fetches : (source rest : Option (List ℕ)) → (piece : List ℕ) → Result (Unit {0}) Failed → Type 0
Fetches source rest piece (Ok done) = Consumes source rest piece × (piece ≡ [] → IsAtEnd rest)
Fetches source rest piece (Err e) = Keeps source rest

-- The source was at its end, which the feeder records; or it returned some bytes, which come next.
abbrev pub FillsAlike : (source rest : Option (List ℕ)) → (old new : Feed) → Type 0
FillsAlike source rest old new =
    (Consumes source rest [] × IsAtEnd rest × IsAlike (finished old) new)
    ⊎ ((piece : List ℕ) × Consumes source rest piece × (0 < length piece) × IsAlike (pushed old piece) new)

-- what one read did to the source, and to a feeder beside what was read
abbrev pub RefillsAlike : (source rest : Option (List ℕ)) → (old new : Feed) → Result (Unit {0}) ListError → Type 0
RefillsAlike source rest old new (Ok done) = FillsAlike source rest old new
RefillsAlike source rest old new (Err e) = Refills source rest old new (Err e)
