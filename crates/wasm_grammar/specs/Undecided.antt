-- Undecided prefixes: two streams begin with the prefix and have different next events.
use Rattle.std.specs.Prelude.{◌≡◌, ◌≢◌, ◌↔◌, ℕ, ◌+◌, ◌-◌, ◌<◌, ◌^◌, List, [], ◌∷◌, ◌++◌, length, take, drop, replicate}
use Rattle.std.specs.Prelude.{Some, None, nat_le, if◌then◌else◌}
use Rattle.wasm_base.specs.Header.{magic, agree}
use Rattle.wasm_base.specs.Number.{Number, read, bad, short, number}
use Rattle.wasm_base.specs.declared.fault.NumberKind.TheVariants.{VarU32}
use Rattle.wasm_grammar.specs.NextEvent.{NextEvent}
use Rattle.wasm_grammar.specs.Grammar.{Tile, Grammar, accept, reject, check, u32_field, bytes, section_start}
use Rattle.wasm_grammar.specs.Reading.{Event, Reading, Stream}
use Rattle.wasm_grammar.specs.Tiling.{bytes_of, grammar, Faultless}
use Rattle.wasm_grammar.specs.Waiting.{enough, wants, waiting}

-- A suffix after which an undecided prefix is decided: 00 for each missing byte, five bytes 80 within a number and
-- where a section may start, and the remaining bytes of an incomplete magic.
abbrev pub ending_of_number : Number → (ℕ → ℕ → List ℕ) → List ℕ
ending_of_number (read value used) next = next value used
ending_of_number (bad fault place) next = []
ending_of_number short next = replicate 5 0x80

-- | if bytes don't decide what is there, a suffix that does. It is 00 for each missing byte of a header, a content or
--   a body. It is five bytes 80 after an unfinished number, and where a section may start; after the first bytes of
--   the magic it is the rest of the magic
unfoldable pub deciding_ending : Grammar → (prefix : List ℕ) → List ℕ
deciding_ending (accept shape) prefix = []
deciding_ending (reject e) prefix = []
deciding_ending (check (Some e) next) prefix = []
deciding_ending (check None next) prefix = deciding_ending next prefix
deciding_ending (u32_field offset next) prefix =
    ending_of_number (number VarU32 prefix) (λ value used. deciding_ending (next value used) (drop used prefix))
deciding_ending (bytes count offset next) prefix =
    if nat_le count (length prefix) then deciding_ending (next (take count prefix)) (drop count prefix) else
    replicate (count - length prefix) 0
deciding_ending (section_start offset e next) [] = replicate 5 0x80
deciding_ending (section_start offset e next) (id ∷ prefix) =
    if agree (id ∷ prefix) magic then drop (length (id ∷ prefix)) magic else deciding_ending (next id) prefix

-- | a front is the prefix of a stream, of faultless tiles. After it an event comes next in a stream; one does, and no
--   other; the same one in two streams, or different ones [`HasOneNext`, `SameNext`, `OtherNext`]
-- In the stream that is `front ++ rest`, this event comes next after `front`.
pub record ComesNext (start features : ℕ) (front rest : List ℕ) (event : Event) : Type 0 where
  pub events : List Event
  pub reading : Reading (front ++ rest) start features events
  pub next : NextEvent events front
  pub is : next.event ≡ event

-- Exactly one event comes next.
abbrev pub HasOneNext : (start features : ℕ) (front rest : List ℕ) → Type 0
HasOneNext start features front rest =
    ((event : Event) × ComesNext start features front rest event)
    × ((one other : Event) → ComesNext start features front rest one → ComesNext start features front rest other → one
    ≡ other)

-- The same event comes next in two streams.
abbrev pub SameNext : (start : ℕ) (front one other : List ℕ) → Type 0
SameNext start front one other = (features : ℕ) (x y : Event) → ComesNext start features front one x
    → ComesNext start features front other y → x ≡ y

-- Different events come next in two streams.
abbrev pub OtherNext : (start : ℕ) (front one other : List ℕ) → Type 0
OtherNext start front one other = (features : ℕ) (x y : Event) → ComesNext start features front one x
    → ComesNext start features front other y → x ≢ y

-- `front` is tiled by these tiles, without a fault.
abbrev pub IsTiledBy : (start : ℕ) (front : List ℕ) → List Tile → Type 0
IsTiledBy start front tiles = Faultless start tiles × (bytes_of tiles ≡ front)

-- After a front with a faultless tiling, exactly one event comes next in every stream that begins with it.
abbrev pub OneComesNext : (start : ℕ) (front : List ℕ) → Type 0
OneComesNext start front = (tiles : List Tile) → IsTiledBy start front tiles → (features : ℕ) (rest : List ℕ)
    → HasOneNext start features front rest

-- If the bytes after such a front decide, the same event comes next in all streams that begin with both.
abbrev pub EnoughIsDecided : (start : ℕ) (front came : List ℕ) → Type 0
EnoughIsDecided start front came = (tiles : List Tile) → IsTiledBy start front tiles
    → waiting (grammar start tiles) came ≡ enough
    → (one other : List ℕ) → SameNext start front (came ++ one) (came ++ other)

-- If they do not decide, the stream that ends after them and the stream that continues with the deciding suffix have
-- different next events. The latter is a stream too if there are offsets for 2^33 more bytes.
abbrev pub ShortIsUndecided : (start : ℕ) (front came : List ℕ) → Type 0
ShortIsUndecided start front came = (tiles : List Tile) → IsTiledBy start front tiles → (need hint : ℕ)
    → waiting (grammar start tiles) came ≡ wants need hint
    → OtherNext start front came (came ++ deciding_ending (grammar start tiles) came)
    × (Stream (front ++ came) start → start + length (front ++ came) + 2 ^ 33 < 2 ^ 64
    → Stream (front ++ (came ++ deciding_ending (grammar start tiles) came)) start)

-- | two streams that begin with a front and bytes after it, in which different events come next after the front
-- Two streams begin with this front and these bytes, and have different next events.
pub record TwoStreams (start features : ℕ) (front came : List ℕ) : Type 0 where
  pub one : List ℕ
  pub other : List ℕ
  pub is_stream : Stream (front ++ (came ++ one)) start
  pub other_is_stream : Stream (front ++ (came ++ other)) start
  pub event : Event
  pub other_event : Event
  pub comes : ComesNext start features front (came ++ one) event
  pub other_comes : ComesNext start features front (came ++ other) other_event
  pub differ : event ≢ other_event
