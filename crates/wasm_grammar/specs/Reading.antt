-- The reading of a stream: the events of its parts, in order. Core specification, Binary format, Modules.
use Rattle.std.specs.Prelude.{◌≡◌, ℕ, ◌+◌, ◌-◌, List, [], ◌∷◌, ◌++◌, length, Some, ◌^◌, ◌<◌, All}
use Rattle.wasm_base.specs.Name.{Name, named, refused, name_limit, name}
use Rattle.wasm_base.specs.Window.{Window, window_over}
use Rattle.wasm_grammar.specs.Content.{items, data_count, custom, index, unknown, count_of, Ending, Form}
use Rattle.wasm_grammar.specs.Grammar
use Rattle.wasm_grammar.specs.Grammar.{Shape, section, Tile, final, verdict}
use Rattle.wasm_grammar.specs.Tiling.{bytes_of, grammar, Faultless}
use Rattle.wasm_grammar.specs.declared.encoding.Encoding.{Encoding}

-- | a stream: bytes, and the offset at which they begin <Conventions>
-- The bytes, from this start offset on, are a stream: they are bytes, and end within 64-bit offsets.
pub record Stream (bytes : List ℕ) (start : ℕ) : Type 0 where
  pub each : All (λ b. b < 256) bytes
  pub fits : start + length bytes < 2 ^ 64

-- | what is reported of a tile, with offsets and windows [`tile_report`, `Event`]
-- the report of a tile, with offsets in the stream
pub data Report : Type 0 where
  version : (num : ℕ) (encoding : Encoding) (from to : ℕ) → Report
  counted : (id count : ℕ) (window : Window) → Report
  start_section : (func from to : ℕ) → Report
  data_count_section : (count from to : ℕ) → Report
  code_start : (count from to size : ℕ) → Report
  code_entry : (window : Window) → Report
  custom_section : (name : List ℕ) (data_offset : ℕ) (window : Window) → Report
  unknown_section : (id : ℕ) (contents : List ℕ) (from to : ℕ) → Report
  -- how the stream ends, reported last
  stream_end : Ending → Report

-- a report and the bytes that it consumes
pub record Event : Type 0 where
  pub report : Report
  pub consumed : List ℕ

-- the report of a custom section whose content begins with this name
abbrev pub custom_report : (features from to : ℕ) (content : List ℕ) → Name → Report
custom_report features from to content (named text used) =
    custom_section text (from + used) (window_over features from content)
custom_report features from to content (refused f place) = unknown_section 0 content from to

-- the report of a section whose content lies between these offsets
abbrev pub section_report : (features from to : ℕ) → Form → (id : ℕ) (content : List ℕ) → Report
section_report features from to items id content = counted id (count_of content) (window_over features from content)
section_report features from to index id content = start_section (count_of content) from to
section_report features from to data_count id content = data_count_section (count_of content) from to
section_report features from to custom id content =
    custom_report features from to content (name (Some name_limit) content)
section_report features from to unknown id content = unknown_section id content from to

-- the report of a tile between these offsets
abbrev pub tile_report : (features from to : ℕ) → Shape → Report
tile_report features from to (Grammar.version num encoding) = version num encoding from to
tile_report features from to (section form id content) =
    section_report features (to - length content) to form id content
tile_report features from to (Grammar.code_start count width size) = code_start count (to - width) (to + size) size
tile_report features from to (Grammar.code_entry content) =
    code_entry (window_over features (to - length content) content)

-- the event of a tile at this offset
abbrev pub event_of : (features offset : ℕ) → Tile → Event
event_of features offset t =
    record { report = tile_report features offset (offset + length t.bytes) t.shape; consumed = t.bytes }

-- the last event, which consumes nothing
abbrev pub last_event : Ending → Event
last_event end = record { report = stream_end end; consumed = [] }

-- the events of tiles, oldest first
abbrev pub events_of : (start features : ℕ) → List Tile → List Event
events_of start features [] = []
events_of start features (t ∷ earlier) =
    events_of start features earlier ++ event_of features (start + length (bytes_of earlier)) t ∷ []

-- | the stream is faultless tiles and a rest at which it stops
-- The stream is these faultless tiles and a rest, whose verdict is this end.
pub record Reads (stream : List ℕ) (start : ℕ) (tiles : List Tile) (end : Ending) : Type 0 where
  pub rest : List ℕ
  pub whole : stream ≡ bytes_of tiles ++ rest
  pub faultless : Faultless start tiles
  pub stops : verdict (grammar start tiles) rest ≡ final end

-- | the reading: the events of those tiles, and last the fault or the end
-- These are all events of the stream: those of its longest faultless tiling, and last the fault after it, or the end.
pub record Reading (stream : List ℕ) (start features : ℕ) (events : List Event) : Type 0 where
  pub tiles : List Tile
  pub end : Ending
  pub reads : Reads stream start tiles end
  pub listed : events ≡ events_of start features tiles ++ last_event end ∷ []
