-- The state of a parser after a report.
use Rattle.std.specs.Prelude.{ℕ, zero, suc, ◌+◌, ◌-◌, Bool, true, false, length, Option, Some, None, nat_eq}
use Rattle.std.specs.Prelude.{if◌then◌else◌}
use Rattle.wasm_grammar.specs.Grammar.{Tile}
use Rattle.wasm_grammar.specs.Reading.{Report, version, counted, start_section, data_count_section, code_start}
use Rattle.wasm_grammar.specs.Reading.{code_entry, custom_section, unknown_section, tile_report}
use Rattle.wasm_grammar.specs.Sections.{count_report}
use Rattle.wasm_frames.specs.ParserState.{ParserState}
use Rattle.wasm_grammar.specs.declared.encoding.Encoding.{Encoding}
use Rattle.wasm_grammar.specs.Ids.{function_id, start_id, code_id, data_id, data_count_id, place_of}

-- the encoding after a report, from the one before it
abbrev pub known_encoding : Report → Encoding → Encoding
known_encoding (version num encoding from to) known = encoding
known_encoding other known = known

-- the rank of the reported section, or 0
abbrev pub rank_report : Report → ℕ
rank_report (counted id count window) = place_of id
rank_report (start_section func from to) = place_of start_id
rank_report (data_count_section count from to) = place_of data_count_id
rank_report (code_start count from to size) = place_of code_id
rank_report other = 0

-- the greatest rank after a section with the first rank, if it has one; ranks ascend
abbrev pub known_rank : ℕ → ℕ → ℕ
known_rank zero known = known
known_rank (suc rank) known = suc rank

-- the count of the section with this id after a report, from the one before it
abbrev pub known_count : ℕ → Option (ℕ × ℕ) → Option ℕ → Option ℕ
known_count n (Some report) known = if nat_eq report.0 n then Some report.1 else known
known_count n None known = known

-- the remaining bodies of a code section after a report, from those before it
abbrev pub missing_bodies : Report → ℕ → ℕ
missing_bodies (code_start count from to size) known = count
missing_bodies (code_entry window) known = known - 1
missing_bodies other known = 0

-- the remaining bytes of a code section after a report of `taken` bytes, from those before it
abbrev pub missing_bytes : Report → (taken : ℕ) → ℕ → ℕ
missing_bytes (code_start count from to size) taken known = size
missing_bytes (code_entry window) taken known = known - taken
missing_bytes other taken known = 0

-- whether the start of a code section, or a body, is reported
abbrev pub reports_code : Report → Bool
reports_code (code_start count from to size) = true
reports_code (code_entry window) = true
reports_code other = false

-- the state with what a report implies for later sections; the other fields stay
abbrev pub knowing : ParserState → Report → ParserState
knowing p report = record p {
  encoding = known_encoding report p.encoding;
  rank = known_rank (rank_report report) p.rank;
  functions = known_count function_id (count_report report) p.functions;
  codes = known_count code_id (count_report report) p.codes;
  datas = known_count data_id (count_report report) p.datas;
  data_counts = known_count data_count_id (count_report report) p.data_counts;
}

-- whether a section is reported that implies nothing for later parts
abbrev pub implies_nothing : Report → Bool
implies_nothing (custom_section name at window) = true
implies_nothing (unknown_section id contents from to) = true
implies_nothing other = false

-- the state after a section that implies nothing for later parts and ends at this offset
abbrev pub state_after_section : ParserState → (to : ℕ) → ParserState
state_after_section p to = record p {
  offset = to;
  expects_header = false;
  bodies = 0;
  code_bytes = 0;
  in_code = false;
}

-- the state with the rank of a section with this id; with its rank and its count
abbrev pub with_rank : ParserState → (id : ℕ) → ParserState
with_rank p id = record p { rank = known_rank (place_of id) p.rank }

abbrev pub with_count : ParserState → (id count : ℕ) → ParserState
with_count p id count = record (with_rank p id) {
  functions = known_count function_id (Some (id, count)) p.functions;
  codes = known_count code_id (Some (id, count)) p.codes;
  datas = known_count data_id (Some (id, count)) p.datas;
  data_counts = known_count data_count_id (Some (id, count)) p.data_counts;
}

-- the state before the first body of a code section with this many bodies and bytes
abbrev pub opened : ParserState → (to bodies code_bytes : ℕ) → ParserState
opened p to bodies code_bytes = record p {
  offset = to;
  expects_header = false;
  bodies = bodies;
  code_bytes = code_bytes;
  in_code = true;
}

-- the state after a body that ends at this offset
abbrev pub past_body : ParserState → (to : ℕ) → ParserState
past_body p to = opened p to (p.bodies - 1) (p.code_bytes - (to - p.offset))

-- | what a parser knows after what it reported
-- the state after a report of a part that ends at this offset
abbrev pub state_after : ParserState → (to : ℕ) → Report → ParserState
state_after p to report = record (knowing p report) {
  offset = to;
  expects_header = false;
  bodies = missing_bodies report p.bodies;
  code_bytes = missing_bytes report (to - p.offset) p.code_bytes;
  in_code = reports_code report;
}

-- the state after a tile
abbrev pub state_after_tile : ParserState → Tile → ParserState
state_after_tile p t = let to = p.offset + length t.bytes in
    state_after p to (tile_report p.features p.offset to t.shape)
