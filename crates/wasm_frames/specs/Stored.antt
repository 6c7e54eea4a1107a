-- A parser in memory that isn't Rattle's.
use Rattle.std.specs.Prelude.{ℕ, ◌-◌, ◌^◌, min, Bool, not, nat_eq, Option, Some, None, if◌then◌else◌}
use Rattle.wasm_frames.specs.ParserState.{ParserState, skipped_state}
use Rattle.wasm_grammar.specs.declared.encoding.Encoding.{Encoding}
use Rattle.wasm_grammar.specs.declared.encoding.Encoding.TheVariants.{Module, Component}
use Rattle.wasm_frames.specs.declared.stored.StoredParser.{StoredParser}

-- whether a byte says that something holds
abbrev pub is_set : ℕ → Bool
is_set byte = not (nat_eq byte 0)

-- a count, if a byte says that it is there
abbrev pub count_from : (has count : ℕ) → Option ℕ
count_from has count = if nat_eq has 0 then None else Some count

abbrev pub encoding_from : ℕ → Encoding
encoding_from byte = if nat_eq byte 0 then Module else Component

-- what the numbers of a stored parser say
abbrev pub numbers_of : StoredParser → ParserState
numbers_of s = record {
  offset = s.offset;
  features = s.features;
  expects_header = nat_eq s.is_begun 0;
  encoding = encoding_from s.is_component;
  rank = s.rank;
  functions = count_from s.has_functions s.functions;
  codes = count_from s.has_codes s.codes;
  datas = count_from s.has_datas s.datas;
  data_counts = count_from s.has_data_counts s.data_counts;
  bodies = s.bodies;
  code_bytes = s.code_bytes;
  in_code = is_set s.in_code;
}

-- | the parser that 48 bytes are; what their numbers say if a code section ends within the offsets; what skipping
--   passes [`numbers_of`, `skipped_of`]
-- The stored parser. The remaining bytes of a code section end below the top of the offsets.
abbrev pub parser_of : StoredParser → ParserState
parser_of s = record {
  offset = s.offset;
  features = s.features;
  expects_header = nat_eq s.is_begun 0;
  encoding = encoding_from s.is_component;
  rank = s.rank;
  functions = count_from s.has_functions s.functions;
  codes = count_from s.has_codes s.codes;
  datas = count_from s.has_datas s.datas;
  data_counts = count_from s.has_data_counts s.data_counts;
  bodies = s.bodies;
  code_bytes = min s.code_bytes (2 ^ 64 - 1 - s.offset);
  in_code = is_set s.in_code;
}

-- the remaining bytes of a code section, if the parser is in one
abbrev pub skipped_of : ParserState → ℕ × ParserState
skipped_of p = if p.in_code then (p.code_bytes, skipped_state p) else (0, p)
