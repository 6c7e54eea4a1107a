-- The readings of worked streams with fields of several bytes, or two faults, by computation.
use Rattle.wasm_grammar.proofs.Common.{◌≡◌, true, List, [], ◌∷◌, ◌++◌, ℕ, length, lit<, map, is_utf8-from_IsUtf8, is_utf8, name, number}
use Rattle.wasm_grammar.proofs.Common.{ended, Form, items, custom, index, data_count, unknown, wrong_content, Tile, section, code_start}
use Rattle.wasm_grammar.proofs.Common.{code_entry, verdict, header_grammar, section_grammar, body_grammar}
use Rattle.std.proofs.lemmas.Str.{IsUtf8-from_ascii}
use Rattle.std.proofs.lemmas.Str.Ascii.{IsAscii-nil, IsAscii-cons}
use Rattle.wasm_grammar.specs.WorkedFields.{WholeReadings, LongFields, TwoFaults}
use Rattle.wasm_grammar.proofs.worked.Streams.{head, component_head, section_tile, functions, small_tile, empty_name, read_as, ends_after}

-- a section with this length field
abbrev framed_tile : Form → ℕ → (field content : List ℕ) → Tile
framed_tile kind id field content = record { shape = section kind id content; bytes = id ∷ (field ++ content) }

-- the head of a code section with these fields, and `size` bytes of bodies
abbrev head_tile : (field : List ℕ) (count : ℕ) (counted : List ℕ) (size : ℕ) → Tile
head_tile field count counted size = record { shape = code_start count (length counted) size; bytes = 10 ∷ (field ++ counted) }

-- a body with this size field
abbrev sized_tile : (field content : List ℕ) → Tile
sized_tile field content = record { shape = code_entry content; bytes = field ++ content }

name_a : is_utf8 (97 ∷ []) ≡ true
name_a = is_utf8-from_IsUtf8 (97 ∷ []) (IsUtf8-from_ascii (97 ∷ []) (IsAscii-cons 97 [] (lit< tt) IsAscii-nil))

pub whole_readings : WholeReadings
unfolding verdict header_grammar section_grammar body_grammar number wrong_content name
whole_readings = record {
  name_and_data = read_as (framed_tile custom 0 (3 ∷ []) (1 ∷ 97 ∷ 7 ∷ []) ∷ head ∷ []) (ended 13) (rw name_a assumption);
  all_ids_of_a_component =
      read_as (map (small_tile unknown) (13 ∷ 12 ∷ 11 ∷ 10 ∷ 9 ∷ 8 ∷ 7 ∷ 6 ∷ 5 ∷ 4 ∷ 3 ∷ 2 ∷ 1 ∷ []) ++ small_tile custom 0
      ∷ component_head ∷ []) (ended 50) (rw empty_name assumption);
  elsewhere =
      read_as (framed_tile custom 0 (0x84 ∷ 0 ∷ []) (1 ∷ 97 ∷ 5 ∷ 6 ∷ []) ∷ sized_tile (0x83 ∷ 0 ∷ []) (0 ∷ 65 ∷ 11 ∷ [])
      ∷ head_tile (0x87 ∷ 0 ∷ []) 1 (0x81 ∷ 0 ∷ []) 5 ∷ framed_tile index 8 (0x82 ∷ 0 ∷ []) (0x81 ∷ 1 ∷ [])
      ∷ framed_tile items 3 (0x83 ∷ 0 ∷ []) (0x81 ∷ 0 ∷ 7 ∷ []) ∷ framed_tile items 1 (0x83 ∷ 0 ∷ []) (0x80 ∷ 1 ∷ 9 ∷ []) ∷ head ∷ [])
      (ended 1042) (rw name_a assumption);
}

pub long_fields : LongFields
unfolding verdict header_grammar section_grammar body_grammar number wrong_content name
long_fields = record {
  out_of_order = ends_after (small_tile items 3 ∷ head ∷ []) (1 ∷ 0x81 ∷ 0 ∷ 0 ∷ []) assumption;
  order_of_one_rank =
      ends_after (framed_tile items 1 (0x81 ∷ 0x80 ∷ 0 ∷ []) (0 ∷ []) ∷ head ∷ [])
      (1 ∷ 0x81 ∷ 0x80 ∷ 0x80 ∷ 0 ∷ 0 ∷ []) assumption;
  section_cut = ends_after (head ∷ []) (1 ∷ 0x83 ∷ 0 ∷ 0 ∷ []) assumption;
  length_too_large = ends_after (head ∷ []) (1 ∷ 0xff ∷ 0xff ∷ 0xff ∷ 0xff ∷ 31 ∷ []) assumption;
  count_in_two_bytes_cut = ends_after (head ∷ []) (1 ∷ 0x82 ∷ 0 ∷ 0x80 ∷ 0x80 ∷ []) assumption;
  count_too_long = ends_after (head ∷ []) (2 ∷ 0x86 ∷ 0 ∷ 0x80 ∷ 0x80 ∷ 0x80 ∷ 0x80 ∷ 0x80 ∷ 0 ∷ []) assumption;
  name_cut = ends_after (head ∷ []) (0 ∷ 0x82 ∷ 0 ∷ 0x85 ∷ 0 ∷ []) assumption;
  name_too_long = ends_after (head ∷ []) (0 ∷ 0x84 ∷ 0 ∷ 0xa1 ∷ 0x8d ∷ 0x86 ∷ 0 ∷ []) assumption;
  start_with_more = ends_after (head ∷ []) (8 ∷ 0x83 ∷ 0 ∷ 0x81 ∷ 0 ∷ 0 ∷ []) assumption;
  data_count_with_more = ends_after (head ∷ []) (12 ∷ 0x83 ∷ 0 ∷ 0x81 ∷ 0 ∷ 0 ∷ []) assumption;
  code_differs = ends_after (framed_tile items 3 (0x81 ∷ 0 ∷ []) (0 ∷ []) ∷ head ∷ []) (10 ∷ 0x83 ∷ 0 ∷ 0x81 ∷ 0 ∷ 0 ∷ []) assumption;
  code_alone = ends_after (head ∷ []) (10 ∷ 0x83 ∷ 0 ∷ 0x81 ∷ 0 ∷ 0 ∷ []) assumption;
  count_past_the_section = ends_after (functions 1 ∷ head ∷ []) (10 ∷ 0x81 ∷ 0 ∷ 0x81 ∷ 0 ∷ []) assumption;
  data_differ =
      ends_after (framed_tile data_count 12 (0x82 ∷ 0 ∷ []) (0x81 ∷ 0 ∷ []) ∷ head ∷ [])
      (11 ∷ 0x83 ∷ 0 ∷ 0x82 ∷ 0 ∷ 0 ∷ []) assumption;
  body_missed = ends_after (head_tile (0x8a ∷ 0 ∷ []) 1 (0x81 ∷ 0 ∷ []) 8 ∷ functions 1 ∷ head ∷ []) (0x85 ∷ 0x80 ∷ 0 ∷ 0 ∷ []) assumption;
  body_past_the_section =
      ends_after (head_tile (0x84 ∷ 0 ∷ []) 1 (0x81 ∷ 0 ∷ []) 2 ∷ functions 1 ∷ head ∷ [])
      (0x81 ∷ 0 ∷ 11 ∷ []) assumption;
  body_size_cut = ends_after (head_tile (0x89 ∷ 0 ∷ []) 1 (0x81 ∷ 0 ∷ []) 7 ∷ functions 1 ∷ head ∷ []) (0x80 ∷ 0x80 ∷ []) assumption;
  trailing =
      ends_after (sized_tile (0x80 ∷ 0 ∷ []) [] ∷ head_tile (0x85 ∷ 0 ∷ []) 1 (0x81 ∷ 0 ∷ []) 3 ∷ functions 1 ∷ head ∷ [])
      (0 ∷ []) assumption;
  trailing_after_a_body =
      ends_after (sized_tile (0x82 ∷ 0 ∷ []) (0 ∷ 11 ∷ []) ∷ head_tile (0x87 ∷ 0 ∷ []) 1 (0x81 ∷ 0 ∷ []) 5 ∷ functions 1 ∷ head ∷ [])
      (0xff ∷ []) assumption;
}

pub two_faults : TwoFaults
unfolding verdict header_grammar section_grammar body_grammar number wrong_content name
two_faults = record {
  too_large_and_out_of_order = ends_after (small_tile items 1 ∷ head ∷ []) (1 ∷ 6 ∷ []) assumption;
  magic_and_name_cut = ends_after (head ∷ []) (0 ∷ 97 ∷ 115 ∷ 109 ∷ []) assumption;
  no_id_and_length_cut = ends_after (head ∷ []) (0x80 ∷ 0x80 ∷ []) assumption;
  length_bad_and_out_of_order = ends_after (small_tile items 3 ∷ head ∷ []) (1 ∷ 0x80 ∷ 0x80 ∷ 0x80 ∷ 0x80 ∷ 16 ∷ []) assumption;
  length_cut_and_out_of_order = ends_after (small_tile items 3 ∷ head ∷ []) (1 ∷ 0x80 ∷ []) assumption;
  out_of_order_and_cut = ends_after (small_tile items 3 ∷ head ∷ []) (1 ∷ 0x85 ∷ 0 ∷ []) assumption;
  out_of_order_and_content_wrong = ends_after (small_tile items 9 ∷ head ∷ []) (8 ∷ 0x82 ∷ 0 ∷ 0 ∷ 0 ∷ []) assumption;
  cut_and_content_wrong = ends_after (head ∷ []) (8 ∷ 0x83 ∷ 0 ∷ 0 ∷ 0 ∷ []) assumption;
  count_wrong_and_data_differ = ends_after (section_tile data_count 12 (1 ∷ []) ∷ head ∷ []) (11 ∷ 0x82 ∷ 0 ∷ 0x80 ∷ 0x80 ∷ []) assumption;
  code_out_of_order_and_cut = ends_after (small_tile items 11 ∷ head ∷ []) (10 ∷ 0x81 ∷ 0 ∷ []) assumption;
  code_out_of_order_and_differs = ends_after (small_tile items 11 ∷ small_tile items 3 ∷ head ∷ []) (10 ∷ 0x82 ∷ 0 ∷ 1 ∷ 0 ∷ []) assumption;
  count_bad_past_the_section = ends_after (head ∷ []) (10 ∷ 1 ∷ 0x80 ∷ 0x80 ∷ 0x80 ∷ 0x80 ∷ 16 ∷ []) assumption;
  count_past_the_section_and_differs = ends_after (functions 1 ∷ head ∷ []) (10 ∷ 1 ∷ 0x82 ∷ 0 ∷ []) assumption;
  count_past_the_section_alone = ends_after (head ∷ []) (10 ∷ 1 ∷ 0x82 ∷ 0 ∷ []) assumption;
  body_size_bad_past_the_section =
      ends_after (head_tile (2 ∷ []) 1 (1 ∷ []) 1 ∷ functions 1 ∷ head ∷ [])
      (0x80 ∷ 0x80 ∷ 0x80 ∷ 0x80 ∷ 16 ∷ []) assumption;
  body_missed_past_the_section = ends_after (head_tile (3 ∷ []) 1 (1 ∷ []) 2 ∷ functions 1 ∷ head ∷ []) (0x85 ∷ 0 ∷ 0 ∷ []) assumption;
  functions_and_data_count_unmatched = ends_after (section_tile data_count 12 (1 ∷ []) ∷ functions 1 ∷ head ∷ []) [] assumption;
  name_missed_and_not_utf8 = ends_after (head ∷ []) (0 ∷ 2 ∷ 2 ∷ 0xff ∷ []) assumption;
  other_magic_cut = ends_after [] (0 ∷ 97 ∷ 115 ∷ 110 ∷ []) assumption;
  other_magic_other_version = ends_after [] (0 ∷ 97 ∷ 115 ∷ 110 ∷ 2 ∷ 0 ∷ 0 ∷ 0 ∷ []) assumption;
  header_cut_other_version = ends_after [] (0 ∷ 97 ∷ 115 ∷ 109 ∷ 2 ∷ 0 ∷ 0 ∷ []) assumption;
}
