-- The readings of the worked streams, by computation.
use Rattle.wasm_grammar.proofs.Common.{◌≡◌, true, List, [], ◌∷◌, ◌++◌, ℕ, length, ◌-◌, map, is_utf8-from_IsUtf8, is_utf8, name, number}
use Rattle.wasm_grammar.proofs.Common.{Ending, ended, Form, items, custom, index, data_count, unknown, wrong_content, Tile, version}
use Rattle.wasm_grammar.proofs.Common.{section, code_start, code_entry, final, verdict, header_grammar, section_grammar, body_grammar}
use Rattle.wasm_grammar.proofs.Common.{events_of, Event, last_event, Reading, bytes_of, grammar, Faultless, Module, Component}
use Rattle.std.proofs.lemmas.Str.{IsUtf8-nil}
use Rattle.wasm_grammar.specs.Worked.{m, component, EndsFrom, EdgesOfRules, WorkedStreams}

abbrev pub head : Tile
head = record { shape = version 1 Module; bytes = m }

abbrev pub component_head : Tile
component_head = record { shape = version 13 Component; bytes = component }

abbrev pub section_tile : Form → ℕ → List ℕ → Tile
section_tile kind id content = record { shape = section kind id content; bytes = id ∷ length content ∷ content }

abbrev pub functions : ℕ → Tile
functions n = section_tile items 3 (n ∷ 0 ∷ [])

abbrev code : ℕ → ℕ → Tile
code size count = record { shape = code_start count 1 (size - 1); bytes = 0x0a ∷ size ∷ count ∷ [] }

abbrev body_tile : List ℕ → Tile
body_tile content = record { shape = code_entry content; bytes = length content ∷ content }

-- a section whose content is one byte, 0
abbrev pub small_tile : Form → ℕ → Tile
small_tile kind id = section_tile kind id (0 ∷ [])

pub empty_name : is_utf8 [] ≡ true
empty_name = is_utf8-from_IsUtf8 [] IsUtf8-nil

-- the reading of a stream that is these tiles and then this rest, where it ends
pub ends_after : {stream : List ℕ} {start : ℕ} {end : Ending} (tiles : List Tile) (rest : List ℕ) → (stream ≡ bytes_of tiles ++ rest)
    × Faultless start tiles × (verdict (grammar start tiles) rest ≡ final end) → EndsFrom start stream end
ends_after tiles rest (w, f, s) = (tiles, record { rest = rest; whole = w; faultless = f; stops = s })

-- the reading of a stream that is these tiles
pub read_as : {stream : List ℕ} {start features : ℕ} {events : List Event} (tiles : List Tile) (end : Ending)
    → (stream ≡ bytes_of tiles ++ []) × Faultless start tiles × (verdict (grammar start tiles) [] ≡ final end)
    × (events ≡ events_of start features tiles ++ last_event end ∷ []) → Reading stream start features events
read_as tiles end (w, f, s, l) =
    record { tiles = tiles; end = end; reads = record { rest = []; whole = w; faultless = f; stops = s }; listed = l }

pub worked_streams : WorkedStreams
unfolding verdict header_grammar section_grammar body_grammar number wrong_content name
worked_streams = record {
  a_body = read_as (body_tile (0 ∷ 0x0b ∷ []) ∷ code 4 1 ∷ functions 1 ∷ head ∷ []) (ended 18) assumption;
  a_component = read_as (section_tile unknown 1 (0 ∷ []) ∷ component_head ∷ []) (ended 11) assumption;
  header_alone = ends_after (head ∷ []) [] assumption;
  unknown_version = ends_after [] (0x00 ∷ 0x61 ∷ 0x73 ∷ 0x6d ∷ 1 ∷ 1 ∷ 1 ∷ 1 ∷ []) assumption;
  types_twice = ends_after (small_tile items 1 ∷ head ∷ []) (1 ∷ 1 ∷ []) assumption;
  magic_again = ends_after (head ∷ []) (0x00 ∷ 0x61 ∷ 0x73 ∷ 0x6d ∷ []) assumption;
  no_code = ends_after (functions 1 ∷ head ∷ []) [] assumption;
  data_differ = ends_after (section_tile data_count 12 (1 ∷ []) ∷ head ∷ []) (11 ∷ 2 ∷ 2 ∷ 0 ∷ []) assumption;
  code_of_none = ends_after (code 1 0 ∷ head ∷ []) [] assumption;
  trailing = ends_after (body_tile [] ∷ code 3 1 ∷ functions 1 ∷ head ∷ []) (0 ∷ []) assumption;
  past_the_section = ends_after (body_tile [] ∷ code 2 2 ∷ functions 2 ∷ head ∷ []) (0 ∷ []) assumption;
  too_large = ends_after (head ∷ []) (0 ∷ 6 ∷ []) assumption;
}

pub edges_of_rules : EdgesOfRules
unfolding verdict header_grammar section_grammar body_grammar number wrong_content name
edges_of_rules = record {
  every_section =
      read_as (small_tile custom 0 ∷ small_tile items 11 ∷ code 1 0 ∷ small_tile data_count 12 ∷ small_tile items 9 ∷ small_tile index 8
      ∷ map (small_tile items) (7 ∷ 6 ∷ 13 ∷ 5 ∷ 4 ∷ 3 ∷ 2 ∷ 1 ∷ []) ++ head ∷ []) (ended 50) (rw empty_name assumption);
  nothing = ends_after [] [] assumption;
  half_a_header = ends_after [] (0x00 ∷ 0x61 ∷ 0x73 ∷ 0x6d ∷ 1 ∷ []) assumption;
  no_magic = ends_after [] (0x00 ∷ 0x61 ∷ 0x73 ∷ 0x6e ∷ 1 ∷ 0 ∷ 0 ∷ 0 ∷ []) assumption;
  component_of_no_layer = ends_after [] (0x00 ∷ 0x61 ∷ 0x73 ∷ 0x6d ∷ 0x0d ∷ 0 ∷ 0 ∷ 0 ∷ []) assumption;
  module_of_a_layer = ends_after [] (0x00 ∷ 0x61 ∷ 0x73 ∷ 0x6d ∷ 1 ∷ 0 ∷ 1 ∷ 0 ∷ []) assumption;
  magic_cut = ends_after (head ∷ []) (0x00 ∷ 0x61 ∷ 0x73 ∷ []) assumption;
  id_of_128 = ends_after (head ∷ []) (128 ∷ 0 ∷ []) assumption;
  id_of_127 = read_as (small_tile unknown 127 ∷ head ∷ []) (ended 11) assumption;
  unknown_id = ends_after (section_tile unknown 14 [] ∷ head ∷ []) [] assumption;
  length_cut = ends_after (head ∷ []) (1 ∷ 0x80 ∷ []) assumption;
  length_too_long = ends_after (head ∷ []) (1 ∷ 0x80 ∷ 0x80 ∷ 0x80 ∷ 0x80 ∷ 0x80 ∷ []) assumption;
  section_cut = ends_after (head ∷ []) (1 ∷ 2 ∷ 0 ∷ []) assumption;
  at_the_top = ends_after (small_tile custom 0 ∷ head ∷ []) [] (rw empty_name assumption);
  count_too_large = ends_after (head ∷ []) (1 ∷ 5 ∷ 0xff ∷ 0xff ∷ 0xff ∷ 0xff ∷ 0x1f ∷ []) assumption;
  count_cut = ends_after (head ∷ []) (1 ∷ 1 ∷ 0x80 ∷ []) assumption;
  types_after_custom = ends_after (small_tile custom 0 ∷ small_tile items 1 ∷ head ∷ []) (1 ∷ 1 ∷ 0 ∷ []) (rw empty_name assumption);
  components_have_no_order =
      ends_after (small_tile unknown 1 ∷ small_tile unknown 1 ∷ small_tile unknown 2 ∷ component_head ∷ [])
      [] assumption;
  name_cut = ends_after (head ∷ []) (0 ∷ 1 ∷ 5 ∷ []) assumption;
  name_too_long = ends_after (head ∷ []) (0 ∷ 3 ∷ 0xa1 ∷ 0x8d ∷ 6 ∷ []) assumption;
  start_cut = ends_after (head ∷ []) (8 ∷ 0 ∷ []) assumption;
  start_with_more = ends_after (head ∷ []) (8 ∷ 2 ∷ 0 ∷ 0 ∷ []) assumption;
  count_with_more = ends_after (head ∷ []) (12 ∷ 2 ∷ 0 ∷ 0 ∷ []) assumption;
  no_functions = ends_after (small_tile items 3 ∷ head ∷ []) [] assumption;
  code_alone = ends_after (head ∷ []) (10 ∷ 2 ∷ 1 ∷ 0 ∷ []) assumption;
  code_differs = ends_after (small_tile items 3 ∷ head ∷ []) (10 ∷ 2 ∷ 1 ∷ 0 ∷ []) assumption;
  no_data = ends_after (section_tile data_count 12 (1 ∷ []) ∷ head ∷ []) [] assumption;
  no_segments = ends_after (small_tile data_count 12 ∷ head ∷ []) [] assumption;
  data_of_more = ends_after (small_tile data_count 12 ∷ head ∷ []) (11 ∷ 2 ∷ 1 ∷ 0 ∷ []) assumption;
  code_without_count = ends_after (head ∷ []) (10 ∷ 0 ∷ []) assumption;
  count_past_the_section = ends_after (head ∷ []) (10 ∷ 0 ∷ 0 ∷ []) assumption;
  no_body = ends_after (code 1 1 ∷ functions 1 ∷ head ∷ []) [] assumption;
  body_size_cut = ends_after (code 2 1 ∷ functions 1 ∷ head ∷ []) (0x80 ∷ []) assumption;
  body_cut = ends_after (code 7 1 ∷ functions 1 ∷ head ∷ []) (5 ∷ 0 ∷ []) assumption;
  body_past_the_section = ends_after (code 2 1 ∷ functions 1 ∷ head ∷ []) (5 ∷ []) assumption;
}
