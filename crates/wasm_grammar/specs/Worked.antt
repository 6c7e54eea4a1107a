-- Worked streams, and what is read of them.
use Rattle.std.specs.Prelude.{ℕ, List, [], ◌∷◌, ◌++◌, flat_map, Some}
use Rattle.wasm_base.specs.FaultAt.{at_offset}
use Rattle.wasm_base.specs.Features.{all_features}
use Rattle.wasm_base.specs.Window.{Window}
use Rattle.wasm_base.specs.declared.fault.Fault.TheVariants.{OutOfOrder, FunctionWithoutCode, FunctionCodeDiffer}
use Rattle.wasm_base.specs.declared.fault.Fault.TheVariants.{CodeWithoutFunction, DataCountWithoutData, DataCountDiffer}
use Rattle.wasm_base.specs.declared.fault.Fault.TheVariants.{StartContent, DataCountContent, SectionTooLarge}
use Rattle.wasm_base.specs.declared.fault.Fault.TheVariants.{MalformedSectionId, TrailingCode, UnexpectedEof}
use Rattle.wasm_base.specs.declared.fault.Fault.TheVariants.{MagicAtSection, BadMagic, UnknownVersion, NumberTooLong}
use Rattle.wasm_base.specs.declared.fault.Fault.TheVariants.{NumberTooLarge, StringSize}
use Rattle.wasm_base.specs.declared.fault.NumberKind.TheVariants.{VarU32}
use Rattle.wasm_grammar.specs.Content.{Ending, fault, ended}
use Rattle.wasm_grammar.specs.Grammar.{Tile}
use Rattle.wasm_grammar.specs.Reading.{version, counted, start_section, data_count_section, code_start, code_entry}
use Rattle.wasm_grammar.specs.Reading.{custom_section, unknown_section, stream_end, Report, Event, Reads, Reading}
use Rattle.wasm_grammar.specs.declared.encoding.Encoding.TheVariants.{Module, Component}

-- a module's header
abbrev pub m : List ℕ
m = 0x00 ∷ 0x61 ∷ 0x73 ∷ 0x6d ∷ 0x01 ∷ 0x00 ∷ 0x00 ∷ 0x00 ∷ []

-- a component's header
abbrev pub component : List ℕ
component = 0x00 ∷ 0x61 ∷ 0x73 ∷ 0x6d ∷ 0x0d ∷ 0x00 ∷ 0x01 ∷ 0x00 ∷ []

-- a window with these features and bytes, from this offset on, of which nothing is read
abbrev pub window : (features start : ℕ) → List ℕ → Window
window features start bytes = record { features = features; start = start; bytes = bytes; position = 0 }

abbrev pub event : Report → List ℕ → Event
event report consumed = record { report = report; consumed = consumed }

-- The reading of this stream, which starts at this offset, ends so.
abbrev pub EndsFrom : (start : ℕ) → List ℕ → Ending → Type 0
EndsFrom start stream end = (tiles : List Tile) × Reads stream start tiles end

-- The reading of this stream, which starts at offset 0, ends so.
abbrev pub EndsSo : List ℕ → Ending → Type 0
EndsSo stream end = EndsFrom 0 stream end

-- a function section and a code section with its one body
abbrev pub ABody : Type 0
ABody = Reading (m ++ 3 ∷ 2 ∷ 1 ∷ 0 ∷ 0x0a ∷ 4 ∷ 1 ∷ 2 ∷ 0 ∷ 0x0b ∷ []) 0 all_features
    (event (version 1 Module 0 8) m
    ∷ event (counted 3 1 (window all_features 10 (1 ∷ 0 ∷ []))) (3 ∷ 2 ∷ 1 ∷ 0 ∷ [])
    ∷ event (code_start 1 14 18 3) (0x0a ∷ 4 ∷ 1 ∷ [])
    ∷ event (code_entry (window all_features 16 (0 ∷ 0x0b ∷ []))) (2 ∷ 0 ∷ 0x0b ∷ [])
    ∷ event (stream_end (ended 18)) [] ∷ [])

-- a section with this id whose content is one byte, 0
abbrev pub small : ℕ → List ℕ
small id = id ∷ 1 ∷ 0 ∷ []

abbrev pub counted_none : (id from : ℕ) → Event
counted_none id from = event (counted id 0 (window all_features from (0 ∷ []))) (small id)

-- a module with every section, in their order
abbrev pub EverySection : Type 0
EverySection = Reading (m ++ flat_map small (1 ∷ 2 ∷ 3 ∷ 4 ∷ 5 ∷ 13 ∷ 6 ∷ 7 ∷ 8 ∷ 9 ∷ 12 ∷ 10 ∷ 11 ∷ 0 ∷ [])) 0
    all_features
    (event (version 1 Module 0 8) m
    ∷ counted_none 1 10 ∷ counted_none 2 13 ∷ counted_none 3 16 ∷ counted_none 4 19 ∷ counted_none 5 22
    ∷ counted_none 13 25 ∷ counted_none 6 28 ∷ counted_none 7 31
    ∷ event (start_section 0 34 35) (small 8)
    ∷ counted_none 9 37
    ∷ event (data_count_section 0 40 41) (small 12)
    ∷ event (code_start 0 43 44 0) (small 10)
    ∷ counted_none 11 46
    ∷ event (custom_section [] 50 (window all_features 49 (0 ∷ []))) (small 0)
    ∷ event (stream_end (ended 50)) [] ∷ [])

-- a component, whose type section is an unknown one
abbrev pub AComponent : Type 0
AComponent = Reading (component ++ 1 ∷ 1 ∷ 0 ∷ []) 0 all_features
    (event (version 13 Component 0 8) component
    ∷ event (unknown_section 1 (0 ∷ []) 10 11) (1 ∷ 1 ∷ 0 ∷ [])
    ∷ event (stream_end (ended 11)) [] ∷ [])

-- a section with the highest id below 128, which is an unknown one
abbrev pub AHighId : Type 0
AHighId = Reading (m ++ small 127) 0 all_features
    (event (version 1 Module 0 8) m
    ∷ event (unknown_section 127 (0 ∷ []) 10 11) (small 127)
    ∷ event (stream_end (ended 11)) [] ∷ [])

-- worked streams, by what is peculiar to each
pub record WorkedStreams : Type 0 where
  pub a_body : ABody
  pub a_component : AComponent
  pub header_alone : EndsSo m (ended 8)
  pub unknown_version : EndsSo (0x00 ∷ 0x61 ∷ 0x73 ∷ 0x6d ∷ 1 ∷ 1 ∷ 1 ∷ 1 ∷ [])
      (fault (record { fault = UnknownVersion; offset = 4; number = Some 16843009 }))
  pub types_twice : EndsSo (m ++ 1 ∷ 1 ∷ 0 ∷ 1 ∷ 1 ∷ []) (fault (at_offset OutOfOrder 13))
  pub magic_again : EndsSo (m ++ 0x00 ∷ 0x61 ∷ 0x73 ∷ 0x6d ∷ []) (fault (at_offset MagicAtSection 8))
  pub no_code : EndsSo (m ++ 3 ∷ 2 ∷ 1 ∷ 0 ∷ []) (fault (at_offset FunctionWithoutCode 12))
  pub data_differ : EndsSo (m ++ 12 ∷ 1 ∷ 1 ∷ 11 ∷ 2 ∷ 2 ∷ 0 ∷ []) (fault (at_offset DataCountDiffer 15))
  pub code_of_none : EndsSo (m ++ small 10) (ended 11)
  pub trailing : EndsSo (m ++ 3 ∷ 2 ∷ 1 ∷ 0 ∷ 10 ∷ 3 ∷ 1 ∷ 0 ∷ 0 ∷ []) (fault (at_offset TrailingCode 16))
  pub past_the_section : EndsSo (m ++ 3 ∷ 2 ∷ 2 ∷ 0 ∷ 10 ∷ 2 ∷ 2 ∷ 0 ∷ 0 ∷ []) (fault (at_offset UnexpectedEof 16))
  pub too_large : EndsFrom 18446744073709551600 (m ++ 0 ∷ 6 ∷ [])
      (fault (record { fault = SectionTooLarge; offset = 18446744073709551609; number = Some 6 }))

-- streams at the edges of the rules, by what each has
pub record EdgesOfRules : Type 0 where
  pub every_section : EverySection
  pub nothing : EndsSo [] (fault (at_offset UnexpectedEof 0))
  pub half_a_header : EndsSo (0x00 ∷ 0x61 ∷ 0x73 ∷ 0x6d ∷ 1 ∷ []) (fault (at_offset UnexpectedEof 4))
  pub no_magic : EndsSo (0x00 ∷ 0x61 ∷ 0x73 ∷ 0x6e ∷ 1 ∷ 0 ∷ 0 ∷ 0 ∷ []) (fault (at_offset BadMagic 0))
  pub component_of_no_layer : EndsSo (0x00 ∷ 0x61 ∷ 0x73 ∷ 0x6d ∷ 0x0d ∷ 0 ∷ 0 ∷ 0 ∷ [])
      (fault (record { fault = UnknownVersion; offset = 4; number = Some 13 }))
  pub module_of_a_layer : EndsSo (0x00 ∷ 0x61 ∷ 0x73 ∷ 0x6d ∷ 1 ∷ 0 ∷ 1 ∷ 0 ∷ [])
      (fault (record { fault = UnknownVersion; offset = 4; number = Some 65537 }))
  pub magic_cut : EndsSo (m ++ 0x00 ∷ 0x61 ∷ 0x73 ∷ []) (fault (at_offset UnexpectedEof 10))
  pub id_of_128 : EndsSo (m ++ 128 ∷ 0 ∷ []) (fault (at_offset MalformedSectionId 8))
  pub id_of_127 : AHighId
  pub unknown_id : EndsSo (m ++ 14 ∷ 0 ∷ []) (ended 10)
  pub length_cut : EndsSo (m ++ 1 ∷ 0x80 ∷ []) (fault (at_offset UnexpectedEof 10))
  pub length_too_long : EndsSo (m ++ 1 ∷ 0x80 ∷ 0x80 ∷ 0x80 ∷ 0x80 ∷ 0x80 ∷ [])
      (fault (at_offset (NumberTooLong VarU32) 13))
  pub section_cut : EndsSo (m ++ 1 ∷ 2 ∷ 0 ∷ []) (fault (at_offset UnexpectedEof 10))
  pub at_the_top : EndsFrom 18446744073709551604 (m ++ small 0) (ended 18446744073709551615)
  pub count_too_large : EndsSo (m ++ 1 ∷ 5 ∷ 0xff ∷ 0xff ∷ 0xff ∷ 0xff ∷ 0x1f ∷ [])
      (fault (at_offset (NumberTooLarge VarU32) 14))
  pub count_cut : EndsSo (m ++ 1 ∷ 1 ∷ 0x80 ∷ []) (fault (at_offset UnexpectedEof 11))
  pub types_after_custom : EndsSo (m ++ small 1 ++ small 0 ++ small 1) (fault (at_offset OutOfOrder 16))
  pub components_have_no_order : EndsSo (component ++ small 2 ++ small 1 ++ small 1) (ended 17)
  pub name_cut : EndsSo (m ++ 0 ∷ 1 ∷ 5 ∷ []) (fault (at_offset UnexpectedEof 11))
  pub name_too_long : EndsSo (m ++ 0 ∷ 3 ∷ 0xa1 ∷ 0x8d ∷ 6 ∷ []) (fault (at_offset StringSize 12))
  pub start_cut : EndsSo (m ++ 8 ∷ 0 ∷ []) (fault (at_offset UnexpectedEof 10))
  pub start_with_more : EndsSo (m ++ 8 ∷ 2 ∷ 0 ∷ 0 ∷ []) (fault (at_offset StartContent 11))
  pub count_with_more : EndsSo (m ++ 12 ∷ 2 ∷ 0 ∷ 0 ∷ []) (fault (at_offset DataCountContent 11))
  pub no_functions : EndsSo (m ++ small 3) (ended 11)
  pub code_alone : EndsSo (m ++ 10 ∷ 2 ∷ 1 ∷ 0 ∷ []) (fault (at_offset CodeWithoutFunction 10))
  pub code_differs : EndsSo (m ++ 3 ∷ 1 ∷ 0 ∷ 10 ∷ 2 ∷ 1 ∷ 0 ∷ []) (fault (at_offset FunctionCodeDiffer 13))
  pub no_data : EndsSo (m ++ 12 ∷ 1 ∷ 1 ∷ []) (fault (at_offset DataCountWithoutData 11))
  pub no_segments : EndsSo (m ++ small 12) (ended 11)
  pub data_of_more : EndsSo (m ++ 12 ∷ 1 ∷ 0 ∷ 11 ∷ 2 ∷ 1 ∷ 0 ∷ []) (fault (at_offset DataCountDiffer 15))
  pub code_without_count : EndsSo (m ++ 10 ∷ 0 ∷ []) (fault (at_offset UnexpectedEof 10))
  pub count_past_the_section : EndsSo (m ++ 10 ∷ 0 ∷ 0 ∷ []) (fault (at_offset UnexpectedEof 10))
  pub no_body : EndsSo (m ++ 3 ∷ 2 ∷ 1 ∷ 0 ∷ 10 ∷ 1 ∷ 1 ∷ []) (fault (at_offset UnexpectedEof 15))
  pub body_size_cut : EndsSo (m ++ 3 ∷ 2 ∷ 1 ∷ 0 ∷ 10 ∷ 2 ∷ 1 ∷ 0x80 ∷ []) (fault (at_offset UnexpectedEof 16))
  pub body_cut : EndsSo (m ++ 3 ∷ 2 ∷ 1 ∷ 0 ∷ 10 ∷ 7 ∷ 1 ∷ 5 ∷ 0 ∷ []) (fault (at_offset UnexpectedEof 16))
  pub body_past_the_section : EndsSo (m ++ 3 ∷ 2 ∷ 1 ∷ 0 ∷ 10 ∷ 2 ∷ 1 ∷ 5 ∷ []) (fault (at_offset UnexpectedEof 15))
