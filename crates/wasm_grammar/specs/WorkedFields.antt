-- Worked streams whose fields take several bytes, that start elsewhere, with other features, or with two faults at
-- once.
use Rattle.std.specs.Prelude.{ℕ, ◌+◌, [], ◌∷◌, ◌++◌, flat_map, Some}
use Rattle.wasm_base.specs.FaultAt.{at_offset}
use Rattle.wasm_base.specs.Features.{all_features}
use Rattle.wasm_base.specs.declared.fault.Fault.TheVariants.{UnexpectedEof, BadMagic, MagicAtSection}
use Rattle.wasm_base.specs.declared.fault.Fault.TheVariants.{MalformedSectionId, SectionTooLarge, OutOfOrder}
use Rattle.wasm_base.specs.declared.fault.Fault.TheVariants.{StartContent, DataCountContent, FunctionCodeDiffer}
use Rattle.wasm_base.specs.declared.fault.Fault.TheVariants.{FunctionWithoutCode, CodeWithoutFunction, DataCountDiffer}
use Rattle.wasm_base.specs.declared.fault.Fault.TheVariants.{TrailingCode, NumberTooLong, NumberTooLarge, StringSize}
use Rattle.wasm_base.specs.declared.fault.NumberKind.TheVariants.{VarU32}
use Rattle.wasm_grammar.specs.Content.{fault, ended}
use Rattle.wasm_grammar.specs.Reading.{version, counted, start_section, code_start, code_entry, custom_section}
use Rattle.wasm_grammar.specs.Reading.{unknown_section, stream_end, Event, Reading}
use Rattle.wasm_grammar.specs.Worked.{m, component, event, window, small, EndsFrom}
use Rattle.wasm_grammar.specs.declared.encoding.Encoding.TheVariants.{Module, Component}

-- a custom section with a name and data
abbrev pub NameAndData : Type 0
NameAndData = Reading (m ++ 0 ∷ 3 ∷ 1 ∷ 97 ∷ 7 ∷ []) 0 all_features
    (event (version 1 Module 0 8) m
    ∷ event (custom_section (97 ∷ []) 12 (window all_features 10 (1 ∷ 97 ∷ 7 ∷ []))) (0 ∷ 3 ∷ 1 ∷ 97 ∷ 7 ∷ [])
    ∷ event (stream_end (ended 13)) [] ∷ [])

-- a section of a component with this id, which is unknown and is at this offset
abbrev pub unknown_one : (id from : ℕ) → Event
unknown_one id from = event (unknown_section id (0 ∷ []) from (from + 1)) (small id)

-- a component with a section of each id from 0 to 13: only 0 is known
abbrev pub AllIdsOfAComponent : Type 0
AllIdsOfAComponent = Reading (component ++ flat_map small
    (0 ∷ 1 ∷ 2 ∷ 3 ∷ 4 ∷ 5 ∷ 6 ∷ 7 ∷ 8 ∷ 9 ∷ 10 ∷ 11 ∷ 12 ∷ 13 ∷ [])) 0 all_features
    (event (version 13 Component 0 8) component
    ∷ event (custom_section [] 11 (window all_features 10 (0 ∷ []))) (small 0)
    ∷ unknown_one 1 13 ∷ unknown_one 2 16 ∷ unknown_one 3 19 ∷ unknown_one 4 22 ∷ unknown_one 5 25 ∷ unknown_one 6 28
    ∷ unknown_one 7 31 ∷ unknown_one 8 34 ∷ unknown_one 9 37 ∷ unknown_one 10 40 ∷ unknown_one 11 43
    ∷ unknown_one 12 46 ∷ unknown_one 13 49
    ∷ event (stream_end (ended 50)) [] ∷ [])

-- a module that starts at 1000, read with the first feature alone, whose fields take several bytes
abbrev pub Elsewhere : Type 0
Elsewhere = Reading (m ++ 1 ∷ 0x83 ∷ 0 ∷ 0x80 ∷ 1 ∷ 9 ∷ 3 ∷ 0x83 ∷ 0 ∷ 0x81 ∷ 0 ∷ 7 ∷ 8 ∷ 0x82 ∷ 0 ∷ 0x81 ∷ 1 ∷ 10
    ∷ 0x87 ∷ 0 ∷ 0x81 ∷ 0 ∷ 0x83 ∷ 0 ∷ 0 ∷ 65 ∷ 11 ∷ 0 ∷ 0x84 ∷ 0 ∷ 1 ∷ 97 ∷ 5 ∷ 6 ∷ []) 1000 1
    (event (version 1 Module 1000 1008) m
    ∷ event (counted 1 128 (window 1 1011 (0x80 ∷ 1 ∷ 9 ∷ []))) (1 ∷ 0x83 ∷ 0 ∷ 0x80 ∷ 1 ∷ 9 ∷ [])
    ∷ event (counted 3 1 (window 1 1017 (0x81 ∷ 0 ∷ 7 ∷ []))) (3 ∷ 0x83 ∷ 0 ∷ 0x81 ∷ 0 ∷ 7 ∷ [])
    ∷ event (start_section 129 1023 1025) (8 ∷ 0x82 ∷ 0 ∷ 0x81 ∷ 1 ∷ [])
    ∷ event (code_start 1 1028 1035 5) (10 ∷ 0x87 ∷ 0 ∷ 0x81 ∷ 0 ∷ [])
    ∷ event (code_entry (window 1 1032 (0 ∷ 65 ∷ 11 ∷ []))) (0x83 ∷ 0 ∷ 0 ∷ 65 ∷ 11 ∷ [])
    ∷ event (custom_section (97 ∷ []) 1040 (window 1 1038 (1 ∷ 97 ∷ 5 ∷ 6 ∷ []))) (0 ∷ 0x84 ∷ 0 ∷ 1 ∷ 97 ∷ 5 ∷ 6 ∷ [])
    ∷ event (stream_end (ended 1042)) [] ∷ [])

-- whole readings
pub record WholeReadings : Type 0 where
  pub name_and_data : NameAndData
  pub all_ids_of_a_component : AllIdsOfAComponent
  pub elsewhere : Elsewhere

-- streams with fields of several bytes before each fault whose offset depends on them
pub record LongFields : Type 0 where
  pub out_of_order : EndsFrom 0 (m ++ 3 ∷ 1 ∷ 0 ∷ 1 ∷ 0x81 ∷ 0 ∷ 0 ∷ []) (fault (at_offset OutOfOrder 14))
  pub order_of_one_rank : EndsFrom 100 (m ++ 1 ∷ 0x81 ∷ 0x80 ∷ 0 ∷ 0 ∷ 1 ∷ 0x81 ∷ 0x80 ∷ 0x80 ∷ 0 ∷ 0 ∷ [])
      (fault (at_offset OutOfOrder 118))
  pub section_cut : EndsFrom 0 (m ++ 1 ∷ 0x83 ∷ 0 ∷ 0 ∷ []) (fault (at_offset UnexpectedEof 11))
  pub length_too_large : EndsFrom 7 (m ++ 1 ∷ 0xff ∷ 0xff ∷ 0xff ∷ 0xff ∷ 31 ∷ [])
      (fault (at_offset (NumberTooLarge VarU32) 20))
  pub count_in_two_bytes_cut : EndsFrom 0 (m ++ 1 ∷ 0x82 ∷ 0 ∷ 0x80 ∷ 0x80 ∷ []) (fault (at_offset UnexpectedEof 13))
  pub count_too_long : EndsFrom 100 (m ++ 2 ∷ 0x86 ∷ 0 ∷ 0x80 ∷ 0x80 ∷ 0x80 ∷ 0x80 ∷ 0x80 ∷ 0 ∷ [])
      (fault (at_offset (NumberTooLong VarU32) 115))
  pub name_cut : EndsFrom 0 (m ++ 0 ∷ 0x82 ∷ 0 ∷ 0x85 ∷ 0 ∷ []) (fault (at_offset UnexpectedEof 13))
  pub name_too_long : EndsFrom 0 (m ++ 0 ∷ 0x84 ∷ 0 ∷ 0xa1 ∷ 0x8d ∷ 0x86 ∷ 0 ∷ []) (fault (at_offset StringSize 14))
  pub start_with_more : EndsFrom 0 (m ++ 8 ∷ 0x83 ∷ 0 ∷ 0x81 ∷ 0 ∷ 0 ∷ []) (fault (at_offset StartContent 13))
  pub data_count_with_more : EndsFrom 0 (m ++ 12 ∷ 0x83 ∷ 0 ∷ 0x81 ∷ 0 ∷ 0 ∷ []) (fault (at_offset DataCountContent 13))
  pub code_differs : EndsFrom 0 (m ++ 3 ∷ 0x81 ∷ 0 ∷ 0 ∷ 10 ∷ 0x83 ∷ 0 ∷ 0x81 ∷ 0 ∷ 0 ∷ [])
      (fault (at_offset FunctionCodeDiffer 15))
  pub code_alone : EndsFrom 0 (m ++ 10 ∷ 0x83 ∷ 0 ∷ 0x81 ∷ 0 ∷ 0 ∷ []) (fault (at_offset CodeWithoutFunction 11))
  pub count_past_the_section : EndsFrom 0 (m ++ 3 ∷ 2 ∷ 1 ∷ 0 ∷ 10 ∷ 0x81 ∷ 0 ∷ 0x81 ∷ 0 ∷ [])
      (fault (at_offset UnexpectedEof 15))
  pub data_differ : EndsFrom 0 (m ++ 12 ∷ 0x82 ∷ 0 ∷ 0x81 ∷ 0 ∷ 11 ∷ 0x83 ∷ 0 ∷ 0x82 ∷ 0 ∷ 0 ∷ [])
      (fault (at_offset DataCountDiffer 19))
  pub body_missed : EndsFrom 0 (m ++ 3 ∷ 2 ∷ 1 ∷ 0 ∷ 10 ∷ 0x8a ∷ 0 ∷ 0x81 ∷ 0 ∷ 0x85 ∷ 0x80 ∷ 0 ∷ 0 ∷ [])
      (fault (at_offset UnexpectedEof 20))
  pub body_past_the_section : EndsFrom 0 (m ++ 3 ∷ 2 ∷ 1 ∷ 0 ∷ 10 ∷ 0x84 ∷ 0 ∷ 0x81 ∷ 0 ∷ 0x81 ∷ 0 ∷ 11 ∷ [])
      (fault (at_offset UnexpectedEof 17))
  pub body_size_cut : EndsFrom 0 (m ++ 3 ∷ 2 ∷ 1 ∷ 0 ∷ 10 ∷ 0x89 ∷ 0 ∷ 0x81 ∷ 0 ∷ 0x80 ∷ 0x80 ∷ [])
      (fault (at_offset UnexpectedEof 19))
  pub trailing : EndsFrom 0 (m ++ 3 ∷ 2 ∷ 1 ∷ 0 ∷ 10 ∷ 0x85 ∷ 0 ∷ 0x81 ∷ 0 ∷ 0x80 ∷ 0 ∷ 0 ∷ [])
      (fault (at_offset TrailingCode 19))
  pub trailing_after_a_body : EndsFrom 1000 (m ++ 3 ∷ 2 ∷ 1 ∷ 0 ∷ 10 ∷ 0x87 ∷ 0 ∷ 0x81 ∷ 0 ∷ 0x82 ∷ 0 ∷ 0 ∷ 11 ∷ 0xff
      ∷ []) (fault (at_offset TrailingCode 1021))

-- streams in which two checks can fail: the first decides
pub record TwoFaults : Type 0 where
  pub too_large_and_out_of_order : EndsFrom 18446744073709551600 (m ++ 1 ∷ 1 ∷ 0 ∷ 1 ∷ 6 ∷ [])
      (fault (record { fault = SectionTooLarge; offset = 18446744073709551612; number = Some 6 }))
  pub magic_and_name_cut : EndsFrom 0 (m ++ 0 ∷ 97 ∷ 115 ∷ 109 ∷ []) (fault (at_offset MagicAtSection 8))
  pub no_id_and_length_cut : EndsFrom 0 (m ++ 0x80 ∷ 0x80 ∷ []) (fault (at_offset MalformedSectionId 8))
  pub length_bad_and_out_of_order : EndsFrom 0 (m ++ 3 ∷ 1 ∷ 0 ∷ 1 ∷ 0x80 ∷ 0x80 ∷ 0x80 ∷ 0x80 ∷ 16 ∷ [])
      (fault (at_offset (NumberTooLarge VarU32) 16))
  pub length_cut_and_out_of_order : EndsFrom 0 (m ++ 3 ∷ 1 ∷ 0 ∷ 1 ∷ 0x80 ∷ []) (fault (at_offset UnexpectedEof 13))
  pub out_of_order_and_cut : EndsFrom 0 (m ++ 3 ∷ 1 ∷ 0 ∷ 1 ∷ 0x85 ∷ 0 ∷ []) (fault (at_offset OutOfOrder 14))
  pub out_of_order_and_content_wrong : EndsFrom 0 (m ++ 9 ∷ 1 ∷ 0 ∷ 8 ∷ 0x82 ∷ 0 ∷ 0 ∷ 0 ∷ [])
      (fault (at_offset OutOfOrder 14))
  pub cut_and_content_wrong : EndsFrom 0 (m ++ 8 ∷ 0x83 ∷ 0 ∷ 0 ∷ 0 ∷ []) (fault (at_offset UnexpectedEof 11))
  pub count_wrong_and_data_differ : EndsFrom 0 (m ++ 12 ∷ 1 ∷ 1 ∷ 11 ∷ 0x82 ∷ 0 ∷ 0x80 ∷ 0x80 ∷ [])
      (fault (at_offset UnexpectedEof 16))
  pub code_out_of_order_and_cut : EndsFrom 0 (m ++ 11 ∷ 1 ∷ 0 ∷ 10 ∷ 0x81 ∷ 0 ∷ []) (fault (at_offset OutOfOrder 14))
  pub code_out_of_order_and_differs : EndsFrom 0 (m ++ 3 ∷ 1 ∷ 0 ∷ 11 ∷ 1 ∷ 0 ∷ 10 ∷ 0x82 ∷ 0 ∷ 1 ∷ 0 ∷ [])
      (fault (at_offset OutOfOrder 17))
  pub count_bad_past_the_section : EndsFrom 0 (m ++ 10 ∷ 1 ∷ 0x80 ∷ 0x80 ∷ 0x80 ∷ 0x80 ∷ 16 ∷ [])
      (fault (at_offset (NumberTooLarge VarU32) 14))
  pub count_past_the_section_and_differs : EndsFrom 0 (m ++ 3 ∷ 2 ∷ 1 ∷ 0 ∷ 10 ∷ 1 ∷ 0x82 ∷ 0 ∷ [])
      (fault (at_offset UnexpectedEof 14))
  pub count_past_the_section_alone : EndsFrom 0 (m ++ 10 ∷ 1 ∷ 0x82 ∷ 0 ∷ []) (fault (at_offset UnexpectedEof 10))
  pub body_size_bad_past_the_section : EndsFrom 0 (m ++ 3 ∷ 2 ∷ 1 ∷ 0 ∷ 10 ∷ 2 ∷ 1 ∷ 0x80 ∷ 0x80 ∷ 0x80 ∷ 0x80 ∷ 16
      ∷ []) (fault (at_offset (NumberTooLarge VarU32) 19))
  pub body_missed_past_the_section : EndsFrom 0 (m ++ 3 ∷ 2 ∷ 1 ∷ 0 ∷ 10 ∷ 3 ∷ 1 ∷ 0x85 ∷ 0 ∷ 0 ∷ [])
      (fault (at_offset UnexpectedEof 15))
  pub functions_and_data_count_unmatched : EndsFrom 0 (m ++ 3 ∷ 2 ∷ 1 ∷ 0 ∷ 12 ∷ 1 ∷ 1 ∷ [])
      (fault (at_offset FunctionWithoutCode 15))
  pub name_missed_and_not_utf8 : EndsFrom 0 (m ++ 0 ∷ 2 ∷ 2 ∷ 0xff ∷ []) (fault (at_offset UnexpectedEof 11))
  pub other_magic_cut : EndsFrom 0 (0 ∷ 97 ∷ 115 ∷ 110 ∷ []) (fault (at_offset BadMagic 0))
  pub other_magic_other_version : EndsFrom 0 (0 ∷ 97 ∷ 115 ∷ 110 ∷ 2 ∷ 0 ∷ 0 ∷ 0 ∷ []) (fault (at_offset BadMagic 0))
  pub header_cut_other_version : EndsFrom 9 (0 ∷ 97 ∷ 115 ∷ 109 ∷ 2 ∷ 0 ∷ 0 ∷ []) (fault (at_offset UnexpectedEof 13))
