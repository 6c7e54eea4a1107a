-- Which events a dump shows, and the line of each.
use Rattle.std.specs.Prelude.{◌≡◌, option_map, ℕ, Bool, true, false, List, [], ◌∷◌, ◌++◌, Option, Some, None, nat_eq}
use Rattle.std.specs.Prelude.{not, bytes_eq, codes, decimal, ◌-◌, if◌then◌else◌}
use Rattle.std.specs.List.{list_any}
use Rattle.std.specs.declared.ops.Range.{Range}
use Rattle.wasm_grammar.specs.Reading.{Report, counted, code_entry, custom_section, stream_end}
use Rattle.wasm_grammar.specs.Ids.{code_id}
use Rattle.wasm_grammar.specs.Ids.{name_of as section_name}
use Rattle.wasm_grammar.specs.Sections.{section_of, window_range}
use Rattle.wasm_frames.specs.SkipNext.{Skip, custom}
use Rattle.wasm_lines.specs.Listing.{line_of, report_text, skip_text}
use Rattle.wasm_io.specs.declared.digits.Base.{Base}
use Rattle.wasm_io.specs.declared.digits.Base.TheVariants.{Decimal}
use Rattle.wasm_output.specs.Numbers.{blank_numbers}
use Rattle.wasm_dumper.specs.Counting.{numbers_in_line}
use Rattle.wasm_output.specs.Tree.{base_of}
use Rattle.wasm_output.specs.declared.numbers.Space.TheVariants.{Functions}
use Rattle.wasm_dumper.specs.declared.counts.Counts.{Counts}
use Rattle.wasm_output.specs.declared.tree.Style.{Style}
use Rattle.wasm_dumper.specs.declared.events.CustomFields.{CustomFields}
use Rattle.wasm_dumper.specs.declared.events.Only.{Only}
use Rattle.wasm_dumper.specs.declared.events.Only.TheVariants.{All, Parts, Id, Name}

-- the id of the section that is reported, or that a part of one is of. Core specification, Binary format, Modules,
-- Sections.
abbrev pub id_of : Report → Option ℕ
id_of (code_entry window) = Some code_id
id_of other = option_map (λ s. s.0) (section_of other)

-- the name of the custom section that is reported
abbrev pub name_of : Report → Option (List ℕ)
name_of (custom_section name data_offset window) = Some name
name_of other = None

abbrev pub is_last : Report → Bool
is_last (stream_end end) = true
is_last other = false

abbrev pub is_id : ℕ → Option ℕ → Bool
is_id id (Some other) = nat_eq id other
is_id id None = false

abbrev pub is_name : List ℕ → Option (List ℕ) → Bool
is_name name (Some other) = bytes_eq name other
is_name name None = false

-- whether this choice alone chooses a part of the section with this id, or the custom section with this name
abbrev pub is_chosen_with : Only → Option ℕ → Option (List ℕ) → Bool
is_chosen_with All section name = true
is_chosen_with Parts section name = true
is_chosen_with (Id id) section name = is_id id section
is_chosen_with (Name text) section name = is_name text.now name

-- | which events a dump shows, by one choice and by several; the line of each: its text in a listing, and the name and
--   size of its section [`is_chosen`, `chosen_line`, `shown_line`, `numbered_line`, `BeginAlike`] <Modules, Sections
--   (the ids and names); this project>
-- whether this choice alone chooses what is reported
abbrev pub is_chosen_by : Only → Report → Bool
is_chosen_by choice report = is_chosen_with choice (id_of report) (name_of report)

-- whether what is reported is shown: the sections that any of these choices chooses, and the last event
abbrev pub is_chosen : List Only → Report → Bool
is_chosen only report = if is_last report then true else list_any (λ choice. is_chosen_by choice report) only

abbrev pub is_parts : Only → Bool
is_parts Parts = true
is_parts other = false

-- whether items are shown: no choice is of the parts alone
abbrev pub shows_items : List Only → Bool
shows_items only = not (list_any is_parts only)

-- a custom section by its first fields, as a part
abbrev pub fields_part : CustomFields → Skip
fields_part f = record { from = f.start; to = f.end; head = custom f.name.now f.data_offset }

-- the name of the section that is reported with its id; the text of any other report begins with its name
abbrev pub counted_name : Report → Option (List ℕ)
counted_name (counted id count window) = section_name id
counted_name other = None

abbrev pub after_blank : Option (List ℕ) → List ℕ
after_blank (Some name) = codes " " ++ name
after_blank None = []

-- the offsets of a section's content, or of a body
abbrev pub range_of : Report → Option (Range ℕ)
range_of (code_entry window) = Some (window_range window)
range_of other = option_map (λ s. s.1) (section_of other)

-- how many bytes are in a range, as a field
abbrev pub size_text : Option (Range ℕ) → List ℕ
size_text (Some range) = codes " size=" ++ decimal (range.end - range.start)
size_text None = []

-- what a dump adds to a line of a listing: the name of the section, and how many bytes it has, or a body has
abbrev pub section_words : Report → List ℕ
section_words report = after_blank (counted_name report) ++ size_text (range_of report)

-- the text of a custom section by its first fields: that in a listing, and how many bytes it has
abbrev pub outlined_text : Base → Skip → List ℕ
outlined_text base s = skip_text base s ++ size_text (Some (record { start = s.from; end = s.to }))

-- the line of what is reported: its text in a listing with offsets in this base, and then the name and the size of the
-- section
abbrev pub shown_line : Base → Report → List ℕ
shown_line base report = report_text base report ++ (section_words report ++ codes "\n")

-- how many bytes a body has, and the number of its function
abbrev pub body_words : Range ℕ → (function : ℕ) → List ℕ
body_words range function =
    size_text (Some range) ++ blank_numbers (record { space = Functions; index = function } ∷ []) []

-- what comes after the text of what is reported: the name and the size of the section, and the numbers of items
abbrev pub end_text : Counts → Report → List ℕ
end_text counts report = section_words report ++ blank_numbers (numbers_in_line counts report) []

-- the same line with the numbers of its items, after earlier ones, and with this after it
abbrev pub numbered_text : Base → Counts → Report → (rest : List ℕ) → List ℕ
numbered_text base counts report rest =
    report_text base report ++ (section_words report ++ blank_numbers (numbers_in_line counts report) rest)

-- the line itself
abbrev pub numbered_line : Base → Counts → Report → List ℕ
numbered_line base counts report = numbered_text base counts report (codes "\n")

-- the line of what is reported in this style, if it is shown
abbrev pub chosen_line : Style → List Only → Report → List ℕ
chosen_line style only report = if is_chosen only report then shown_line (base_of style) report else []

-- The lines of a listing and of a dump begin with the same text, but for the base of its offsets, which is decimal in a
-- listing. A listing's has nothing after it; a dump's the name and the size of the section, and then the numbers of
-- items that it shows.
abbrev pub BeginAlike : Report → Type 0
BeginAlike report = (line_of report ≡ report_text Decimal report ++ codes "\n")
    × ((base : Base) → shown_line base report ≡ report_text base report ++ (section_words report ++ codes "\n"))
    × ((base : Base) (counts : Counts) → numbered_line base counts report ≡ report_text base report
    ++ (section_words report ++ blank_numbers (numbers_in_line counts report) (codes "\n")))
