-- Parts of a stream of which a dump shows nothing, or only their first fields. They are skipped by these, and their
-- bytes are dropped.
use Rattle.std.specs.Prelude.{◌≡◌, ℕ, ◌+◌, ◌<◌, ◌&&◌, ◌||◌, Bool, true, false, not, List, ◌++◌, length, nat_eq}
use Rattle.std.specs.Prelude.{bytes_eq, codes, IfSome, Option, Some, None}
use Rattle.std.specs.List.{list_any, starts_with}
use Rattle.std.specs.String.{string_bytes}
use Rattle.std.specs.Io.KnownBytes.{Consumes}
use Rattle.wasm_base.specs.declared.error.Error.{Error}
use Rattle.wasm_custom.specs.Known.{readings}
use Rattle.wasm_grammar.specs.Ids.{custom_id, import_id}
use Rattle.wasm_grammar.specs.Reading.{Report}
use Rattle.wasm_frames.specs.SkipNext.{Head, Skip, custom, items, body, report_with, skip_in}
use Rattle.wasm_streams.specs.Passing.{PartEnds, SkipsHere}
use Rattle.wasm_streams.specs.declared.cursor.Cursor.{Cursor}
use Rattle.wasm_streams.specs.declared.passing.Passing.{Passing}
use Rattle.wasm_io.specs.declared.devices.ListError.{ListError}
use Rattle.wasm_io.specs.declared.devices.ListError.TheVariants.{Input}
use Rattle.wasm_output.specs.Numbers.{more}
use Rattle.wasm_output.specs.Tree.{Writing}
use Rattle.wasm_dumper.specs.Chosen.{is_chosen_by, is_chosen_with, shows_items}
use Rattle.wasm_dumper.specs.Counting.{after}
use Rattle.wasm_dumper.specs.Dump.{ShowsReport}
use Rattle.wasm_dumper.specs.declared.counts.Counts.{Counts}
use Rattle.wasm_dumper.specs.declared.events.Only.{Only}
use Rattle.wasm_dumper.specs.declared.hidden.CustomOutline.{CustomOutline}
use Rattle.wasm_dumper.specs.declared.hidden.Outline.{Outline}
use Rattle.wasm_dumper.specs.declared.hidden.Outline.TheVariants.{Custom, Hidden}
use Rattle.wasm_dumper.specs.declared.hidden.Skipped.{Skipped}

-- whether a part with these first fields is an import section, whose items are counted
abbrev pub has_imports : Head → Bool
has_imports (items id count) = nat_eq id import_id
has_imports other = false

-- whether it is the custom section with the symbols of an object file, which relocations name. Tool conventions,
-- Linking.
abbrev pub has_symbols : Head → Bool
has_symbols (custom text data_offset) = bytes_eq text (codes "linking")
has_symbols other = false

-- whether it is a function body
abbrev pub is_body_head : Head → Bool
is_body_head body = true
is_body_head other = false

-- | a part that is skipped because a dump shows nothing of it, or only its first fields: which ones, what is shown and
--   counted of it, what dropping its bytes reads, and how far that came when the source failed [`SkipsIfAny`,
--   `ShowsOutline`, `after_hidden`, `DropsPart`, `FailsWithin`]
-- whether a dump shows nothing of a part with these first fields, and neither counts its items nor needs its names
abbrev pub is_hidden : List Only → Head → Bool
is_hidden only head = not (has_imports head)
    && (not (has_symbols head) && not (list_any (λ choice. is_chosen_by choice (report_with head)) only))

-- whether the data of a custom section with this name is read where items are shown: the readers of known sections, and
-- the one of features
abbrev pub is_known : (name : List ℕ) → Bool
is_known name = list_any (λ row. bytes_eq name row.0) readings
    || (bytes_eq name (codes "target_features") || starts_with nat_eq name (codes "reloc."))

-- whether a dump shows the first fields of the custom section with this name, and nothing of its data
abbrev pub is_outlined : List Only → (has_bytes : Bool) → (name : List ℕ) → Bool
is_outlined only has_bytes name = not has_bytes && (not (shows_items only && is_known name)
    && list_any (λ choice. is_chosen_with choice (Some custom_id) (Some name)) only)

-- a custom section that was skipped, as a part
abbrev pub outlined_part : CustomOutline → Skip
outlined_part s = record { from = s.start; to = s.end; head = custom (string_bytes s.name) s.data_offset }

-- This is what a dump shows of a part: nothing, or its first fields, where these are all that it shows.
abbrev pub IsOutline : List Only → (has_bytes : Bool) → Skip → Outline → Type 0
IsOutline only has_bytes skip (Hidden is_body) =
    (is_hidden only skip.head ≡ true) × (is_body ≡ is_body_head skip.head)
IsOutline only has_bytes skip (Custom section) =
    (is_outlined only has_bytes (string_bytes section.name) ≡ true) × (skip ≡ outlined_part section)

abbrev pub IsOutlineIfAny : List Only → (has_bytes : Bool) → Skip → Option Outline → Type 0
IsOutlineIfAny only has_bytes skip outline = IfSome outline (λ x. IsOutline only has_bytes skip x)

-- The cursor has skipped the next part, of which a dump shows this.
pub record Skips (only : List Only) (has_bytes : Bool) (old : Cursor) (bytes : List ℕ) (part : Skipped) (new : Cursor)
    : Type 0 where
  pub skips : SkipsHere (λ head. false) old bytes part.passing new
  pub shows : IsOutline only has_bytes skips.skip part.outline

abbrev pub SkipsIfAny : List Only → (has_bytes : Bool) → Cursor → (bytes : List ℕ) → Option Skipped → Cursor → Type 0
SkipsIfAny only has_bytes old bytes (Some part) new = Skips only has_bytes old bytes part new
SkipsIfAny only has_bytes old bytes None new = new ≡ old

-- What is reported is a part of which a dump shows this.
abbrev pub ReportsOutline : List Only → (has_bytes : Bool) → Outline → Report → Type 0
ReportsOutline only has_bytes outline report = (skip : Skip) × (skip_in report ≡ Some skip)
    × IsOutline only has_bytes skip outline

-- Whatever is reported of the part, it was shown.
abbrev pub ShowsOutline : List Only → (has_bytes : Bool) → Counts → Outline → (old new : Writing) → Type 0
ShowsOutline only has_bytes counts outline old new = (report : Report) (bytes : List ℕ)
    → ReportsOutline only has_bytes outline report → ShowsReport only has_bytes counts report bytes old new

-- It was counted.
abbrev pub CountsOutline : List Only → (has_bytes : Bool) → Outline → (old new : Counts) → Type 0
CountsOutline only has_bytes outline old new = (report : Report)
    → ReportsOutline only has_bytes outline report → new ≡ after old report

-- the counts after a part of which nothing is shown
abbrev pub after_hidden : Counts → (is_body : Bool) → Counts
after_hidden c true = record c { bodies = more c.bodies 1 }
after_hidden c false = c

-- A part was dropped: held bytes, then bytes of the source. Its end is as `PartEnds` says.
pub record DropsPart (source rest : Option (List ℕ)) (passing : Passing) (held : List ℕ) (fault : Option Error)
    (left : List ℕ) : Type 0 where
  pub fetched : List ℕ
  pub part : List ℕ
  pub gave : Consumes source rest fetched
  pub parts : held ++ fetched ≡ part ++ left
  pub ends : PartEnds passing (length part) fault rest left

-- The source failed before all of the part had come.
pub record FailsWithin (source rest : Option (List ℕ)) (size : ℕ) (held : List ℕ) (e : ListError) : Type 0 where
  pub is : e ≡ Input
  pub given : List ℕ
  pub gave : Consumes source rest given
  pub fewer : length held + length given < size
