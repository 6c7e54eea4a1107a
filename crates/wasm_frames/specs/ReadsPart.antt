-- What each part of a stream is read as, by what a parser knows before it.
use Rattle.std.specs.Prelude.{nat_lt, nat_le, ◌≡◌, ℕ, ◌+◌, ◌<◌, false, true, length, Option, option_to_list, nat_eq}
use Rattle.std.specs.Prelude.{Result, Ok, Some, None, Err, MatchResult, Bool, ◌&&◌, ◌==◌, not, List}
use Rattle.std.specs.List.{list_all, list_any}
use Rattle.wasm_base.specs.FaultAt.{fault_at, hint_of}
use Rattle.wasm_base.specs.Header.{magic, agree}
use Rattle.wasm_base.specs.Name.{bytes_at}
use Rattle.wasm_base.specs.Number.{number}
use Rattle.wasm_base.specs.Outcome.{Outcome, ◌>>=◌}
use Rattle.wasm_base.specs.Window.{Place, Window, advanced, window_over}
use Rattle.wasm_base.specs.declared.error.Error.{Error}
use Rattle.wasm_base.specs.declared.fault.Fault.{Fault}
use Rattle.wasm_base.specs.declared.fault.NumberKind.TheVariants.{VarU32}
use Rattle.wasm_frames.specs.ParserState.{ParserState, known_context, grammar_of, is_at_section}
use Rattle.wasm_frames.specs.declared.next.NextFrame.{NextFrame}
use Rattle.wasm_frames.specs.declared.next.NextFrame.TheVariants as next
use Rattle.wasm_grammar.specs.Content.{Kind, kind_of, wrong_single, value_of, fault, ended}
use Rattle.wasm_grammar.specs.Grammar.{SectionContext, Grammar, Verdict, tile, final, verdict, header_grammar}
use Rattle.wasm_grammar.specs.Grammar.{section_grammar, content_grammar}
use Rattle.wasm_grammar.specs.Grammar.{code_grammar, body_grammar}
use Rattle.wasm_grammar.specs.Ids.{data_id}
use Rattle.wasm_grammar.specs.Reading.{Report, tile_report}
use Rattle.wasm_grammar.specs.Waiting.{Waiting, asked, waiting, is_magic_begun}
use Rattle.wasm_grammar.specs.declared.encoding.Encoding.TheVariants.{Module}

-- The result of a read is what the verdict says: the report of the tile, with the reader after it, or the fault. At the
-- end of the stream nothing is read. `start` is the offset of the tile.
abbrev pub MatchesVerdict : (start : ℕ) (before : Place) → Verdict → Result Report Error → (after : Place) → Type 0
MatchesVerdict start before (tile t) result after = MatchResult result
    (λ report. (after ≡ advanced (length t.bytes) before)
    × (report ≡ tile_report before.features start (before.offset + length t.bytes) t.shape))
    (λ e. ⊥)
MatchesVerdict start before (final (fault f)) result after = MatchResult result (λ report. ⊥) (λ e. fault_at e ≡ f)
MatchesVerdict start before (final (ended offset)) result after = ⊥

-- The hint of a fault is the number of bytes to request if the prefix does not decide. Any other fault has no hint.
abbrev pub HintsAs : Waiting → Result Report Error → Type 0
HintsAs w (Ok report) = Unit {0}
HintsAs w (Err e) = hint_of e ≡ asked w

-- The result of a read is the verdict of this grammar over the remaining bytes, and its hint is as `waiting` says.
abbrev pub MatchesGrammar : (start : ℕ) (before : Place) → Grammar → Result Report Error → (after : Place) → Type 0
MatchesGrammar start before g result after =
    MatchesVerdict start before (verdict g before.rest) result after × HintsAs (waiting g before.rest) result

-- | what was read at a place is what may come there by a grammar, a tile or a fault, and the reader is after the tile
--   [`MatchesVerdict`]
-- The result of a read is the tile or the fault that this grammar assigns, and the reader is after the tile.
abbrev pub ReadsByGrammar : Grammar → (before : Place) → Result Report Error → (after : Place) → Type 0
ReadsByGrammar g before result after = (start : ℕ) → MatchesGrammar start before g result after

-- Where a section may start, a header may be begun: then hints say nothing.
abbrev pub HintsUnlessBegun : ParserState → (before : Place) → Result Report Error → Type 0
HintsUnlessBegun p before result =
    (is_at_section p ≡ true → is_magic_begun before.rest ≡ false) → HintsAs (waiting (grammar_of p) before.rest) result

-- | what is read of each part, by what the parser knows: a header, a section, its content, the start of a code section,
--   a body [`ReadsHeader`, `ReadsNextSection`, `ReadsContent`, `ReadsCodeStart`, `ReadsBody`]
-- what comes where the parser is
abbrev pub ReadsNext : ParserState → (before : Place) → Result Report Error → (after : Place) → Type 0
ReadsNext p before result after =
    MatchesVerdict p.offset before (verdict (grammar_of p) before.rest) result after × HintsUnlessBegun p before result

-- where a parser is, with these bytes in front of it
abbrev pub place_of : ParserState → List ℕ → Place
place_of p bytes = record { features = p.features; offset = p.offset; rest = bytes }

-- Where a section may start, bytes are left; and where more may come, they don't only begin a header.
pub record IsBegun (p : ParserState) (eof : Bool) (bytes : List ℕ) : Type 0 where
  pub some : is_at_section p ≡ true → 0 < length bytes
  pub begun : eof ≡ false → is_at_section p ≡ true → is_magic_begun bytes ≡ false

-- what a fault becomes: where more bytes may come, a request for those that it hints at
abbrev pub RefusesBy : (eof : Bool) (hint : Option ℕ) → Error → NextFrame → Type 0
RefusesBy false (Some hint) e result = result ≡ next.NeedMoreData hint
RefusesBy false None e result = result ≡ next.Fault e
RefusesBy true hint e result = result ≡ next.Fault e

abbrev pub Refuses : (eof : Bool) → Error → NextFrame → Type 0
Refuses eof e result = RefusesBy eof (hint_of e) e result

-- Bytes are left where a section may start.
abbrev pub HasSection : ParserState → Place → Type 0
HasSection p before = p.expects_header ≡ false → nat_eq (p.bodies + p.code_bytes) 0 ≡ true → 0 < length before.rest

-- a header
abbrev pub ReadsHeader : (before : Place) → Result Report Error → (after : Place) → Type 0
ReadsHeader before result after = MatchesGrammar before.offset before (header_grammar before.offset) result after

-- The bytes that begin a header are here.
abbrev pub is_magic_next : Place → Bool
is_magic_next p = agree p.rest magic && nat_le 4 (length p.rest)

-- a section
abbrev pub ReadsNextSection : ParserState → (before : Place) → Result Report Error → (after : Place) → Type 0
ReadsNextSection p before result after =
    ((start : ℕ) → MatchesVerdict start before (verdict (section_grammar (known_context p) before.offset) before.rest)
    result after)
    × (is_magic_begun before.rest ≡ false → HintsAs (waiting (section_grammar (known_context p) before.offset)
    before.rest) result)

-- the content of a section of this kind
abbrev pub ReadsContent : ParserState → Kind → (id size : ℕ) → (before : Place) → Result Report Error → (after : Place)
    → Type 0
ReadsContent p kind id size before result after =
    ReadsByGrammar (content_grammar (known_context p) kind id before.offset size) before result after

-- a code section up to its count, after a function section with this count, or none
abbrev pub ReadsCodeStart : Option ℕ → (size : ℕ) → (before : Place) → Result Report Error → (after : Place) → Type 0
ReadsCodeStart functions size before result after = (context : SectionContext) → context.functions
    ≡ option_to_list functions →
    ReadsByGrammar (code_grammar context before.offset size) before result after

-- one body
abbrev pub ReadsBody : ParserState → (before : Place) → Result Report Error → (after : Place) → Type 0
ReadsBody p before result after = ReadsByGrammar (body_grammar p.bodies p.code_bytes before.offset) before result after

-- | *n* bytes as a window; a window that is one number [`ReadsSingleNumber`] <Modules, each section>
-- this many bytes as a window of their own
unfoldable pub sized_window : ℕ → Place → Outcome Window
sized_window size p = do
  bytes ← bytes_at size p
  Ok (window_over p.features p.offset bytes.0, bytes.1)

-- From here to the window's end there is only this number, or the number's own fault; a byte after it is the given
-- fault.
abbrev pub ReadsSingleNumber : Fault → Place → Result ℕ Error → Type 0
ReadsSingleNumber trailing p (Ok value) =
    (wrong_single trailing p.offset p.rest (number VarU32 p.rest) ≡ None) × (value_of (number VarU32 p.rest) ≡ value)
ReadsSingleNumber trailing p (Err e) = wrong_single trailing p.offset p.rest (number VarU32 p.rest) ≡ Some (fault_at e)

-- the kind of a module's section with this id
abbrev pub kind_of_module : ℕ → Kind
kind_of_module id = kind_of Module id

-- | a data section has another count than announced <Data Count Section>
abbrev pub is_miscounted : (announced : List ℕ) → (id count : ℕ) → Bool
is_miscounted announced id count = id == data_id && not (list_all (nat_eq count) announced)

-- There is a count, and it is not this one.
abbrev pub is_other : Option ℕ → ℕ → Bool
is_other known count = not (list_all (nat_eq count) (option_to_list known))

-- There is a count above 0, and not the other one that it wants.
abbrev pub is_lacking : Option ℕ → Option ℕ → Bool
is_lacking count other = list_any (nat_lt 0) (option_to_list count) && nat_eq (length (option_to_list other)) 0
