-- The line of a part that was skipped is that of its event.
use Rattle.std.proofs.Common.{◌≡◌, Option, Some, None, ap}
use Rattle.wasm_grammar.specs.Reading.{Report, custom_section, counted, unknown_section, code_entry}
use Rattle.wasm_frames.specs.SkipNext.{Skip, skip_in}
use Rattle.wasm_lines.specs.Listing.{report_text, skip_text}
use Rattle.wasm_io.specs.declared.digits.Base.{Base}

abbrev skip_or : Skip → Option Skip → Skip
skip_or s (Some x) = x
skip_or s None = s

pub skipped_text : (base : Base) (report : Report) (s : Skip) → skip_in report ≡ Some s → report_text base report ≡ skip_text base s
unfolding report_text
skipped_text base (custom_section text data_offset window) s e = ap (λ (x : Option Skip). skip_text base (skip_or s x)) e
skipped_text base (counted id count window) s e = ap (λ (x : Option Skip). skip_text base (skip_or s x)) e
skipped_text base (unknown_section id contents from to) s e = ap (λ (x : Option Skip). skip_text base (skip_or s x)) e
skipped_text base (code_entry window) s e = ap (λ (x : Option Skip). skip_text base (skip_or s x)) e
skipped_text base _ s e = cc
