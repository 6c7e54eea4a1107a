-- What a dump of an input does.
use Rattle.std.specs.Prelude.{◌≡◌, ◌⊎◌, ℕ, Bool, true, List, Option, Result, Ok, Err}
use Rattle.wasm_io.specs.Calls.{Device, bytes_of, input_failed, output_failed, writer_device}
use Rattle.wasm_io.specs.declared.devices.sink.WriteSink.{WriteSink}
use Rattle.wasm_io.specs.declared.devices.source.Source.{Ghosts as SourceOf}
use Rattle.wasm_streams.specs.declared.turns.Ended.{Ended}
use Rattle.wasm_io.specs.declared.devices.ListError.{ListError}
use Rattle.wasm_io.specs.declared.devices.ListError.TheVariants.{Output}
use Rattle.wasm_dumper.specs.Dump.{Dumps}
use Rattle.wasm_dumper.specs.declared.events.Shown.{Shown}
use Rattle.wasm_commands.specs.Colors.{seen_as}
use Rattle.wasm_commands.specs.Formats.{has_colors, style_of}
use Rattle.wasm_commands.specs.declared.dump.format.Format.{Format}
use Rattle.wasm_commands.specs.Rewrites.{input_device}

-- What was written was flushed, or the output failed; after a dump that failed nothing is done.
abbrev pub Flushes : (how : Result Ended ListError) (had_failed has_failed forwarded : Bool) → Result Ended ListError
    → Type 0
Flushes (Ok ended) had_failed has_failed forwarded result =
    ((result ≡ Ok ended) × (forwarded ≡ true) × (has_failed ≡ had_failed))
    ⊎ ((result ≡ Err Output) × (has_failed ≡ true))
Flushes (Err why) had_failed has_failed forwarded result = (result ≡ Err why) × (has_failed ≡ had_failed)

-- The input was dumped to the output in this format.
pub record DumpsAs (format : Format) (shown : Shown) (input output : Device) (how : Result Ended ListError)
    : Type 0 where
  pub dumps : Dumps (style_of format) shown.only.now shown.has_bytes (bytes_of input) (bytes_of output) how
  pub source : input.has_failed ≡ input_failed how input.had_failed
  pub sink : output.has_failed ≡ output_failed how output.had_failed

-- the same from a source to a writer, of which the bytes are seen without colors
abbrev pub DumpsTo : {R W : Type 0} → SourceOf R → (contents : W → Option (List ℕ)) → (format : Format) (shown : Shown)
    (opened rest : R) (old new : WriteSink W) (how : Result Ended ListError) → Type 0
DumpsTo sources contents format shown opened rest old new how =
    DumpsAs format shown (input_device sources opened rest)
    (seen_as (has_colors format) (writer_device contents old new)) how

-- | a dump and then flushing its output
-- The input was dumped in this format, and the output flushed.
pub record RunsDump (format : Format) (shown : Shown) (input output : Device) (forwarded : Bool)
    (result : Result Ended ListError) : Type 0 where
  pub how : Result Ended ListError
  pub dumps : Dumps (style_of format) shown.only.now shown.has_bytes (bytes_of input) (bytes_of output) how
  pub source : input.has_failed ≡ input_failed how input.had_failed
  pub ends : Flushes how (output_failed how output.had_failed) output.has_failed forwarded result

-- the same from a source to a writer
abbrev pub RunsTo : {R W : Type 0} → SourceOf R → (contents : W → Option (List ℕ)) → (format : Format) (shown : Shown)
    (opened rest : R) (old new : WriteSink W) (result : Result Ended ListError) → Type 0
RunsTo sources contents format shown opened rest old new result =
    RunsDump format shown (input_device sources opened rest)
    (seen_as (has_colors format) (writer_device contents old new)) new.forwarded result
