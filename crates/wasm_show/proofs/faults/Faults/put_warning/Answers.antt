use Rattle.std.specs.String.{string_bytes}
use Rattle.wasm_io.specs.declared.digits.Base.TheVariants.{Hexadecimal}
use Rattle.wasm_io.specs.Offsets.{offset_text}
use Rattle.std.proofs.Common.{codes, append_assoc, ap, decimal}
use Rattle.wasm_output.proofs.ForCallers.{more_same, more_then}
use Rattle.wasm_show.proofs.faults.Faults.put_warning.Goals as goal

pub returns-clause-puts : goal.returns-clause-puts
returns-clause-puts g c =
    let last = more_then _ (codes "\n") _ _ _ (more_same _ _ _ _ (ap decimal c.from.ensures) c.put_short.ensures) c.put_long-2.ensures in
    more_same _ _ _ _ (append_assoc (string_bytes c.args.self.now.prefix) (offset_text Hexadecimal c.args.offset) _)
    (more_then _ _ _ _ _ c.put_offset.ensures.puts (more_then (codes ": warning: unknown section id: ") _ _ _ _ c.put_long.ensures last))
