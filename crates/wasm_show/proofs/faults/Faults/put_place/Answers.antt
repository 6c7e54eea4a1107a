use Rattle.std.proofs.Common.{codes, sym, ap}
use Rattle.wasm_output.specs.Fields.{quoted_text}
use Rattle.wasm_show.specs.Seen.{site_text}
use Rattle.wasm_show.specs.Noted.{site_of}
use Rattle.wasm_output.proofs.ForCallers.{more_same, more_then}
use Rattle.wasm_show.proofs.faults.Faults.put_place.Goals as goal

pub returns-in-Section-clause-puts : goal.returns-in-Section-clause-puts
returns-in-Section-clause-puts g c = more_same _ _ _ _ (sym (ap (λ p. site_text (site_of p)) c.in-Section.is))
    (more_then (codes ", in section ") c.in-Section.name.now _ _ _ c.put_long.ensures
    (more_same _ _ _ _ c.as_bytes.ensures.value c.put_long-in-Section.ensures))

pub returns-in-Custom-clause-puts : goal.returns-in-Custom-clause-puts
returns-in-Custom-clause-puts g c = more_same _ _ _ _ (sym (ap (λ p. site_text (site_of p)) c.in-Custom.is))
    (more_then (codes ", in custom section ") _ _ _ _ c.put_long-in-Custom.ensures
    (more_same _ _ _ _ (ap quoted_text c.as_str.ensures.value) c.put_quoted.ensures))
