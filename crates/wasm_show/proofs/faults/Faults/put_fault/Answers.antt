use Rattle.std.proofs.Common.{codes, ap, ◌∙◌, append_assoc, ◌++◌}
use Rattle.wasm_base.specs.FaultAt.{fault_at}
use Rattle.std.specs.String.{string_bytes}
use Rattle.wasm_io.specs.declared.digits.Base.TheVariants.{Hexadecimal}
use Rattle.wasm_io.specs.Offsets.{offset_text}
use Rattle.wasm_base.specs.Message.{number_text}
use Rattle.wasm_show.specs.Seen.{site_text}
use Rattle.wasm_show.specs.Noted.{site_of}
use Rattle.wasm_output.proofs.ForCallers.{more_same, more_then}
use Rattle.wasm_show.proofs.faults.Faults.put_fault.Goals as goal

pub returns-clause-puts : goal.returns-clause-puts
returns-clause-puts g c =
    let after = ap (λ t. site_text (site_of t.place)) c.put_number.ensures.kept in
    let site = after ∙ ap (λ t. site_text (site_of t.place)) c.put_offset.ensures.kept in
    let last = more_then _ (codes "\n") _ _ _ (more_same _ _ _ _ site c.put_place.ensures.puts) c.put_long-3.ensures in
    let number = more_then _ _ _ _ _ (more_same _ _ _ _ (ap number_text c.number.ensures) c.put_number.ensures.puts) last in
    let message = more_then _ _ _ _ _ (more_same _ _ _ _ (c.as_bytes.ensures.value ∙ c.message.ensures) c.put_long-2.ensures) number in
    let prefix = string_bytes c.args.self.now.prefix in
    let offset = more_same _ _ _ _ (ap (λ n. prefix ++ offset_text Hexadecimal n) c.offset.ensures) c.put_offset.ensures.puts in
    more_same _ _ _ _ (append_assoc prefix (offset_text Hexadecimal (fault_at c.args.error.now).offset) _) (more_then _ _ _ _ _ offset
    (more_then (codes ": ") _ _ _ _ c.put_long.ensures message))
