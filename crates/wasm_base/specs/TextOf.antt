-- A text whose size has been read.
use Rattle.std.specs.Prelude.{ℕ, ◌-◌, List, Ok, Err, if◌then◌else◌}
use Rattle.std.specs.Str.{is_utf8}
use Rattle.wasm_base.specs.FaultAt.{at_offset}
use Rattle.wasm_base.specs.Name.{bytes_at}
use Rattle.wasm_base.specs.Outcome.{Outcome, ◌>>=◌}
use Rattle.wasm_base.specs.Window.{Place}
use Rattle.wasm_base.specs.declared.fault.Fault.TheVariants.{MalformedUtf8}

-- n bytes, which are UTF-8
unfoldable pub text_of : ℕ → Place → Outcome (List ℕ)
text_of n p = do
  bytes ← bytes_at n p
  if is_utf8 bytes.0 then Ok bytes else Err (at_offset MalformedUtf8 (bytes.1.offset - 1))
