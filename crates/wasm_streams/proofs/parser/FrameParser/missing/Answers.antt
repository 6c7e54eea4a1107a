use Rattle.std.proofs.Common.{sym, ◌∙◌}
use Rattle.wasm_frames.specs.Stored.{parser_of}
use Rattle.wasm_streams.proofs.Awaited.{is_missing}
use Rattle.wasm_streams.proofs.parser.FrameParser.missing.Goals as goal

pub returns-then-starts_with : goal.returns-then-starts_with
returns-then-starts_with c more =
    let begins = (rw c.as_slice.ensures at (sym c.starts_with.ensures.value)) ∙ c.if-starts_with.true in
    rw (← c.self.view_is, c.if-eof.false) (is_missing (parser_of c.self.inside.stored) c.self.inside.cut c.args.bytes.now c.self.invariant
    c.if-part-self.false begins c.if-bytes-part.false)
