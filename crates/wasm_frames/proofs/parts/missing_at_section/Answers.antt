use Rattle.wasm_grammar.proofs.endings.MagicBegun.{begun_asks, long_asks_nothing, other_asks_nothing}
use Rattle.wasm_frames.proofs.parts.missing_at_section.Goals.{else-bytes-lt4-via-then-bytes-lt4+else-starts_with}
use Rattle.wasm_frames.proofs.parts.missing_at_section.Goals.{else-bytes-lt4-via-else-bytes-lt4}
use Rattle.wasm_frames.proofs.parts.missing_at_section.Goals as goal

pub returns-then-starts_with : goal.returns-then-starts_with
returns-then-starts_with c = begun_asks c.args.bytes.now c.if-is_empty.ensures c.if-bytes-lt4.true c.if-starts_with.ensures.value

pub returns-else-bytes-lt4 : goal.returns-else-bytes-lt4
returns-else-bytes-lt4 c =
    elim c.else-bytes-lt4.branch [
      | else-bytes-lt4-via-then-bytes-lt4+else-starts_with w ↦ other_asks_nothing _ c.if-is_empty.ensures
          w.if-bytes-lt4.true w.if-starts_with.ensures.value
      | else-bytes-lt4-via-else-bytes-lt4 w ↦ long_asks_nothing _ c.if-is_empty.ensures
          w.if-bytes-lt4.false
    ]
