-- The state after a frame, by its kind.
use Rattle.wasm_frames.proofs.Common.{◌≡◌, ℕ, arith, Report, ParserState, state_after}
use Rattle.wasm_frames.specs.Frame.{report_count, report_id, report_kind}
use Rattle.wasm_frames.specs.StateAfter.{state_after_section, with_count, with_rank}
use Rattle.wasm_frames.specs.declared.kind.FrameKind.TheVariants as kinds

module _ (p : ParserState) (to : ℕ) (r : Report) (id count : ℕ) where
  pub after_items : kinds.Items ≡ report_kind r → id ≡ report_id r → count ≡ report_count r
      → state_after_section (with_count p id count) to ≡ state_after p to r
  after_items k i n = grind arith

  pub after_start : kinds.Start ≡ report_kind r → id ≡ report_id r → state_after_section (with_rank p id) to ≡ state_after p to r
  after_start k i = grind arith
