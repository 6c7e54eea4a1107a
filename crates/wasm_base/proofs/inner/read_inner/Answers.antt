use Rattle.std.proofs.Common.{rules}
use Rattle.wasm_base.proofs.InnerLists.{inner_read, not_before}
use Rattle.wasm_base.specs.Window.{place}
use Rattle.wasm_base.proofs.inner.read_inner.Goals as goal

pub returns-clause-gives : goal.returns-clause-gives
returns-clause-gives g c =
    inner_read g.T.SkipItem.skipped_at (place c.args.reader.now) (place c.skip_items.new.reader)
    (c.in_ok-count.count, place c.read_var_u32.new.self) c.new.result (search rules) (search rules)
    (not_before c.read_var_u32.new.self c.skip_items.new.reader c.skip_items.ensures.keeps) (search rules) (search rules)
