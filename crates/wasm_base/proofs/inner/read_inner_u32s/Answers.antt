use Rattle.std.proofs.Common.{rules}
use Rattle.wasm_base.proofs.InnerLists.{inner_read, not_before}
use Rattle.wasm_base.specs.Window.{place}
use Rattle.wasm_base.proofs.inner.read_inner_u32s.Goals as goal

pub returns-clause-gives : goal.returns-clause-gives
returns-clause-gives c =
    inner_read _ (place c.args.reader.now) (place c.skip_var_u32s.new.self) (c.in_ok-count.count, place c.read_var_u32.new.self)
    c.new.result (search rules) (search rules) (not_before c.read_var_u32.new.self c.skip_var_u32s.new.self
    c.skip_var_u32s.ensures.keeps) (search rules) (search rules)
