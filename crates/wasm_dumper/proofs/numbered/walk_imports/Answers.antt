use Rattle.std.proofs.Common.{sym, ap, ◌∙◌}
use Rattle.wasm_base.specs.Section.{Section}
use Rattle.wasm_base.specs.Window.{place}
use Rattle.wasm_dumper.specs.Walks.{imports_seen}
use Rattle.wasm_items.specs.Flattened.{flattened}
use Rattle.wasm_dumper.proofs.numbered.walk_imports.Goals as goal

pub returns : goal.returns
returns g c =
    let copy = rw c.unwrap.ensures at c.clone.ensures.cases in
    let begins = c.into_imports_with_offsets-imports.ensures ∙ ap (λ (s : Section). flattened s.count (place s.reader)) copy in
    c.walk_items.ensures _ (sym (ap (imports_seen 1 c.args.counts.now) begins))
