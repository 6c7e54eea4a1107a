use Rattle.std.proofs.Common.{◌≡◌, refl}
use Rattle.wasm_commands.specs.Colors.{marked}
use Rattle.wasm_commands.specs.Formats.{has_colors}
use Rattle.wasm_output.specs.declared.tree.Style.TheVariants.{Lines}
use Rattle.wasm_commands.proofs.Running.{dumps_unmarked}
use Rattle.wasm_commands.proofs.dump.run.dump_lines.Goals as goal

pub returns : goal.returns
returns g c =
    let format = c.args.format in
    let contents = g.W.Write.contents in
    let d = c.dump-how.ensures (Lines c.base.result) _ _ c.with_names-tree.ensures in
    let new = c.new-colored.ensures in
    let same = c.into_output-colored.ensures in
    let was : marked c.new-colored.result.is_colored (contents c.new-colored.result.inner.writer)
    ≡ marked (has_colors format) (contents c.args.output.writer) = rw (new.colors, c.has_colors.ensures, new.inner) refl in
    let dumps = dumps_unmarked (Lines c.base.result) _ _ (has_colors format) c.into_output-colored.result.is_colored _ _
    (contents c.args.output.writer) (contents c.into_output-colored.result.inner.writer) _ _ _ was same.taken d.dumps in
    record {
      dumps = rw (c.requires, c.into_inner.ensures, ← c.base.ensures)
          (rw c.requires at dumps);
      source = d.source;
      sink = rw (c.into_inner.ensures, same.failed, ← new.inner) d.sink;
    }
