use Rattle.std.proofs.Common.{◌-◌, None}
use Rattle.wasm_base.specs.Item.{ReadsAs}
use Rattle.wasm_base.specs.Name.{text_at}
use Rattle.wasm_base.specs.Window.{place, KeepsWindow}
use Rattle.wasm_base.proofs.InTurn.{SoFar}
use Rattle.wasm_custom.proofs.dylink0.read_each_text.Given as goal

abbrev pub invariant-texts : goal.invariant-texts
invariant-texts g l = record {
  so_far : SoFar (ReadsAs (λ text. text.now) (text_at None)) l.count (place l.fn.reader) (l.count - l.counter) l.texts.items
      (place l.reader);
  keeps : KeepsWindow l.fn.reader l.reader;
}
