use Rattle.wasm_examples.proofs.Common.{◌≡◌, symbol_at, with_each, linked_parts, with_symbol, with_symbols}
use Rattle.wasm_examples.proofs.Items.{left_of}
use Rattle.wasm_examples.proofs.linking.Linked.add_symbols.Given as goal

abbrev pub invariant-loop-symbol : goal.invariant-loop-symbol
invariant-loop-symbol l = record {
  can : goal.iterator-loop-symbol.can_next l.symbol-iterator;
  finite : goal.iterator-loop-symbol.is_finite l.symbol-iterator;
  left : with_symbols (linked_parts l.initial.self) l.fn.symbols
      ≡ with_each with_symbol (linked_parts l.self) (left_of symbol_at l.symbol-iterator);
}
