use Rattle.wasm_streams.proofs.Common.{◌≡◌, ℕ, ◌+◌, List, ◌++◌, length, take, drop, ap, ◌∙◌, arith, ◌-◌, append_assoc, append-nil}
use Rattle.wasm_streams.proofs.Common.{length-append, length-drop, length-take, waiting, grammar_of}
use Rattle.std.proofs.Math.Seq.{take-add}
use Rattle.wasm_streams.specs.Beside.{AreEnough}
use Rattle.wasm_streams.proofs.ahead.gather.Goals as goal

more_put : (old held new part piece : List ℕ) (n m : ℕ) → held ≡ old ++ take n piece → new ≡ held ++ part
    → part ≡ take m (drop n piece) → new ≡ old ++ take (n + m) piece
more_put old held new part piece n m was put is = grind (arith, ap, append_assoc, take-add)

nothing_put : (old held piece : List ℕ) (n : ℕ) → held ≡ old ++ take n piece → n ≡ 0 → held ≡ old
nothing_put old held piece n was none = was ∙ (ap (λ (k : ℕ). old ++ take k piece) none ∙ append-nil old)

pub parts-preserved : goal.parts-preserved
parts-preserved g c =
    let within = c.parts.invariant.within in
    let size : c.parts.count + c.min.result - c.parts.count ≡ c.min.result = omega arith in
    let sizes = length-take c.min.result (drop c.parts.count c.args.piece.now) in
    let put = ap (λ (k : ℕ). length (take k (drop c.parts.count c.args.piece.now))) size in
    let left = length-drop c.parts.count c.args.piece.now in
    record {
      within = omega (arith, c.min.ensures);
      idle = λ e. absurd (c.if-missing-eq0.false (c.missing-missing.ensures.decided
          (ap (λ (l : List ℕ). waiting (grammar_of c.args.parser.now) l) (c.deref.ensures.value
          ∙ nothing_put c.args.held.now.items c.parts.held.items c.args.piece.now c.parts.count c.parts.invariant.put
          (c.parts.invariant.idle e)) ∙ e)));
      put = more_put c.args.held.now.items c.parts.held.items c.put.new.bytes.items _ c.args.piece.now c.parts.count c.min.result
          c.parts.invariant.put c.put.ensures.items (ap (λ (k : ℕ). take k (drop c.parts.count c.args.piece.now)) size);
      room = omega (arith, c.put.ensures.len, c.put.ensures.capacity, c.parts.invariant.room, c.min.ensures, sizes, left, put);
    }

pub returns-then-missing-eq0-clause-gathers : goal.returns-then-missing-eq0-clause-gathers
returns-then-missing-eq0-clause-gathers g c =
    let p = c.args.parser.now in
    let piece = c.args.piece.now in
    let n = c.parts.count in
    let held = c.parts.held.items in
    let enough : AreEnough p held = rw c.deref.ensures.value at (c.missing-missing.ensures.enough c.if-missing-eq0.true) in
    record {
      within = c.parts.invariant.within;
      stores = c.parts.invariant.put;
      idle = c.parts.invariant.idle;
      enough = enough (drop n piece) (rw c.parts.invariant.put
          (let sizes = length-append (c.args.held.now.items ++ take n piece) (drop n piece) in
          let first = length-append c.args.held.now.items (take n piece) in
          let taken = length-take n piece in
          let left = length-drop n piece in
          let below = c.requires.below in
          omega (arith, sizes, first, taken, left, below, c.parts.invariant.within)));
    }
