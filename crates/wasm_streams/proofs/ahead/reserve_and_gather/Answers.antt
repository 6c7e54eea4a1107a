use Rattle.wasm_streams.proofs.Common.{◌≡◌, ℕ, List, ◌++◌, take, drop, refl, ap, ◌∙◌, arith, append_assoc, length-drop, take-append-drop}
use Rattle.wasm_streams.proofs.Common.{waiting, grammar_of, feed_of}
use Rattle.std.proofs.lemmas.Grind.{common_steps}
use Rattle.wasm_streams.proofs.Beside.{ready}
use Rattle.wasm_streams.proofs.ahead.reserve_and_gather.Goals as goal

pub returns-clause-ok : goal.returns-clause-ok
returns-clause-ok g c =
    let w = c.gather.ensures.gathers in
    let count = c.gather.result in
    let piece = c.args.piece.now in
    let front = c.make_room.new.bytes.items in
    let held : front ≡ drop c.args.cursor.now.mark c.args.stored.now.items = grind (arith, common_steps) in
    let same = ap (λ (l : List ℕ). l ++ drop count piece) w.stores ∙ (append_assoc front (take count piece) (drop count piece)
    ∙ (ap (λ (l : List ℕ). front ++ l) (take-append-drop count piece) ∙ ap (λ (l : List ℕ). l ++ piece) held)) in
    ready (feed_of c.args.stored.now.items c.args.cursor.now) piece c.gather.new.held.items count _ w.within refl same refl refl refl
    (rw (c.if-goes_whole.ensures.finished refl) w.enough)
    (omega (arith, length-drop c.args.cursor.now.mark c.args.stored.now.items))
    (λ h. w.idle (ap (λ (l : List ℕ). waiting (grammar_of c.args.cursor.now.parser) l) held ∙ h.decides))
