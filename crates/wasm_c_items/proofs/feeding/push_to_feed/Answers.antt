use Rattle.std.proofs.Common.{◌≡◌, ◌++◌, ◌∙◌, List, ℕ, length, take, drop, refl, ap}
use Rattle.wasm_c_items.proofs.Held.{held_whole}
use Rattle.wasm_c_items.proofs.feeding.push_to_feed.Goals as goal

pub returns : goal.returns
returns c =
    let f = c.args.feed.now in
    let xs = c.args.storage.now in
    let held : List ℕ = drop f.mark (take f.end xs) in
    let same : c.after-held.result.now ≡ held = c.after-held.ensures ∙ ap (drop f.mark) c.front.ensures in
    let moved = ap (λ (l : List ℕ). take (length l) (drop f.mark xs)) same ∙ held_whole f.mark f.end xs in
    record {
      holds = c.gather.ensures.holds ∙ ap (λ (l : List ℕ). l ++ c.args.piece.now) moved;
      room = c.gather.ensures.len;
      parser = refl;
      finished = refl;
    }
