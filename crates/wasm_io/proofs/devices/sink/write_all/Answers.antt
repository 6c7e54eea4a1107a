use Rattle.std.proofs.Common.{◌≡◌, ℕ, ◌+◌, ◌-◌, ◌≤◌, List, Option, length, take, drop, sym, subst, arith, take_all, length-drop}
use Rattle.std.proofs.Math.Seq.{take-add}
use Rattle.std.specs.Io.KnownBytes.{Appends}
use Rattle.std.proofs.KnownBytes.{Appends-trans}
use Rattle.std.proofs.lemmas.Grind.{common_steps}
use Rattle.wasm_io.proofs.devices.sink.write_all.Goals as goal

-- a write of the bytes after the first w goes on with them
appended-more : (a b c : Option (List ℕ)) (w n : ℕ) (xs : List ℕ) → w ≤ length xs → Appends a b (take w xs)
    → Appends b c (take n (take (length xs - w) (drop w xs)))
    → Appends a c (take (w + n) xs)
appended-more a b c w n xs h p q =
    let whole : take (length xs - w) (drop w xs) ≡ drop w xs = take_all _ _ (omega (arith, length-drop w xs)) in
    let rest : Appends b c (take n (drop w xs)) = subst (λ l. Appends b c (take n l)) whole q in
    subst (Appends a c) (sym (take-add w n xs)) (Appends-trans a b c _ _ p rest)

pub loop-written-preserved : goal.loop-written-preserved
loop-written-preserved g c =
    let loop = c.loop-written.invariant in
    record {
      within = grind (arith, common_steps);
      appended = appended-more _ _ _ _ _ _ loop.within loop.appended c.in_ok-written.ensures.bytes;
      failed = grind (arith, common_steps);
    }
