use Rattle.std.proofs.Common.{◌≡◌, ℕ, ◌+◌, ◌<◌, ◌/◌, ◌%◌, List, ◌∷◌, ap, arith, length, ◌∙◌, sym}
use Rattle.std.proofs.lemmas.Grind.{common_steps}
use Rattle.std.proofs.lemmas.List.{drop-set-lt}
use Rattle.wasm_encode.specs.Numbers.{septet, septets_of}
use Rattle.wasm_encode.proofs.Numbers.{put_more, septets_more}
use Rattle.wasm_encode.proofs.RestStays.{stays_on}
use Rattle.wasm_encode.proofs.number.write_septets.Goals as goal

pub septets-preserved : goal.septets-preserved
septets-preserved c =
    let flips = c.args.flips in
    let limit = c.args.limit in
    let rest = c.septets.rest in
    let later : List ℕ = septets_of flips limit (rest / 128) in
    let s : septets_of flips limit rest ≡ (septet flips (rest % 128) + 128) ∷ later =
    septets_more flips limit rest c.requires.limit c.septets-test.true c.septets.invariant.small in
    let e : septets_of flips limit rest ≡ (c.septet_of.result + 128) ∷ later =
    s ∙ ap (λ (b : ℕ). (b + 128) ∷ later) (sym c.septet_of.ensures) in
    let l : length (septets_of flips limit rest) ≡ length later + 1 = grind (arith, e) in
    let room : c.septets.end < length c.septets.bytes = omega (arith, l) in
    record {
      small = omega arith;
      whole = put_more c.septets.bytes c.septets.end (c.septet_of.result + 128) later (septets_of flips limit rest) _ room e
          c.septets.invariant.whole;
      size = omega (arith, l);
      rest = drop-set-lt (c.septets.end + 1) c.septets.bytes c.septets.end _ (omega arith)
          ∙ stays_on c.septets.end (c.septets.end + 1) c.septets.bytes _ (omega arith) c.septets.invariant.rest;
      len = grind (arith, common_steps);
    }
