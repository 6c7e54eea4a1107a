use Rattle.std.proofs.Common.{◌≡◌, ◌-◌, inr, refl, arith, rules}
use Rattle.std.proofs.lemmas.List.{length_push}
use Rattle.std.proofs.lemmas.Result.{err_from_is_err_and}
use Rattle.wasm_base.specs.Window.{place}
use Rattle.wasm_base.proofs.InTurn.{none_so_far, more_at, fault_at_item, done_at}
use Rattle.wasm_items.proofs.type_lists.read_in_place.Goals as goal

pub items-init : goal.items-init
items-init g c = record {
  so_far =
      let all : c.args.count - 0 ≡ c.args.count = omega arith in
      rw (all, c.new-places.ensures) (none_so_far g.T.FromReader.meaning c.args.count (place c.args.reader.now));
  filled = rw c.new-places.ensures refl;
  keeps = search rules;
}

pub returns-in_err-from_reader-clause-means : goal.returns-in_err-from_reader-clause-means
returns-in_err-from_reader-clause-means g c =
    let p = err_from_is_err_and c.from_residual.result c.from_residual.ensures.1 in
    rw (p.1, p.2) (inr (fault_at_item g.T.FromReader.meaning c.args.count c.items.counter _ _ _ _ c.items.invariant.so_far c.items-test.true
    c.in_err-from_reader.ensures.means))

pub push-requires : goal.push-requires
push-requires g c = omega (arith, c.items.invariant.filled, c.items-test.true, c.requires.fits)

pub items-preserved : goal.items-preserved
items-preserved g c = record {
  so_far = rw c.push.ensures (more_at g.T.FromReader.meaning c.args.count c.items.counter _ _ _ _ _ c.items.invariant.so_far
      c.items-test.true c.in_ok-from_reader.ensures.means);
  filled = rw (c.push.ensures, length_push (g.P.AsSlice.items c.items.places) c.in_ok-from_reader.field-0, c.items.invariant.filled) refl;
  keeps = search rules;
}

pub returns-clause-means : goal.returns-clause-means
returns-clause-means g c = done_at g.T.FromReader.meaning c.args.count c.items.counter _ _ _ c.items.invariant.so_far c.items-test.false
