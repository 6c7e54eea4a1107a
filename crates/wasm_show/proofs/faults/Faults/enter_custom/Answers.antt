use Rattle.std.proofs.Common.{ap, refl, subst}
use Rattle.wasm_show.specs.Noted.{Notes, found_by}
use Rattle.wasm_show.specs.Seen.{custom, enters}
use Rattle.wasm_show.proofs.Noting.{noted_stop}
use Rattle.wasm_show.proofs.faults.Faults.enter_custom.Goals as goal

pub returns-in-Ok : goal.returns-in-Ok
returns-in-Ok g c = subst (λ x. Notes (enters (custom x)) (found_by c.args.self.now) (found_by c.enter_section.new.self))
    c.in-Ok.ensures.ok c.enter_section.ensures

pub returns-in-Err : goal.returns-in-Err
returns-in-Err g c =
    let old = found_by c.args.self.now in
    noted_stop (enters (custom c.args.name.now)) old _ (λ prefix site. refl)
    (ap (λ o. record old { output = o }) c.out_of_memory.ensures)
