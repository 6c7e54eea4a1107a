use Rattle.std.proofs.Common.{refl}
use Rattle.wasm_show.specs.Noted.{found_by, site_of}
use Rattle.wasm_show.specs.Seen.{enters}
use Rattle.wasm_show.proofs.Noting.{no_line, noted_one, or_false}
use Rattle.wasm_show.proofs.faults.Faults.enter_section.Goals as goal

pub returns : goal.returns
returns g c =
    let old = found_by c.args.self.now in
    let n = enters (site_of c.args.place) in
    noted_one n old _ (no_line old n refl) refl refl (λ e. refl) (λ e. or_false old.has_found)
