use Rattle.std.specs.String.{string_bytes}
use Rattle.std.proofs.Common.{ap, ◌∙◌, refl}
use Rattle.wasm_output.proofs.ForCallers.{more_none, more_same}
use Rattle.wasm_show.specs.Noted.{found_by, site_of}
use Rattle.wasm_show.specs.Seen.{unknown}
use Rattle.wasm_show.proofs.Noting.{loud, noted_one, or_false, quietly}
use Rattle.wasm_show.proofs.faults.Faults.warn.Goals as goal

pub returns-then-not-self : goal.returns-then-not-self
returns-then-not-self g c =
    let old = found_by c.args.self.now in
    let n = unknown c.args.id c.args.offset in
    let kept = c.put_warning.ensures.kept in
    noted_one n old _ (more_same _ _ _ _ (loud old n c.if-not-self.true) c.put_warning.ensures.puts)
    (ap (λ t. string_bytes t.prefix) kept) (ap (λ t. t.is_quiet) kept) (λ e. ap (λ t. site_of t.place) kept)
    (λ e. ap (λ t. t.has_found) kept ∙ or_false c.args.self.now.has_found)

pub returns-else-not-self : goal.returns-else-not-self
returns-else-not-self g c =
    let old = found_by c.args.self.now in
    let n = unknown c.args.id c.args.offset in
    noted_one n old old (more_same _ _ _ _ (quietly old n c.if-not-self.false) (more_none old.output)) refl refl (λ e. refl)
    (λ e. or_false old.has_found)
