use Rattle.wasm_output.proofs.Common.{◌≡◌, arith, sym, ap, ◌∙◌, Some, None, get_by, key_cmp, item, named}
use Rattle.wasm_output.proofs.Naming.{got_name, named_far}
use Rattle.wasm_output.proofs.known_names.ItemNames.of.Goals as goal

pub returns-in-Some : goal.returns-in-Some
returns-in-Some g c =
    let number = item c.args.space c.args.index in
    let got : Some c.in-Some.name.now ≡ get_by (key_cmp (c.rank_of.result, c.in-Ok.index)) c.self.inside.names = c.in-Some.ensures.value in
    ap Some c.as_str.ensures.value
    ∙ (got_name c.self.inside.names number (Some c.in-Some.name.now) c.in-Ok.ensures.0 (rw (c.rank_of.ensures, c.in-Ok.ensures.1) at got)
    ∙ ap (λ names. named names number) c.self.view_is)

pub returns-in-None : goal.returns-in-None
returns-in-None g c =
    let number = item c.args.space c.args.index in
    let got : None ≡ get_by (key_cmp (c.rank_of.result, c.in-Ok.index)) c.self.inside.names = c.in-None.ensures.value in
    got_name c.self.inside.names number None c.in-Ok.ensures.0 (rw (c.rank_of.ensures, c.in-Ok.ensures.1) at got)
    ∙ ap (λ names. named names number) c.self.view_is

pub returns-in-Err : goal.returns-in-Err
returns-in-Err g c = sym (named_far _ _ (omega (arith, c.in-Err.ensures)))
