use Rattle.wasm_parser.proofs.Common.{◌<◌, arith}
use Rattle.std.proofs.lemmas.List.Elements.{All-from_get_or}
use Rattle.wasm_parser.proofs.Walking.{walks_whole}
use Rattle.wasm_parser.proofs.parser.Parser.parse_all.Goals as goal

pub returns-clause-reading : goal.returns-clause-reading
returns-clause-reading c =
    let bytes = All-from_get_or (λ b. b < 256) c.args.bytes.now 0 (λ i l. let h = c.type_inv.bytes i in omega (arith, h)) in
    walks_whole c.args.self c.args.bytes.now c.over.result bytes c.over.ensures
