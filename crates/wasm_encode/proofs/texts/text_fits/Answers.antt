use Rattle.std.proofs.Common.{arith, length}
use Rattle.std.proofs.lemmas.Bool.{le-leb, leb-true}
use Rattle.std.proofs.lemmas.Str.{is_utf8-from_IsUtf8}
use Rattle.wasm_encode.proofs.texts.text_fits.Goals as goal

pub returns : goal.returns
returns c =
    let text = c.args.text.now in (
      λ t. let few = leb-true (length text) 4294967295 t in
          record { utf8 = is_utf8-from_IsUtf8 text c.utf8.text; short = omega (arith, few) },
      λ f. let short = f.short in le-leb (length text) 4294967295 (omega (arith, short)),
    )
