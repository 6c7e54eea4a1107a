use Rattle.std.proofs.Common.{◌≡◌, ℕ, true, List, ap, length, subst, arith}
use Rattle.std.proofs.lemmas.Bool.{leb-true, le-leb}
use Rattle.std.proofs.lemmas.Str.{is_utf8-from_IsUtf8}
use Rattle.std.specs.Str.{is_utf8}
use Rattle.wasm_edits.specs.Encoded.{content_of}
use Rattle.wasm_edits.proofs.encoding.NewSection.fits.Goals as goal

pub returns : goal.returns
returns c =
    let s = c.args.self.now in
    let size : c.content_size.result ≡ length (content_of s) = c.content_size.ensures in
    let name : c.text-name.result.now ≡ s.name.now = c.text-name.ensures in
    let text : is_utf8 s.name.now ≡ true =
    subst (λ (t : List ℕ). is_utf8 t ≡ true) name (is_utf8-from_IsUtf8 c.text-name.result.now c.text-name.utf8) in (
      λ t. record {
        text = text;
        short = omega (arith, ap length name, c.if-name-gt-MAX_WASM_STRING_SIZE.false);
        sized = omega (arith, size, leb-true c.content_size.result 4294967295 t);
      },
      λ f. le-leb c.content_size.result 4294967295 (omega (arith, size, f.sized)),
    )
