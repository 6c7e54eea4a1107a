use Rattle.std.proofs.Common.{◌∙◌, ◌-◌, ◌^◌, [], All, refl, sym, subst}
use Rattle.std.proofs.lemmas.List.Elements.{All-head}
use Rattle.wasm_encode.specs.RecGroups.{SubtypeFits, subtype_bytes}
use Rattle.wasm_encode.specs.Sections.{ListFits}
use Rattle.wasm_encode.proofs.Lengths.{one_type, only_one}
use Rattle.wasm_encode.proofs.rec_groups.RecGroupEncode.fits.Goals as goal

pub returns-in-len1 : goal.returns-in-len1
returns-in-len1 c =
    let ty = c.ty-item.result in
    let only = only_one c.as_slice-2.result.now ty c.in-len1.len_at_least c.in-len1.len_below c.ty-item.is in
    let types = sym c.as_slice-2.ensures ∙ only in (
      λ t. record {
        count = rw (c.if-self.false, types) refl;
        types = subst (ListFits (2 ^ 32 - 1) subtype_bytes SubtypeFits) (sym types) (one_type ty (c.fits.ensures.0 t));
      },
      λ f. c.fits.ensures.1 (All-head SubtypeFits ty [] (subst (All SubtypeFits) types f.types.each)),
    )
