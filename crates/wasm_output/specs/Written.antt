-- What each tree has written.
use Rattle.std.specs.Prelude.{ℕ, Bool, List}
use Rattle.wasm_io.specs.declared.digits.Base.{Base}
use Rattle.wasm_output.specs.Tree.{Rest, Writing, of_objects, with_rest}
use Rattle.wasm_output.specs.declared.lines.TextLines.{TextLines}
use Rattle.wasm_output.specs.declared.objects.Objects.{Objects}
use Rattle.wasm_output.specs.declared.objects.Spot.TheVariants.{Outside}
use Rattle.wasm_output.specs.declared.tree.Style.TheVariants as style

-- in lines with offsets in this base
abbrev pub of_lines : Base → (is_begun : Bool) → (unshown : List ℕ) → Rest
of_lines base is_begun unshown =
    record { is_begun = is_begun; style = style.Lines base; spot = Outside; unshown = unshown }

abbrev pub lines_rest : {W : Type 0} → TextLines W → Rest
lines_rest t = of_lines t.base t.is_begun t.rows

-- | what a tree has written, lines or objects [`objects`]
abbrev pub lines : {W : Type 0} → TextLines W → Writing
lines t = with_rest (lines_rest t) t.output

abbrev pub objects_rest : {W : Type 0} → Objects W → Rest
objects_rest t = of_objects t.spot

abbrev pub objects : {W : Type 0} → Objects W → Writing
objects t = with_rest (objects_rest t) t.output
