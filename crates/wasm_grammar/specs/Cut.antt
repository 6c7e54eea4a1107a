-- What the first bytes of a part say of it where its end is missing: a third meaning of a grammar.
use Rattle.std.specs.Prelude.{ℕ, Bool, true, false, List, [], ◌∷◌, length, take, drop, Option, Some, None, nat_le}
use Rattle.std.specs.Prelude.{if◌then◌else◌}
use Rattle.wasm_base.specs.Header.{magic, agree}
use Rattle.wasm_base.specs.Number.{Number, read, bad, short, number}
use Rattle.wasm_base.specs.declared.fault.NumberKind.TheVariants.{VarU32}
use Rattle.wasm_grammar.specs.Content.{Form, items, custom, unknown}
use Rattle.wasm_grammar.specs.Grammar.{Shape, section, code_entry, Verdict, tile, final, Grammar, accept, reject, check}
use Rattle.wasm_grammar.specs.Grammar.{u32_field, bytes, section_start, verdict}

-- a part whose end is missing: its shape with the content so far, the offset at which that begins, and the size that it
-- will have
pub record Cut : Type 0 where
  pub shape : Shape
  pub offset : ℕ
  pub size : ℕ

-- whether more content of this form changes nothing of what its first fields say. A number that has to be all of it may
-- not.
abbrev pub form_grows : Form → Bool
form_grows custom = true
form_grows items = true
form_grows unknown = true
form_grows other = false

abbrev pub may_grow : Shape → Bool
may_grow (section form id content) = form_grows form
may_grow (code_entry content) = true
may_grow other = false

-- the part of which this is the verdict over the content so far
abbrev pub cut_content : (offset size : ℕ) → Verdict → Option Cut
cut_content offset size (tile t) =
    if may_grow t.shape then Some (record { shape = t.shape; offset = offset; size = size }) else None
cut_content offset size (final e) = None

abbrev pub after_field : Number → (ℕ → ℕ → Option Cut) → Option Cut
after_field (read value used) next = next value used
after_field (bad f place) next = None
after_field short next = None

-- | a part whose end is missing, by the bytes so far: its first fields are there and have no fault, whatever bytes
--   follow <Sections; Code Section; this project>
-- the part at a place, if the content of its announced size has begun and is not complete
unfoldable pub cut : Grammar → (prefix : List ℕ) → Option Cut
cut (accept shape) prefix = None
cut (reject e) prefix = None
cut (check (Some e) next) prefix = None
cut (check None next) prefix = cut next prefix
cut (u32_field offset next) prefix =
    after_field (number VarU32 prefix) (λ value used. cut (next value used) (drop used prefix))
cut (bytes count offset next) prefix =
    if nat_le count (length prefix) then cut (next (take count prefix)) (drop count prefix) else
    cut_content offset count (verdict (next prefix) [])
cut (section_start offset e next) [] = None
cut (section_start offset e next) (id ∷ prefix) =
    if agree (id ∷ prefix) magic then None else cut (next id) prefix
