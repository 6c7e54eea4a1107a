-- Where the faults of a grammar lie.
use Rattle.wasm_grammar.proofs.Common.{arith, ◌≡◌, Bool, cond, List, [], ◌∷◌, refl, ℕ, ◌+◌, length, ◌≤◌, None, Option, take, drop, nat_le}
use Rattle.wasm_grammar.proofs.Common.{length-append, Some, le_refl, common_steps, length-take-le, length-drop, number-used, FaultAt}
use Rattle.wasm_grammar.proofs.Common.{at_offset, Number, number, UnexpectedEof, VarU32, Ending, fault, ended, Form, wrong_content, Tile}
use Rattle.wasm_grammar.proofs.Common.{SectionContext, wrong_data, check, bytes, final, after, Grammar, accept, u32_field, section_start}
use Rattle.wasm_grammar.proofs.Common.{Verdict, after_number, reject, verdict, header_grammar, section_grammar, body_grammar, bytes_of}
use Rattle.wasm_grammar.proofs.Common.{grammar}
use Rattle.wasm_grammar.specs.Laws.{FaultLiesWithin}
use Rattle.wasm_grammar.proofs.parts.Places.{number_place, name_place}

-- an offset between these
abbrev pub Between : (low high offset : ℕ) → Type 0
Between low high offset = (low ≤ offset) × (offset ≤ high)

abbrev pub MayLie : (low high : ℕ) → Option FaultAt → Type 0
MayLie low high None = Unit {0}
MayLie low high (Some f) = Between low high f.offset

abbrev pub EndsIn : (low high : ℕ) → Ending → Type 0
EndsIn low high (fault f) = Between low high f.offset
EndsIn low high (ended offset) = Unit {0}

-- the faults that are before `here` lie after `low`; the others go on from `here`
abbrev pub Within : (low here : ℕ) → Grammar → Type 0
Within low here (accept shape) = Unit {0}
Within low here (reject e) = Between low here e.offset
Within low here (check e next) = MayLie low here e × Within low here next
Within low here (u32_field o next) = Between low here o × ((v k : ℕ) → Within low (here + k) (next v k))
Within low here (bytes count o next) = Between low here o × ((b : List ℕ) → length b ≡ count → Within low (here + count) (next b))
Within low here (section_start o e next) = Between low here o × EndsIn low here e × ((id : ℕ) → Within low (here + 1) (next id))

pub final_same : (f g : FaultAt) → (let v : Verdict = final (fault f) in v) ≡ final (fault g) → f ≡ g
final_same f g e = cc

number_lies : (low here o : ℕ) (xs : List ℕ) (next : ℕ → ℕ → Grammar) (f : FaultAt) → Between low here o
    → ((v k : ℕ) (zs : List ℕ) → verdict (next v k) zs ≡ final (fault f) → Between low (here + k + length zs) f.offset)
    → (n : Number) → number VarU32 xs ≡ n → after_number o xs n (λ v k. verdict (next v k) (drop k xs)) ≡ final (fault f)
    → Between low (here + length xs) f.offset
number_lies low here o xs next f w v k zs n = grind (arith, number-used, length-drop, number_place)

bytes_lie : (low here count o : ℕ) (xs : List ℕ) (next : List ℕ → Grammar) (f : FaultAt) → Between low here o
    → ((b zs : List ℕ) → length b ≡ count → verdict (next b) zs ≡ final (fault f) → Between low (here + count + length zs) f.offset)
    → (t : Bool) → nat_le count (length xs) ≡ t → cond t (after (take count xs) (verdict (next (take count xs)) (drop count xs)))
    (final (fault (at_offset UnexpectedEof o))) ≡ final (fault f)
    → Between low (here + length xs) f.offset
bytes_lie low here count o xs next f w b zs t h = grind (arith, length-take-le, length-drop)

-- a fault lies among the bytes, or at their end
pub verdict_lies : (low here : ℕ) (g : Grammar) (xs : List ℕ) (f : FaultAt) → Within low here g → verdict g xs ≡ final (fault f)
    → Between low (here + length xs) f.offset
unfolding verdict
verdict_lies low here (accept shape) xs f w h = cc
verdict_lies low here (reject e) xs f w h = grind arith
verdict_lies low here (check None next) xs f w h = verdict_lies low here next xs f w.1 h
verdict_lies low here (check (Some e) next) xs f w h = grind arith
verdict_lies low here (u32_field o next) xs f w h =
    number_lies low here o xs next f w.0 (λ v k zs. verdict_lies low (here + k) (next v k) zs f (w.1 v k)) (number VarU32 xs) refl h
verdict_lies low here (bytes count o next) xs f w h =
    bytes_lie low here count o xs next f w.0 (λ b zs l. verdict_lies low (here + count) (next b) zs f (w.1 b l)) (nat_le count (length xs))
    refl h
verdict_lies low here (section_start o e next) [] f w h = grind arith
verdict_lies low here (section_start o e next) (id ∷ xs) f w h = grind (arith, verdict_lies low (here + 1) (next id) xs f (w.2 id))

-- ---- the grammars of a stream

content_wrong : (kind : Form) (offset : ℕ) (content : List ℕ) → MayLie offset (offset + length content) (wrong_content kind offset content)
unfolding wrong_content
content_wrong kind offset content = grind (arith, number_place, name_place)

data_wrong : (p : SectionContext) (kind : Form) (id offset : ℕ) (content : List ℕ)
    → MayLie offset offset (wrong_data p kind id offset content)
data_wrong p kind id offset content = grind arith

Within-section : (p : SectionContext) (o : ℕ) → Within o o (section_grammar p o)
unfolding section_grammar
Within-section p o = grind (arith, common_steps, le_refl, content_wrong, data_wrong)

Within-body : (bodies code_bytes o : ℕ) → Within o o (body_grammar bodies code_bytes o)
unfolding body_grammar
Within-body bodies code_bytes o = grind arith

Within-header : (o : ℕ) → Within o o (header_grammar o)
unfolding header_grammar
Within-header o = grind arith

pub Within-grammar : (start : ℕ) (ts : List Tile) → Within (start + length (bytes_of ts)) (start + length (bytes_of ts)) (grammar start ts)
Within-grammar start ts = grind (arith, Within-header, Within-section, Within-body)

pub fault_lies_within : FaultLiesWithin
fault_lies_within stream start tiles f r =
    let (a, b) = verdict_lies _ _ (grammar start tiles) r.rest f (Within-grammar start tiles) r.stops in
    grind (arith, length-append)

pub Within-any : (h b : Bool) (p : SectionContext) (bodies code_bytes o : ℕ)
    → Within o o (cond h (header_grammar o) (cond b (section_grammar p o) (body_grammar bodies code_bytes o)))
Within-any h b p bodies code_bytes o = grind (arith, Within-header, Within-section, Within-body)
