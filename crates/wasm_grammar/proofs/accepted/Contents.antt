-- Nothing is wrong with a section's content exactly if it is good.
use Rattle.wasm_grammar.proofs.Common.{arith, ◌≡◌, List, ℕ, length, ◌≤◌, None, number-used, Number, read, number, Fault, VarU32, IsNumber}
use Rattle.wasm_grammar.proofs.Common.{IsFormed, Form, wrong_content}
use Rattle.wasm_grammar.specs.Content.{wrong_single}

-- good content has no fault
pub good_to : (form : Form) (o : ℕ) (content : List ℕ) → IsFormed form content → wrong_content form o content ≡ None
unfolding wrong_content
good_to form o content g = grind arith

-- content with no fault as one number is one number
single_from : (trailing : Fault) (o : ℕ) (content : List ℕ) (n : Number) → number VarU32 content ≡ n
    → wrong_single trailing o content n ≡ None
    → (v : ℕ) × IsNumber content v
single_from trailing o content (read v k) e h =
    let l : length content ≤ k = grind arith in
    let z : k ≡ length content = omega (arith, (number-used VarU32 content v k e).there) in
    grind arith
single_from trailing o content _ e h = cc

-- content with no fault is good
pub good_from : (form : Form) (o : ℕ) (content : List ℕ) → wrong_content form o content ≡ None → IsFormed form content
unfolding wrong_content
good_from form o content h = grind (arith, single_from)
