-- Where a part is cut, node by node of its grammar.
use Rattle.wasm_frames.proofs.Common.{◌≡◌, ℕ, List, Err, arith, Some, None, Option, FaultAt, number, read, unsigned_at, Place}
use Rattle.wasm_frames.proofs.Common.{VarU32, Grammar, check, u32_field, refl, advanced}
unfoldable use Rattle.wasm_grammar.specs.Cut.{cut}

module _ (x : Option FaultAt) (next : Grammar) (xs : List ℕ) where
  pub cut_wrong : (f : FaultAt) → x ≡ Some f → cut (check x next) xs ≡ None
  unfolding cut
  cut_wrong f e = rw e refl

  pub cut_right : x ≡ None → cut (check x next) xs ≡ cut next xs
  unfolding cut
  cut_right e = rw e refl

pub cut_number : (o : ℕ) (next : ℕ → ℕ → Grammar) (p q : Place) (v k : ℕ) → number VarU32 p.rest ≡ read v k → q ≡ advanced k p
    → cut (u32_field o next) p.rest ≡ cut (next v k) q.rest
unfolding cut
cut_number o next p q v k e f = grind arith

pub cut_no_number : (o : ℕ) (next : ℕ → ℕ → Grammar) (p : Place) (f : FaultAt) → unsigned_at VarU32 p ≡ Err f
    → cut (u32_field o next) p.rest ≡ None
unfolding cut unsigned_at
cut_no_number o next p f e = grind arith
