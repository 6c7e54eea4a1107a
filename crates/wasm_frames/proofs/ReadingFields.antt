-- How what is at a place is reported, field by field.
use Rattle.wasm_frames.proofs.Common.{◌≡◌, ℕ, ◌<◌, ◌≤◌, List, length, Result, Ok, Err, sym, subst, arith, length-append, take, Some, None}
use Rattle.wasm_frames.proofs.Common.{Option, length-take-le, number-used, FaultAt, fault_at, at_offset, hint_of, hint_at, missing_at}
use Rattle.wasm_frames.proofs.Common.{number, read, unsigned_at, Place, advanced, Error, UnexpectedEof, VarU32, Verdict, Grammar, Shape}
use Rattle.wasm_frames.proofs.Common.{accept, check, u32_field, bytes, verdict, tile_report, waiting, MatchesGrammar}
use Rattle.wasm_frames.proofs.Common.{MatchesVerdict, Report}
use Rattle.wasm_base.proofs.Texts.{advanced_twice}
use Rattle.wasm_grammar.specs.Grammar.{reject, after}
use Rattle.wasm_grammar.proofs.endings.BadNumbers.{bad_hint}

-- a tile that begins with these bytes
pub report_after : (s : ℕ) (p : Place) (f : List ℕ) (v : Verdict) (r : Result Report Error) (a : Place)
    → MatchesVerdict s (advanced (length f) p) v r a → MatchesVerdict s p (after f v) r a
report_after s p f v r a h = grind (arith, length-append, advanced_twice)

pub report_at : (s : ℕ) (p : Place) (k : ℕ) (f : List ℕ) (v : Verdict) (r : Result Report Error) (a : Place) → length f ≡ k
    → MatchesVerdict s (advanced k p) v r a → MatchesVerdict s p (after f v) r a
report_at s p k f v r a l h = report_after s p f v r a (subst (λ (n : ℕ). MatchesVerdict s (advanced n p) v r a) (sym l) h)

-- ---- hints

-- enough bytes
pub report_bytes : (s : ℕ) (p : Place) (n o : ℕ) (next : List ℕ → Grammar) (r : Result Report Error) (a : Place) → n ≤ length p.rest
    → MatchesGrammar s (advanced n p) (next (take n p.rest)) r a → MatchesGrammar s p (bytes n o next) r a
unfolding verdict waiting
report_bytes s p n o next r a l h = grind (arith, report_at, length-take-le)

-- too few
pub report_missing : (s : ℕ) (p : Place) (n o : ℕ) (next : List ℕ → Grammar) (e : Error) (a : Place) → length p.rest < n → fault_at e
    ≡ at_offset UnexpectedEof o
    → hint_of e ≡ hint_at (missing_at n p) (fault_at e).fault → MatchesGrammar s p (bytes n o next) (Err e) a
unfolding verdict waiting
report_missing s p n o next e a l f h = grind arith

-- a number, that is read or not
pub report_number : (s : ℕ) (p : Place) (o : ℕ) (next : ℕ → ℕ → Grammar) (r : Result Report Error) (a : Place) (v k : ℕ)
    → number VarU32 p.rest ≡ read v k → MatchesGrammar s (advanced k p) (next v k) r a → MatchesGrammar s p (u32_field o next) r a
unfolding verdict waiting
report_number s p o next r a v k e h = grind (arith, number-used, report_at, length-take-le)

pub report_no_number : (s : ℕ) (p : Place) (next : ℕ → ℕ → Grammar) (e : Error) (a : Place) → unsigned_at VarU32 p ≡ Err (fault_at e)
    → hint_of e ≡ hint_at 1 (fault_at e).fault → MatchesGrammar s p (u32_field p.offset next) (Err e) a
unfolding verdict waiting unsigned_at
report_no_number s p next e a f h = grind (arith, bad_hint)

module _ (s : ℕ) (p : Place) (f : Option FaultAt) (next : Grammar) where
  -- something wrong, or nothing
  pub report_wrong : (e : Error) (a : Place) → f ≡ Some (fault_at e) → hint_of e ≡ None → MatchesGrammar s p (check f next) (Err e) a
  unfolding verdict waiting
  report_wrong e a m h = grind arith

  pub report_right : (r : Result Report Error) (a : Place) → f ≡ None → MatchesGrammar s p next r a → MatchesGrammar s p (check f next) r a
  unfolding verdict waiting
  report_right r a h k = grind arith

-- the tile is whole
pub report_whole : (s : ℕ) (p : Place) (shape : Shape) (report : Report) (a : Place) → a ≡ p
    → report ≡ tile_report p.features s p.offset shape → MatchesGrammar s p (accept shape) (Ok report) a
unfolding verdict
report_whole s p shape report a e h = grind arith

pub report_stops : (s : ℕ) (p : Place) (f : FaultAt) (e : Error) (a : Place) → fault_at e ≡ f → hint_of e ≡ None
    → MatchesGrammar s p (reject f) (Err e) a
unfolding verdict waiting
report_stops s p f e a x h = (x, h)

-- what was read of a number
pub record ReadNumber (p : Place) (v : ℕ) (q : Place) : Type 0 where
  pub used : ℕ
  pub reads : number VarU32 p.rest ≡ read v used
  pub after : q ≡ advanced used p
  pub there : used ≤ length p.rest

pub read_number : (p : Place) (v : ℕ) (q : Place) → unsigned_at VarU32 p ≡ Ok (v, q) → ReadNumber p v q
unfolding unsigned_at
read_number p v q h = grind (arith, number-used)
