-- Lines of JSON that are put together.
use Rattle.wasm_output.proofs.Common.{◌≡◌, ℕ, zero, suc, ◌<◌, Bool, true, false, ◌&&◌, nat_eq, refl, arith, ◌+◌, ◌≤◌, ◌%◌, List, [], ◌∷◌}
use Rattle.wasm_output.proofs.Common.{◌++◌, codes, sym, ap, ◌∙◌, ◌^◌, subst, nat_lt, decimal, length, ◌||◌, nat_tests, decimal_by_steps}
use Rattle.wasm_output.proofs.Common.{list_all, list_any, if◌then◌else◌, slice_index, is_escaped, start, after_all, IsAt, Leads, object_end}
use Rattle.wasm_output.proofs.Common.{Spot, Ended, AtValue}
use Rattle.std.proofs.Common.{◌/◌}
use Rattle.wasm_output.specs.Json.{Place, State, Bracket, object, array, here, after_byte, has_value, is_digit, first_value, value, string}
use Rattle.wasm_output.specs.Json.{after_minus, after_zero, digits, ended, StaysInString, after_value, begins_value, escaped_byte}
use Rattle.wasm_output.specs.Json.{is_hexadecimal}

-- bytes after bytes
pub after_all-append : (s : State) (xs ys : List ℕ) → after_all s (xs ++ ys) ≡ after_all (after_all s xs) ys
after_all-append s [] ys = refl
after_all-append s (x ∷ xs) ys = after_all-append (after_byte s.place s.inside x) xs ys

-- ---- what completes an object that was begun

-- after a value comes what may follow one, though a number has no byte that ends it
value_over : (p : Place) (inside : List Bracket) (b : ℕ) → has_value p ≡ true → is_digit b ≡ false → after_byte p inside b
    ≡ after_value inside b
value_over p inside b h d = grind arith

pub completes : (spot : Spot) (s : State) → IsAt spot s → after_all s (object_end spot) ≡ start
completes spot s e = grind arith

-- ---- strings

both : (a b : Bool) → (a && b) ≡ true → (a ≡ true) × (b ≡ true)
both a b e = grind arith

neither : (a b : Bool) → (a || b) ≡ false → (a ≡ false) × (b ≡ false)
neither a b e = grind arith

hexadecimal_at : (xs : List ℕ) (i : ℕ) → list_all is_hexadecimal xs ≡ true → i < length xs → is_hexadecimal (slice_index xs i) ≡ true
hexadecimal_at [] i h l = absurd (omega arith)
hexadecimal_at (x ∷ xs) zero h l = (both (is_hexadecimal x) (list_all is_hexadecimal xs) h).0
hexadecimal_at (x ∷ xs) (suc i) h l = hexadecimal_at xs i (both (is_hexadecimal x) (list_all is_hexadecimal xs) h).1 (omega arith)

-- in a string, which is a name or a value
module _ (k : Bool) (inside : List Bracket) where
  plain_stays : (b : ℕ) → nat_lt b 32 ≡ false → (nat_eq b 34 || nat_eq b 92) ≡ false
      → after_byte (string k) inside b ≡ here (string k) inside
  plain_stays b low e = grind arith

  run_stays : (xs : List ℕ) → list_any is_escaped xs ≡ false → after_all (here (string k) inside) xs ≡ here (string k) inside
  run_stays [] e = refl
  run_stays (x ∷ xs) e = let (first, later) = neither _ _ e in grind (arith, neither, plain_stays, run_stays xs later)

  digits_stay : (high low : ℕ) → is_hexadecimal high ≡ true → is_hexadecimal low ≡ true
      → after_all (here (string k) inside) (92 ∷ 117 ∷ 48 ∷ 48 ∷ high ∷ low ∷ []) ≡ here (string k) inside
  digits_stay high low h l = rw (h, l) refl

  quote_stays : (b : ℕ) → (nat_eq b 34 || nat_eq b 92) ≡ true → after_all (here (string k) inside) (92 ∷ b ∷ []) ≡ here (string k) inside
  quote_stays b e = grind arith

  escaped_by : (b : ℕ) → b < 256 → (x y : Bool) → nat_lt b 32 ≡ x → (nat_eq b 34 || nat_eq b 92) ≡ y
      → after_all (here (string k) inside) (escaped_byte b) ≡ here (string k) inside
  escaped_by b h true y low e =
      rw low (digits_stay (slice_index (codes "0123456789abcdef") (b / 16)) (slice_index (codes "0123456789abcdef") (b % 16))
      (hexadecimal_at (codes "0123456789abcdef") (b / 16) refl (omega arith))
      (hexadecimal_at (codes "0123456789abcdef") (b % 16) refl (omega arith)))
  escaped_by b h false true low e = rw (low, e) (quote_stays b e)
  escaped_by b h false false low e = rw (low, e) (plain_stays b low e)

-- the escape of a byte is part of its string
pub escaped_stays : (b : ℕ) → b < 256 → StaysInString (escaped_byte b)
escaped_stays b h other i s e = grind (arith, escaped_by)

-- nor do plain bytes end it
pub plain_run_stays : (xs : List ℕ) → list_any is_escaped xs ≡ false → StaysInString xs
plain_run_stays xs p other i s e = grind (arith, run_stays)

-- ---- numbers

-- a number may begin at this place
record MayBegin (p : Place) : Type 0 where
  nothing : (inside : List Bracket) → after_byte p inside 48 ≡ here after_zero inside
  first : (inside : List Bracket) (d : ℕ) → 0 < d → d < 10 → after_byte p inside (48 + d) ≡ here digits inside

value_begins : (inside : List Bracket) (d : ℕ) → 0 < d → d < 10 → begins_value inside (48 + d) ≡ here digits inside
value_begins inside d some h = grind (arith, nat_tests)

begins_at_value : MayBegin value
begins_at_value = record { nothing = λ inside. refl; first = value_begins }

begins_in_array : MayBegin first_value
begins_in_array = grind (arith, nat_tests, value_begins)

begins_after_minus : MayBegin after_minus
begins_after_minus = grind arith

-- after a number, these brackets are open
record IsOver (inside : List Bracket) (s : State) : Type 0 where
  has : has_value s.place ≡ true
  same : s.inside ≡ inside

module _ (p : Place) (m : MayBegin p) where
  abbrev Reads : ℕ → List ℕ → Type 0
  Reads n ds = (n ≡ 0 → ds ≡ 48 ∷ []) × (0 < n → (inside : List Bracket) → after_all (here p inside) ds ≡ here digits inside)

  one : (n : ℕ) → n < 10 → Reads n ((48 + n) ∷ [])
  one n h = (λ e. rw e refl, λ some inside. m.first inside n some h)

  further : (n : ℕ) (ds : List ℕ) → 10 ≤ n → Reads (n / 10) ds → Reads n (ds ++ (48 + n % 10) ∷ [])
  further n ds h r = grind (arith, after_all-append)

  number_by : (n : ℕ) (ds : List ℕ) → Reads n ds → (inside : List Bracket) → IsOver inside (after_all (here p inside) ds)
  number_by n ds r inside = grind arith

  number_over : (n : ℕ) → n < 2 ^ 64 → (inside : List Bracket) → IsOver inside (after_all (here p inside) (decimal n))
  number_over n h inside = number_by n (decimal n) (decimal_by_steps Reads one further n h) inside

pub number_leads : (n : ℕ) → n < 2 ^ 64 → Leads AtValue (decimal n) Ended
number_leads n h s e = let over = number_over value begins_at_value n h _ in rw e (over.has, over.same)

pub negative_leads : (n : ℕ) → n < 2 ^ 64 → Leads AtValue (45 ∷ decimal n) Ended
negative_leads n h s e = let over = number_over after_minus begins_after_minus n h _ in rw e (over.has, over.same)

-- a byte after a number
after_over : (inside : List Bracket) (s : State) (b : ℕ) → IsOver inside s → is_digit b ≡ false → after_byte s.place s.inside b
    ≡ after_value inside b
after_over inside s b o d = value_over s.place s.inside b o.has d ∙ ap (λ (x : List Bracket). after_value x b) o.same

range_over : (from to : ℕ) → from < 2 ^ 64 → to < 2 ^ 64 → after_all (here value (object ∷ []))
    (codes "[" ++ (decimal from ++ (codes "," ++ (decimal to ++ codes "]")))) ≡ here ended (object ∷ [])
range_over from to h k =
    let inner = array ∷ object ∷ [] in
    let later = codes "," ++ (decimal to ++ codes "]") in
    after_all-append (here first_value inner) (decimal from) later
    ∙ (ap (λ (s : State). after_all s (decimal to ++ codes "]"))
    (after_over inner (after_all (here first_value inner) (decimal from)) 44 (number_over first_value begins_in_array from h inner) refl)
    ∙ (after_all-append (here value inner) (decimal to) (codes "]")
    ∙ after_over inner (after_all (here value inner) (decimal to)) 93 (number_over value begins_at_value to k inner) refl))

pub range_leads : (from to : ℕ) → from < 2 ^ 64 → to < 2 ^ 64
    → Leads AtValue (codes "[" ++ (decimal from ++ (codes "," ++ (decimal to ++ codes "]")))) Ended
range_leads from to h k s e = rw (e, range_over from to h k) (refl, refl)

pub signed_leads : (negative : Bool) (n : ℕ) → n < 2 ^ 64 → Leads AtValue ((if negative then codes "-" else []) ++ decimal n) Ended
signed_leads true n h = negative_leads n h
signed_leads false n h = number_leads n h

-- what leads from a spot leads from one that is the same
pub leads_from : (old spot new : Spot) (text : List ℕ) → old ≡ spot → Leads spot text new → Leads old text new
leads_from old spot new text e leads = subst (λ (s : Spot). Leads s text new) (sym e) leads
