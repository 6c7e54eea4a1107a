-- Texts without their colors.
use Rattle.std.proofs.Common.{◌≡◌, ◌≢◌, ◌∙◌, ℕ, suc, ◌+◌, ◌≤◌, ◌<◌, false, List, [], ◌∷◌, ◌++◌, Option, Some, None, Result, Ok, Err}
use Rattle.std.proofs.Common.{IfOk, OnErr, ap, sym, subst, refl, nat_eq, eqb-true, length, take, drop, get_or}
use Rattle.std.proofs.Common.{append_assoc, append-nil, take-append-drop, length-append, take_all, le_refl, arith}
use Rattle.std.proofs.lemmas.Bool.{false_from_ne_true}
use Rattle.std.proofs.lemmas.List.{take_at, take_more}
use Rattle.std.specs.Io.KnownBytes.{Appends, Keeps, WriteAppends}
use Rattle.wasm_io.specs.declared.devices.Failed.{Failed}
use Rattle.std.proofs.KnownBytes.{Appends-kept}
use Rattle.wasm_commands.specs.Colors.{GainsByte, IsColored, IsSequence, given_by, plain, where_after, where_after_byte}
use Rattle.wasm_commands.specs.Colors.{without_colors, without_from}
use Rattle.wasm_commands.specs.declared.dump.plain.Where.{Where}
use Rattle.wasm_commands.specs.declared.dump.plain.Where.TheVariants.{Outside}

pub without_append : (at : Where) (xs ys : List ℕ) → without_from at (xs ++ ys)
    ≡ without_from at xs ++ without_from (where_after at xs) ys
without_append at [] ys = refl
without_append at (x ∷ xs) ys =
    ap (λ l. given_by at x ++ l) (without_append (where_after_byte at x) xs ys)
    ∙ sym (append_assoc (given_by at x) (without_from (where_after_byte at x) xs) (without_from (where_after at (x ∷ xs)) ys))

pub where_append : (at : Where) (xs ys : List ℕ) → where_after at (xs ++ ys) ≡ where_after (where_after at xs) ys
where_append at [] ys = refl
where_append at (x ∷ xs) ys = where_append (where_after_byte at x) xs ys

-- bytes that stand for this text, wherever they are, add this text
pub plain_gains : (a b : Option (List ℕ)) (bs text : List ℕ) → ((at : Where) → without_from at bs ≡ text) → Appends a b bs
    → Appends (plain a) (plain b) text
plain_gains None b bs text gives p = tt
plain_gains (Some x) None bs text gives p = absurd p
plain_gains (Some x) (Some y) bs text gives p =
    ap without_colors p ∙ without_append Outside x bs ∙ ap (λ l. without_colors x ++ l) (gives (where_after Outside x))

nil_first : (xs ys : List ℕ) → xs ++ ys ≡ [] → xs ≡ []
nil_first [] ys e = refl
nil_first (x ∷ xs) ys e = cc

-- a prefix of a sequence stands for nothing
pub silent_head : (bs : List ℕ) (n : ℕ) → ((at : Where) → without_from at bs ≡ []) → (at : Where) → without_from at (take n bs) ≡ []
silent_head bs n silent at =
    nil_first (without_from at (take n bs)) (without_from (where_after at (take n bs)) (drop n bs))
    (sym (without_append at (take n bs) (drop n bs)) ∙ ap (without_from at) (take-append-drop n bs) ∙ silent at)

-- only a prefix of a sequence was written
pub plain_keeps : (a b : Option (List ℕ)) (bs : List ℕ) (n : ℕ) → ((at : Where) → without_from at bs ≡ []) → Appends a b (take n bs)
    → Keeps (plain a) (plain b)
plain_keeps None b bs n silent p = tt
plain_keeps (Some x) None bs n silent p = absurd p
plain_keeps (Some x) (Some y) bs n silent p =
    plain_gains (Some x) (Some y) (take n bs) [] (silent_head bs n silent) p ∙ append-nil (without_colors x)

-- a list and what it begins with
head_of : (xs ys zs : List ℕ) (n : ℕ) → xs ++ ys ≡ take n zs → (xs ≡ take (length xs) zs) × (length xs ≤ length zs)
head_of xs ys zs n e =
    let whole : zs ≡ xs ++ (ys ++ drop n zs) =
    sym (take-append-drop n zs) ∙ ap (λ l. l ++ drop n zs) (sym e) ∙ append_assoc xs ys (drop n zs) in (
      sym (ap (take (length xs)) whole ∙ take_at xs (ys ++ drop n zs) (length xs) refl),
      omega (arith, ap length whole, length-append xs (ys ++ drop n zs)),
    )

-- ---- putting together

-- The bytes are a first one and `j` later ones with colors, and one more may follow.
pub record Gathers (first count : ℕ) (later bytes : List ℕ) : Type 0 where
  pub more : List ℕ
  pub begins : bytes ≡ first ∷ more
  pub gives : without_colors bytes ≡ first ∷ take count later
  pub ends : where_after Outside bytes ≡ Outside

no_escape : (byte : ℕ) → byte ≢ 27 → nat_eq byte 27 ≡ false
no_escape byte n = false_from_ne_true (nat_eq byte 27) (λ t. n (eqb-true byte 27 t))

-- a byte of its own
alone : (byte : ℕ) → byte ≢ 27 → (without_colors (byte ∷ []) ≡ byte ∷ []) × (where_after Outside (byte ∷ []) ≡ Outside)
alone byte n = (rw (no_escape byte n) refl, rw (no_escape byte n) refl)

-- a byte after what sets a color, or nothing
pub gains_byte : (byte : ℕ) (old set new : List ℕ) → byte ≢ 27 → without_colors set ≡ [] → where_after Outside set ≡ Outside
    → new ≡ (old ++ set) ++ byte ∷ [] → GainsByte byte old new
gains_byte byte old set new n silent ends e = record {
  added = set ++ byte ∷ [];
  adds = e ∙ append_assoc old set (byte ∷ []);
  gives = without_append Outside set (byte ∷ []) ∙ rw (silent, ends) ((alone byte n).0);
  ends = where_append Outside set (byte ∷ []) ∙ rw ends ((alone byte n).1);
}

pub gathers_next : (first i byte : ℕ) (later old new : List ℕ) → Gathers first i later old → GainsByte byte old new → i < length later
    → byte ≡ get_or later i byte → Gathers first (i + 1) later new
gathers_next first i byte later old new g b less is =
    let next : take (i + 1) later ≡ take i later ++ byte ∷ [] = take_more later i byte less ∙ ap (λ x. take i later ++ x ∷ []) (sym is) in
    record {
      more = g.more ++ b.added;
      begins = b.adds ∙ ap (λ l. l ++ b.added) g.begins;
      gives = ap without_colors b.adds ∙ without_append Outside old b.added
          ∙ rw (g.gives, g.ends, b.gives) (ap (λ l. first ∷ l) (sym next));
      ends = ap (where_after Outside) b.adds ∙ where_append Outside old b.added ∙ rw (g.ends) b.ends;
    }

-- ---- writing

-- after the head nothing was written
pub stays_at_head : (r : Result ℕ Failed) (a b c : Option (List ℕ)) (head body : List ℕ) → Appends a b head → WriteAppends b c r body
    → OnErr r ((n : ℕ) × Appends a c (take n head))
stays_at_head (Ok n) a b c head body p q = tt
stays_at_head (Err e) a b c head body p q = (
  length head,
  subst (Appends a c) (sym (take_all (length head) head (le_refl (length head)))) (Appends-kept a b c head p q),
)

one_byte : (n : ℕ) → n ≤ 1 → 0 < n → n ≡ 1
one_byte n p q = omega arith

pub escape_written : (r : Result ℕ Failed) (a b : Option (List ℕ)) → IfOk r (λ n. n ≤ 1) → IfOk r (λ n. 0 < 1 → 0 < n)
    → IfOk r (λ n. Appends a b ((27 ∷ []) ++ take n (92 ∷ []))) → OnErr r ((n : ℕ) × Appends a b (take n (27 ∷ [])))
    → WriteAppends (plain a) (plain b) r (27 ∷ [])
escape_written (Ok n) a b bound some ok err =
    let one : n ≡ 1 = one_byte n bound (some (omega arith)) in
    let all : Appends a b (27 ∷ (92 ∷ [])) = subst (λ k. Appends a b ((27 ∷ []) ++ take k (92 ∷ []))) one ok in
    subst (λ k. Appends (plain a) (plain b) (take k (27 ∷ []))) (sym one)
    (plain_gains a b (27 ∷ (92 ∷ [])) (27 ∷ []) (λ at. refl) all)
escape_written (Err e) a b bound some ok err = plain_keeps a b (27 ∷ []) err.0 (λ at. refl) err.1

-- a prefix of the bytes stands for a prefix of the text
colored_head : (first j : ℕ) (later bytes : List ℕ) → IsColored first later bytes
    → (without_colors (take j bytes) ≡ take (length (without_colors (take j bytes))) (first ∷ later))
    × (length (without_colors (take j bytes)) ≤ length (first ∷ later))
colored_head first j later bytes c =
    head_of (without_colors (take j bytes)) (without_from (where_after Outside (take j bytes)) (drop j bytes)) (first ∷ later)
    (suc c.count)
    (sym (without_append Outside (take j bytes) (drop j bytes)) ∙ ap without_colors (take-append-drop j bytes) ∙ c.gives)

pub colored_bound : (first j : ℕ) (later bytes : List ℕ) → IsColored first later bytes
    → length (without_colors (take j bytes)) ≤ length later + 1
colored_bound first j later bytes c =
    let some : length (without_colors (take j bytes)) ≤ suc (length later) = (colored_head first j later bytes c).1 in
    omega arith

pub colored_written : (first j : ℕ) (later set bytes : List ℕ) (a b : Option (List ℕ)) → IsSequence set → IsColored first later bytes
    → Appends a b (set ++ take j bytes)
    → Appends (plain a) (plain b) (take (length (without_colors (take j bytes))) (first ∷ later))
colored_written first j later set bytes a b s c p =
    subst (Appends (plain a) (plain b)) ((colored_head first j later bytes c).0)
    (plain_gains a b (set ++ take j bytes) (without_colors (take j bytes))
    (λ at. without_append at set (take j bytes) ∙ rw ((s at).0, (s at).1) refl) p)

pub sequence_failed : (n : ℕ) (set : List ℕ) (a b : Option (List ℕ)) → IsSequence set → Appends a b (take n set)
    → Keeps (plain a) (plain b)
sequence_failed n set a b s p = plain_keeps a b set n (λ at. (s at).0) p
