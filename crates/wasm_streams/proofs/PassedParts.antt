-- A part that is forwarded or dropped chunk by chunk, after its first fields.
use Rattle.wasm_streams.proofs.Common.{◌≡◌, ℕ, ◌+◌, ◌<◌, Bool, true, false, List, [], ◌∷◌, ◌++◌, length, take, drop, Some, None, Err, refl}
use Rattle.wasm_streams.proofs.Common.{sym, ap, ◌∙◌, arith, length-append, ◌-◌, ◌≤◌, append_assoc, append-nil, Option, min, Consumes-kept}
use Rattle.wasm_streams.proofs.Common.{Consumes-nil, Consumes-trans, take-append-drop, Appends, Consumes, fault_at, at_offset, Error}
use Rattle.wasm_streams.proofs.Common.{UnexpectedEof, IsCut, PutsBytes, WritesHead, ListError, Input, seen, held_by, Cursor, Passing}
use Rattle.std.proofs.Common.{length-take}
use Rattle.std.proofs.KnownBytes.{Appends-trans}
use Rattle.wasm_streams.specs.Passing.{EndsAtError, FillsChunk, GivesUp, PassesMissing, PassesPart, PutsAll, Settles, SettlesNot, PartEnds}
use Rattle.wasm_streams.specs.Passing.{TakesSome, if_stays}

-- ---- bytes that are put

-- the page was written, and then the bytes
pub puts_after : (taken mid written : Option (List ℕ)) (waiting bytes new : List ℕ) → Appends taken mid waiting → new ≡ []
    → Appends mid written bytes → PutsBytes taken written waiting bytes new
puts_after taken mid written waiting bytes new a e b = record {
  moved = waiting ++ bytes;
  writes = Appends-trans taken mid written waiting bytes a b;
  waits = rw e (sym (append-nil (waiting ++ bytes)));
}

pub cuts_after : (taken mid written : Option (List ℕ)) (waiting bytes : List ℕ) (n : ℕ) → Appends taken mid waiting
    → Appends mid written (take n bytes) → WritesHead taken written (waiting ++ bytes)
cuts_after taken mid written waiting bytes n a b = record {
  moved = waiting ++ take n bytes;
  unwritten = drop n bytes;
  parts = ap (λ (x : List ℕ). waiting ++ x) (sym (take-append-drop n bytes)) ∙ sym (append_assoc waiting (take n bytes) (drop n bytes));
  wrote = Appends-trans taken mid written waiting (take n bytes) a b;
}

-- a prefix was written
pub head_of_cut : (taken written : Option (List ℕ)) (waiting : List ℕ) (e : ListError) → IsCut taken written waiting e
    → WritesHead taken written waiting
head_of_cut taken written waiting e w = grind arith

-- bytes were put, and more after them
pub puts_more : (taken mid written : Option (List ℕ)) (waiting bytes page more new : List ℕ) → PutsBytes taken mid waiting bytes page
    → PutsBytes mid written page more new → PutsBytes taken written waiting (bytes ++ more) new
puts_more taken mid written waiting bytes page more new p q = record {
  moved = p.moved ++ q.moved;
  writes = Appends-trans taken mid written p.moved q.moved p.writes q.writes;
  waits = sym (append_assoc waiting bytes more) ∙ (ap (λ (l : List ℕ). l ++ more) p.waits
      ∙ (append_assoc p.moved page more ∙ (ap (λ (l : List ℕ). p.moved ++ l) q.waits ∙ sym (append_assoc p.moved q.moved new))));
}

-- and all of them were written
pub puts_out : (taken mid written : Option (List ℕ)) (waiting bytes page : List ℕ) → PutsBytes taken mid waiting bytes page
    → Appends mid written page → PutsBytes taken written waiting bytes []
puts_out taken mid written waiting bytes page p a = record {
  moved = p.moved ++ page;
  writes = Appends-trans taken mid written p.moved page p.writes a;
  waits = p.waits ∙ sym (append-nil (p.moved ++ page));
}

-- what waits is unwritten
pub head_of_puts : (taken written : Option (List ℕ)) (waiting bytes page : List ℕ) → PutsBytes taken written waiting bytes page
    → WritesHead taken written (waiting ++ bytes)
head_of_puts taken written waiting bytes page p = record { moved = p.moved; unwritten = page; parts = p.waits; wrote = p.writes }

-- bytes were put, and then a prefix of those that waited, and of more, was written
pub head_past : (taken mid written : Option (List ℕ)) (waiting bytes page more : List ℕ) → PutsBytes taken mid waiting bytes page
    → WritesHead mid written (page ++ more) → WritesHead taken written ((waiting ++ bytes) ++ more)
head_past taken mid written waiting bytes page more p w = grind (arith, ap, append_assoc)

pub head_after : (taken mid written : Option (List ℕ)) (waiting bytes page : List ℕ) → PutsBytes taken mid waiting bytes page
    → WritesHead mid written page → WritesHead taken written (waiting ++ bytes)
head_after taken mid written waiting bytes page p w =
    rw (append-nil (waiting ++ bytes)) at (head_past taken mid written waiting bytes page [] p (rw (append-nil page) w))

-- what was written before an error is a prefix of what waited and of the bytes that were passed and stay
pub head_before : (taken written : Option (List ℕ)) (stays : Bool) (missing : ℕ) (waiting passed left new : List ℕ) (e : ListError)
    → EndsAtError taken written stays missing waiting passed left new e → WritesHead taken written (waiting ++ if_stays stays passed)
head_before taken written stays missing waiting passed left new e w = grind (arith, head_of_puts)

-- ---- bytes that are taken from a chunk

puts_none : (taken : Option (List ℕ)) (waiting : List ℕ) (stays : Bool) → PutsBytes taken taken waiting (if_stays stays []) waiting
puts_none taken waiting stays = grind (arith, append-nil)

-- the source failed where nothing had been taken
pub not_filled : (source rest taken : Option (List ℕ)) (stays : Bool) (most : ℕ) (chunk waiting left : List ℕ)
    → FillsChunk source rest chunk left (Err Input) → 0 < most
    → GivesUp source rest taken taken stays most chunk waiting Input left waiting
not_filled source rest taken stays most chunk waiting left (k, none, nothing) some = record {
  given = [];
  passed = [];
  gave = Consumes-kept source source rest [] (Consumes-nil source) k;
  parts = rw (none, nothing) refl;
  ends = (puts_none taken waiting stays, some, nothing);
}

could_not : (taken written : Option (List ℕ)) (missing : ℕ) (waiting bytes left new : List ℕ) (e : ListError)
    → PutsAll taken written waiting bytes new (Err e) → length bytes ≤ missing
    → EndsAtError taken written true missing waiting bytes left new e
could_not taken written missing waiting bytes left new e w few = grind arith

-- bytes that stay could not be put
pub not_put : (source rest taken written : Option (List ℕ)) (stays : Bool) (missing : ℕ)
    (chunk waiting fetched bytes left new : List ℕ) (e : ListError) → Consumes source rest fetched
    → PutsAll taken written waiting (if_stays stays bytes) new (Err e) → stays ≡ true → chunk ++ fetched ≡ bytes ++ left
    → length bytes ≤ missing → GivesUp source rest taken written stays missing chunk waiting e left new
not_put source rest taken written stays missing chunk waiting fetched bytes left new e g w s parts few = grind (arith, could_not)

nil_both : (xs ys : List ℕ) → [] ≡ xs ++ ys → (xs ≡ []) × (ys ≡ [])
nil_both [] ys e = (refl, sym e)
nil_both (x ∷ xs) ys e = cc

-- nothing is written for bytes that are dropped
pub none_put : (taken written : Option (List ℕ)) (stays : Bool) (waiting part page : List ℕ)
    (p : PutsBytes taken written waiting (if_stays stays part) page) → stays ≡ false → waiting ≡ [] → (p.moved ≡ []) × (page ≡ [])
none_put taken written stays waiting part page p s z = nil_both p.moved page (rw (s, z) at p.waits)

-- a part that is dropped is given up only if the source failed
pub dropped_before : (taken written : Option (List ℕ)) (stays : Bool) (missing : ℕ) (waiting passed left new chunk given : List ℕ)
    (e : ListError) → EndsAtError taken written stays missing waiting passed left new e → chunk ++ given ≡ passed ++ left
    → stays ≡ false → (e ≡ Input) × (waiting ≡ [] → Appends taken written []) × (length chunk + length given < missing)
dropped_before taken written stays missing waiting passed left new chunk given Input (w, few, none) parts s = (
  refl,
  λ z. rw (none_put taken written stays waiting passed new w s z).0 at w.writes,
  let l = ap (λ (x : List ℕ). length x) parts in
      let a = length-append chunk given in
      let b = length-append passed left in
      let n = ap (λ (x : List ℕ). length x) none in
      omega (arith, l, a, b, n, few),
)
dropped_before taken written stays missing waiting passed left new chunk given _ w parts s = grind arith

-- the first bytes of a chunk, and the others
pub cut_from : (chunk fetched filled seen left : List ℕ) (count : ℕ) → filled ≡ chunk ++ fetched → seen ≡ filled
    → left ≡ drop count filled → chunk ++ fetched ≡ take count seen ++ left
cut_from chunk fetched filled seen left count f s l = rw (s, l, ← f) (sym (take-append-drop count filled))

pub few_of : (seen : List ℕ) (count most n : ℕ) → count ≡ min most n → length (take count seen) ≤ most
few_of seen count most n e = grind (arith, length-take, e)

-- ---- the bytes of a part, chunk by chunk

-- how far they are passed
pub record Passed (source rest taken written : Option (List ℕ)) (stays : Bool) (missing : ℕ) (chunk waiting : List ℕ) (left : ℕ)
    (ahead page : List ℕ) : Type 0 where
  pub fetched : List ℕ
  pub part : List ℕ
  pub gave : Consumes source rest fetched
  pub parts : chunk ++ fetched ≡ part ++ ahead
  pub size : length part + left ≡ missing
  pub puts : PutsBytes taken written waiting (if_stays stays part) page

pub none_passed : (source taken : Option (List ℕ)) (stays : Bool) (missing : ℕ) (chunk waiting : List ℕ)
    → Passed source source taken taken stays missing chunk waiting missing chunk waiting
none_passed source taken stays missing chunk waiting = record {
  fetched = [];
  part = [];
  gave = Consumes-nil source;
  parts = append-nil chunk;
  size = omega arith;
  puts = puts_none taken waiting stays;
}

-- bytes that are put if they stay, in two parts
puts_stay : (taken mid written : Option (List ℕ)) (stays : Bool) (waiting xs page ys new : List ℕ)
    → PutsBytes taken mid waiting (if_stays stays xs) page → PutsBytes mid written page (if_stays stays ys) new
    → PutsBytes taken written waiting (if_stays stays (xs ++ ys)) new
puts_stay taken mid written true waiting xs page ys new p q = puts_more taken mid written waiting xs page ys new p q
puts_stay taken mid written false waiting xs page ys new p q = puts_more taken mid written waiting [] page [] new p q

-- bytes of a chunk in two parts, each with what was fetched for it
joined : (chunk fetched part ahead more later left : List ℕ) → chunk ++ fetched ≡ part ++ ahead → ahead ++ more ≡ later ++ left
    → chunk ++ (fetched ++ more) ≡ (part ++ later) ++ left
joined chunk fetched part ahead more later left one two = grind (arith, append_assoc)

module _ {source rest taken written rest' written' : Option (List ℕ)} {stays : Bool} {missing left count : ℕ}
    {chunk waiting ahead page ahead' page' : List ℕ}
    (p : Passed source rest taken written stays missing chunk waiting left ahead page)
    (t : TakesSome rest rest' written written' stays left ahead page count ahead' page') where
  parts_join : chunk ++ (p.fetched ++ t.fetched) ≡ (p.part ++ t.part) ++ ahead'
  parts_join = joined chunk p.fetched p.part ahead t.fetched t.part ahead' p.parts t.parts

  puts_join : PutsBytes taken written' waiting (if_stays stays (p.part ++ t.part)) page'
  puts_join = puts_stay taken written written' stays waiting p.part page t.part page' p.puts t.puts

  pub passed_more : Passed source rest' taken written' stays missing chunk waiting (left - count) ahead' page'
  passed_more = record {
    fetched = p.fetched ++ t.fetched;
    part = p.part ++ t.part;
    gave = Consumes-trans source rest rest' p.fetched t.fetched p.gave t.gave;
    parts = parts_join;
    size = let n = length-append p.part t.part in let s = p.size in let k = t.size in let w = t.within in omega (arith, n, s, k, w);
    puts = puts_join;
  }

  pub passed_end : 0 < left → count ≡ 0
      → PassesMissing source rest' taken written' stays missing chunk waiting false ahead' page'
  passed_end some z = record {
    fetched = p.fetched ++ t.fetched;
    part = p.part ++ t.part;
    gave = Consumes-trans source rest rest' p.fetched t.fetched p.gave t.gave;
    parts = parts_join;
    puts = puts_join;
    all = λ e. absurd (let no : true ≡ false = sym e in cc);
    some = λ e.
        let n = length-append p.part t.part in
        let s = p.size in
        let k = t.size in
        (omega (arith, n, s, k, z, some), (t.at_end z).0, (t.at_end z).1);
  }

-- after these bytes were put, more were, up to an error
module _ (taken mid written : Option (List ℕ)) (stays : Bool) (missing left : ℕ) (waiting page xs ys rest new : List ℕ)
    (p : PutsBytes taken mid waiting (if_stays stays xs) page) (size : length xs + left ≡ missing) where
  longer : length (xs ++ ys) ≡ length xs + length ys
  longer = length-append xs ys

  heads_both : stays ≡ true → WritesHead mid written (page ++ ys) → WritesHead taken written (waiting ++ (xs ++ ys))
  heads_both s w = rw (append_assoc waiting xs ys) at (head_past taken mid written waiting xs page ys (rw s at p) w)

  ends_later : (e : ListError) → EndsAtError mid written stays left page ys rest new e
      → EndsAtError taken written stays missing waiting (xs ++ ys) rest new e
  ends_later Input (w, few, none) = grind (arith, puts_stay, longer)
  ends_later _ w = (heads_both w.3 w.0, w.1, (let few = w.2 in omega (arith, longer, size, few)), w.3)

module _ {source rest taken written rest' written' : Option (List ℕ)} {stays : Bool} {missing left : ℕ}
    {chunk waiting ahead page ahead' page' : List ℕ} {e : ListError} where
  pub passed_up : Passed source rest taken written stays missing chunk waiting left ahead page
      → GivesUp rest rest' written written' stays left ahead page e ahead' page'
      → GivesUp source rest' taken written' stays missing chunk waiting e ahead' page'
  passed_up p w = record {
    given = p.fetched ++ w.given;
    passed = p.part ++ w.passed;
    gave = Consumes-trans source rest rest' p.fetched w.given p.gave w.gave;
    parts = joined chunk p.fetched p.part ahead w.given w.passed ahead' p.parts w.parts;
    ends = ends_later taken written written' stays missing left waiting page p.part w.passed ahead' page' p.puts p.size e w.ends;
  }

-- ---- a part, whose first bytes are held

module _ {source rest taken mid written : Option (List ℕ)} (passing : Passing) {c : Cursor}
    {stored chunk ahead left waiting page new : List ℕ}
    {count : ℕ} (s : Settles taken mid passing.stays c stored chunk waiting count ahead page)
    {whole : Bool} (m : PassesMissing source rest mid written passing.stays (passing.size - count) ahead page whole left new)
    (fewer : length (drop c.mark (seen stored chunk)) < passing.size) where
  passed_so : (fault : Option Error) → PartEnds passing (length (s.front ++ m.part)) fault rest left
      → PassesPart source rest taken written passing c stored chunk waiting fault left new
  passed_so fault ends = record {
    fetched = m.fetched;
    part = s.front ++ m.part;
    gave = m.gave;
    parts = joined (held_by c stored chunk) [] s.front ahead m.fetched m.part left (append-nil (held_by c stored chunk) ∙ s.parts) m.parts;
    puts = puts_stay taken mid written passing.stays waiting s.front page m.part new s.puts m.puts;
    ends = ends;
  }

  longer_part : length (s.front ++ m.part) ≡ count + length m.part
  longer_part = let n = length-append s.front m.part in let f = s.size in omega (arith, n, f)

  pub part_passed : whole ≡ true → PassesPart source rest taken written passing c stored chunk waiting None left new
  part_passed w = passed_so None (let k = m.all w in let i = s.within in omega (arith, longer_part, k, i, fewer))

  pub part_cut : (e : Error) → whole ≡ false → fault_at e ≡ at_offset UnexpectedEof passing.from
      → PassesPart source rest taken written passing c stored chunk waiting (Some e) left new
  part_cut e w f = grind (arith, passed_so, longer_part)

module _ {source rest taken mid written : Option (List ℕ)} {stays : Bool} {c : Cursor}
    {stored chunk waiting ahead page left new : List ℕ} {count size : ℕ} {e : ListError}
    (s : Settles taken mid stays c stored chunk waiting count ahead page)
    (few : length (drop c.mark (seen stored chunk)) < size) where
  pub settled_up : GivesUp source rest mid written stays (size - count) ahead page e left new
      → GivesUp source rest taken written stays size (held_by c stored chunk) waiting e left new
  settled_up w = record {
    given = w.given;
    passed = s.front ++ w.passed;
    gave = w.gave;
    parts = joined (held_by c stored chunk) [] s.front ahead w.given w.passed left
        (append-nil (held_by c stored chunk) ∙ s.parts) w.parts;
    ends = ends_later taken mid written stays size (size - count) waiting page s.front w.passed left new s.puts
        (let z = s.size in let i = s.within in omega (arith, z, i, few)) e w.ends;
  }

module _ {source taken written : Option (List ℕ)} {stays : Bool} {size : ℕ} {c : Cursor}
    {stored chunk waiting left new : List ℕ} {e : ListError} where
  pub unsettled_up : SettlesNot taken written c stored chunk waiting e left new → stays ≡ true
      → length (drop c.mark (seen stored chunk)) < size
      → GivesUp source source taken written stays size (held_by c stored chunk) waiting e left new
  unsettled_up s stay few =
      not_put source source taken written stays size (held_by c stored chunk) waiting [] s.front left new e (Consumes-nil source)
      (rw stay s.puts) stay (append-nil (held_by c stored chunk) ∙ s.parts) (let i = s.within in omega (arith, i, few))
