-- What a writer has written, after each call that writes.
use Rattle.wasm_output.proofs.Common.{◌≡◌, ℕ, Bool, true, false, refl, arith, List, [], ◌∷◌, ◌++◌, codes, sym, ap, ◌∙◌, subst, ◌≢◌, Option}
use Rattle.wasm_output.proofs.Common.{Some, None, append_assoc, append-nil, subst₂, Appends-nil, Appends-trans, flat_map-append, list_all}
use Rattle.wasm_output.proofs.Common.{flat_map, is_some, unwrap_or, if◌then◌else◌, IsCut, ListError, Base, start, after_all, IsAt, Leads}
use Rattle.wasm_output.proofs.Common.{object_end, Number, PutsText, Writing, PutsAs, Puts, has_line_feed, name_text, Adds, Put, Spot, Style}
use Rattle.wasm_output.proofs.Common.{Objects}
use Rattle.std.proofs.Common.{Err}
use Rattle.std.proofs.lemmas.List.{append_cancel_right}
use Rattle.std.proofs.lemmas.List.Folds.{list_all-append}
use Rattle.std.specs.Io.KnownBytes.{Appends}
use Rattle.wasm_io.specs.Calls.{output_failed}
use Rattle.wasm_io.specs.Page.{WritesHead}
use Rattle.wasm_io.specs.declared.devices.ListError.TheVariants.{Input, Memory}
use Rattle.wasm_output.specs.Json.{AreObjects}
use Rattle.wasm_output.specs.Numbers.{blank_numbers, number_text}
use Rattle.wasm_output.specs.Said.{StopsIn}
use Rattle.wasm_output.specs.Tree.{Part, words, number, Line, first, under, row, is_part, is_line, part_text, text_of, begun, begun_numbers}
use Rattle.wasm_output.specs.Tree.{bytes_of, first_of, row_text, with_bytes, part_numbers, numbers_of, IsFirst, IsOutlined, Origin}
use Rattle.wasm_output.specs.Tree.{with_numbers, IsGoing, IsGoingInObjects, IsGoingIn, IsCutShort, IsWrittenAs, IsWritten, IsShaped}
use Rattle.wasm_output.specs.Tree.{with_line, IsPushed, IsStuck, AddsFirst, Rest, stopped_without_memory, with_rest}
use Rattle.wasm_output.specs.declared.tree.Style.TheVariants.{Lines}
use Rattle.wasm_output.proofs.Json.{after_all-append, completes}

-- ---- lines after lines

more_lines : {A : Type 0} (f : Line → List A) (lines : List Line) (l : Line) (all : List A) → all ≡ flat_map f lines
    → all ++ f l ≡ flat_map f (lines ++ l ∷ [])
more_lines f lines l all e = grind (arith, append-nil, flat_map-append)

-- numbers before the rest of a line
number_before : (n : Number) (rest : List ℕ) → number_text n rest ≡ number_text n [] ++ rest
number_before n rest = simp append_assoc

pub blank_before : (numbers : List Number) (rest : List ℕ) → blank_numbers numbers rest ≡ blank_numbers numbers [] ++ rest
blank_before [] rest = refl
blank_before (n ∷ later) rest = grind (arith, number_before, append_assoc, blank_before later rest)

module _ (base : Base) where
  outlined_more : {text outline : List ℕ} {numbers : List Number} {bytes : List ℕ} (l : Line) → is_line l ≡ true
      → IsOutlined base text outline numbers bytes
      → IsOutlined base (text ++ text_of base l) (outline ++ first_of l) (numbers ++ numbers_of l) (bytes ++ bytes_of l)
  outlined_more {text} {outline} {numbers} {bytes} l one i = record {
    lines = i.lines ++ l ∷ [];
    whole = list_all-append is_line i.lines (l ∷ []) ∙ rw (i.whole, one) refl;
    parts = more_lines (text_of base) i.lines l text i.parts;
    outlines = more_lines first_of i.lines l outline i.outlines;
    numbered = more_lines numbers_of i.lines l numbers i.numbered;
    rowed = more_lines bytes_of i.lines l bytes i.rowed;
  }

  -- a line under another
  under_more : {text outline : List ℕ} {numbers : List Number} {bytes : List ℕ} (line : List Part) → list_all is_part line ≡ true
      → IsOutlined base text outline numbers bytes
      → IsOutlined base (text ++ (codes "  " ++ (flat_map part_text line ++ codes "\n"))) outline
      (numbers ++ flat_map part_numbers line) bytes
  under_more {text} {outline} {numbers} {bytes} line one i =
      rw (append-nil outline, append-nil bytes) at (outlined_more (under line) one i)

  -- a row of bytes
  row_more : {text outline : List ℕ} {numbers : List Number} {bytes : List ℕ} (offset : ℕ) (more : List ℕ)
      → IsOutlined base text outline numbers bytes → IsOutlined base (text ++ row_text base offset more) outline numbers (bytes ++ more)
  row_more {text} {outline} {numbers} {bytes} offset more i =
      rw (append-nil outline, append-nil numbers) at (outlined_more (row offset more) refl i)

  -- a line that adds this to the outline, and has these numbers
  abbrev pub Outlines : (line outline : List ℕ) → List Number → Type 0
  Outlines line more after = (text outline : List ℕ) (numbers : List Number) (bytes : List ℕ) → IsOutlined base text outline numbers bytes
      → IsOutlined base (text ++ line) (outline ++ more) (numbers ++ after) bytes

  -- one of the first level
  pub first_more : (line more : List ℕ) (after : List Number) → IsFirst line more after → Outlines line more after
  first_more line more after e text outline numbers bytes i =
      rw (append-nil bytes, ← e.parts, ← e.outlines) at (outlined_more (first e.front after None) refl i)

  -- one that has a name after its text, if there is one
  pub named_more : (text more : List ℕ) (after : List Number) (name : Option (List ℕ)) → IsFirst (text ++ codes "\n") more after
      → Outlines (text ++ (name_text name ++ codes "\n")) more after
  named_more line more after name e text outline numbers bytes i =
      let numbered = blank_numbers after [] in
      let rest = name_text name ++ codes "\n" in
      let front : line ≡ e.front ++ numbered = append_cancel_right line (e.front ++ numbered) (codes "\n")
      (grind (arith, e.parts, blank_before after (codes "\n"), append_assoc)) in
      let parts : line ++ rest ≡ e.front ++ blank_numbers after rest = grind (arith, front, append_assoc, blank_before after rest) in
      rw (append-nil bytes, ← parts, ← e.outlines) at (outlined_more (first e.front after name) refl i)

-- ---- bytes put after those that wait

-- all that was written or waits
grown : (written waiting bytes moved waiting' : List ℕ) → waiting ++ bytes ≡ moved ++ waiting' → (written ++ moved) ++ waiting'
    ≡ (written ++ waiting) ++ bytes
grown written waiting bytes moved waiting' e = grind (arith, append_assoc)

-- what was written of a page that was abandoned
beginning : (taken written : Option (List ℕ)) (waiting : List ℕ) (why : ListError) → IsCut taken written waiting why
    → WritesHead taken written waiting
beginning taken written waiting why w = grind arith

pub no_input : (taken written : Option (List ℕ)) (waiting : List ℕ) (why : ListError) → IsCut taken written waiting why → why ≢ Input
no_input taken written waiting why w = grind arith

-- a part more of a line
more_parts : {A : Type 0} (f : Part → List A) (line : List Part) (p : Part) → flat_map f (line ++ p ∷ []) ≡ flat_map f line ++ f p
more_parts f line p = flat_map-append f line (p ∷ []) ∙ ap (λ x. flat_map f line ++ x) (append-nil (f p))

-- ---- in which style

-- objects have no outline
shaped_objects : (style : Style) (text outline outline' : List ℕ) (numbers numbers' : List Number) (bytes bytes' : List ℕ)
    → style ≡ Objects → IsShaped style text outline numbers bytes → IsShaped style text outline' numbers' bytes'
shaped_objects style text outline outline' numbers numbers' bytes bytes' e i = grind arith

-- ---- what was written before

-- a writer that goes on
pub as_going : (o : Origin) (w : Writing) → w.why ≡ None → IsWritten o w → IsGoingIn o.style o w
as_going o w e i = subst (λ (y : Option ListError). IsWrittenAs y o w) e i.1

pub in_lines : {base : Base} (o : Origin) (w : Writing) → o.style ≡ Lines base → IsGoingIn o.style o w → IsGoing base o w
in_lines o w e i = subst (λ (s : Style). IsGoingIn s o w) e i

pub in_objects : (o : Origin) (w : Writing) → o.style ≡ Objects → IsGoingIn o.style o w → IsGoingInObjects o w
in_objects o w e i = subst (λ (s : Style). IsGoingIn s o w) e i

from_lines : {base : Base} (o to : Origin) (w : Writing) → to.style ≡ o.style → o.style ≡ Lines base → IsGoing base to w
    → IsGoingIn to.style to w
from_lines o to w s e i = subst (λ (x : Style). IsGoingIn x to w) (sym (s ∙ e)) i

from_objects : (o : Origin) (w : Writing) → o.style ≡ Objects → IsGoingInObjects o w → IsGoingIn o.style o w
from_objects o w e i = subst (λ (x : Style). IsGoingIn x o w) (sym e) i

-- one that has stopped
pub as_short : (o : Origin) (w : Writing) (why : ListError) → w.why ≡ Some why → IsWritten o w → IsCutShort o why w
as_short o w why e i = subst (λ (y : Option ListError). IsWrittenAs y o w) e i.1

-- a line that is begun or ended, or another spot, changes nothing of what was cut short
short_still : (o : Origin) (w : Writing) (why : ListError) (b : Bool) (spot : Spot) (unshown : List ℕ) → IsCutShort o why w
    → IsCutShort o why (record w { is_begun = b; spot = spot; unshown = unshown })
short_still o w why b spot unshown c = grind (arith, no_input)

-- nor does it matter what is unwritten, if the whole is such a text
short_more : {base : Base} (o to : Origin) (w : Writing) (why : ListError) (c : IsCutShort o why w) (more : List ℕ)
    → to.taken ≡ o.taken → to.has_failed ≡ o.has_failed → to.style ≡ Lines base
    → IsOutlined base ((c.written ++ c.unwritten) ++ more) to.outline to.numbers to.bytes → IsCutShort to why w
short_more o to w why c more taken failed lines outlined = record {
  written = c.written;
  unwritten = c.unwritten ++ more;
  shaped = rw lines (rw (append_assoc c.written c.unwritten more) at outlined);
  took = rw taken c.took;
  failed = rw failed c.failed;
  no_input = c.no_input;
}

module _ (base : Base) (o : Origin) (w : Writing) (why : ListError) (lines : o.style ≡ Lines base) (c : IsCutShort o why w) where
  before : IsOutlined base (c.written ++ c.unwritten) o.outline o.numbers o.bytes
  before = rw lines at c.shaped

  -- a line of the first level, of which nothing could be written
  first_short : (line outline : List ℕ) (numbers : List Number) → Outlines base line outline numbers
      → IsCutShort (with_numbers (with_line o outline) numbers) why w
  first_short line outline numbers e = short_more o (with_numbers (with_line o outline) numbers) w why c line refl refl lines
      (e (c.written ++ c.unwritten) o.outline o.numbers o.bytes before)

  -- bytes that are to be shown
  bytes_short : (bytes : List ℕ) → IsCutShort (with_bytes o bytes) why w
  bytes_short bytes = short_more o _ w why c _ refl refl lines (row_more base 0 bytes before)

  -- a part of a line under another
  part_short : (p : Part) → is_part p ≡ true → IsCutShort (with_numbers o (part_numbers p)) why w
  part_short p one = short_more o (with_numbers o (part_numbers p)) w why c (text_of base (under (p ∷ []))) refl refl lines
      (rw (append-nil (part_numbers p)) at (under_more base (p ∷ []) (rw one refl) before))

module _ (base : Base) (o : Origin) (old new : Writing) (i : IsGoing base o old) where
  -- to whole lines with this outline, and a line that is begun, which has these parts
  goes : (outline : List ℕ) (numbers : List Number) (bytes put text : List ℕ) (lined : List Number) (rows : List ℕ) (b : Bool)
      (line : List Part) (unshown : List ℕ) → IsPushed put old new → IsOutlined base text outline lined rows → list_all is_part line ≡ true
      → (i.written ++ old.waiting) ++ put ≡ text ++ begun b line → numbers ≡ lined ++ begun_numbers b line → bytes ≡ rows ++ unshown
      → IsGoing base (record o { outline = outline; numbers = numbers; bytes = bytes }) (record new { is_begun = b; unshown = unshown })
  goes outline numbers bytes put text lined rows b line unshown p outlined one parts numbered rowed = record {
    written = i.written ++ p.puts.moved;
    text = text;
    lined = lined;
    rows = rows;
    line = line;
    outlined = outlined;
    one_line = one;
    parts = grown i.written old.waiting put p.puts.moved new.waiting p.puts.waits ∙ parts;
    numbered = numbered;
    rowed = rowed;
    took = Appends-trans o.taken old.taken new.taken i.written p.puts.moved i.took p.puts.writes;
    failed = p.failed ∙ i.failed;
  }

  -- the same bytes are to be shown
  same_unshown : new.unshown ≡ old.unshown → o.bytes ≡ i.rows ++ new.unshown
  same_unshown e = i.rowed ∙ ap (λ (x : List ℕ). i.rows ++ x) (sym e)

  -- where a line is begun, its parts and what comes after them, and their numbers
  in_begun : (b : Bool) (put : List ℕ) → old.is_begun ≡ b → (i.written ++ old.waiting) ++ put ≡ (i.text ++ begun b i.line) ++ put
  in_begun b put e = rw (← e) (ap (λ (x : List ℕ). x ++ put) i.parts)

  -- to a line that is begun
  part_grows : (p : Part) → old.is_begun ≡ true → is_part p ≡ true → IsPushed (part_text p) old new
      → IsGoing base (with_numbers o (part_numbers p)) new
  part_grows p b one h = goes o.outline (o.numbers ++ part_numbers p) o.bytes (part_text p) i.text i.lined i.rows new.is_begun
      (i.line ++ p ∷ []) new.unshown h i.outlined (list_all-append is_part i.line (p ∷ []) ∙ rw (i.one_line, one) refl)
      (rw (h.begun, b) (in_begun true (part_text p) b
      ∙ (append_assoc i.text (codes "  " ++ flat_map part_text i.line) (part_text p)
      ∙ ap (λ (x : List ℕ). i.text ++ (codes "  " ++ x)) (sym (more_parts part_text i.line p)))))
      (rw (h.begun, b) (ap (λ (x : List Number). x ++ part_numbers p) (i.numbered ∙ rw b refl)
      ∙ (append_assoc i.lined (flat_map part_numbers i.line) (part_numbers p)
      ∙ ap (λ (x : List Number). i.lined ++ x) (sym (more_parts part_numbers i.line p)))))
      (same_unshown h.unshown)

  -- a line is begun
  part_begins : old.is_begun ≡ false → IsPushed (codes "  ") old new → IsGoing base o (record new { is_begun = true })
  part_begins b p = goes o.outline o.numbers o.bytes (codes "  ") i.text i.lined i.rows true [] new.unshown p i.outlined refl
      (in_begun false (codes "  ") b ∙ ap (λ (x : List ℕ). x ++ codes "  ") (append-nil i.text)) (i.numbered ∙ rw b refl)
      (same_unshown p.unshown)

  -- it is ended
  part_ends : old.is_begun ≡ true → IsPushed (codes "\n") old new → IsGoing base o (record new { is_begun = false })
  part_ends b p =
      let text = i.text ++ text_of base (under i.line) in
      let lined = i.lined ++ flat_map part_numbers i.line in
      goes o.outline o.numbers o.bytes _ text lined i.rows false [] new.unshown p (under_more base i.line i.one_line i.outlined) refl
      (in_begun true _ b ∙ (append_assoc i.text (codes "  " ++ flat_map part_text i.line) (codes "\n") ∙ sym (append-nil text)))
      (i.numbered ∙ (rw b refl ∙ sym (append-nil lined))) (same_unshown p.unshown)

  -- where none is begun, whole lines come after those that there were
  whole_grows : (line outline : List ℕ) (numbers : List Number) (bytes rows unshown : List ℕ) → old.is_begun ≡ false
      → IsOutlined base (i.text ++ line) outline (i.lined ++ numbers) rows → bytes ≡ rows ++ unshown → IsPushed line old new
      → IsGoing base (record o { outline = outline; numbers = o.numbers ++ numbers; bytes = bytes }) (record new { unshown = unshown })
  whole_grows line outline numbers bytes rows unshown b outlined rowed p = goes outline (o.numbers ++ numbers) bytes line (i.text ++ line)
      (i.lined ++ numbers) rows new.is_begun [] unshown p outlined refl
      (rw (p.begun, b) (in_begun false line b ∙ (ap (λ (x : List ℕ). x ++ line) (append-nil i.text) ∙ sym (append-nil (i.text ++ line)))))
      (rw (p.begun, b) (ap (λ (x : List Number). x ++ numbers) (i.numbered ∙ rw b (append-nil i.lined))
      ∙ sym (append-nil (i.lined ++ numbers)))) rowed

  -- a line of the first level
  first_grows : (line outline : List ℕ) (numbers : List Number) → Outlines base line outline numbers → old.is_begun ≡ false
      → IsPushed line old new → IsGoing base (with_numbers (with_line o outline) numbers) new
  first_grows line outline numbers e b p = whole_grows line (o.outline ++ outline) numbers o.bytes i.rows new.unshown b
      (e i.text o.outline i.lined i.rows i.outlined) (same_unshown p.unshown) p

  -- all that waited is written
  all_moves : IsPushed [] old new → IsGoing base o new
  all_moves p = goes o.outline o.numbers o.bytes [] i.text i.lined i.rows new.is_begun i.line new.unshown p i.outlined i.one_line
      (append-nil (i.written ++ old.waiting) ∙ rw p.begun i.parts) (rw p.begun i.numbered) (same_unshown p.unshown)

  -- a row of bytes
  row_grows : (offset : ℕ) (bytes left : List ℕ) → old.is_begun ≡ false → IsPushed (row_text base offset bytes) old new
      → old.unshown ≡ bytes ++ left → IsGoing base o (record new { unshown = left })
  row_grows offset bytes left b p e =
      subst (λ (x : List Number). IsGoing base (record o { numbers = x }) (record new { unshown = left })) (append-nil o.numbers)
      (whole_grows _ _ _ _ _ _ b (rw (append-nil i.lined) (row_more _ _ _ i.outlined))
      (i.rowed ∙ (ap (λ (x : List ℕ). i.rows ++ x) e ∙ sym (append_assoc i.rows bytes left))) p)

  -- the text that was cut, with what completes the line that was begun, and the bytes that weren't shown
  abbrev after_cut : Bool → List ℕ
  after_cut b = (if b then codes "\n" else []) ++ row_text base 0 old.unshown

  rest_of_line : (b : Bool) → old.is_begun ≡ b
      → IsOutlined base ((i.written ++ old.waiting) ++ (if b then codes "\n" else [])) o.outline o.numbers i.rows
  rest_of_line true b = subst₂ (λ (x : List ℕ) (y : List Number). IsOutlined base x o.outline y i.rows)
      (sym (ap (λ (x : List ℕ). x ++ codes "\n") (i.parts ∙ rw b refl)
      ∙ append_assoc i.text (codes "  " ++ flat_map part_text i.line) (codes "\n")))
      (sym (i.numbered ∙ rw b refl)) (under_more base i.line i.one_line i.outlined)
  rest_of_line false b = grind (arith, append-nil)

  completed : (b : Bool) → old.is_begun ≡ b → IsOutlined base ((i.written ++ old.waiting) ++ after_cut b) o.outline o.numbers o.bytes
  completed b e = subst₂ (λ (x bytes : List ℕ). IsOutlined base x o.outline o.numbers bytes)
      (append_assoc (i.written ++ old.waiting) (if b then codes "\n" else []) (row_text base 0 old.unshown)) (sym i.rowed)
      (row_more base 0 old.unshown (rest_of_line b e))

-- of all that was written or waited, a prefix is written
cut_at : (written waiting moved unwritten more : List ℕ) → waiting ≡ moved ++ unwritten → (written ++ moved) ++ (unwritten ++ more)
    ≡ (written ++ waiting) ++ more
cut_at written waiting moved unwritten more e = grind (arith, append_assoc)

-- so the rest of that and what completes it are missing
cut_short : (o : Origin) (old new : Writing) (why : ListError) (written waiting more : List ℕ) → IsCut old.taken new.taken waiting why
    → Appends o.taken old.taken written → new.has_failed ≡ output_failed {A = Unit {0}} (Err why) old.has_failed
    → old.has_failed ≡ o.has_failed → IsShaped o.style ((written ++ waiting) ++ more) o.outline o.numbers o.bytes → IsCutShort o why new
cut_short o old new why written waiting more cut took failed same shaped =
    let w = beginning old.taken new.taken waiting why cut in
    record {
      written = written ++ w.moved;
      unwritten = w.unwritten ++ more;
      shaped = rw (cut_at written waiting w.moved w.unwritten more w.parts) shaped;
      took = Appends-trans o.taken old.taken new.taken written w.moved took w.wrote;
      failed = rw same at failed;
      no_input = no_input old.taken new.taken waiting why cut;
    }

module _ (o : Origin) (old new : Writing) (why : ListError) (s : IsStuck why old new) where
  stuck_in : (style : Style) → o.style ≡ style → IsGoingIn style o old → IsCutShort o why new
  stuck_in (Lines base) e i = cut_short o old new why i.written old.waiting (after_cut base o old new i old.is_begun) s.cut i.took s.failed
      i.failed (rw e (completed base o old new i old.is_begun refl))
  stuck_in Objects e i =
      let objects : AreObjects ((i.written ++ old.waiting) ++ object_end old.spot) =
      rw after_all-append (completes old.spot (after_all start (i.written ++ old.waiting)) i.is_at) in
      cut_short o old new why i.written old.waiting (object_end old.spot) s.cut i.took s.failed i.failed (rw e objects)

  is_stuck : IsGoingIn o.style o old → IsCutShort o why new
  is_stuck i = stuck_in o.style refl i

-- ---- the calls

-- memory was refused before anything was put
stops : (o : Origin) (w : Writing) → w.why ≡ None → IsWritten o w → IsWritten o (record w { why = Some Memory })
stops o w e i = (
  i.0,
  is_stuck o w (record w { why = Some Memory }) Memory (record {
    cut = record { moved = []; unwritten = w.waiting; parts = refl; wrote = Appends-nil w.taken };
    begun = refl;
    failed = refl;
    style = refl;
    spot = refl;
    unshown = refl;
  }) (as_going o w e i),
)

-- an output that stops, unless it has stopped
module _ (o : Origin) (rest : Rest) (put : Put) where
  abbrev stopped : ListError → Writing
  stopped why = with_rest rest (record put { why = Some why })

  stops_by : (why : Option ListError) → put.why ≡ why → IsWritten o (with_rest rest put) → IsWritten o (stopped (unwrap_or why Memory))
  stops_by None e i = stops o (with_rest rest put) e i
  stops_by (Some why) e i = subst (λ (x : Option ListError). IsWritten o (with_rest rest (record put { why = x }))) e i

  pub stops_here : (new : Put) → new ≡ stopped_without_memory put → IsWritten o (with_rest rest put) → IsWritten o (with_rest rest new)
  stops_here new e i = subst (λ (p : Put). IsWritten o (with_rest rest p)) (sym e) (stops_by put.why refl i)

-- the style doesn't change
same_style : (before after : Option ListError) (bytes : List ℕ) (old new : Writing) → PutsAs before after bytes old new
    → new.style ≡ old.style
same_style before after bytes old new p = grind arith

module _ (o : Origin) (old new : Writing) (b : Bool) (spot : Spot) (unshown : List ℕ) where
  -- a writer that is then in a line or not, or at another spot, or has other bytes to show
  abbrev moved_on : Writing → Writing
  moved_on w = record w { is_begun = b; spot = spot; unshown = unshown }

  -- by whether the writer had stopped, and has: what goes on, and what was cut, with this outline
  by_why : (to : Origin) (bytes : List ℕ) (before after : Option ListError) → old.why ≡ before → new.why ≡ after
      → PutsAs before after bytes old new → IsWritten o old
      → (IsGoingIn o.style o old → IsPushed bytes old new → IsGoingIn to.style to (moved_on new))
      → ((why : ListError) (w : Writing) → IsCutShort o why w → IsCutShort to why w) → IsWrittenAs new.why to (moved_on new)
  by_why to bytes before after e a p i going short = grind (arith, short_still, as_short, as_going, is_stuck)

  changes : (to : Origin) (bytes : List ℕ) → to.style ≡ o.style → Puts bytes old new → IsWritten o old
      → (IsGoingIn o.style o old → IsPushed bytes old new → IsGoingIn to.style to (moved_on new))
      → ((why : ListError) (w : Writing) → IsCutShort o why w → IsCutShort to why w) → IsWritten to (moved_on new)
  changes to bytes same p i going short = (same_style _ _ _ _ _ p ∙ (i.0 ∙ sym same), by_why _ _ _ _ refl refl p i going short)

module _ (base : Base) (o : Origin) (old new : Writing) (lines : old.style ≡ Lines base) where
  puts_of : (p : Part) → old.is_begun ≡ true → is_part p ≡ true → Puts (part_text p) old new → IsWritten o old
      → IsWritten (with_numbers o (part_numbers p)) new
  puts_of p b one h i =
      let e : o.style ≡ Lines base = sym i.0 ∙ lines in
      changes o old new new.is_begun new.spot new.unshown (with_numbers o (part_numbers p)) (part_text p) refl h i
      (λ g s. from_lines o (with_numbers o (part_numbers p)) new refl e (part_grows base o old new (in_lines o old e g) p b one s))
      (λ why w c. part_short base o w why e c p one)

  pub puts_part : (bytes : List ℕ) → old.is_begun ≡ true → has_line_feed bytes ≡ false → Puts bytes old new → IsWritten o old
      → IsWritten o new
  puts_part bytes b none p i = subst (λ (x : List Number). IsWritten (record o { numbers = x }) new) (append-nil o.numbers)
      (puts_of (words bytes) b (rw none refl) p i)

  pub puts_number : (n : Number) → old.is_begun ≡ true → Puts (number_text n []) old new → IsWritten o old
      → IsWritten (with_numbers o (n ∷ [])) new
  puts_number n b p i = puts_of (number n) b refl p i

  pub puts_first : (line outline : List ℕ) (numbers : List Number) → IsFirst line outline numbers → old.is_begun ≡ false
      → Puts line old new → IsWritten o old → IsWritten (with_numbers (with_line o outline) numbers) new
  puts_first line outline numbers e b p i =
      let s : o.style ≡ Lines base = sym i.0 ∙ lines in
      let more = first_more base line outline numbers e in
      changes o old new new.is_begun new.spot new.unshown (with_numbers (with_line o outline) numbers) line refl p i
      (λ g h. from_lines o (with_numbers (with_line o outline) numbers) new refl s
      (first_grows base o old new (in_lines o old s g) line outline numbers more b h))
      (λ why w c. first_short base o w why s c line outline numbers more)

  -- a line is then begun or ended
  pub begins : old.is_begun ≡ false → Puts (codes "  ") old new → IsWritten o old → IsWritten o (record new { is_begun = true })
  begins b p i =
      let e : o.style ≡ Lines base = sym i.0 ∙ lines in
      search (changes, from_lines, part_begins, in_lines)

  pub ends : old.is_begun ≡ true → Puts (codes "\n") old new → IsWritten o old → IsWritten o (record new { is_begun = false })
  ends b p i =
      let e : o.style ≡ Lines base = sym i.0 ∙ lines in
      search (changes, from_lines, part_ends, in_lines)

  -- a row of bytes that were to be shown
  pub puts_row : (offset : ℕ) (bytes left : List ℕ) → old.is_begun ≡ false → Puts (row_text base offset bytes) old new
      → old.unshown ≡ bytes ++ left → IsWritten o old → IsWritten o (record new { unshown = left })
  puts_row offset bytes left b p u i =
      let e : o.style ≡ Lines base = sym i.0 ∙ lines in
      search (changes, from_lines, row_grows, in_lines)

-- ---- a line of the first level that was put as several texts

module _ (base : Base) (o : Origin) (old new : Writing) (line outline : List ℕ) (numbers : List Number)
    (more : Outlines base line outline numbers) where
  abbrev with_this : Origin
  with_this = with_numbers (with_line o outline) numbers

  -- the line was begun, and was ended
  abbrev in_line : Writing
  in_line = record old { is_begun = true }

  abbrev after_line : Writing
  after_line = record new { is_begun = false }

  -- of which a prefix could be written
  stops_in : (why : ListError) → o.style ≡ Lines base → old.is_begun ≡ false → IsGoing base o old → StopsIn line why in_line new
      → IsCutShort with_this why after_line
  stops_in why e b i p =
      let all : i.written ++ (old.waiting ++ line) ≡ i.text ++ line = rw (← append_assoc, i.parts, b, append-nil i.text) refl in
      let numbered : o.numbers ≡ i.lined = i.numbered ∙ rw b (append-nil i.lined) in
      cut_short with_this old after_line why i.written (old.waiting ++ line) (row_text base 0 old.unshown) p.cut i.took p.failed i.failed
      (rw (e, all, numbered, i.rowed) (row_more base 0 old.unshown (more i.text o.outline i.lined i.rows i.outlined)))

  -- all of it was put
  line_pushed : old.is_begun ≡ false → IsPushed line in_line new → IsPushed line old after_line
  line_pushed b p = search

  by_text : (before after : Option ListError) → old.why ≡ before → new.why ≡ after → o.style ≡ Lines base → old.is_begun ≡ false
      → PutsText before after line in_line new → IsWritten o old → IsWrittenAs new.why with_this after_line
  by_text (Some why) after e a s b p i =
      subst (λ (w : Writing). IsWrittenAs w.why with_this (record w { is_begun = false })) (sym p)
      (subst (λ (y : Option ListError). IsWrittenAs y with_this (record old { is_begun = false })) (sym e)
      (short_still with_this old why false old.spot old.unshown
      (first_short base o old why s (as_short o old why e i) line outline numbers more)))
  by_text None None e a s b p i = subst (λ (y : Option ListError). IsWrittenAs y with_this after_line) (sym a)
      (from_lines o with_this after_line refl s
      (first_grows base o old after_line (in_lines o old s (as_going o old e i)) line outline numbers more b (line_pushed b p)))
  by_text None (Some why) e a s b p i = grind (arith, stops_in, in_lines, as_going)

  pub puts_line : old.style ≡ Lines base → old.is_begun ≡ false → new.style ≡ Lines base
      → PutsText old.why new.why line in_line new → IsWritten o old → IsWritten with_this after_line
  puts_line lines b after p i = grind (arith, by_text)

module _ (base : Base) (o : Origin) (w : Writing) (bytes : List ℕ) (lines : w.style ≡ Lines base) where
  short_by : (why : Option ListError) → is_some why ≡ true → o.style ≡ Lines base → IsWrittenAs why o w
      → IsWrittenAs why (with_bytes o bytes) w
  short_by None s e i = cc
  short_by (Some why) s e i = bytes_short base o w why e i bytes

  -- by one that has stopped
  pub never_shown : is_some w.why ≡ true → IsWritten o w → IsWritten (with_bytes o bytes) w
  never_shown s i = (i.0, short_by w.why s (sym i.0 ∙ lines) i.1)

-- in an object, bytes that lead to another spot
object_grows : (o : Origin) (old new : Writing) (bytes : List ℕ) (spot : Spot) → IsGoingInObjects o old → Leads old.spot bytes spot
    → IsPushed bytes old new → IsGoingInObjects o (record new { spot = spot })
object_grows o old new bytes spot i leads p = record {
  written = i.written ++ p.puts.moved;
  is_at = subst (λ (x : List ℕ). IsAt spot (after_all start x))
      (sym (grown i.written old.waiting bytes p.puts.moved new.waiting p.puts.waits))
      (subst (IsAt spot) (sym (after_all-append start (i.written ++ old.waiting) bytes))
      (leads (after_all start (i.written ++ old.waiting)) i.is_at));
  took = Appends-trans o.taken old.taken new.taken i.written p.puts.moved i.took p.puts.writes;
  failed = p.failed ∙ i.failed;
}

module _ (o : Origin) (old new : Writing) where
  pub puts_in_object : (bytes : List ℕ) (spot : Spot) → old.style ≡ Objects → Leads old.spot bytes spot → Puts bytes old new
      → IsWritten o old → IsWritten o (record new { spot = spot })
  puts_in_object bytes spot objects leads p i = grind (arith, changes, from_objects, object_grows, in_objects)

  all_in : (style : Style) → o.style ≡ style → IsGoingIn style o old → IsPushed [] old new → IsGoingIn style o new
  all_in (Lines base) e i p = all_moves base o old new i p
  all_in Objects e i p = record {
    written = i.written ++ p.puts.moved;
    is_at = subst₂ (λ (x : List ℕ) (spot : Spot). IsAt spot (after_all start x))
        (sym (grown i.written old.waiting [] p.puts.moved new.waiting p.puts.waits ∙ append-nil (i.written ++ old.waiting)))
        (sym p.spot) i.is_at;
    took = Appends-trans o.taken old.taken new.taken i.written p.puts.moved i.took p.puts.writes;
    failed = p.failed ∙ i.failed;
  }

  pub puts_all : Puts [] old new → IsWritten o old → IsWritten o new
  puts_all p i = changes o old new new.is_begun new.spot new.unshown o [] refl p i (λ g h. all_in o.style refl g h) (λ why w c. c)

-- ---- in the style of objects nothing is said of lines

module _ (o : Origin) (w : Writing) (outline : List ℕ) (numbers : List Number) (bytes : List ℕ) where
  abbrev with_others : Origin
  with_others = record o { outline = outline; numbers = numbers; bytes = bytes }

  other_by : (why : Option ListError) → o.style ≡ Objects → IsWrittenAs why o w → IsWrittenAs why with_others w
  other_by why e i = grind (arith, in_objects, from_objects, shaped_objects, no_input)

  pub other_lines : o.style ≡ Objects → IsWritten o w → IsWritten with_others w
  other_lines e i = (i.0, other_by w.why e i.1)

module _ (old new : Writing) (objects : old.style ≡ Objects) (a : Adds old new) where
  pub first_in_objects : (line : List ℕ) → AddsFirst line old new
  first_in_objects line outline numbers e o i = other_lines _ _ _ _ _ (sym i.0 ∙ objects) (a o i)
