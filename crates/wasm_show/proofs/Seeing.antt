-- What each walker has seen after a call.
use Rattle.std.proofs.Common.{◌≡◌, ℕ, Bool, true, false, Result, Ok, Err, List, [], ◌∷◌, ◌++◌, Option, Some, None, refl, sym, ap, subst}
use Rattle.std.proofs.Common.{◌∙◌, append_assoc, append-nil}
use Rattle.std.specs.Option.{is_some}
use Rattle.std.specs.Prelude.{if◌then◌else◌}
use Rattle.std.specs.Result.{is_err, is_ok}
use Rattle.wasm_io.specs.declared.devices.ListError.TheVariants.{Memory}
use Rattle.wasm_base.specs.Hints.{is_out_of_memory}
use Rattle.wasm_base.specs.declared.fault.Fault.{Fault}
use Rattle.wasm_base.specs.declared.fault.Fault.TheVariants.{OutOfMemory}
use Rattle.wasm_io.specs.declared.devices.ListError.{ListError}
use Rattle.wasm_output.specs.Numbers.{AreShown, Number}
use Rattle.wasm_output.specs.Tree.{Adds, AddsAll, AddsThese, IsWritten, Writing}
use Rattle.wasm_show.specs.Noted.{HasOffsets, stop_of}
use Rattle.wasm_show.specs.Seen.{Seen, numbers_of, numbers_seen, offset_seen, offsets_of, site_seen}
use Rattle.wasm_show.specs.Walk.{Sees}
use Rattle.wasm_show.specs.declared.offsets.Offsets.{Offsets}
use Rattle.wasm_show.specs.declared.walker.Within.{Within}
use Rattle.wasm_show.specs.declared.walker.Within.TheVariants as within

pub numbers_append : (a b : List Seen) → numbers_of (a ++ b) ≡ numbers_of a ++ numbers_of b
numbers_append [] b = refl
numbers_append (x ∷ a) b = ap (λ (l : List Number). numbers_seen x ++ l) (numbers_append a b)
    ∙ sym (append_assoc (numbers_seen x) (numbers_of a) (numbers_of b))

offsets_append : (a b : List Seen) → offsets_of (a ++ b) ≡ offsets_of a ++ offsets_of b
offsets_append [] b = refl
offsets_append (x ∷ a) b = ap (λ (l : List ℕ). offset_seen x ++ l) (offsets_append a b)
    ∙ sym (append_assoc (offset_seen x) (offsets_of a) (offsets_of b))

-- ---- trees

-- what is shown after what was
pub shows_told : (done told : List Seen) (since old new : Writing) → AddsThese (numbers_of done) since old
    → AddsThese (numbers_of told) old new → AddsThese (numbers_of (done ++ told)) since new
shows_told done told since old new a b o i = subst (λ (l : List Number). IsWritten (record o { numbers = l }) new)
    (append_assoc o.numbers (numbers_of done) (numbers_of told)
    ∙ ap (λ (l : List Number). o.numbers ++ l) (sym (numbers_append done told)))
    (b (record o { numbers = o.numbers ++ numbers_of done }) (a o i))

-- nothing with a number
pub shows_none : (old new : Writing) → Adds old new → AddsThese [] old new
shows_none old new a o i =
    subst (λ (l : List Number). IsWritten (record o { numbers = l }) new) (sym (append-nil o.numbers)) (a o i)

-- a number, and then what is below it
pub shows_below : (numbers : List Number) (old mid new : Writing) → AddsThese numbers old mid → Adds mid new → AddsThese numbers old new
shows_below numbers old mid new a b o i = b (record o { numbers = o.numbers ++ numbers }) (a o i)

-- ---- offsets

-- another offset is noted after the others
pub offset_more : (done : List Seen) (x : Seen) (since old new : Offsets) → HasOffsets since done old
    → (stop_of new ≡ None → (stop_of old ≡ None) × (new.noted.items ≡ old.noted.items ++ offset_seen x))
    → HasOffsets since (done ++ x ∷ []) new
offset_more done x since old new h more e =
    let (was, is) = more e in
    is ∙ (ap (λ (l : List ℕ). l ++ offset_seen x) (h was) ∙ (append_assoc since.noted.items (offsets_of done) (offset_seen x)
    ∙ ap (λ (l : List ℕ). since.noted.items ++ l)
    (ap (λ (l : List ℕ). offsets_of done ++ l) (sym (append-nil (offset_seen x))) ∙ sym (offsets_append done (x ∷ [])))))

-- ---- what a tree has shown of what was reported

all_shown : (why : Option ListError) (done left all : List Seen) → done ++ left ≡ all → (why ≡ None → left ≡ [])
    → AreShown why (numbers_of done) (numbers_of all)
all_shown None done left all is none = ap numbers_of (sym (append-nil done) ∙ (ap (λ (l : List Seen). done ++ l) (sym (none refl)) ∙ is))
all_shown (Some why) done left all is none = (numbers_of left, ap numbers_of (sym is) ∙ numbers_append done left)

pub seen_shown : {W : Type 0} (writing : W → Writing) (all : List Seen) (old new : W)
    → Sees (λ since seen now. AddsThese (numbers_of seen) (writing since) (writing now)) (λ t. (writing t).why) all old new
    → AddsAll (numbers_of all) (writing old) (writing new)
seen_shown writing all old new s o i =
    let h = s old [] (record {
      done = [];
      left = [];
      is = refl;
      did = shows_none (writing old) (writing old) (λ p j. j);
      rest = λ e. refl;
    }) in
    (numbers_of h.done, all_shown (writing new).why h.done h.left all h.is h.rest, h.did o i)

-- ---- what is reported

pub shows_one : (numbers : List Number) (old new : Writing) → AddsThese numbers old new → AddsThese (numbers ++ []) old new
shows_one numbers old new a = subst (λ (l : List Number). AddsThese l old new) (sym (append-nil numbers)) a

-- a place has no number, and no offset
pub shows_place : (place : Within) (w : Writing) → AddsThese (numbers_of (site_seen place ∷ [])) w w
shows_place (within.Unknown id offset) w = shows_none w w (λ o i. i)
shows_place within.Stream w = shows_none w w (λ o i. i)
shows_place (within.Section name) w = shows_none w w (λ o i. i)
shows_place (within.Custom name) w = shows_none w w (λ o i. i)

pub place_offset : (place : Within) (l : List ℕ) → l ≡ l ++ offset_seen (site_seen place)
place_offset (within.Unknown id offset) l = sym (append-nil l)
place_offset within.Stream l = sym (append-nil l)
place_offset (within.Section name) l = sym (append-nil l)
place_offset (within.Custom name) l = sym (append-nil l)

-- what is not out of memory
pub no_memory : (f : Fault) → (f ≡ OutOfMemory → ⊥) → is_out_of_memory f ≡ true → ⊥
no_memory OutOfMemory n e = n refl
no_memory other n e = absurd (let no : false ≡ true = e in cc)

-- ---- what is pushed

pub stopped_is : (t : Offsets) → t.has_stopped ≡ false → is_some (stop_of t) ≡ true → ⊥
stopped_is t e is = absurd (let no : false ≡ true = sym (ap (λ (b : Bool). is_some (if b then Some Memory else None)) e) ∙ is in cc)

-- an offset was pushed, unless an allocation failed
pub noted_item : {A E : Type 0} (r : Result A E) (b : Bool) (items old : List ℕ) (offset : ℕ) → b ≡ is_err r
    → items ≡ (if is_ok r then old ++ offset ∷ [] else old) → (if b then Some Memory else None) ≡ None → items ≡ old ++ offset ∷ []
noted_item (Ok x) b items old offset e is n = is
noted_item (Err x) b items old offset e is n =
    absurd (let no : Some Memory ≡ None = ap (λ (c : Bool). if c then Some Memory else None) (sym e) ∙ n in cc)
