-- What the walkers that write no dump have noted.
use Rattle.std.proofs.Common.{◌≡◌, ℕ, Bool, true, false, ◌||◌, List, [], ◌∷◌, ◌++◌, Option, Some, None, refl, sym, ap, ap₂, subst, ◌∙◌}
use Rattle.std.proofs.Common.{append_assoc, append-nil}
use Rattle.std.proofs.lemmas.List.Folds.{list_any-append}
use Rattle.std.specs.Prelude.{if◌then◌else◌}
use Rattle.wasm_io.specs.declared.devices.ListError.{ListError}
use Rattle.wasm_output.specs.Said.{HasPut, PutsMore}
use Rattle.wasm_output.specs.Tree.{stopped_without_memory}
use Rattle.wasm_show.specs.Noted.{HasNoted, Noted, Notes, line_if, lines_since}
use Rattle.wasm_show.specs.Seen.{Seen, Site, any_fault, is_fault, last_site, lines_of, seen_line, site_after}
use Rattle.wasm_output.proofs.ForCallers.{more_none, more_same, nothing_put, without_memory}

lines_append : (prefix : List ℕ) (site : Site) (a b : List Seen)
    → lines_of prefix site (a ++ b) ≡ lines_of prefix site a ++ lines_of prefix (last_site site a) b
lines_append prefix site [] b = refl
lines_append prefix site (n ∷ a) b = ap (λ (t : List ℕ). seen_line prefix site n ++ t) (lines_append prefix (site_after site n) a b)
    ∙ sym (append_assoc (seen_line prefix site n) (lines_of prefix (site_after site n) a)
    (lines_of prefix (last_site (site_after site n) a) b))

last_append : (site : Site) (a b : List Seen) → last_site site (a ++ b) ≡ last_site (last_site site a) b
last_append site [] b = refl
last_append site (n ∷ a) b = last_append (site_after site n) a b

-- those of more, if lines are written
abbrev more_of : (since : Noted) → (seen more : List Seen) → List ℕ
more_of since seen more = if since.is_quiet then [] else lines_of since.prefix (last_site since.site seen) more

quiet_append : (quiet : Bool) (whole text more : List ℕ) → whole ≡ text ++ more
    → (if quiet then [] else whole) ≡ (if quiet then [] else text) ++ (if quiet then [] else more)
quiet_append true whole text more e = refl
quiet_append false whole text more e = e

since_append : (since : Noted) (seen more : List Seen) → lines_since since (seen ++ more)
    ≡ lines_since since seen ++ more_of since seen more
since_append since seen more = quiet_append since.is_quiet _ _ _ (lines_append since.prefix since.site seen more)

nothing_if : (quiet : Bool) (text : List ℕ) → text ≡ [] → (if quiet then [] else text) ≡ []
nothing_if true text e = refl
nothing_if false text e = e

pub or_false : (b : Bool) → b ≡ (b || false)
or_false true = refl
or_false false = refl

pub or_true : (b : Bool) → true ≡ (b || true)
or_true true = refl
or_true false = refl

or_more : (a b c : Bool) → ((a || b) || c) ≡ (a || (b || c))
or_more true b c = refl
or_more false b c = refl

-- nothing was seen yet
pub noted_nothing : (n : Noted) → HasNoted n [] n
noted_nothing n = record {
  puts = subst (λ (t : List ℕ). HasPut n.output t n.output) (sym (nothing_if n.is_quiet [] refl)) (nothing_put n.output);
  prefix = refl;
  quiet = refl;
  site = λ e. refl;
  found = λ e. or_false n.has_found;
}

module _ (n : Seen) (old new : Noted) (puts : PutsMore (line_if old n) old.output new.output) (prefix : new.prefix ≡ old.prefix)
    (quiet : new.is_quiet ≡ old.is_quiet) (site : new.output.why ≡ None → new.site ≡ site_after old.site n)
    (found : new.output.why ≡ None → new.has_found ≡ (old.has_found || is_fault n)) (e : old.output.why ≡ None) (since : Noted)
    (seen : List Seen) (h : HasNoted since seen old) where
  text_is : line_if old n ≡ more_of since seen (n ∷ [])
  text_is = ap₂ (λ (q : Bool) (t : List ℕ). if q then [] else t) h.quiet
      (ap₂ (λ (p : List ℕ) (s : Site). seen_line p s n) h.prefix (h.site e) ∙ sym (append-nil _))

  any_more : (any_fault seen || is_fault n) ≡ any_fault (seen ++ n ∷ [])
  any_more = ap (λ (b : Bool). any_fault seen || b) (or_false (is_fault n)) ∙ sym (list_any-append is_fault seen (n ∷ []))

  -- one was seen more
  pub noted_one : HasNoted since (seen ++ n ∷ []) new
  noted_one = record {
    puts = subst (λ (t : List ℕ). HasPut since.output t new.output)
        (ap (λ (t : List ℕ). lines_since since seen ++ t) text_is ∙ sym (since_append since seen (n ∷ [])))
        (puts since.output (lines_since since seen) h.puts);
    prefix = prefix ∙ h.prefix;
    quiet = quiet ∙ h.quiet;
    site = λ none. site none ∙ (ap (λ (s : Site). site_after s n) (h.site e) ∙ sym (last_append since.site seen (n ∷ [])));
    found = λ none. found none ∙ (ap (λ (b : Bool). b || is_fault n) (h.found e) ∙ (or_more since.has_found (any_fault seen) (is_fault n)
        ∙ ap (λ (b : Bool). since.has_found || b) any_more));
  }

-- what it writes where lines are written, and where they are not
pub loud : (old : Noted) (n : Seen) → old.is_quiet ≡ false → seen_line old.prefix old.site n ≡ line_if old n
loud old n e = sym (ap (λ (q : Bool). if q then [] else seen_line old.prefix old.site n) e)

pub quietly : (old : Noted) (n : Seen) → old.is_quiet ≡ true → [] ≡ line_if old n
quietly old n e = sym (ap (λ (q : Bool). if q then [] else seen_line old.prefix old.site n) e)

-- what has no line writes nothing
pub no_line : (old : Noted) (n : Seen) → seen_line old.prefix old.site n ≡ [] → PutsMore (line_if old n) old.output old.output
no_line old n e = more_same _ _ _ _ (sym (nothing_if old.is_quiet _ e)) (more_none old.output)

not_stopped : (why : ListError) (w : Option ListError) → w ≡ Some why → w ≡ None → ⊥
not_stopped why None is e = absurd (let no : None ≡ Some why = is in cc)
not_stopped why (Some x) is e = absurd (let no : Some x ≡ None = e in cc)

-- an output that stops has put what it had put
pub noted_until : (old new : Noted) → new ≡ record old { output = stopped_without_memory old.output } → (since : Noted)
    (seen : List Seen) → HasNoted since seen old → HasNoted since seen new
noted_until old new same since seen h = subst (λ (n : Noted). HasNoted since seen n) (sym same) (record {
  puts = without_memory since.output old.output (lines_since since seen) since.output.why old.output.why refl refl h.puts;
  prefix = h.prefix;
  quiet = h.quiet;
  site = λ e. absurd (not_stopped _ _ refl e);
  found = λ e. absurd (not_stopped _ _ refl e);
})

-- nothing has a line of its own
nothing_more : (since : Noted) (seen : List Seen) (n : Seen) → seen_line since.prefix (last_site since.site seen) n ≡ []
    → lines_since since seen ≡ lines_since since (seen ++ n ∷ [])
nothing_more since seen n e = sym (since_append since seen (n ∷ [])
    ∙ (ap (λ (t : List ℕ). lines_since since seen ++ t)
    (nothing_if since.is_quiet _ (append-nil _ ∙ e)) ∙ append-nil (lines_since since seen)))

-- it stops where it was to keep the name of a section
pub noted_stop : (n : Seen) (old new : Noted) → ((prefix : List ℕ) (site : Site) → seen_line prefix site n ≡ [])
    → new ≡ record old { output = stopped_without_memory old.output } → Notes n old new
noted_stop n old new none same e since seen h =
    let k = noted_until old new same since seen h in
    let stop : (w : Option ListError) → w ≡ new.output.why → w ≡ None → ⊥
    = λ w is no. not_stopped _ _ (is ∙ ap (λ (x : Noted). x.output.why) same) no in
    record {
      puts = subst (λ (t : List ℕ). HasPut since.output t new.output) (nothing_more since seen n (none _ _)) k.puts;
      prefix = k.prefix;
      quiet = k.quiet;
      site = λ no. absurd (stop _ refl no);
      found = λ no. absurd (stop _ refl no);
    }

-- what was written out has noted the same
pub noted_same : (since old new : Noted) (seen : List Seen) → old.output.why ≡ None → PutsMore [] old.output new.output
    → new ≡ record old { output = new.output } → HasNoted since seen old → HasNoted since seen new
noted_same since old new seen going puts same h = record {
  puts = subst (λ (t : List ℕ). HasPut since.output t new.output) (append-nil (lines_since since seen))
      (puts since.output (lines_since since seen) h.puts);
  prefix = ap (λ (n : Noted). n.prefix) same ∙ h.prefix;
  quiet = ap (λ (n : Noted). n.is_quiet) same ∙ h.quiet;
  site = λ e. ap (λ (n : Noted). n.site) same ∙ h.site going;
  found = λ e. ap (λ (n : Noted). n.has_found) same ∙ h.found going;
}
