-- Texts that an output puts one after the other.
use Rattle.wasm_output.proofs.Common.{◌≡◌, refl, sym, ap, subst, ◌∙◌, List, [], ◌++◌, Option, Some, None}
use Rattle.wasm_output.proofs.Common.{ListError, ℕ, append_assoc, append-nil, unwrap_or, flat_map, flat_map-append}
use Rattle.wasm_output.proofs.Common.{Writing, Put, Puts, PutsText}
use Rattle.wasm_io.specs.declared.devices.ListError.TheVariants.{Memory}
use Rattle.wasm_output.specs.declared.objects.Spot.TheVariants.{Outside}
use Rattle.wasm_output.specs.Said.{HasPut, PutsMore, StopsIn, as_writing}
use Rattle.wasm_output.specs.Tree.{Rest, of_objects, with_rest}
use Rattle.wasm_output.proofs.Saying.{as_text, joined, nothing_by}

-- nothing was put yet
pub nothing_put : (p : Put) → HasPut p [] p
nothing_put p = nothing_by (as_writing p) p.why refl

-- what is put is put after the others
pub puts_more : (bytes : List ℕ) (old new : Put) → ((rest : Rest) → Puts bytes (with_rest rest old) (with_rest rest new))
    → PutsMore bytes old new
puts_more bytes old new p since before h = joined (as_writing since) (as_writing old) (as_writing new) before bytes
    since.why old.why new.why refl refl refl h (as_text (as_writing old) (as_writing new) bytes old.why new.why (p (of_objects Outside)))

pub more_none : (p : Put) → PutsMore [] p p
more_none p since before h = subst (λ (t : List ℕ). HasPut since t p) (sym (append-nil before)) h

pub more_same : (a b : List ℕ) (x y : Put) → a ≡ b → PutsMore a x y → PutsMore b x y
more_same a b x y e p = subst (λ (t : List ℕ). PutsMore t x y) e p

-- one text after the other
pub more_then : (a b : List ℕ) (x y z : Put) → PutsMore a x y → PutsMore b y z → PutsMore (a ++ b) x z
more_then a b x y z p q since before h =
    subst (λ (t : List ℕ). HasPut since t z) (append_assoc before a b) (q since (before ++ a) (p since before h))

-- parts of a text, each mapped
pub puts_maps : (f : ℕ → List ℕ) (rest first later text : List ℕ) (x y z : Put) → rest ≡ first ++ later → flat_map f first ≡ text
    → PutsMore text x y → PutsMore (flat_map f later) y z → PutsMore (flat_map f rest) x z
puts_maps f rest first later text x y z e t p q = more_same (text ++ flat_map f later) (flat_map f rest) x z
    (sym (ap (flat_map f) e ∙ (flat_map-append f first later ∙ ap (λ (u : List ℕ). u ++ flat_map f later) t)))
    (more_then text (flat_map f later) x y z p q)

-- ---- an allocation that failed

-- an output that stops has put what it had put
pub without_memory : (since old : Put) (text : List ℕ) (a b : Option ListError) → since.why ≡ a → old.why ≡ b
    → PutsText a b text (as_writing since) (as_writing old)
    → PutsText a (Some (unwrap_or b Memory)) text (as_writing since) (as_writing (record old { why = Some (unwrap_or b Memory) }))
without_memory since old text (Some why) None ea eb p =
    absurd (let e : None ≡ Some why = sym eb ∙ (ap (λ (w : Writing). w.why) p ∙ ea) in cc)
without_memory since old text (Some why) (Some stop) ea eb p =
    subst (λ (y : Option ListError). as_writing (record old { why = y }) ≡ as_writing since) eb p
without_memory since old text None (Some why) ea eb p =
    subst (λ (y : Option ListError). StopsIn text why (as_writing since) (as_writing (record old { why = y }))) eb p
without_memory since old text None None ea eb p = record {
  cut = record { moved = p.puts.moved; unwritten = old.waiting; parts = p.puts.waits; wrote = p.puts.writes };
  begun = p.begun;
  failed = p.failed;
  style = p.style;
  spot = p.spot;
}
