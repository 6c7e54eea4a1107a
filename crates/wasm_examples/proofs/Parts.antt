-- The subsections of a window as a list, and of entries those that are in order.
use Rattle.wasm_examples.proofs.Common.{◌≡◌, ℕ, zero, suc, ◌<◌, ◌≤◌, false, List, [], ◌∷◌, length, Option, Some, None, Result, Ok, Err}
use Rattle.wasm_examples.proofs.Common.{nat_eq, refl, ap, ◌∙◌, arith, inl, inr, ◌⊎◌, ne_eqb, length-drop, Ascending, NextAscending}
use Rattle.wasm_examples.proofs.Common.{Refuses, FaultAt, fault_at, Outcome, item_or_fault, Window, Place, place, Error, subsections_from}
use Rattle.wasm_examples.proofs.Common.{subsections_at, ascending}
use Rattle.wasm_base.specs.Subsections.{subsection_at, NextSubsection, ReadsSubsection, ReadsWindowAs, UnlessTaken}
use Rattle.wasm_base.specs.declared.fault.Fault.{Fault}
use Rattle.wasm_examples.proofs.Items.{seen}

-- ---- subsections

-- These are the subsections from a place on.
pub record PartsLeft {Y : Type 0} (reading : ℕ → Window → Result Y FaultAt) (p : Place) (parts : List (Result Y FaultAt))
    : Type 0 where
  pub most : ℕ
  pub enough : length p.rest ≤ most
  pub same : parts ≡ subsections_from reading most p

-- The first of these is this one, and the others are those from a place on.
pub record PartCame {Y : Type 0} (reading : ℕ → Window → Result Y FaultAt) (first : Result Y FaultAt) (p : Place)
    (parts : List (Result Y FaultAt)) : Type 0 where
  pub later : List (Result Y FaultAt)
  pub same : parts ≡ first ∷ later
  pub left : PartsLeft reading p later

pub parts_begin : {Y : Type 0} {reading : ℕ → Window → Result Y FaultAt} (p : Place)
    → PartsLeft reading p (subsections_at reading p)
parts_begin p = record { most = length p.rest; enough = omega arith; same = refl }

module _ {T Y : Type 0} (view : T → Y) where
  means : (reading : ℕ → Window → Result Y FaultAt) (id : ℕ) (w : Window) (r : Result T Error)
      → UnlessTaken (ReadsWindowAs view reading) false id w (item_or_fault r) → reading id w ≡ seen view r
  means reading id w (Ok x) h = h
  means reading id w (Err e) (inl h) = h
  means reading id w (Err e) (inr h) = let no = h.0 in cc

  head_fault : (r : Result T Error) (f : FaultAt) → item_or_fault r ≡ Err f → seen view r ≡ Err f
  head_fault (Ok x) f h = cc
  head_fault (Err e) f h = cc

  module _ {reading : ℕ → Window → Result Y FaultAt} {s t : Window} {parts : List (Result Y FaultAt)}
      (w : PartsLeft reading (place s) parts) where
    came : (r : Result T Error) → NextSubsection (ReadsWindowAs view reading) false s (Some r) t
        → PartCame reading (seen view r) (place t) parts
    came r next = by_most w.most w.enough w.same
      where
        -- a subsection takes a byte at least
        less : length (place t).rest < length (place s).rest
        less =
            let same : length t.bytes ≡ length s.bytes = ap length next.1.bytes in
            omega (arith, same, next.2, next.3, length-drop s.position s.bytes, length-drop t.position t.bytes)

        some : nat_eq (length (place s).rest) 0 ≡ false
        some = ne_eqb (length (place s).rest) 0 (λ e. omega (arith, next.3, e))

        by_head : (k : ℕ) (o : Outcome (ℕ × Window)) → subsection_at (place s) ≡ o
            → ReadsSubsection (ReadsWindowAs view reading) false (place s) o r (place t)
            → subsections_from reading (suc k) (place s) ≡ seen view r ∷ subsections_from reading k (place t)
        by_head k (Ok head) e h = rw (some, e, means reading head.0.0 head.0.1 r h.0, h.1) refl
        by_head k (Err f) e h = rw (some, e, head_fault r f h.0, h.1) refl

        by_most : (n : ℕ) → length (place s).rest ≤ n → parts ≡ subsections_from reading n (place s)
            → PartCame reading (seen view r) (place t) parts
        by_most zero e l = absurd (omega (arith, e, next.3))
        by_most (suc k) e l = record {
          later = subsections_from reading k (place t);
          same = l ∙ by_head k (subsection_at (place s)) refl next.0;
          left = record { most = k; enough = omega (arith, e, less); same = refl };
        }

    pub part_came : {given : Result T Error} (r : Result T Error) → given ≡ r
        → NextSubsection (ReadsWindowAs view reading) false s (Some given) t → PartCame reading (seen view r) (place t) parts
    part_came r was next = came r (rw was at next)

    pub parts_over : NextSubsection (ReadsWindowAs view reading) false s None t → parts ≡ []
    parts_over next = by_most w.most w.same
      where
        by_most : (n : ℕ) → parts ≡ subsections_from reading n (place s) → parts ≡ []
        by_most zero l = l
        by_most (suc k) l = l ∙ rw next.0 refl

-- ---- entries in order

-- what is taken when this was returned: an entry, or none
abbrev pub and_more : {T Y : Type 0} → (T → Y) → Result T Error → List Y → List Y
and_more view (Ok x) later = view x ∷ later
and_more view (Err e) later = later

-- A call of `next` read this, and returned it or refused it for its index.
pub record ReadsEntry {S T Y : Type 0} (next : S → Option (Result T Error) → S → Type 0) (view : T → Y) (index : Y → ℕ)
    (s : Ascending S) (given : Result T Error) (t : Ascending S) : Type 0 where
  pub entry : Result T Error
  pub reads : next s.entries (Some entry) t.entries
  pub takes : (later : List (Result Y FaultAt)) → ascending index s.last (seen view entry ∷ later)
      ≡ and_more view given (ascending index t.last later)

pub entry_came : {S T Y : Type 0} {next : S → Option (Result T Error) → S → Type 0} {start : S → ℕ} {view : T → Y} {index : Y → ℕ}
    {fault : Fault} {s t : Ascending S} (given : Result T Error)
    → NextAscending next start (λ x. index (view x)) fault s (Some given) t → ReadsEntry next view index s given t
entry_came (Ok x) n =
    record { entry = Ok x; reads = n.order.0; takes = λ later. rw (n.order.1, n.order.2) refl }
entry_came {next} {start} {view} {index} {fault} {s} {t} (Err e) n = by_order n.order.0
  where
    by_order : next s.entries (Some (Err e)) t.entries ⊎ Refuses next start (λ x. index (view x)) fault s (fault_at e) t.entries
        → ReadsEntry next view index s (Err e) t
    by_order (inl reads) = record { entry = Err e; reads = reads; takes = λ later. rw n.order.1 refl }
    by_order (inr r) = record { entry = Ok r.0; reads = r.1; takes = λ later. rw (r.2, n.order.1) refl }

-- the same of subsections: what is taken of those from here on is what is taken of this one and those after it
pub record PartRead {T Y : Type 0} (reading : ℕ → Window → Result Y FaultAt) (view : T → Y) (index : Y → ℕ) (s : Ascending Window)
    (given : Result T Error) (t : Ascending Window) (parts : List (Result Y FaultAt)) : Type 0 where
  pub later : List (Result Y FaultAt)
  pub left : PartsLeft reading (place t.entries) later
  pub takes : ascending index s.last parts ≡ and_more view given (ascending index t.last later)

module _ {T Y : Type 0} (view : T → Y) (index : Y → ℕ) where
  pub part_read : {s t : Ascending Window} {reading : ℕ → Window → Result Y FaultAt} {start : Window → ℕ} {fault : Fault}
      {parts : List (Result Y FaultAt)} {given : Result T Error} → PartsLeft reading (place s.entries) parts → (r : Result T Error)
      → given ≡ r
      → NextAscending (NextSubsection (ReadsWindowAs view reading) false) start (λ x. index (view x)) fault s (Some given) t
      → PartRead reading view index s r t parts
  part_read {s} w r was n =
      let e = entry_came r (rw was at n) in
      let m = part_came view w e.entry refl e.reads in
      record { later = m.later; left = m.left; takes = ap (ascending index s.last) m.same ∙ e.takes m.later }
