-- A stream ends at its end if it is accepted, and otherwise with a fault.
use Rattle.wasm_grammar.proofs.Common.{arith, ◌≡◌, List, [], ℕ, ◌+◌, length, FaultAt, Ending, fault, ended, Tile, Reads}
use Rattle.wasm_grammar.specs.Laws.{AcceptedEnds, FaultEnds}
use Rattle.wasm_grammar.proofs.accepted.Frames.{reads_accepted}
use Rattle.wasm_grammar.proofs.accepted.Walks.{accepted_reads}
use Rattle.wasm_grammar.proofs.readings.EndToEnd.{ends_after_all}
use Rattle.wasm_grammar.proofs.readings.Readings.{Onward, reads_all, reads_same}

faulty : (stream : List ℕ) (start : ℕ) (tiles : List Tile) (end : Ending) → Reads stream start tiles end
    → ¬ ((ts : List Tile) × Reads stream start ts (ended (start + length stream)))
    → (ts : List Tile) × (f : FaultAt) × Reads stream start ts (fault f)
faulty stream start tiles (fault f) r n = (tiles, f, r)
faulty stream start tiles (ended x) r n = grind (arith, ends_after_all)

no_end : (stream : List ℕ) (start : ℕ) (ts us : List Tile) (f : FaultAt) (x : ℕ) → Reads stream start ts (fault f)
    → Reads stream start us (ended x) → ⊥
no_end stream start ts us f x p q = let z : fault f ≡ ended x = (reads_same stream start ts us (fault f) (ended x) p q).1 in cc

pub accepted_ends : AcceptedEnds
accepted_ends stream start s = (λ a. accepted_reads stream start s.fits a, λ r. reads_accepted stream start _ r.0 s.each r.1)

pub fault_ends : FaultEnds
fault_ends stream start s =
    let (ends, accepted) = accepted_ends stream start s in
    let r : Onward stream start [] = reads_all stream start in (
      λ n. faulty stream start r.tiles r.end r.reads (λ e. n (accepted e)),
      λ (ts, f, p) a.
          no_end stream start ts (ends a).0 f (start + length stream) p (ends a).1,
    )
