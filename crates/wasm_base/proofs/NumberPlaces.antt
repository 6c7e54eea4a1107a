-- The place after a number that was read.
use Rattle.std.proofs.Common.{◌≡◌, ℕ, Ok, Err, sym, ap}
use Rattle.wasm_base.specs.Number.{Number, read, bad, short, number, in_window, unsigned_at, bytes_read, after_number}
use Rattle.wasm_base.specs.Outcome.{Outcome}
use Rattle.wasm_base.specs.Window.{Place, advanced}
use Rattle.wasm_base.specs.declared.fault.NumberKind.{NumberKind}

-- the place after an outcome, or a default if it is a fault
abbrev place_or : Place → Outcome ℕ → Place
place_or p (Ok x) = x.1
place_or p (Err e) = p

placed : (p q : Place) (m : Number) (n : ℕ) → in_window p m ≡ Ok (n, q) → q ≡ advanced (bytes_read p.rest m) p
placed p q (read sum used) n e = sym (ap (place_or p) e)
placed p q (bad fault i) n e = cc
placed p q short n e = cc

-- it is after the bytes that reading it consumes
pub read_is_passed : (kind : NumberKind) (p q : Place) (n : ℕ) → unsigned_at kind p ≡ Ok (n, q) → q ≡ after_number kind p
unfolding unsigned_at after_number
read_is_passed kind p q n e = placed p q (number kind p.rest) n e
