-- Skipped bytes lie in the window.
use Rattle.std.proofs.Common.{◌≡◌, ℕ, ◌-◌, ◌≤◌, length, drop, ap, arith, length-drop}
use Rattle.wasm_base.specs.Window.{Window, KeepsWindow}

pub starts_before : (before old new : Window) (from to : ℕ) → before ≡ old → KeepsWindow old new → from ≡ before.position → to
    ≡ new.position → from ≤ to
starts_before before old new from to same kept is at = omega (arith, kept.forward, ap (λ (w : Window). w.position) same)

pub ends_within : (before old new : Window) (from to : ℕ) → before ≡ old → KeepsWindow old new → from ≡ before.position → to ≡ new.position
    → new.position ≤ length new.bytes → to - from ≤ length (drop before.position before.bytes)
ends_within before old new from to same kept is at within =
    omega (
      arith,
      kept.forward,
      ap (λ (w : Window). w.position) same,
      ap (λ (w : Window). length w.bytes) same,
      ap length kept.bytes,
      length-drop before.position before.bytes,
    )
