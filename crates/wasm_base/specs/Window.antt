-- A window of the stream, and a place in it.
use Rattle.std.specs.declared.ops.Range.{Range}
use Rattle.std.specs.Prelude.{◌≡◌, ℕ, ◌+◌, ◌-◌, ◌≤◌, List, length, take, drop}

-- | a reader: features, start offset, bytes, position
-- what a reader is: the bytes of its window, the offset at which they begin in the whole stream, how many of
-- them it has passed, and the features that it takes, as bits
pub record Window : Type 0 where
  pub features : ℕ
  pub start : ℕ
  pub bytes : List ℕ
  pub position : ℕ

-- | where a reader is: features, offset, the bytes in front of it [`place`, `advanced`]
-- what a reader has before it: its offset, and the bytes from there to the end of its window
pub record Place : Type 0 where
  pub features : ℕ
  pub offset : ℕ
  pub rest : List ℕ

-- where a reader is
abbrev pub place : Window → Place
place w = record { features = w.features; offset = w.start + w.position; rest = drop w.position w.bytes }

-- the place after n bytes
abbrev pub advanced : ℕ → Place → Place
advanced n p = record { features = p.features; offset = p.offset + n; rest = drop n p.rest }

-- the window that begins where another is read
abbrev pub whole_window : Place → Window
whole_window p = record { features = p.features; start = p.offset; bytes = p.rest; position = 0 }

-- these bytes at this offset as a window, for a reader with these features
abbrev pub window_over : (features offset : ℕ) → List ℕ → Window
window_over features offset bytes = record { features = features; start = offset; bytes = bytes; position = 0 }

-- | the window from one place to a later one
abbrev pub window_between : (p q : Place) → Window
window_between p q = record {
  features = p.features;
  start = p.offset;
  bytes = take (q.offset - p.offset) p.rest;
  position = 0;
}

-- the offsets of a window, and of what its reader has before it
abbrev pub range_of : Window → Range ℕ
range_of w = record { start = w.start; end = w.start + length w.bytes }

abbrev pub rest_range : Window → Range ℕ
rest_range w = record { start = (place w).offset; end = w.start + length w.bytes }

-- The window is the same, and its reader is not before where it was.
pub record KeepsWindow (old new : Window) : Type 0 where
  pub features : new.features ≡ old.features
  pub start : new.start ≡ old.start
  pub bytes : new.bytes ≡ old.bytes
  pub forward : old.position ≤ new.position
