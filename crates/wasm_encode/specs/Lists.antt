-- Lists inside items, which are copied. Core specification, Binary format, Conventions, Lists.
use Rattle.std.specs.Prelude.{◌≡◌, ℕ, ◌<◌, ◌^◌, List, ◌++◌, length, Ok, Err}
use Rattle.wasm_base.specs.Inner.{all_skipped_at}
use Rattle.wasm_base.specs.Outcome.{Outcome}
use Rattle.wasm_base.specs.Section.{Section, section_after}
use Rattle.wasm_base.specs.Window.{Place, place, window_over}
use Rattle.wasm_encode.specs.Numbers.{unsigned_bytes}

-- the bytes of a list: its count, and the bytes in front of its reader
abbrev pub list_bytes : Section → List ℕ
list_bytes list = unsigned_bytes list.count ++ (place list.reader).rest

-- Something was skipped, and nothing is left after it.
abbrev pub LeavesNothing : Outcome (Unit {0}) → Type 0
LeavesNothing (Ok end) = length end.1.rest ≡ 0
LeavesNothing (Err fault) = ⊥

-- | a list that is copied: its count and the bytes of its items; it has as many items as it announces, and nothing
--   after them; a list as it is read at an offset [`list_bytes`; `IsList`; `list_placed`] <Conventions, Lists>
-- In front of its reader a list has as many items as it announces, and nothing after them.
pub record IsList (pass : Place → Outcome (Unit {0})) (list : Section) : Type 0 where
  pub count : list.count < 2 ^ 32
  pub items : LeavesNothing (all_skipped_at pass list.count (place list.reader))

-- the list as it is read with these features at an offset: its window is there, and its reader after the count
abbrev pub list_placed : (features offset : ℕ) → Section → Section
list_placed features offset list = section_after
    (record (window_over features offset (list_bytes list)) { position = length (unsigned_bytes list.count) })
    list.count
