-- What the walkers that write no dump keep of what they have seen: lines of faults, and offsets of items.
use Rattle.std.specs.Prelude.{◌≡◌, ℕ, Bool, ◌||◌, List, [], ◌∷◌, ◌++◌, Option, Some, None, if◌then◌else◌}
use Rattle.std.specs.String.{string_bytes}
use Rattle.wasm_io.specs.declared.devices.ListError.{ListError}
use Rattle.wasm_io.specs.declared.devices.ListError.TheVariants.{Memory}
use Rattle.wasm_output.specs.Said.{HasPut}
use Rattle.wasm_output.specs.Tree.{Put}
use Rattle.wasm_show.specs.Seen.{Seen, Site, any_fault, last_site, lines_of, offsets_of, outside, section, custom}
use Rattle.wasm_show.specs.Seen.{seen_line}
use Rattle.wasm_show.specs.declared.faults.Faults.{Faults}
use Rattle.wasm_show.specs.declared.faults.Place.{Place}
use Rattle.wasm_show.specs.declared.faults.Place.TheVariants as place
use Rattle.wasm_show.specs.declared.offsets.Offsets.{Offsets}

-- what a walker that writes faults is: its output, what its lines begin with, whether it writes none, the site of the
-- items, and whether it has seen a fault
pub record Noted : Type 0 where
  pub output : Put
  pub prefix : List ℕ
  pub is_quiet : Bool
  pub site : Site
  pub has_found : Bool

abbrev pub site_of : Place → Site
site_of place.Stream = outside
site_of (place.Section name) = section name.now
site_of (place.Custom name) = custom (string_bytes name)

abbrev pub found_by : {W : Type 0} → Faults W → Noted
found_by t = record {
  output = t.output;
  prefix = string_bytes t.prefix;
  is_quiet = t.is_quiet;
  site = site_of t.place;
  has_found = t.has_found;
}

-- the lines of these, if lines are written
abbrev pub lines_since : (since : Noted) → List Seen → List ℕ
lines_since since seen = if since.is_quiet then [] else lines_of since.prefix since.site seen

-- | the lines and the offsets that walkers keep of what they have seen [`HasNoted`, `HasOffsets`]
-- These were seen since: their lines were put, as far as the output could.
pub record HasNoted (since : Noted) (seen : List Seen) (now : Noted) : Type 0 where
  pub puts : HasPut since.output (lines_since since seen) now.output
  pub prefix : now.prefix ≡ since.prefix
  pub quiet : now.is_quiet ≡ since.is_quiet
  pub site : now.output.why ≡ None → now.site ≡ last_site since.site seen
  pub found : now.output.why ≡ None → now.has_found ≡ (since.has_found || any_fault seen)

-- the line of it, if lines are written
abbrev pub line_if : Noted → Seen → List ℕ
line_if old x = if old.is_quiet then [] else seen_line old.prefix old.site x

-- This was noted, if there had been no stop.
abbrev pub Notes : Seen → (old new : Noted) → Type 0
Notes x old new = old.output.why ≡ None → (since : Noted) (seen : List Seen) → HasNoted since seen old
    → HasNoted since (seen ++ x ∷ []) new

-- ---- offsets

abbrev pub stop_of : Offsets → Option ListError
stop_of t = if t.has_stopped then Some Memory else None

abbrev pub noted_by : Offsets → Option (List ℕ)
noted_by t = if t.has_stopped then None else Some t.noted.items

-- Their offsets are noted, unless an allocation failed.
abbrev pub HasOffsets : (since : Offsets) → List Seen → (now : Offsets) → Type 0
HasOffsets since seen now = stop_of now ≡ None → now.noted.items ≡ since.noted.items ++ offsets_of seen
