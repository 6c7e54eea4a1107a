-- The first eight bytes of a stream. Core specification, Binary format, Modules.
use Rattle.std.specs.Prelude.{ℕ, Bool, true, ◌&&◌, List, [], ◌∷◌, Err, nat_eq, if◌then◌else◌}
use Rattle.wasm_base.specs.FaultAt.{at_offset}
use Rattle.wasm_base.specs.Name.{bytes_at, u32_at}
use Rattle.wasm_base.specs.Outcome.{Outcome, ◌>>=◌}
use Rattle.wasm_base.specs.Window.{Place}
use Rattle.wasm_base.specs.declared.fault.Fault.TheVariants.{BadMagic}

-- | the first eight bytes [`header_version_at`] <Modules>
-- the four bytes that begin a stream
abbrev pub magic : List ℕ
magic = 0x00 ∷ 0x61 ∷ 0x73 ∷ 0x6d ∷ []

-- whether two lists agree as far as both go
abbrev pub agree : List ℕ → List ℕ → Bool
agree [] ys = true
agree (x ∷ xs) [] = true
agree (x ∷ xs) (y ∷ ys) = nat_eq x y && agree xs ys

-- the 32 bits after the magic
unfoldable pub header_version_at : Place → Outcome ℕ
header_version_at p = do
  prefix ← bytes_at 4 p
  if agree prefix.0 magic then u32_at prefix.1 else Err (at_offset BadMagic p.offset)
