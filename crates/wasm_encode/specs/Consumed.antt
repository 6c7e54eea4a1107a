-- Bytes that were read encode what they were read as.
use Rattle.std.specs.Prelude.{◌≡◌, ℕ, ◌+◌, List, ◌++◌, length, Ok}
use Rattle.wasm_base.specs.Outcome.{Outcome}
use Rattle.wasm_base.specs.Window.{Place}
use Rattle.wasm_encode.specs.ReadsBack.{spot, Encodes}
use Rattle.wasm_base.specs.Item.{ReadsAs}

-- What was read at a place: the bytes that reading consumed encode it, wherever they are copied to.
pub record Consumed {A : Type 0} (reading : Place → Outcome A) (features offset : ℕ) (bytes : List ℕ)
    (x : A) (q : Place) : Type 0 where
  pub taken : List ℕ
  pub rest : List ℕ
  pub split : bytes ≡ taken ++ rest
  pub after : q ≡ spot features (offset + length taken) rest
  pub encodes : Encodes (ReadsAs (λ (y : A). y) reading) features (λ (o : ℕ). x) taken

-- | wherever the bytes of what was read are copied to, they encode it [`Consumed`]
-- Copying the bytes of what was read writes it.
pub record CopiesItsBytes {A : Type 0} (reading : Place → Outcome A) : Type 0 where
  pub at : (features offset : ℕ) (bytes : List ℕ) (x : A) (q : Place) → reading (spot features offset bytes) ≡ Ok (x, q)
      → Consumed reading features offset bytes x q
