-- What comparisons and copies say of values of any type.
use Rattle.std.specs.Prelude.{◌≡◌, ◌↔◌, Bool, IsTrue}

-- | a comparison decides whether a property holds, or whether two values are the same; a copy is the same, and can
--   always be made [`DecidesSame`, `IsCopy`]
-- The comparison is true of two values exactly if they are so.
abbrev pub DecidesWhether : {A : Type 0} → (A → A → Type 0) → (A → A → Bool) → Type 0
DecidesWhether {A = A} same compare = (one other : A) → IsTrue (compare one other) ↔ same one other

-- The comparison is true of two values exactly if they are the same.
abbrev pub DecidesSame : {A : Type 0} → (A → A → Bool) → Type 0
DecidesSame compare = DecidesWhether (λ one other. one ≡ other) compare

-- What counts as a copy of a value is the value itself, and a copy can always be made.
pub record IsCopy {A : Type 0} (is_clone : A → A → Type 0) (is_infallible : A → Type 0) : Type 0 where
  pub same : (one copy : A) → is_clone one copy → copy ≡ one
  pub always : (one : A) → is_infallible one
