-- A choice between two values by a test. Every definition that goes by tests is written with it. Serves SCOPE.md,
-- 'Numbers of refusal': tests in the order of rank give the first that applies.
use Rattle.std.specs.Prelude.{◌≡◌, refl, Bool, true, false}

abbrev pub pick {ℓ} : {A : Type ℓ} → Bool → A → A → A
pick true a b = a
pick false a b = b

-- what holds of both sides of a choice holds of the choice
pub chosen : {A : Type 0} (P : A → Type 0) (b : Bool) (x y : A) → (b ≡ true → P x) → (b ≡ false → P y) → P (pick b x y)
chosen P true x y f g = f refl
chosen P false x y f g = g refl
