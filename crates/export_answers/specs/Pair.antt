-- Serves SCOPE.md, 'The relations themselves' and 'Numbers of refusal': what the exported question about one pair
-- answers and writes.
use Rattle.std.specs.Prelude.{ℕ, ◌≡◌, ◌≢◌, Bool, true, false, Result, Ok, Err}
use Rattle.refusals.specs.declared.Refusal.{Refusal}
use Rattle.refusals.specs.Refusals.{number_of}

-- 0, or the number of the refusal
abbrev pub paired_number : Result Bool Refusal → ℕ
paired_number (Ok unifiable) = 0
paired_number (Err why) = number_of why

-- 1 or 0; what was there before, where it is refused
abbrev pub paired_answer : Result Bool Refusal → ℕ → ℕ
paired_answer (Ok true) was = 1
paired_answer (Ok false) was = 0
paired_answer (Err why) was = was

-- r: the refusal; the answer is 1 where P holds and 0 where it does not, and stays as it was where r is a refusal
pub record Told (r was is : ℕ) (P : Type 0) : Type 0 where
  pub refused : r ≢ 0 → is ≡ was
  pub yes : r ≡ 0 → P → is ≡ 1
  pub no : r ≡ 0 → (P → ⊥) → is ≡ 0
