-- SCOPE.md, 'What the contracts owe': any two outcomes that an exported function's contract permits coincide: the
-- number that is answered, the tables and the buffer, for every call over the tables at once; the numbers behind
-- `&mut` are equations already.
use Rattle.std.specs.Prelude.{ℕ, ◌≡◌, List}
use Rattle.std.proofs.Common.{sym, ◌∙◌}
use Rattle.std.proofs.Math.Decide.{ℕ_discrete}
use Rattle.layout.specs.Tables.{Tables}
use Rattle.library.specs.Store.{Call}
use Rattle.meaning.specs.Runs.{Tells}
use Rattle.export_answers.specs.Pair.{Told}

pub tells_one : (T S S' : Tables) (c : Call) (out₀ out out' : List ℕ) (r r' : ℕ) → Tells T out₀ c S out r → Tells T out₀ c S' out' r'
    → (r ≡ r') × (S ≡ S') × (out ≡ out')
tells_one T S S' c out₀ out out' r r' x y = (x.number ∙ sym y.number, x.tables ∙ sym y.tables, x.bytes ∙ sym y.bytes)

-- the question about one pair:
-- whatever P is, decided or not
pub told_one : (r was a b : ℕ) (P : Type 0) → Told r was a P → Told r was b P → a ≡ b
told_one r was a b P x y = go (ℕ_discrete r 0) (ℕ_discrete a b)
  where
    go : Dec (r ≡ 0) → Dec (a ≡ b) → a ≡ b
    go d (yes e) = e
    go (no n) (no m) = x.refused n ∙ sym (y.refused n)
    go (yes z) (no m) = absurd (m (x.no z never ∙ sym (y.no z never)))
      where
        never : P → ⊥
        never p = m (x.yes z p ∙ sym (y.yes z p))
