-- SCOPE.md, 'The relations themselves', on the items of two terms.
use Rattle.std.specs.Prelude.{◌≡◌, refl, Bool, true, false, List, ℕ}
use Rattle.std.proofs.Common.{arith}
use Rattle.theory.specs.Flat.{Item}
use Rattle.theory.specs.Subst.{vars, app, Sub}
use Rattle.theory.specs.Items.{items, shift}
use Rattle.terms.specs.Terms.{arity}

-- 'some substitution turns q into t': the variables of t stand still
pub record Turns (ar : ℕ → ℕ) (q t : List Item) : Type 0 where
  pub by : ℕ → List Item
  pub sub : Sub ar by
  pub turns : app by q ≡ t

-- 'some replacement of variables by variables turns q into t'
pub record Renames (q t : List Item) : Type 0 where
  pub to : ℕ → ℕ
  pub turns : app (λ x. vars (to x)) q ≡ t

-- 'with variables apart, some substitution makes both the same'
pub record Unifies (ar : ℕ → ℕ) (s t : List Item) : Type 0 where
  pub by : ℕ → List Item
  pub sub : Sub ar by
  pub same : app by s ≡ app by t

-- the relations of two terms in bytes
abbrev pub Instance : List ℕ → List ℕ → List ℕ → Type 0
Instance sig q t = Turns (arity sig) (items q) (items t)

abbrev pub Variant : List ℕ → List ℕ → Type 0
Variant q t = Renames (items q) (items t)

abbrev pub Unifiable : List ℕ → List ℕ → List ℕ → Type 0
Unifiable sig s q = Unifies (arity sig) (items s) (shift 32 (items q))

-- r tells whether P holds
pub record Decided (r : Bool) (P : Type 0) : Type 0 where
  pub holds : r ≡ true → P
  pub fails : r ≡ false → P → ⊥

pub decided_yes : {P : Type 0} → P → Decided true P
decided_yes h = record { holds = λ e. h; fails = λ e. absurd (let z : ◌≡◌ {A = ℕ} 0 1 = cc in omega arith) }

pub decided_no : {P : Type 0} → (P → ⊥) → Decided false P
decided_no n = record { holds = λ e. absurd (let z : ◌≡◌ {A = ℕ} 0 1 = cc in omega arith); fails = λ e. n }

-- two answers that are permitted coincide
pub decided_one : {P : Type 0} (r r' : Bool) → Decided r P → Decided r' P → r ≡ r'
decided_one true true d e = refl
decided_one true false d e = absurd (e.fails refl (d.holds refl))
decided_one false true d e = absurd (d.fails refl (e.holds refl))
decided_one false false d e = refl
