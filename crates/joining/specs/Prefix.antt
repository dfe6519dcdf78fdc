-- Serves SCOPE.md, 'The solver's record': lists that agree in their first n items.
use Rattle.std.specs.Prelude.{◌≡◌, refl, List, [], ◌∷◌, ◌++◌, ℕ, zero, suc, ◌+◌, ◌≤◌, length, take}
use Rattle.std.proofs.Common.{sym, ap, ◌∙◌, arith, take-take, take_all}
use Rattle.theory.specs.Flat.{Item}

abbrev pub SameFront : ℕ → List Item → List Item → Type 0
SameFront n u v = take n u ≡ take n v

pub same_less : (m n : ℕ) (u v : List Item) → m ≤ n → SameFront n u v → SameFront m u v
same_less m n u v b e = sym (take-take m n u b) ∙ ap (take m) e ∙ take-take m n v b

pub same_cons : (n : ℕ) (i : Item) (u v : List Item) → SameFront n u v → SameFront (suc n) (i ∷ u) (i ∷ v)
same_cons n i u v e = ap {B = List Item} (λ r. i ∷ r) e

-- what follows counts only as far as n
pub same_append : (n : ℕ) (a b u v : List Item) → SameFront n a b → SameFront n u v → SameFront n (a ++ u) (b ++ v)
same_append zero a b u v e f = refl
same_append (suc n) [] [] u v e f = f
same_append (suc n) [] (j ∷ b) u v e f = let z : ◌≡◌ {A = List Item} [] (j ∷ take n b) = e in let o : ◌≡◌ {A = ℕ} 0 1 = cc in absurd (omega arith)
same_append (suc n) (i ∷ a) [] u v e f = let z : ◌≡◌ {A = List Item} (i ∷ take n a) [] = e in let o : ◌≡◌ {A = ℕ} 0 1 = cc in absurd (omega arith)
same_append (suc n) (i ∷ a) (j ∷ b) u v e f =
    let z : ◌≡◌ {A = List Item} (i ∷ take n a) (j ∷ take n b) = e in
    let h : i ≡ j = cc in
    let t : take n a ≡ take n b = cc in
    let r = same_append n a b u v t (same_less n (suc n) u v (omega arith) f) in
    (cc)

pub same_all : (u v : List Item) → ((n : ℕ) → SameFront n u v) → u ≡ v
same_all u v h =
    sym (take_all (length u + length v) u (omega arith)) ∙ h (length u + length v) ∙ take_all (length u + length v) v (omega arith)
