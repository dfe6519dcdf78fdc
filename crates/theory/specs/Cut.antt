-- Serves SCOPE.md, 'Term bytes': the first k terms of a list, and the rest.
use Rattle.std.specs.Prelude.{◌≡◌, refl, List, [], ◌∷◌, ◌++◌, ℕ, zero, suc, ◌+◌, ◌<◌, length, drop}
use Rattle.std.proofs.Common.{zero-add, suc-add, add_assoc, arith}
use Rattle.theory.specs.Flat.{Item, sy, va, Terms}

module _ (ar : ℕ → ℕ) where
  abbrev pub first : ℕ → List Item → List Item
  first zero [] = []
  first zero (i ∷ l) = []
  first (suc k) [] = []
  first (suc k) (va x ∷ l) = va x ∷ first k l
  first (suc k) (sy s ∷ l) = sy s ∷ first (ar s + k) l

  abbrev pub rest : ℕ → List Item → List Item
  rest zero [] = []
  rest zero (i ∷ l) = i ∷ l
  rest (suc k) [] = []
  rest (suc k) (va x ∷ l) = rest k l
  rest (suc k) (sy s ∷ l) = rest (ar s + k) l

  pub first_rest : (k : ℕ) (l : List Item) → first k l ++ rest k l ≡ l
  first_rest zero [] = refl
  first_rest zero (i ∷ l) = refl
  first_rest (suc k) [] = refl
  first_rest (suc k) (va x ∷ l) = rw (first_rest k l)
  first_rest (suc k) (sy s ∷ l) = rw (first_rest (ar s + k) l)

  pub first_terms : (j k : ℕ) (l : List Item) → Terms ar (j + k) l → Terms ar j (first j l)
  first_terms zero k [] t = tt
  first_terms zero k (i ∷ l) t = tt
  first_terms (suc j) k [] t = rw suc-add at t
  first_terms (suc j) k (va x ∷ l) t = first_terms j k l (rw suc-add at t)
  first_terms (suc j) k (sy s ∷ l) t =
      let u : Terms ar (ar s + (j + k)) l = rw suc-add at t in
      first_terms (ar s + j) k l (rw (← add_assoc) at u)

  pub rest_terms : (j k : ℕ) (l : List Item) → Terms ar (j + k) l → Terms ar k (rest j l)
  rest_terms zero k [] t = rw zero-add at t
  rest_terms zero k (i ∷ l) t = rw zero-add at t
  rest_terms (suc j) k [] t = absurd (rw suc-add at t)
  rest_terms (suc j) k (va x ∷ l) t = rest_terms j k l (rw suc-add at t)
  rest_terms (suc j) k (sy s ∷ l) t =
      let u : Terms ar (ar s + (j + k)) l = rw suc-add at t in
      rest_terms (ar s + j) k l (rw (← add_assoc) at u)

  pub first_append : (k : ℕ) (a b : List Item) → Terms ar k a → first k (a ++ b) ≡ a
  first_append zero [] [] t = refl
  first_append zero [] (i ∷ b) t = refl
  first_append zero (i ∷ a) b t = absurd t
  first_append (suc k) [] b t = absurd t
  first_append (suc k) (va x ∷ a) b t = rw (first_append k a b t)
  first_append (suc k) (sy s ∷ a) b t = rw (first_append (ar s + k) a b t)

  -- at every item of k terms a term begins
  pub term_at : (k : ℕ) (l : List Item) (p : ℕ) → Terms ar k l → p < length l → (j : ℕ) × Terms ar (1 + j) (drop p l)
  term_at zero [] p t b = absurd (omega arith)
  term_at zero (i ∷ l) p t b = absurd t
  term_at (suc k) [] p t b = absurd t
  term_at (suc k) (va x ∷ l) zero t b = let e : 1 + k ≡ suc k = omega arith in (k, rw e t)
  term_at (suc k) (sy s ∷ l) zero t b = let e : 1 + k ≡ suc k = omega arith in (k, rw e t)
  term_at (suc k) (va x ∷ l) (suc p) t b = term_at k l p t (omega arith)
  term_at (suc k) (sy s ∷ l) (suc p) t b = term_at (ar s + k) l p t (omega arith)
