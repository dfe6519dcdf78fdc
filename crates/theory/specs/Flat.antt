-- SCOPE.md, 'Term bytes', without the bytes: an item is a symbol or a variable, and a term is a flat list of items.
use Rattle.std.specs.Prelude.{◌≡◌, refl, List, [], ◌∷◌, ◌++◌, ℕ, zero, suc, ◌+◌}
use Rattle.std.proofs.Common.{zero-add, suc-add, add_assoc, arith}

pub data Item : Type 0 where
  sy : ℕ → Item
  va : ℕ → Item

module _ (ar : ℕ → ℕ) where
  -- l is k terms, one after another
  abbrev pub Terms : ℕ → List Item → Type 0
  Terms zero [] = Unit {0}
  Terms zero (i ∷ l) = ⊥
  Terms (suc k) [] = ⊥
  Terms (suc k) (va x ∷ l) = Terms k l
  Terms (suc k) (sy s ∷ l) = Terms (ar s + k) l

  pub terms_append : (j k : ℕ) (a b : List Item) → Terms j a → Terms k b → Terms (j + k) (a ++ b)
  terms_append zero k [] b p q = rw zero-add q
  terms_append zero k (i ∷ a) b p q = absurd p
  terms_append (suc j) k [] b p q = absurd p
  terms_append (suc j) k (va x ∷ a) b p q = rw suc-add (terms_append j k a b p q)
  terms_append (suc j) k (sy s ∷ a) b p q = rw suc-add (rw add_assoc at (terms_append (ar s + j) k a b p q))

  pub readable : (k : ℕ) (l m r r' : List Item) → Terms k l → Terms k m → l ++ r ≡ m ++ r' → (l ≡ m) × (r ≡ r')
  readable zero [] [] r r' p q e = (refl, e)
  readable zero [] (i ∷ m) r r' p q e = absurd q
  readable zero (i ∷ l) m r r' p q e = absurd p
  readable (suc k) [] m r r' p q e = absurd p
  readable (suc k) (i ∷ l) [] r r' p q e = absurd q
  readable (suc k) (va x ∷ l) (va y ∷ m) r r' p q e =
      let e' : l ++ r ≡ m ++ r' = cc in let h = readable k l m r r' p q e' in let u : l ≡ m = h.0 in let xy : x ≡ y = cc in ((cc), h.1)
  readable (suc k) (va x ∷ l) (sy t ∷ m) r r' p q e = let z : ◌≡◌ {A = ℕ} 0 1 = cc in absurd (omega arith)
  readable (suc k) (sy s ∷ l) (va y ∷ m) r r' p q e = let z : ◌≡◌ {A = ℕ} 0 1 = cc in absurd (omega arith)
  readable (suc k) (sy s ∷ l) (sy t ∷ m) r r' p q e =
      let st : t ≡ s = cc in
      let e' : l ++ r ≡ m ++ r' = cc in
      let q' : Terms (ar s + k) m = rw st at q in
      let h = readable (ar s + k) l m r r' p q' e' in let u : l ≡ m = h.0 in ((cc), h.1)
