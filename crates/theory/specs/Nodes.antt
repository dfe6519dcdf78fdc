-- Serves SCOPE.md, 'The relations themselves' and 'The solver's record': nodes, the places of a list of items where a
-- term begins.
use Rattle.std.specs.Prelude.{◌≡◌, refl, ◌≢◌, List, [], ◌∷◌, ◌++◌, ℕ, zero, suc, ◌+◌, ◌-◌, ◌≤◌, ◌<◌, length, get_or, drop}
use Rattle.std.proofs.Common.{ap, zero-add, suc-add, add_assoc, add-zero, add-one, arith, length-drop, drop-cons}
use Rattle.theory.specs.Flat.{Item, sy, va, Terms}
use Rattle.theory.specs.Subst.{vars, term_length}
use Rattle.theory.specs.Cut.{first, rest, first_terms, rest_terms, term_at}

module _ (ar : ℕ → ℕ) where
  first_zero : (l : List Item) → first ar 0 l ≡ []
  first_zero [] = refl
  first_zero (i ∷ l) = refl

  rest_zero : (l : List Item) → rest ar 0 l ≡ l
  rest_zero [] = refl
  rest_zero (i ∷ l) = refl

  pub first_add : (j k : ℕ) (l : List Item) → first ar (j + k) l ≡ first ar j l ++ first ar k (rest ar j l)
  first_add zero k [] = rw zero-add
  first_add zero k (i ∷ l) = rw zero-add
  first_add (suc j) zero [] = rw suc-add
  first_add (suc j) (suc k) [] = rw suc-add
  first_add (suc j) k (va x ∷ l) = rw (suc-add, first_add j k l)
  first_add (suc j) k (sy s ∷ l) = rw (suc-add, ← add_assoc, first_add (ar s + j) k l)

  -- P: the items
  module _ (P : List Item) where
    -- k terms from p on
    abbrev pub args : ℕ → ℕ → List Item
    args k p = first ar k (drop p P)

    abbrev pub val : ℕ → List Item
    val p = args 1 p

    pub args_none : (p : ℕ) → args 0 p ≡ []
    args_none p = first_zero (drop p P)

    -- r is where the term at p ends
    abbrev pub NextNode : ℕ → ℕ → Type 0
    NextNode p r = drop r P ≡ rest ar 1 (drop p P)

    pub args_more : (k p r : ℕ) → NextNode p r → args (k + 1) p ≡ val p ++ args k r
    args_more k p r e = let h : k + 1 ≡ 1 + k = omega arith in rw (h, e) (first_add 1 k (drop p P))

    pub val_sym : (p f : ℕ) → p < length P → get_or P p (sy 0) ≡ sy f → val p ≡ sy f ∷ args (ar f) (p + 1)
    val_sym p f b e = rw (drop-cons P p (sy 0) b, e, add-zero, add-one)

    pub val_var : (p x : ℕ) → p < length P → get_or P p (sy 0) ≡ va x → val p ≡ vars x
    val_var p x b e = rw (drop-cons P p (sy 0) b, e) (ap {B = List Item} (λ r. va x ∷ r) (first_zero (drop (suc p) P)))

    -- j terms begin at p, and more may follow
    pub record Begins (j p : ℕ) : Type 0 where
      pub after : ℕ
      pub terms : Terms ar (j + after) (drop p P)

    pub begins_length : (j p : ℕ) → Begins j p → p ≤ length P → j + p ≤ length P
    begins_length j p h b = omega (arith, term_length ar (j + h.after) (drop p P) h.terms, length-drop p P)

    pub begins_next : (j p r : ℕ) → Begins (j + 1) p → NextNode p r → Begins j r
    begins_next j p r h e = let k : j + 1 + h.after ≡ 1 + (j + h.after) = omega arith in
        record { after = h.after; terms = rw e (rest_terms ar 1 (j + h.after) (drop p P) (rw k at h.terms)) }

    pub begins_one : (j p : ℕ) → j ≢ 0 → Begins j p → Begins 1 p
    begins_one j p n h = let k : j + h.after ≡ 1 + (j - 1 + h.after) = omega (arith, n) in record { after = j - 1 + h.after; terms = rw k at h.terms }

    pub begins_args : (f p : ℕ) → p < length P → get_or P p (sy 0) ≡ sy f → Begins 1 p → Begins (ar f) (p + 1)
    begins_args f p b e h =
        let k : 1 + h.after ≡ suc h.after = omega arith in
        record { after = h.after; terms = rw add-one (rw (k, drop-cons P p (sy 0) b, e) at h.terms) }

    pub begins_at : (k p : ℕ) → Terms ar k P → p < length P → Begins 1 p
    begins_at k p t b = let r = term_at ar k P p t b in record { after = r.0; terms = r.1 }

    pub begins_term : (j p : ℕ) → Begins j p → Terms ar j (args j p)
    begins_term j p h = first_terms ar j h.after (drop p P) h.terms
