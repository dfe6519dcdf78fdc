-- SCOPE.md, 'Term bytes': 'The variables of a stored term and of a question are apart'. Occurs one written term the
-- stored variable v has the number v and the question variable v the number 32 + v (`Stands` of
-- variables/specs/Sides.antt says this of the code's three kinds of variable); `shift 32` takes that step for a
-- question's items.
use Rattle.std.specs.Prelude.{ℕ, ◌+◌, ◌-◌, ◌≤◌, ◌<◌, ◌≡◌, ◌↔◌, List, [], ◌∷◌}
use Rattle.std.proofs.Common.{arith, sym, subst, inl, inr}
use Rattle.terms.specs.Terms.{sig_refusal, refusal}
use Rattle.theory.specs.Flat.{Item, sy, va}
use Rattle.theory.specs.Subst.{Occurs}
use Rattle.theory.specs.Items.{items, shift}
use Rattle.theory.specs.CheckedItems.{fine}
use Rattle.definitions.specs.LinearFlat.{in_shift, shift_apart}
use Rattle.definitions.specs.ReadBack.{term_below}

-- a question's variable v is written 32 + v
pub written_question : (v : ℕ) (l : List Item) → Occurs v l → Occurs (32 + v) (shift 32 l)
written_question v [] h = absurd h
written_question v (sy s ∷ l) h = written_question v l h
written_question v (va y ∷ l) (inl e) = inl (rw e)
written_question v (va y ∷ l) (inr h) = inr (written_question v l h)

module _ (sig t q : List ℕ) (s : sig_refusal sig ≡ 0) (a : refusal sig t ≡ 0) (b : refusal sig q ≡ 0) where
  -- no number is written for a variable of the stored term and for one of the question
  pub variables_apart : (w : ℕ) → Occurs w (items t) → Occurs w (shift 32 (items q)) → ⊥
  variables_apart w i j = shift_apart 32 (items t) (items q) (term_below sig t (fine sig t s a)) w i j

  -- a variable of the stored term keeps its number, which is below 32
  pub stored_number : (w : ℕ) → Occurs w (items t) → w < 32
  stored_number w i = term_below sig t (fine sig t s a) w i

  -- a number from 32 to 63 is written for the question's variable that is 32 less
  pub question_number : (w : ℕ) → Occurs w (shift 32 (items q)) ↔ ((32 ≤ w) × (w < 64) × Occurs (w - 32) (items q))
  question_number w = (from, into)
    where
      from : Occurs w (shift 32 (items q)) → (32 ≤ w) × (w < 64) × Occurs (w - 32) (items q)
      from i =
          let r = in_shift 32 w (items q) i in
          let n = term_below sig q (fine sig q s b) r.0 r.2 in
          let e : w - 32 ≡ r.0 = omega (arith, r.1) in
          (omega (arith, r.1), omega (arith, r.1, n), rw e r.2)

      into : (32 ≤ w) × (w < 64) × Occurs (w - 32) (items q) → Occurs w (shift 32 (items q))
      into h = let e : w ≡ 32 + (w - 32) = omega (arith, h.0) in subst (λ (z : ℕ). Occurs z (shift 32 (items q))) (sym e) (written_question (w - 32) (items q) h.2)
