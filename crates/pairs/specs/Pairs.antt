-- Serves SCOPE.md, 'The relations themselves' (unifiable) and 'Numbers of refusal' (2, 5 to 8): what is answered of one
-- stored term and one question.
use Rattle.std.specs.Prelude.{ℕ, ◌≤◌, ◌≡◌, refl, ◌⊎◌, List, eqb, leb, Bool, true, false, Result, Ok, Err}
use Rattle.std.proofs.Common.{sym, ap, ◌∙◌, inl, inr, ⊎_elim, arith, eq-eqb, ne_eqb, le-leb}
use Rattle.std.proofs.Math.Decide.{ℕ_discrete, dec_le}
use Rattle.std.proofs.lemmas.Bool.{lt-leb}
use Rattle.laws.specs.Choice.{pick}
use Rattle.terms.specs.Terms.{sig_refusal, refusal}
use Rattle.refusals.specs.declared.Refusal.{Refusal}
use Rattle.refusals.specs.Refusals.{number_of, rank}
use Rattle.refusals.specs.Numbers.{number_some, number_one}
use Rattle.theory.specs.Relations.{Unifiable as Unifies}
use Rattle.definitions.specs.Ranks.{First, Rows, part, AppliesIn}
use Rattle.definitions.specs.Conditions.{signature_rows, term_rows}
use Rattle.definitions.specs.FirstRefusal.{signature_first, refusal_first}

-- of two numbers of refusal the first in rank, where 0 is none
unfoldable pub first_of : ℕ → ℕ → ℕ
first_of a b = pick (eqb a 0) b (pick (eqb b 0) a (pick (leb (rank a) (rank b)) a b))

-- 'of the refusals that apply, the first in rank is given': over the signature and both terms
unfoldable pub pair_refusal : List ℕ → List ℕ → List ℕ → ℕ
pair_refusal sig s q = first_of (sig_refusal sig) (first_of (refusal sig s) (refusal sig q))

-- the refusals of a pair: the signature's, and those of both terms (Conditions of definitions)
abbrev pub pair_rows : List ℕ → List ℕ → List ℕ → Rows
pair_rows sig s q = part (signature_rows sig) (part (term_rows sig s) (term_rows sig q))

-- where the first of some is a and the first of others is b, the first of all is the first of the two
pub first_of_lem : {P Q : ℕ → Type 0} {a b : ℕ} → First P a → First Q b → First (λ m. P m ⊎ Q m) (first_of a b)
unfolding first_of
first_of_lem {P = P} {Q = Q} {a = a} {b = b} f g = go (ℕ_discrete a 0) (ℕ_discrete b 0) (dec_le (rank a) (rank b))
  where
    go : Dec (a ≡ 0) → Dec (b ≡ 0) → Dec (rank a ≤ rank b) → First (λ m. P m ⊎ Q m) (first_of a b)
    go (yes z) d l = rw (eq-eqb a 0 z) (record {
      given = ⊎_elim (λ e. inl e) (λ p. inr (inr p)) g.given;
      first = λ m. ⊎_elim (λ p. absurd (omega (arith, (f.first m p).0, z))) (g.first m);
    })
    go (no n) (yes z) l = rw (ne_eqb a 0 n, eq-eqb b 0 z) (record {
      given = ⊎_elim (λ e. inl e) (λ p. inr (inl p)) f.given;
      first = λ m. ⊎_elim (f.first m) (λ p. absurd (omega (arith, (g.first m p).0, z)));
    })
    go (no n) (no k) (yes l) = rw (ne_eqb a 0 n, ne_eqb b 0 k, le-leb (rank a) (rank b) l) (record {
      given = ⊎_elim (λ e. inl e) (λ p. inr (inl p)) f.given;
      first = λ m. ⊎_elim (f.first m) (λ p. (omega (arith, n), omega (arith, l, (g.first m p).1)));
    })
    go (no n) (no k) (no l) = rw (ne_eqb a 0 n, ne_eqb b 0 k, lt-leb (rank a) (rank b) (omega (arith, l))) (record {
      given = ⊎_elim (λ e. inl e) (λ p. inr (inr p)) g.given;
      first = λ m. ⊎_elim (λ p. (omega (arith, k), omega (arith, l, (f.first m p).1))) (g.first m);
    })

-- the number of a pair's refusal is the first in rank that applies, and 0 where none does
pub pair_first : (sig s q : List ℕ) → First (AppliesIn (pair_rows sig s q)) (pair_refusal sig s q)
unfolding pair_refusal
pair_first sig s q = first_of_lem (signature_first sig) (first_of_lem (refusal_first sig s) (refusal_first sig q))

-- what is answered: whether the two unify, or why that is refused
abbrev pub Answers : List ℕ → List ℕ → List ℕ → Result Bool Refusal → Type 0
Answers sig s q (Ok true) = (pair_refusal sig s q ≡ 0) × Unifies sig s q
Answers sig s q (Ok false) = (pair_refusal sig s q ≡ 0) × (Unifies sig s q → ⊥)
Answers sig s q (Err why) = number_of why ≡ pair_refusal sig s q

-- two answers that unifiable may give are one
pub answers_one : (sig s q : List ℕ) (a b : Result Bool Refusal) → Answers sig s q a → Answers sig s q b → a ≡ b
answers_one sig s q (Ok true) (Ok true) h k = refl
answers_one sig s q (Ok true) (Ok false) h k = absurd (k.1 h.1)
answers_one sig s q (Ok true) (Err v) h k = absurd (number_some v (k ∙ h.0))
answers_one sig s q (Ok false) (Ok true) h k = absurd (h.1 k.1)
answers_one sig s q (Ok false) (Ok false) h k = refl
answers_one sig s q (Ok false) (Err v) h k = absurd (number_some v (k ∙ h.0))
answers_one sig s q (Err w) (Ok true) h k = absurd (number_some w (h ∙ k.0))
answers_one sig s q (Err w) (Ok false) h k = absurd (number_some w (h ∙ k.0))
answers_one sig s q (Err w) (Err v) h k = ap (λ z. Err z) (number_one w v (h ∙ sym k))
