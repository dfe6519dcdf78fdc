-- Laws of the first in rank of two refusals, and of a pair's.
use Prim.Native.Nat.{ℕ, ◌≤◌, ◌<◌}
use mathlib.Core.Path.{◌≡◌, refl, ◌∙◌}
use mathlib.Core.Logic.{◌⊎◌, inl, inr, ⊎_elim, ◌≢◌}
use mathlib.Core.Bool.{Bool, true, false}
use mathlib.Core.List.{List}
use native.Mathlib.Omega.{arith}
use native.Mathlib.Decide.{ℕ_discrete}
use lib.Dec.{leb}
use borrow.Author.Tests.{eq-eqb, ne_eqb, le-leb, lt-leb}
use Rattle.laws.specs.Choice.{pick}
use Rattle.refusals.specs.Refusals.{rank}
use Rattle.terms.specs.Terms.{sig_refusal, refusal}
use Rattle.definitions.specs.Ranks.{AppliesIn, part, before_all, rank_order}
use Rattle.definitions.specs.Conditions.{signature_rows, term_rows}
use Rattle.definitions.specs.FirstRefusal.{signature_first, refusal_first}
use Rattle.pairs.specs.Pairs.{first_of, pair_refusal, first_of_lem}

pub first_second : (a b : ℕ) → a ≡ 0 → b ≡ first_of a b
unfolding first_of
first_second a b h = rw (eq-eqb a 0 h)

pub first_only : (a b : ℕ) → a ≢ 0 → b ≡ 0 → a ≡ first_of a b
unfolding first_of
first_only a b n h = rw (ne_eqb a 0 n, eq-eqb b 0 h)

first_before : (a b : ℕ) → a ≢ 0 → b ≢ 0 → rank a ≤ rank b → a ≡ first_of a b
unfolding first_of
first_before a b n m l = rw (ne_eqb a 0 n, ne_eqb b 0 m, le-leb (rank a) (rank b) l)

first_after : (a b : ℕ) → a ≢ 0 → b ≢ 0 → rank b < rank a → b ≡ first_of a b
unfolding first_of
first_after a b n m l = rw (ne_eqb a 0 n, ne_eqb b 0 m, lt-leb (rank a) (rank b) l)

-- up to 16 the numbers tell
pub first_lower : (a b : ℕ) → (a ≤ 16) × (b ≤ 16) → a ≢ 0 → b ≢ 0 → b < a → b ≡ first_of a b
first_lower a b h n m l =
    let o = rank_order a b (omega (arith, n)) h.0 (omega (arith, m)) h.1 in
    let d : rank a ≤ rank b → ⊥ = λ z. omega (arith, o.0 z, l) in
    first_after a b n m (omega (arith, d))

pub first_same : (a b : ℕ) → (a ≤ 16) × (b ≤ 16) → a ≢ 0 → b ≢ 0 → a ≤ b → a ≡ first_of a b
first_same a b h n m l = first_before a b n m ((rank_order a b (omega (arith, n)) h.0 (omega (arith, m)) h.1).1 l)

pub first_of_both : (a b c d : ℕ) → a ≡ c → b ≡ d → first_of a b ≡ first_of c d
first_of_both a b c d e f = rw (e, f)

first_none : (a b : ℕ) → first_of a b ≡ 0 → (a ≡ 0) × (b ≡ 0)
unfolding first_of
first_none a b h = go (ℕ_discrete a 0) (ℕ_discrete b 0)
  where
    either : (c : Bool) → a ≢ 0 → b ≢ 0 → ◌≡◌ {A = ℕ} (pick c a b) 0 → (a ≡ 0) × (b ≡ 0)
    either true n m e = absurd (n e)
    either false n m e = absurd (m e)

    go : Dec (a ≡ 0) → Dec (b ≡ 0) → (a ≡ 0) × (b ≡ 0)
    go (yes p) d = (p, first_second a b p ∙ h)
    go (no n) (yes q) = absurd (n (first_only a b n q ∙ h))
    go (no n) (no m) = either (leb (rank a) (rank b)) n m (rw (ne_eqb a 0 n, ne_eqb b 0 m) at h)

-- a term's number is one of 5 to 8, or 0
pub term_few : (sig t : List ℕ) → refusal sig t ≤ 16
term_few sig t = go (refusal_first sig t).given
  where
    go : (refusal sig t ≡ 0) ⊎ AppliesIn (term_rows sig t) (refusal sig t) → refusal sig t ≤ 16
    go (inl z) = omega (arith, z)
    go (inr (inl p)) = omega (arith, p.0)
    go (inr (inr (inl p))) = omega (arith, p.0)
    go (inr (inr (inr (inl p)))) = omega (arith, p.0)
    go (inr (inr (inr (inr (inl p))))) = omega (arith, p.0)
    go (inr (inr (inr (inr (inr p))))) = absurd p

-- the signature's number, 2, ranks before those of the terms
terms_after : (sig s q : List ℕ) → first_of (refusal sig s) (refusal sig q) ≢ 0 → rank 2 ≤ rank (first_of (refusal sig s) (refusal sig q))
unfolding rank
terms_after sig s q n = ⊎_elim (λ z. absurd (n z)) (before_all 2 (part (term_rows sig s) (term_rows sig q)) refl (first_of (refusal sig s) (refusal sig q))) (first_of_lem (refusal_first sig s) (refusal_first sig q)).given

pub pair_signature : (sig s q : List ℕ) → sig_refusal sig ≢ 0 → sig_refusal sig ≡ pair_refusal sig s q
unfolding pair_refusal
pair_signature sig s q n = go (signature_first sig).given (ℕ_discrete (first_of (refusal sig s) (refusal sig q)) 0)
  where
    go : (sig_refusal sig ≡ 0) ⊎ AppliesIn (signature_rows sig) (sig_refusal sig) → Dec (first_of (refusal sig s) (refusal sig q) ≡ 0)
        → sig_refusal sig ≡ first_of (sig_refusal sig) (first_of (refusal sig s) (refusal sig q))
    go (inl z) d = absurd (n z)
    go (inr p) (yes z) = first_only (sig_refusal sig) (first_of (refusal sig s) (refusal sig q)) n z
    go (inr (inl p)) (no m) = first_before (sig_refusal sig) (first_of (refusal sig s) (refusal sig q)) n m (rw p.0 (terms_after sig s q m))
    go (inr (inr p)) (no m) = absurd p

pub pair_terms : (sig s q : List ℕ) → sig_refusal sig ≡ 0 → first_of (refusal sig s) (refusal sig q) ≡ pair_refusal sig s q
unfolding pair_refusal
pair_terms sig s q e = first_second (sig_refusal sig) (first_of (refusal sig s) (refusal sig q)) e

pub pair_none : (sig s q : List ℕ) → pair_refusal sig s q ≡ 0 → (sig_refusal sig ≡ 0) × (refusal sig s ≡ 0) × (refusal sig q ≡ 0)
unfolding pair_refusal
pair_none sig s q h = let a = first_none (sig_refusal sig) (first_of (refusal sig s) (refusal sig q)) h in let b = first_none (refusal sig s) (refusal sig q) a.1 in (a.0, b.0, b.1)
