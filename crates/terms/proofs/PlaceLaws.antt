-- Two arguments never stand at one place (specs/Places.antt). These laws stand here and not beside the definition so that
-- a wrong definition is refused by them (must-fail/definition_place_of_equal.edit).
use Rattle.std.specs.Prelude.{ℕ, zero, suc, ◌+◌, ◌-◌, ◌*◌, ◌<◌, ◌≡◌, List, [], ◌∷◌, drop}
use Rattle.std.proofs.Common.{ap, arith, eq-eqb, ne_eqb}
use Rattle.std.proofs.Math.Decide.{ℕ_discrete, dec_lt}
use Rattle.terms.specs.Terms.{arity, span, refusal, arg_refusal, arg_start}
use Rattle.terms.specs.Places.{part_place}

-- one term more takes more bytes
longer : (sig t : List ℕ) (k : ℕ) → span sig t k < span sig t (suc k)
unfolding span
longer sig [] k = omega arith
longer sig (x ∷ []) k = omega arith
longer sig (h ∷ l ∷ r) zero = omega arith
longer sig (h ∷ l ∷ r) (suc k) =
    let e : arity sig (h * 256 + l) + suc k ≡ suc (arity sig (h * 256 + l) + k) = omega arith in
    rw e (omega (arith, longer sig r (arity sig (h * 256 + l) + k)))

ascends : (sig t : List ℕ) (k d : ℕ) → span sig t k < span sig t (suc (k + d))
ascends sig t k zero = let e : k + 0 ≡ k = omega arith in rw e (longer sig t k)
ascends sig t k (suc d) = let e : k + suc d ≡ suc (k + d) = omega arith in
    rw e (omega (arith, ascends sig t k d, longer sig t (suc (k + d))))

-- argument 0 is refused
some : (sig t : List ℕ) (i : ℕ) → arg_refusal sig t i ≡ 0 → 0 < i
unfolding arg_refusal
some sig t zero h = absurd (go (ℕ_discrete (refusal sig t) 0))
  where
    go : Dec (refusal sig t ≡ 0) → ⊥
    go (yes e) = let g = rw (eq-eqb _ _ e) at h in omega arith
    go (no n) = n (rw (ne_eqb _ _ n) at h)
some sig t (suc i) h = omega arith

starts : (sig t : List ℕ) (i : ℕ) → arg_refusal sig t i ≡ 0 → arg_start sig t i ≡ 2 + span sig (drop 2 t) (i - 1)
unfolding arg_start
starts sig t i h = rw (eq-eqb _ _ h)

-- a later argument starts later, though its bytes be the same
pub places_ascend : (sig t : List ℕ) (i j : ℕ) → arg_refusal sig t i ≡ 0 → arg_refusal sig t j ≡ 0 → i < j
    → arg_start sig t i < arg_start sig t j
places_ascend sig t i j h g l =
    let e : suc (i - 1 + (j - i - 1)) ≡ j - 1 = omega (arith, some sig t i h) in
    let a = rw e at (ascends sig (drop 2 t) (i - 1) (j - i - 1)) in
    omega (arith, a, starts sig t i h, starts sig t j g)

-- so a part stands where one argument does: of f(a,a) argument 1 is never answered for argument 2
pub place_one : (sig t : List ℕ) (i j : ℕ) (place : ℕ × ℕ) → arg_refusal sig t i ≡ 0 → arg_refusal sig t j ≡ 0
    → part_place place (arg_start sig t i) ≡ part_place place (arg_start sig t j) → i ≡ j
place_one sig t i j place h g e =
    let n : arg_start sig t i + place.1 ≡ arg_start sig t j + place.1 = ap (λ (q : ℕ × ℕ). q.1) e in
    go (ℕ_discrete i j) n
  where
    go : Dec (i ≡ j) → arg_start sig t i + place.1 ≡ arg_start sig t j + place.1 → i ≡ j
    go (yes z) n = z
    go (no z) n = absurd (side (dec_lt i j) n)
      where
        side : Dec (i < j) → arg_start sig t i + place.1 ≡ arg_start sig t j + place.1 → ⊥
        side (yes l) n = omega (arith, n, places_ascend sig t i j h g l)
        side (no l) n = omega (arith, n, places_ascend sig t j i g h (omega (arith, l, z)))
