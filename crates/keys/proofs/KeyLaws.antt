-- Laws of the bytes of a key, as the check meets them.
use Prim.Native.Nat.{ℕ, suc, ◌+◌, ◌-◌, ◌*◌, ◌%◌, ◌≤◌, ◌<◌}
use mathlib.Core.Path.{◌≡◌, refl, ap, ◌∙◌, subst}
use mathlib.Core.List.{List, [], ◌∷◌, ◌++◌}
use mathlib.Core.Bool.{Bool, true, false, ◌&&◌}
use Rattle.std.proofs.Math.Bool.{and_assoc}
use Rattle.std.specs.List.{list_all}
use Rattle.std.specs.declared.slice.ChunksExact.{ChunksExact}
use Rattle.std.specs.Slice.Iter.{chunks_exact_rest, chunks_exact_size, chunks_exact_steps}
use Rattle.std.proofs.lemmas.Iterator.{YieldsList}
use Rattle.std.proofs.lemmas.Iterator.Splits.{YieldsList-from_shown_while}
use native.Mathlib.Omega.{arith}
use lib.ListN.{length, get_or, drop}
use lib.Dec.{eqb, leb}
use mathlib.Core.Logic.{◌⊎◌}
use native.Mathlib.Decide.{ℕ_discrete}
use Rattle.std.proofs.Common.{⊎_elim}
use borrow.Author.Tests.{eq-eqb, ne_eqb, le-leb, lt-leb}
use Rattle.laws.specs.Choice.{pick}
use Rattle.keys.specs.Bytes.{step_good, end_good, steps_good}

-- the test of a step's three bytes
abbrev pub good_step : List ℕ → List ℕ → Bool
good_step sig s = step_good sig (get_or s 0 0 * 256 + get_or s 1 0) (get_or s 2 0)

-- the steps of a key, three bytes each, and the bytes after them
unfoldable pub threes : List ℕ → List (List ℕ)
threes [] = []
threes (a ∷ []) = []
threes (a ∷ b ∷ []) = []
threes (a ∷ b ∷ i ∷ r) = (a ∷ b ∷ i ∷ []) ∷ threes r

unfoldable pub after : List ℕ → List ℕ
after [] = []
after (a ∷ []) = a ∷ []
after (a ∷ b ∷ []) = a ∷ b ∷ []
after (a ∷ b ∷ i ∷ r) = after r

both_pick : (b x : Bool) → pick b x false ≡ (b && x)
both_pick true x = refl
both_pick false x = refl

pub steps_apart : (sig k : List ℕ) → steps_good sig k ≡ (list_all (good_step sig) (threes k) && steps_good sig (after k))
unfolding steps_good threes after
steps_apart sig [] = refl
steps_apart sig (a ∷ []) = refl
steps_apart sig (a ∷ b ∷ []) = refl
steps_apart sig (a ∷ b ∷ i ∷ r) = rw (both_pick, steps_apart sig r, and_assoc)

pub after_is : (k : List ℕ) → drop (length k - length k % 3) k ≡ after k
unfolding after
after_is [] = refl
after_is (a ∷ []) = refl
after_is (a ∷ b ∷ []) = refl
after_is (a ∷ b ∷ i ∷ r) =
    let e : suc (suc (suc (length r))) - suc (suc (suc (length r))) % 3 ≡ suc (suc (suc (length r - length r % 3))) = omega arith in
    rw e (after_is r)

-- what the walk over the steps yields
few : (k : List ℕ) → length k < 3 → length (threes k) ≡ 0
unfolding threes
few [] h = refl
few (a ∷ []) h = refl
few (a ∷ b ∷ []) h = refl
few (a ∷ b ∷ i ∷ r) h = absurd (omega arith)

more : (x r : List ℕ) → length x ≡ 3 → threes (x ++ r) ≡ x ∷ threes r
unfolding threes
more [] r h = absurd (omega arith)
more (a ∷ []) r h = absurd (omega arith)
more (a ∷ b ∷ []) r h = absurd (omega arith)
more (a ∷ b ∷ i ∷ []) r h = refl
more (a ∷ b ∷ i ∷ j ∷ x) r h = absurd (omega arith)

pub steps_walk : (s : ChunksExact ℕ) (k : List ℕ) → chunks_exact_size s ≡ 3 → chunks_exact_rest s ≡ k
    → YieldsList (chunks_exact_steps {A = ℕ}) (λ x. x.now) s (threes k)
steps_walk s k e r = subst (λ z. YieldsList (chunks_exact_steps {A = ℕ}) (λ x. x.now) s (threes z)) r
    (YieldsList-from_shown_while (chunks_exact_steps {A = ℕ}) (λ x. x.now) (λ t. threes (chunks_exact_rest t)) (λ t. chunks_exact_size t ≡ 3)
    (λ u t p h. let l = h.1.0 in few (chunks_exact_rest u) (omega (arith, l, p)))
    (λ u x t p h. (h.0 ∙ p, ap threes h.1.0 ∙ more x.now (chunks_exact_rest t) (h.1.1 ∙ p))) s e)

pub steps_end : (sig k : List ℕ) → length k ≡ 2 → steps_good sig k ≡ end_good sig (get_or k 0 0 * 256 + get_or k 1 0)
unfolding steps_good
steps_end sig [] h = absurd (omega arith)
steps_end sig (a ∷ []) h = absurd (omega arith)
steps_end sig (a ∷ b ∷ []) h = refl
steps_end sig (a ∷ b ∷ i ∷ r) h = absurd (omega arith)

pub steps_short : (sig k : List ℕ) → length k ≤ 2 → (length k ≡ 2 → ⊥) → steps_good sig k ≡ false
unfolding steps_good
steps_short sig [] h n = refl
steps_short sig (a ∷ []) h n = refl
steps_short sig (a ∷ b ∷ []) h n = absurd (n refl)
steps_short sig (a ∷ b ∷ i ∷ r) h n = absurd (omega arith)

-- a key by its end and its steps
after_few : (k : List ℕ) → length (after k) ≤ 2
unfolding after
after_few [] = omega arith
after_few (a ∷ []) = omega arith
after_few (a ∷ b ∷ []) = omega arith
after_few (a ∷ b ∷ i ∷ r) = after_few r

and_false : (b : Bool) → (b && false) ≡ false
and_false true = refl
and_false false = refl

pub bad_end : (sig k e : List ℕ) → e ≡ after k → (length e ≡ 2 → ⊥) → steps_good sig k ≡ false
bad_end sig k e f n =
    let m : length (after k) ≡ 2 → ⊥ = λ q. n (ap length f ∙ q) in
    rw (steps_apart sig k, steps_short sig (after k) (after_few k) m) (and_false (list_all (good_step sig) (threes k)))

pub bad_step : (sig k : List ℕ) → list_all (good_step sig) (threes k) ≡ false → steps_good sig k ≡ false
bad_step sig k e = rw (steps_apart sig k, e)

pub good_steps : (sig k e : List ℕ) → e ≡ after k → length e ≡ 2 → list_all (good_step sig) (threes k) ≡ true
    → steps_good sig k ≡ end_good sig (get_or e 0 0 * 256 + get_or e 1 0)
good_steps sig k e f l g = steps_apart sig k ∙ (rw (g, ← f) (steps_end sig e l))

-- an argument's number, from 1 on
pub inside : (i a : ℕ) (r : Bool) → (r ≡ true → (1 ≤ i) × (i ≤ a)) → (r ≡ false → (i < 1) ⊎ (a < i)) → r ≡ pick (eqb i 0) false (leb i a)
inside i a true t f = let h = t refl in simp (ne_eqb i 0 (λ e. let q = h.0 in omega (arith, q, e)), le-leb i a h.1)
inside i a false t f = ⊎_elim (λ h. simp (eq-eqb i 0 (omega (arith, h)))) (λ h. out (ℕ_discrete i 0) h) (f refl)
  where
    out : Dec (i ≡ 0) → a < i → false ≡ pick (eqb i 0) false (leb i a)
    out (yes e) h = simp (eq-eqb i 0 e)
    out (no n) h = simp (ne_eqb i 0 n, lt-leb i a h)
