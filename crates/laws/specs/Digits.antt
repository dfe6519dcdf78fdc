-- The binary digits of a number, and what the operations on words do to each. Serves SCOPE.md, 'Paths and keys': slot
-- s is digit s mod 64 of its word.
use Rattle.std.specs.Prelude.{ℕ, zero, suc, ◌+◌, ◌-◌, ◌*◌, ◌/◌, ◌%◌, ◌^◌, ◌<◌, min, max, ◌≡◌, refl}
use Rattle.std.proofs.Common.{ap, ◌∙◌, arith, mod-eq_of_lt, one-mul, pow-suc, div-one, one-add, pow-add, shr-shr}
use Rattle.std.proofs.Math.Decide.{ℕ_discrete, dec_lt}
use Rattle.std.proofs.Math.Nat.{div-eq_of_lt, mul-mod_left}
use Rattle.std.proofs.Math.Arith.{digits_mod}
use Rattle.std.specs.Int.Bits.{bit_and, bit_or, bit_xor, differ, and_step, or_step, xor_step}
use Rattle.std.proofs.lemmas.Nat.{and_shr, or_shr, xor_shr, shl-shr}
use Rattle.std.proofs.Math.Pow.{pow-lt}

-- digit i of w
abbrev pub bit : ℕ → ℕ → ℕ
bit w i = w / 2 ^ i % 2

pub one_shl : (k : ℕ) → k < 64 → (1 * 2 ^ k) % 2 ^ 64 ≡ 2 ^ k
one_shl k h = rw one-mul (mod-eq_of_lt (pow-lt h))

pub bit_and_lem : (a b i : ℕ) → bit (bit_and a b) i ≡ min (bit a i) (bit b i)
bit_and_lem a b i = rw (and_shr, and_step) (digits_mod _ (omega arith))

pub bit_or_lem : (a b i : ℕ) → bit (bit_or a b) i ≡ max (bit a i) (bit b i)
bit_or_lem a b i = rw (or_shr, or_step) (digits_mod _ (omega arith))

differ_lt : (a b : ℕ) → a < 2 → b < 2 → differ a b < 2
differ_lt zero zero h g = omega arith
differ_lt zero (suc b) h g = omega arith
differ_lt (suc zero) zero h g = omega arith
differ_lt (suc zero) (suc zero) h g = omega arith
differ_lt (suc zero) (suc (suc b)) h g = absurd (omega arith)
differ_lt (suc (suc a)) b h g = absurd (omega arith)

pub bit_xor_lem : (a b i : ℕ) → bit (bit_xor a b) i ≡ differ (bit a i) (bit b i)
bit_xor_lem a b i = rw (xor_shr, xor_step) (digits_mod _ (differ_lt (bit a i) (bit b i) (omega arith) (omega arith)))

-- a digit taken from itself, and nothing taken from a digit
pub differ_self : (a : ℕ) → a < 2 → differ a (min a 1) ≡ 0
differ_self zero h = refl
differ_self (suc zero) h = refl
differ_self (suc (suc a)) h = absurd (omega arith)

pub differ_zero : (a : ℕ) → a < 2 → differ a (min a 0) ≡ a
differ_zero zero h = refl
differ_zero (suc zero) h = refl
differ_zero (suc (suc a)) h = absurd (omega arith)

pub bit_pow_same : (s : ℕ) → bit (2 ^ s) s ≡ 1
bit_pow_same s = let e = rw one-mul at (shl-shr 1 s) in rw e

pub bit_pow_other : (s i : ℕ) → (i ≡ s → ⊥) → bit (2 ^ s) i ≡ 0
bit_pow_other s i h = go (dec_lt s i)
  where
    go : Dec (s < i) → bit (2 ^ s) i ≡ 0
    go (yes l) = rw (div-eq_of_lt (pow-lt l))
    go (no n) =
        let e : s ≡ suc (s - i - 1) + i = omega arith in
        let f : 2 ^ s ≡ 2 ^ suc (s - i - 1) * 2 ^ i = ap (λ (x : ℕ). 2 ^ x) e ∙ pow-add 2 (suc (s - i - 1)) i in
        rw (f, shl-shr, pow-suc) (mul-mod_left _ 2)

pub bit_suc : (w t : ℕ) → bit w (suc t) ≡ bit (w / 2) t
bit_suc w t = rw (← one-add t, ← shr-shr w 1 t)

pub bit_zero : (w : ℕ) → bit w 0 ≡ w % 2
bit_zero w = rw div-one

-- a number that is not 0 has a digit 1
pub some_bit : (k w : ℕ) → w < 2 ^ k → (w ≡ 0 → ⊥) → (i : ℕ) × (i < k) × (bit w i ≡ 1)
some_bit zero w h n = absurd (n (omega arith))
some_bit (suc k) w h n = go (ℕ_discrete (w % 2) 1) (some_bit k (w / 2))
  where
    go : Dec (w % 2 ≡ 1) → (w / 2 < 2 ^ k → (w / 2 ≡ 0 → ⊥) → (i : ℕ) × (i < k) × (bit (w / 2) i ≡ 1)) → (i : ℕ) × (i < suc k) × (bit w i ≡ 1)
    go (yes e) ih = (0, omega arith, bit_zero w ∙ e)
    go (no e) ih = let g = rw pow-suc at h in let r = ih (omega arith) (λ z. n (omega arith)) in (suc r.0, (let q = r.1 in omega arith), bit_suc w r.0 ∙ r.2)
