-- The search for the next slot: trailing zeros in one word, and how the search goes from word to word.
use Prim.Native.Nat.{ℕ, zero, suc, ◌+◌, ◌-◌, ◌*◌, ◌/◌, ◌%◌, ◌^◌, ◌≤◌, ◌<◌}
use mathlib.Core.Path.{◌≡◌, refl, sym, ap, ◌∙◌}
use mathlib.Core.List.{List}
use lib.Count.{count_trailing_zeros, under}
use lib.ListN.{get_or}
use lib.Pow.{pow_mono, pow_pos, shr-shr}
use native.Mathlib.Nat.{lt_of_lt_of_le, lt_of_le_of_lt, div-le_self, div-eq_of_lt, pow-suc}
use native.Mathlib.Decide.{dec_lt}
use native.Mathlib.Omega.{arith}
use Rattle.laws.specs.Digits.{bit, bit_suc, bit_zero}
use Rattle.slots.specs.Slots.{has, Next}
use Rattle.laws.specs.Sizes.{slot_count}

here_under : (k w d : ℕ) → (count_trailing_zeros k (w / 2) < k → bit (w / 2) (count_trailing_zeros k (w / 2)) ≡ 1) → w % 2 ≡ d
    → under d (count_trailing_zeros k (w / 2)) < suc k → bit w (under d (count_trailing_zeros k (w / 2))) ≡ 1
here_under k w zero ih e l = rw bit_suc (ih (omega (arith, l)))
here_under k w (suc d) ih e l = rw bit_zero (omega (arith, e))

below_under : (k w d i : ℕ) → ((j : ℕ) → j < count_trailing_zeros k (w / 2) → bit (w / 2) j ≡ 0) → w % 2 ≡ d
    → i < under d (count_trailing_zeros k (w / 2)) → bit w i ≡ 0
below_under k w zero zero ih e l = rw bit_zero e
below_under k w zero (suc i) ih e l = rw bit_suc (ih i (omega (arith, l)))
below_under k w (suc d) i ih e l = absurd (omega arith)

-- the trailing zeros give the least member
pub trailing_here : (k w : ℕ) → count_trailing_zeros k w < k → bit w (count_trailing_zeros k w) ≡ 1
unfolding count_trailing_zeros
trailing_here zero w h = absurd (omega arith)
trailing_here (suc k) w h = here_under k w (w % 2) (trailing_here k (w / 2)) refl h

-- and there is none below it
pub trailing_below : (k w i : ℕ) → i < count_trailing_zeros k w → bit w i ≡ 0
unfolding count_trailing_zeros
trailing_below zero w i h = absurd (omega arith)
trailing_below (suc k) w i h = below_under k w (w % 2) i (trailing_below k (w / 2)) refl h

-- a word that is not 0 has a digit
pub trailing_lt : (k w : ℕ) → w < 2 ^ k → (w ≡ 0 → ⊥) → count_trailing_zeros k w < k
unfolding count_trailing_zeros
trailing_lt zero w h n = absurd (n (omega arith))
trailing_lt (suc k) w h n = go (w % 2) refl (trailing_lt k (w / 2))
  where
    half : w % 2 ≡ 0 → w / 2 ≡ 0 → ⊥
    half e z = n (omega arith)

    go : (d : ℕ) → w % 2 ≡ d → (w / 2 < 2 ^ k → (w / 2 ≡ 0 → ⊥) → count_trailing_zeros k (w / 2) < k) → under d (count_trailing_zeros k (w / 2)) < suc k
    go zero e ih = let g = rw pow-suc at h in let l = ih (omega arith) (half e) in omega arith
    go (suc d) e ih = omega arith

bit_from : (w s j : ℕ) → bit w (s + j) ≡ bit (w / 2 ^ s) j
bit_from w s j = rw (shr-shr w s j)

bit_beyond : (w i : ℕ) → w < 2 ^ 64 → 64 ≤ i → bit w i ≡ 0
bit_beyond w i h l = rw (div-eq_of_lt (lt_of_lt_of_le h (pow_mono l)))

-- one word of a search for the next slot, from digit s on
module _ (ws : List ℕ) (i s : ℕ) (h : s < 64) (fits : get_or ws i 0 < 2 ^ 64) where
  at_digit : (j : ℕ) → s + j < 64 → has ws (i * 64 + s + j) ≡ bit (get_or ws i 0 / 2 ^ s) j
  unfolding has
  at_digit j l =
      let a : (i * 64 + s + j) / 64 ≡ i = omega arith in
      let b : (i * 64 + s + j) % 64 ≡ s + j = omega arith in
      rw (a, b) (bit_from (get_or ws i 0) s j)

  pub next_inside : (get_or ws i 0 / 2 ^ s ≡ 0 → ⊥) → s + count_trailing_zeros 64 (get_or ws i 0 / 2 ^ s) < 64
  next_inside n = go (dec_lt (s + count_trailing_zeros 64 x) 64)
    where
      x : ℕ
      x = get_or ws i 0 / 2 ^ s

      small : x < 2 ^ 64
      small = lt_of_le_of_lt (div-le_self (get_or ws i 0) (2 ^ s)) fits

      one : bit x (count_trailing_zeros 64 x) ≡ 1
      one = trailing_here 64 x (trailing_lt 64 x small n)

      go : Dec (s + count_trailing_zeros 64 x < 64) → s + count_trailing_zeros 64 x < 64
      go (yes l) = l
      go (no l) =
          let z = sym (bit_from (get_or ws i 0) s (count_trailing_zeros 64 x)) ∙ bit_beyond (get_or ws i 0) (s + count_trailing_zeros 64 x) fits (omega arith) in
          absurd (omega (arith, one, z))

  pub next_member : (n : get_or ws i 0 / 2 ^ s ≡ 0 → ⊥) → has ws (i * 64 + s + count_trailing_zeros 64 (get_or ws i 0 / 2 ^ s)) ≡ 1
  next_member n =
      let small = lt_of_le_of_lt (div-le_self (get_or ws i 0) (2 ^ s)) fits in
      at_digit (count_trailing_zeros 64 (get_or ws i 0 / 2 ^ s)) (next_inside n) ∙ trailing_here 64 (get_or ws i 0 / 2 ^ s) (trailing_lt 64 (get_or ws i 0 / 2 ^ s) small n)

  pub next_below : (n : get_or ws i 0 / 2 ^ s ≡ 0 → ⊥) (x : ℕ) → i * 64 + s ≤ x → x < i * 64 + s + count_trailing_zeros 64 (get_or ws i 0 / 2 ^ s) → has ws x ≡ 0
  next_below n x a b =
      let e : x ≡ i * 64 + s + (x - (i * 64 + s)) = omega arith in
      let l = next_inside n in
      rw e (at_digit (x - (i * 64 + s)) (omega arith) ∙ trailing_below 64 (get_or ws i 0 / 2 ^ s) (x - (i * 64 + s)) (omega arith))

  pub next_none : get_or ws i 0 / 2 ^ s ≡ 0 → (x : ℕ) → i * 64 + s ≤ x → x < i * 64 + 64 → has ws x ≡ 0
  next_none z x a b =
      let e : x ≡ i * 64 + s + (x - (i * 64 + s)) = omega arith in
      rw e (at_digit (x - (i * 64 + s)) (omega arith) ∙ ap (λ (v : ℕ). bit v (x - (i * 64 + s))) z ∙ zero_bit (x - (i * 64 + s)))
    where
      zero_bit : (j : ℕ) → bit 0 j ≡ 0
      zero_bit j = rw (div-eq_of_lt (pow_pos j))

-- a turn that finds the slot, and a turn that goes on to the next word
module _ (ws : List ℕ) (from i s : ℕ) (l : i < 8) (h : s < 64) (fits : get_or ws i 0 < 2 ^ 64) (a : from ≤ i * 64 + s)
    (passed : (x : ℕ) → from ≤ x → x < i * 64 + s → has ws x ≡ 0) where
  pub next_found : (get_or ws i 0 / 2 ^ s ≡ 0 → ⊥)
      → (i * 64 + s + count_trailing_zeros 64 (get_or ws i 0 / 2 ^ s) < slot_count) × Next ws from (i * 64 + s + count_trailing_zeros 64 (get_or ws i 0 / 2 ^ s))
  next_found n =
      let b = next_inside ws i s h fits n in (
        omega (arith, b),
        record {
          above = λ q. omega arith;
          most = omega (arith, b);
          member = λ q. next_member ws i s h fits n;
          passed = λ x p q. go x p q (dec_lt x (i * 64 + s));
        },
      )
    where
      go : (x : ℕ) → from ≤ x → x < i * 64 + s + count_trailing_zeros 64 (get_or ws i 0 / 2 ^ s) → Dec (x < i * 64 + s) → has ws x ≡ 0
      go x p q (yes d) = passed x p d
      go x p q (no d) = next_below ws i s h fits n x (omega arith) q

  pub next_pass : get_or ws i 0 / 2 ^ s ≡ 0 → (x : ℕ) → from ≤ x → x < (i + 1) * 64 + 0 → has ws x ≡ 0
  next_pass n x p q = go (dec_lt x (i * 64 + s))
    where
      go : Dec (x < i * 64 + s) → has ws x ≡ 0
      go (yes d) = passed x p d
      go (no d) = next_none ws i s h fits n x (omega arith) (omega arith)

-- where every word was passed
pub next_over : (ws : List ℕ) (from i s : ℕ) → 8 ≤ i → ((x : ℕ) → from ≤ x → x < i * 64 + s → has ws x ≡ 0) → Next ws from slot_count
next_over ws from i s h passed = record {
  above = λ q. absurd (omega arith);
  most = omega arith;
  member = λ q. absurd (omega arith);
  passed = λ x a b. passed x a (omega arith);
}
