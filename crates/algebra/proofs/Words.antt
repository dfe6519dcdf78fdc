-- The eight words of two sets together, and of a set tested one by one.
use Prim.Native.Nat.{ℕ, zero, suc, ◌+◌, ◌<◌}
use mathlib.Core.Path.{◌≡◌, sym, ap, ◌∙◌}
use mathlib.Core.Bool.{◌&&◌}
use mathlib.Core.List.{List}
use lib.Bits.{bit_and, bit_or}
use lib.Dec.{eqb}
use lib.ListN.{length, get_or, take}
use lib.Seq.{take_all}
use borrow.Author.Tests.{ne_eqb}
use native.Mathlib.Omega.{arith}
use native.Mathlib.Decide.{ℕ_discrete}
use Rattle.std.proofs.lemmas.List.FromFn.{fill_by_all}
use Rattle.std.specs.List.{list_all}
use Rattle.std.proofs.lemmas.List.Folds.{list_all_more}
use Rattle.std.proofs.lemmas.Nat.{le_or_l}
use Rattle.slots.specs.Slots.{both, words8, none_in}
use Rattle.slots.proofs.SlotLaws.{length_both, get_or_both}

pub both_words : (us vs : List ℕ) → length us ≡ 8 → length vs ≡ 8 → both us vs ≡ words8 (λ i. bit_and (get_or us i 0) (get_or vs i 0))
unfolding words8
both_words us vs a b =
    let e : length us ≡ length vs = a ∙ sym b in
    fill_by_all (λ i. bit_and (get_or us i 0) (get_or vs i 0)) (both us vs) 8 0 (length_both us vs e ∙ a) (λ k l. get_or_both us vs k e)

-- two words together are 0 where both are
or_test : (a b : ℕ) → eqb (bit_or a b) 0 ≡ (eqb a 0 && eqb b 0)
or_test a b = go (ℕ_discrete a 0) (ℕ_discrete b 0)
  where
    go : Dec (a ≡ 0) → Dec (b ≡ 0) → eqb (bit_or a b) 0 ≡ (eqb a 0 && eqb b 0)
    go (yes e) (yes f) = rw (e, f)
    go (yes e) (no n) = rw (e, ne_eqb b 0 n)
    go (no n) d = rw (ne_eqb a 0 n) (ne_eqb (bit_or a b) 0 (λ q. n (omega (arith, q, le_or_l a b))))

-- the words up to number n together
unfoldable together : List ℕ → ℕ → ℕ
together ws zero = get_or ws 0 0
together ws (suc n) = bit_or (together ws n) (get_or ws (suc n) 0)

first_none : (ws : List ℕ) (n : ℕ) → n < length ws → list_all (λ w. eqb w 0) (take (n + 1) ws) ≡ eqb (together ws n) 0
unfolding together
first_none ws zero h = list_all_more (λ w. eqb w 0) ws 0 0 h
first_none ws (suc n) h =
    let e : suc n ≡ n + 1 = omega arith in
    rw (list_all_more (λ w. eqb w 0) ws (suc n) 0 h, or_test, e, first_none ws n (omega arith))

pub none_all : (ws : List ℕ) → length ws ≡ 8 → list_all (λ w. eqb w 0) ws ≡ none_in ws
unfolding together none_in
none_all ws h = ap (list_all (λ w. eqb w 0)) (sym (take_all 8 ws (omega arith))) ∙ first_none ws 7 (omega arith)
