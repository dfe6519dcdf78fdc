-- The table that holds a key, its eight words there, and what is made of them.
use Prim.Native.Nat.{ℕ, zero, suc, ◌+◌, ◌*◌, ◌/◌, ◌%◌, ◌≤◌, ◌<◌}
use mathlib.Core.Path.{◌≡◌, refl, sym, ap, ◌∙◌}
use mathlib.Core.List.{List, [], ◌∷◌, reverse}
use mathlib.Core.Bool.{Bool, true, false, ◌&&◌}
use lib.ListN.{length, get_or, take, drop, replicate, length-drop}
use lib.Seq.{ext_get_or, get_or-take, get_or-drop, length-take-le, take_all}
use lib.Dec.{eqb}
use borrow.Author.Tests.{lt-ltb, le-ltb}
use lib.Bits.{bit_and}
use native.Mathlib.Omega.{arith}
use Rattle.std.specs.List.{list_all}
use Rattle.std.proofs.lemmas.List.{reverse-append}
use Rattle.std.proofs.lemmas.List.Folds.{list_all_more, list_all-append}
use Rattle.slots.specs.Slots.{words8}
use Rattle.slots.proofs.SlotLaws.{length_words8, get_or_words8}
pub use Rattle.slots.proofs.SlotLaws.{clear_turned}
use Rattle.laws.specs.Choice.{pick}
use Rattle.keysets.specs.KeySets.{Sets, four, tab, word, zeros, met}
use Rattle.laws.specs.Sizes.{key_limit, set_keys}

module _ (a b c d : List ℕ) where
  pub tab_0 : (q : ℕ) → q ≡ 0 → a ≡ tab (four a b c d) q
  unfolding tab
  tab_0 q h = rw h

  pub tab_1 : (q : ℕ) → q ≡ 1 → b ≡ tab (four a b c d) q
  unfolding tab
  tab_1 q h = rw h

  pub tab_2 : (q : ℕ) → q ≡ 2 → c ≡ tab (four a b c d) q
  unfolding tab
  tab_2 q h = rw h

  pub tab_3 : (q : ℕ) → 3 ≤ q → d ≡ tab (four a b c d) q
  unfolding tab
  tab_3 zero h = absurd (omega arith)
  tab_3 (suc zero) h = absurd (omega arith)
  tab_3 (suc (suc zero)) h = absurd (omega arith)
  tab_3 (suc (suc (suc q))) h = refl

-- the eight words of a key are a part of its table
pub words_part : (σ : Sets) (k n : ℕ) (t : List ℕ) → n ≡ 8 → k % set_keys * 8 + 8 ≤ length t → t ≡ tab σ (k / set_keys)
    → take n (drop (k % set_keys * 8) t) ≡ words8 (word σ k)
unfolding word
words_part σ k n t m h e = ext_get_or 0 part (words8 (word σ k)) (long ∙ m ∙ sym (length_words8 (word σ k))) (λ i l. at i (omega (arith, long, m)))
  where
    part : List ℕ
    part = take n (drop (k % set_keys * 8) t)

    long : length part ≡ n
    long = length-take-le n (drop (k % set_keys * 8) t) (omega (arith, length-drop (k % set_keys * 8) t))

    at : (i : ℕ) → i < 8 → get_or part i 0 ≡ get_or (words8 (word σ k)) i 0
    at i l = get_or-take n (drop (k % set_keys * 8) t) i 0 (omega arith) ∙ get_or-drop (k % set_keys * 8) t i 0
        ∙ ap (λ (r : List ℕ). get_or r (k % set_keys * 8 + i) 0) e ∙ sym (get_or_words8 (word σ k) i l)

-- the first n words are 0
zeros_first : (σ : Sets) (k n : ℕ) (ws : List ℕ) → n ≤ length ws → ((i : ℕ) → i < n → get_or ws i 0 ≡ word σ k i) → list_all (λ w. eqb w 0) (take n ws) ≡ zeros σ k n
unfolding zeros
zeros_first σ k zero ws l h = refl
zeros_first σ k (suc n) ws l h =
    let e : suc n ≡ n + 1 = omega arith in
    rw (e, list_all_more (λ w. eqb w 0) ws n 0 (omega arith), h n (omega arith), zeros_first σ k n ws (omega arith) (λ i m. h i (omega arith))) (last (eqb (word σ k n) 0) (zeros σ k n))
  where
    last : (x y : Bool) → (y && x) ≡ pick x y false
    last true true = refl
    last true false = refl
    last false true = refl
    last false false = refl

pub zeros_all : (σ : Sets) (k : ℕ) (ws : List ℕ) → ws ≡ words8 (word σ k) → list_all (λ w. eqb w 0) ws ≡ zeros σ k 8
zeros_all σ k ws e =
    let long : length ws ≡ 8 = ap length e ∙ length_words8 (word σ k) in
    ap (list_all (λ w. eqb w 0)) (sym (take_all 8 ws (omega arith)))
    ∙ zeros_first σ k 8 ws (omega arith) (λ i l. ap (λ (r : List ℕ). get_or r i 0) e ∙ get_or_words8 (word σ k) i l)

-- the other way round each passes where each does
pub all_reversed : (p : ℕ → Bool) (ws : List ℕ) → list_all p (reverse ws) ≡ list_all p ws
all_reversed p [] = refl
all_reversed p (w ∷ r) = ap (list_all p) (reverse-append (w ∷ []) r) ∙ list_all-append p (reverse r) (w ∷ []) ∙ rw (all_reversed p r) (turned (list_all p r) (p w))
  where
    turned : (x y : Bool) → (x && (y && true)) ≡ (y && x)
    turned true true = refl
    turned true false = refl
    turned false true = refl
    turned false false = refl

pub met_none : (σ : Sets) (k : ℕ) (ws : List ℕ) → key_limit ≤ k → replicate 8 0 ≡ met σ k ws
unfolding met
met_none σ k ws h = rw (le-ltb k key_limit h)

pub met_at : (σ : Sets) (k : ℕ) (own ws : List ℕ) → k < key_limit → own ≡ words8 (word σ k) → words8 (λ i. bit_and (get_or own i 0) (get_or ws i 0)) ≡ met σ k ws
unfolding met words8
met_at σ k own ws h e = rw (lt-ltb k key_limit h, e)
