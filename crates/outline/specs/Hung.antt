-- Serves SCOPE.md, 'Paths and keys': what `outline::ups` answers and leaves.
use Rattle.std.specs.Prelude.{ℕ, ◌≤◌, ◌≡◌, List, [], ◌∷◌, ◌++◌, length, take, drop}
use Rattle.std.proofs.Common.{sym, ap, ◌∙◌, arith, take-append-drop, length-take-le}
use Rattle.paths.specs.Ups.{ups_f}

-- the ups of n items in front, and what lies beyond as it was
abbrev pub Hung : (ℕ → ℕ) → List ℕ → List ℕ → List ℕ → ℕ → Type 0
Hung ar items before after n =
    (n ≤ length items) × (take n after ≡ ups_f ar 0 (0 ∷ []) items) × (drop n after ≡ drop n before)

-- any two answers coincide, and so does what they leave: a lent slice keeps its length
pub hung_one : (ar : ℕ → ℕ) (items before a b : List ℕ) (m n : ℕ) → length items ≤ length before
    → length a ≡ length before → length b ≡ length before
    → Hung ar items before a m → Hung ar items before b n → (m ≡ n) × (a ≡ b)
hung_one ar items before a b m n w p q g h =
    (e, whole a m g.1 g.2 ∙ ap (λ (k : ℕ). us ++ drop k before) e ∙ sym (whole b n h.1 h.2))
  where
    us : List ℕ
    us = ups_f ar 0 (0 ∷ []) items

    counted : (c : List ℕ) (k : ℕ) → length c ≡ length before → k ≤ length items → take k c ≡ us → k ≡ length us
    counted c k r l t = sym (length-take-le k c (omega arith)) ∙ ap length t

    e : m ≡ n
    e = counted a m p g.0 g.1 ∙ sym (counted b n q h.0 h.1)

    whole : (c : List ℕ) (k : ℕ) → take k c ≡ us → drop k c ≡ drop k before → c ≡ us ++ drop k before
    whole c k t d = sym (take-append-drop k c) ∙ ap (λ (l : List ℕ). l ++ drop k c) t ∙ ap (λ (l : List ℕ). us ++ l) d
