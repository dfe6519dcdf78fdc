-- A changed word of one of the four tables is a changed word of the key's set.
use Prim.Native.Nat.{ℕ, ◌+◌, ◌-◌, ◌*◌, ◌/◌, ◌%◌, ◌^◌, ◌<◌}
use mathlib.Core.Path.{◌≡◌, ap, ◌∙◌}
use mathlib.Core.List.{List}
use native.Mathlib.Omega.{arith}
use lib.Bits.{bit_and, bit_or}
use lib.ListN.{get_or, set}
use Rattle.std.proofs.Math.Pow.{pow-lt}
use Rattle.keysets.specs.KeySets.{Sets, four, tab, put_tab, word, put_word, mark, unmark, on, off}
use Rattle.keysets.proofs.KeySetLaws.{clear_turned}
use Rattle.laws.specs.Sizes.{set_keys}

-- from the tables σ to the tables τ some v, which P takes the word for, is put in its place
abbrev pub Changed : Sets → Sets → ℕ → ℕ → (ℕ → ℕ → Type 0) → Type 0
Changed σ τ k i P = (v : ℕ) × P (word σ k i) v × (word σ k i < 2 ^ 64) × (τ ≡ put_word σ k i v)

module _ (a b c d : List ℕ) (k i v : ℕ) (P : ℕ → ℕ → Type 0) where
  pub changed_0 : k / set_keys ≡ 0 → get_or a (k % set_keys * 8 + i) 0 < 2 ^ 64 → P (get_or a (k % set_keys * 8 + i) 0) v → Changed (four a b c d) (four (set a (k % set_keys * 8 + i) v) b c d) k i P
  unfolding put_word put_tab word tab
  changed_0 h f p = (v, rw h p, rw h f, rw h)

  pub changed_1 : k / set_keys ≡ 1 → get_or b (k % set_keys * 8 + i) 0 < 2 ^ 64 → P (get_or b (k % set_keys * 8 + i) 0) v → Changed (four a b c d) (four a (set b (k % set_keys * 8 + i) v) c d) k i P
  unfolding put_word put_tab word tab
  changed_1 h f p = (v, rw h p, rw h f, rw h)

  pub changed_2 : k / set_keys ≡ 2 → get_or c (k % set_keys * 8 + i) 0 < 2 ^ 64 → P (get_or c (k % set_keys * 8 + i) 0) v → Changed (four a b c d) (four a b (set c (k % set_keys * 8 + i) v) d) k i P
  unfolding put_word put_tab word tab
  changed_2 h f p = (v, rw h p, rw h f, rw h)

  pub changed_3 : k / set_keys ≡ 3 → get_or d (k % set_keys * 8 + i) 0 < 2 ^ 64 → P (get_or d (k % set_keys * 8 + i) 0) v → Changed (four a b c d) (four a b c (set d (k % set_keys * 8 + i) v)) k i P
  unfolding put_word put_tab word tab
  changed_3 h f p = (v, rw h p, rw h f, rw h)

module _ (σ τ : Sets) (k s : ℕ) where
  pub marked : Changed σ τ k (s / 64) (λ x r. r ≡ bit_or x (2 ^ (s % 64))) → τ ≡ mark σ k s
  unfolding mark on
  marked e = e.3 ∙ ap (put_word σ k (s / 64)) e.1

  -- the same of a key that equals k
  pub marked_at : (x v : ℕ) → τ ≡ put_word σ x (s / 64) v → word σ x (s / 64) < 2 ^ 64 → k ≡ x → v ≡ bit_or (word σ k (s / 64)) (2 ^ (s % 64)) → τ ≡ mark σ k s
  marked_at x v p f e q = marked (v, q, rw e f, rw e p)

  pub unmarked : Changed σ τ k (s / 64) (λ x r. r ≡ bit_and x (2 ^ 64 - 1 - 2 ^ (s % 64))) → τ ≡ unmark σ k s
  unfolding unmark off
  unmarked e =
      let b : s % 64 < 64 = omega arith in
      e.3 ∙ ap (put_word σ k (s / 64)) (e.1 ∙ clear_turned (word σ k (s / 64)) (2 ^ (s % 64)) e.2 (pow-lt b))

  pub unmarked_at : (x v : ℕ) → τ ≡ put_word σ x (s / 64) v → word σ x (s / 64) < 2 ^ 64 → k ≡ x → v ≡ bit_and (word σ k (s / 64)) (2 ^ 64 - 1 - 2 ^ (s % 64)) → τ ≡ unmark σ k s
  unmarked_at x v p f e q = unmarked (v, q, rw e f, rw e p)
