-- Serves SCOPE.md, 'Store': the table of links as an opening leaves it: every key free, in order, and every other
-- chain empty.
use Rattle.std.specs.Prelude.{ℕ, ◌+◌, ◌≤◌, ◌<◌, ◌≡◌, List, length, get_or}
use Rattle.std.proofs.Common.{sym, ap, ◌∙◌, arith, ext_get_or}
use Rattle.std.proofs.Math.Decide.{ℕ_discrete, dec_lt}
use Rattle.laws.specs.Sizes.{free_head, last_key, link_length}

-- the keys below n lead to the next one; the rest is as it was
pub record FreeChain (l m : List ℕ) (n : ℕ) : Type 0 where
  pub same : length m ≡ length l
  pub next : (k : ℕ) → k < n → get_or m k 0 ≡ k + 2
  pub rest : (k : ℕ) → n ≤ k → get_or m k 0 ≡ get_or l k 0

-- the links from the last key's to below n are 0; the rest is as it was
pub record NoHeads (l m : List ℕ) (n : ℕ) : Type 0 where
  pub same : length m ≡ length l
  pub ended : (k : ℕ) → last_key ≤ k → k < n → get_or m k 0 ≡ 0
  pub below : (k : ℕ) → k < last_key → get_or m k 0 ≡ get_or l k 0
  pub rest : (k : ℕ) → n ≤ k → get_or m k 0 ≡ get_or l k 0

pub record Freed (l m : List ℕ) : Type 0 where
  pub same : length m ≡ length l
  pub next : (k : ℕ) → k < last_key → get_or m k 0 ≡ k + 2
  pub ended : (k : ℕ) → last_key ≤ k → k < free_head → get_or m k 0 ≡ 0
  pub first : get_or m free_head 0 ≡ 1
  pub rest : (k : ℕ) → link_length ≤ k → get_or m k 0 ≡ get_or l k 0

-- an opening leaves one table of links
pub freed_one : (l m n : List ℕ) → Freed l m → Freed l n → m ≡ n
freed_one l m n f g = ext_get_or 0 m n (f.same ∙ sym g.same)
    (λ k h. go k (dec_lt k last_key) (dec_lt k free_head) (ℕ_discrete k free_head))
  where
    go : (k : ℕ) → Dec (k < last_key) → Dec (k < free_head) → Dec (k ≡ free_head) → get_or m k 0 ≡ get_or n k 0
    go k (yes a) b c = f.next k a ∙ sym (g.next k a)
    go k (no a) (yes b) c = f.ended k (omega arith) b ∙ sym (g.ended k (omega arith) b)
    go k (no a) (no b) (yes c) = ap (λ (j : ℕ). get_or m j 0) c ∙ f.first ∙ sym (ap (λ (j : ℕ). get_or n j 0) c ∙ g.first)
    go k (no a) (no b) (no c) = f.rest k (omega arith) ∙ sym (g.rest k (omega arith))
