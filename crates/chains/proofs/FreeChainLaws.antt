-- The links as each step of freeing every key leaves them.
use Prim.Native.Nat.{ℕ, ◌+◌, ◌-◌, ◌≤◌, ◌<◌}
use mathlib.Core.Path.{◌≡◌, refl, ap, ◌∙◌}
use mathlib.Core.List.{List, ◌++◌}
use native.Mathlib.Decide.{ℕ_discrete}
use native.Mathlib.Omega.{arith}
use lib.ListN.{length, get_or, set, take, drop, replicate, length-set, length-take, length-drop, length-replicate, get_or-append}
use lib.Seq.{get_or-set_same, get_or-set_other, get_or-take, get_or-drop, get_or-append_right, length-take-le}
use borrow.Rule.Slice.PartMut.{mid_of, post_of, put_mid, same_len_mid}
use Rattle.std.proofs.lemmas.List.{get_or-replicate}
use Rattle.chains.specs.FreeChain.{FreeChain, NoHeads, Freed}
use Rattle.laws.specs.Sizes.{free_head, last_key, link_length}

pub chain_start : (l : List ℕ) → FreeChain l l 0
chain_start l = record { same = refl; next = λ k h. absurd (omega arith); rest = λ k h. refl }

pub chain_turn : (l m : List ℕ) (n v : ℕ) → n < length m → v ≡ n + 2 → FreeChain l m n → FreeChain l (set m n v) (n + 1)
chain_turn l m n v h e p = record {
  same = length-set m n v ∙ p.same;
  next = λ k a. go k a (ℕ_discrete k n);
  rest = λ k a. get_or-set_other m n k v 0 (λ q. omega (arith, q)) ∙ p.rest k (omega arith);
}
  where
    go : (k : ℕ) → k < n + 1 → Dec (k ≡ n) → get_or (set m n v) k 0 ≡ k + 2
    go k a (yes q) = rw q (get_or-set_same m n v 0 h ∙ e)
    go k a (no q) = get_or-set_other m n k v 0 q ∙ p.next k (omega arith)

-- n links from a on made 0
module _ (a n : ℕ) (m r : List ℕ) (h : a + n ≤ length m) (e : r ≡ replicate n 0) where
  front : length (take a m) ≡ a
  front = length-take-le a m (omega arith)

  size : length r ≡ n
  size = rw e (length-replicate n 0)

  zero_before : (k : ℕ) → k < a → get_or (put_mid a n m r) k 0 ≡ get_or m k 0
  zero_before k l = get_or-append (take a m) _ 0 k (omega (arith, front)) ∙ get_or-take a m k 0 l

  from : (k : ℕ) → a ≤ k → get_or (put_mid a n m r) k 0 ≡ get_or (r ++ post_of a n m) (k - a) 0
  from k l = get_or-append_right (take a m) _ k 0 (omega (arith, front)) ∙ ap (λ (z : ℕ). get_or (r ++ post_of a n m) (k - z) 0) front

  zero_in : (k : ℕ) → a ≤ k → k < a + n → get_or (put_mid a n m r) k 0 ≡ 0
  zero_in k l u = from k l ∙ get_or-append r _ 0 (k - a) (omega (arith, size))
      ∙ ap (λ (z : List ℕ). get_or z (k - a) 0) e ∙ get_or-replicate n (k - a) 0 0 (omega arith)

  zero_after : (k : ℕ) → a + n ≤ k → get_or (put_mid a n m r) k 0 ≡ get_or m k 0
  zero_after k l =
      let q : a + (n + (k - a - n)) ≡ k = omega arith in
      from k (omega arith) ∙ get_or-append_right r _ (k - a) 0 (omega (arith, size)) ∙ ap (λ (z : ℕ). get_or (post_of a n m) (k - a - z) 0) size
      ∙ get_or-drop n (drop a m) (k - a - n) 0 ∙ get_or-drop a m (n + (k - a - n)) 0 ∙ ap (λ (z : ℕ). get_or m z 0) q

pub heads_filled : (m r : List ℕ) → link_length ≤ length m → r ≡ replicate (length (mid_of last_key (free_head - last_key) m)) 0
    → NoHeads m (put_mid last_key (free_head - last_key) m r) free_head
heads_filled m r h f =
    let many : length (mid_of last_key (free_head - last_key) m) ≡ free_head - last_key = simp (length-take, length-drop) (omega arith) in
    let e : r ≡ replicate (free_head - last_key) 0 = rw many at f in
    record {
      same = same_len_mid last_key (free_head - last_key) m r (rw many (size last_key (free_head - last_key) m r (omega arith) e));
      ended = zero_in last_key (free_head - last_key) m r (omega arith) e;
      below = zero_before last_key (free_head - last_key) m r (omega arith) e;
      rest = zero_after last_key (free_head - last_key) m r (omega arith) e;
    }

pub freed : (l m r : List ℕ) → link_length ≤ length l → FreeChain l m last_key → NoHeads m r free_head → Freed l (set r free_head 1)
freed l m r h p q =
    let e : length r ≡ length l = q.same ∙ p.same in
    record {
      same = length-set r free_head 1 ∙ e;
      next = λ k a. get_or-set_other r free_head k 1 0 (λ z. omega (arith, z)) ∙ q.below k a ∙ p.next k a;
      ended = λ k a b. get_or-set_other r free_head k 1 0 (λ z. omega (arith, z)) ∙ q.ended k a b;
      first = get_or-set_same r free_head 1 0 (omega (arith, e));
      rest = λ k a. get_or-set_other r free_head k 1 0 (λ z. omega (arith, z)) ∙ q.rest k (omega arith) ∙ p.rest k (omega arith);
    }
