-- Serves SCOPE.md, 'Store': the table of links that an opening leaves, place by place.
use Rattle.std.specs.Prelude.{ℕ, zero, suc, ◌+◌, ◌-◌, ◌≤◌, ◌<◌, ◌≡◌, refl, List, ◌∷◌, ◌++◌, length, get_or, drop, replicate}
use Rattle.std.proofs.Common.{sym, ap, ◌∙◌, arith, length-append, length-drop, ext_get_or, get_or-append-add, get_or-drop}
use Rattle.std.proofs.Math.Decide.{ℕ_discrete, dec_lt}
use Rattle.std.proofs.lemmas.List.{length-replicate}
use Rattle.std.proofs.Math.ListN.{get_or-append}
use Rattle.chains.specs.FreeChain.{Freed}
use Rattle.store.specs.Tables.{count_from, freed}
use Rattle.laws.specs.Sizes.{chain_count, free_head, last_key, link_length}

length_count : (k n : ℕ) → length (count_from k n) ≡ n
unfolding count_from
length_count k zero = refl
length_count k (suc n) = ap suc (length_count (suc k) n)

get_or_count : (k n i : ℕ) → i < n → get_or (count_from k n) i 0 ≡ k + i
unfolding count_from
get_or_count k zero i h = absurd (omega arith)
get_or_count k (suc n) zero h = omega arith
get_or_count k (suc n) (suc i) h = let z = get_or_count (suc k) n i (omega arith) in omega (arith, z)

abbrev zero_links : ℕ → List ℕ
zero_links n = replicate n 0

get_or_zeros : (n i : ℕ) → get_or (zero_links n) i 0 ≡ 0
get_or_zeros zero i = refl
get_or_zeros (suc n) zero = refl
get_or_zeros (suc n) (suc i) = get_or_zeros n i

module _ (a b : ℕ) (l : List ℕ) where
  abbrev rear : List ℕ
  rear = 1 ∷ drop (a + b + 1) l

  abbrev mid : List ℕ
  mid = zero_links b ++ rear

  abbrev whole : List ℕ
  whole = count_from 2 a ++ mid

  length_whole : a + b + 1 ≤ length l → length whole ≡ length l
  length_whole h =
      omega (arith, length-append (count_from 2 a) mid, length_count 2 a, length-append (zero_links b) rear, length-replicate {A = ℕ} b 0, length-drop (a + b + 1) l)

  from_mid : (i : ℕ) → a ≤ i → get_or whole i 0 ≡ get_or mid (i - a) 0
  from_mid i h =
      let z : i ≡ length (count_from 2 a) + (i - a) = omega (arith, length_count 2 a) in
      ap (λ (j : ℕ). get_or whole j 0) z ∙ get_or-append-add (count_from 2 a) mid (i - a) 0

  from_rear : (i : ℕ) → b ≤ i → get_or mid i 0 ≡ get_or rear (i - b) 0
  from_rear i h =
      let z : i ≡ length (zero_links b) + (i - b) = omega (arith, length-replicate {A = ℕ} b 0) in
      ap (λ (j : ℕ). get_or mid j 0) z ∙ get_or-append-add (zero_links b) rear (i - b) 0

  spot : (i v : ℕ) → (i < a → v ≡ 2 + i) → (a ≤ i → i < a + b → v ≡ 0) → (i ≡ a + b → v ≡ 1) → (a + b + 1 ≤ i → v ≡ get_or l i 0) → v ≡ get_or whole i 0
  spot i v p q r s = go (dec_lt i a) (dec_lt i (a + b)) (ℕ_discrete i (a + b))
    where
      low : i < a → get_or whole i 0 ≡ 2 + i
      low h = get_or-append (count_from 2 a) mid 0 i (omega (arith, length_count 2 a)) ∙ get_or_count 2 a i h

      blanks : a ≤ i → i < a + b → get_or whole i 0 ≡ 0
      blanks h g = from_mid i h ∙ get_or-append (zero_links b) rear 0 (i - a) (omega (arith, length-replicate {A = ℕ} b 0)) ∙ get_or_zeros b (i - a)

      rest : a + b ≤ i → get_or whole i 0 ≡ get_or rear (i - a - b) 0
      rest h = from_mid i (omega arith) ∙ from_rear (i - a) (omega arith)

      go : Dec (i < a) → Dec (i < a + b) → Dec (i ≡ a + b) → v ≡ get_or whole i 0
      go (yes h) d e = p h ∙ sym (low h)
      go (no h) (yes g) e = q (omega arith) g ∙ sym (blanks (omega arith) g)
      go (no h) (no g) (yes e) = let z : i - a - b ≡ 0 = omega arith in r e ∙ sym (rest (omega arith) ∙ ap (λ (j : ℕ). get_or rear j 0) z)
      go (no h) (no g) (no e) =
          let z : i - a - b ≡ suc (i - (a + b + 1)) = omega arith in
          let y : a + b + 1 + (i - (a + b + 1)) ≡ i = omega arith in
          s (omega arith) ∙ sym (rest (omega arith) ∙ ap (λ (j : ℕ). get_or rear j 0) z ∙ get_or-drop (a + b + 1) l (i - (a + b + 1)) 0 ∙ ap (λ (j : ℕ). get_or l j 0) y)

pub freed_is : (l m : List ℕ) → link_length ≤ length l → Freed l m → m ≡ freed l
unfolding freed
freed_is l m h f = ext_get_or 0 m (whole last_key (chain_count + 1) l) (f.same ∙ sym (length_whole last_key (chain_count + 1) l h))
    (λ i g. spot last_key (chain_count + 1) l i (get_or m i 0) (λ p. let z = f.next i p in omega (arith, z)) (λ p q. f.ended i p q) (λ p. ap (λ (j : ℕ). get_or m j 0) p ∙ f.first) (λ p. f.rest i p))

pub freed_length : (l : List ℕ) → link_length ≤ length l → length (freed l) ≡ length l
unfolding freed
freed_length l h = length_whole last_key (chain_count + 1) l h

-- every key leads to the next, and no other chain has a key
pub freed_next : (l : List ℕ) (k : ℕ) → k < last_key → get_or (freed l) k 0 ≡ suc (suc k)
unfolding freed
freed_next l k h = sym (spot last_key (chain_count + 1) l k (suc (suc k)) (λ p. omega arith) (λ p q. absurd (omega arith)) (λ p. absurd (omega arith)) (λ p. absurd (omega arith)))

pub freed_none : (l : List ℕ) (k : ℕ) → last_key ≤ k → k < free_head → get_or (freed l) k 0 ≡ 0
unfolding freed
freed_none l k h g = sym (spot last_key (chain_count + 1) l k 0 (λ p. absurd (omega arith)) (λ p q. refl) (λ p. absurd (omega arith)) (λ p. absurd (omega arith)))

pub freed_first : (l : List ℕ) → get_or (freed l) free_head 0 ≡ 1
unfolding freed
freed_first l = sym (spot last_key (chain_count + 1) l free_head 1 (λ p. absurd (omega arith)) (λ p q. absurd (omega arith)) (λ p. refl) (λ p. absurd (omega arith)))
