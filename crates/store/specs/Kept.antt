-- Serves SCOPE.md, 'Store': what the writes of the store leave of the signature, the terms and the slots in use.
use Rattle.std.specs.Prelude.{ℕ, zero, suc, ◌+◌, ◌-◌, ◌*◌, ◌/◌, ◌%◌, ◌^◌, ◌≤◌, ◌<◌, ◌≡◌, refl, List, [], ◌∷◌, Bool, true, false, ltb, set, take, drop, replicate}
use Rattle.std.proofs.Common.{sym, ◌∙◌, le-ltb, le-leb, ltb-false, length-take, length-drop, ext_get_or, get_or-take, get_or-drop, get_or-set_same}
use native.Mathlib.Omega.{arith}
use Rattle.std.proofs.Math.Decide.{ℕ_discrete, dec_lt}
use Rattle.std.proofs.Math.Nat.{mod-eq_of_lt}
use Rattle.std.specs.Int.Bits.{bit_and, bit_or, bit_xor, and_lt}
use Rattle.std.proofs.lemmas.Nat.{or_lt, xor_lt}
use Rattle.std.proofs.Math.ListN.{length, get_or, length-set, get_or-append}
use Rattle.std.proofs.lemmas.List.{length-replicate}
use Rattle.std.proofs.Math.Pow.{pow-lt}
use Rattle.std.proofs.lemmas.List.Edits.{sets}
use Rattle.std.proofs.Math.Seq.{length-sets, get_or-set_other}
use Rattle.laws.specs.Digits.{bit}
use Rattle.slots.specs.Sets.{Words, has_insert_same, has_insert_other, has_removed_same, has_removed_other}
use Rattle.slots.specs.Sets as Sets
use Rattle.slots.specs.Slots.{has, inserted, removed, words8, others}
use Rattle.slots.proofs.SlotLaws.{get_or_words8}
use Rattle.terms.specs.Terms.{Signed}
use Rattle.layout.specs.Layout.{sets_long, long_enough, largest_of, signature_of, term_of, used_of, blank, signed, with_term}
use Rattle.layout.proofs.LayoutLaws.{length_blank}
use Rattle.laws.specs.Sizes.{bytes_length, key_limit, lengths_start, link_length, set_length, slot_count, terms_start}

-- one element after elements were written
pub sets_before : (vs l : List ℕ) (i j : ℕ) → j < i → get_or (sets l i vs) j 0 ≡ get_or l j 0
sets_before [] l i j h = refl
sets_before (v ∷ vs) l i j h = sets_before vs (set l i v) (suc i) j (omega arith) ∙ get_or-set_other l i j v 0 (λ z. omega arith)

pub sets_after : (vs l : List ℕ) (i j : ℕ) → i + length vs ≤ j → get_or (sets l i vs) j 0 ≡ get_or l j 0
sets_after [] l i j h = refl
sets_after (v ∷ vs) l i j h = sets_after vs (set l i v) (suc i) j (omega arith) ∙ get_or-set_other l i j v 0 (λ z. omega arith)

pub sets_inside : (vs l : List ℕ) (i k : ℕ) → k < length vs → i + length vs ≤ length l → get_or (sets l i vs) (i + k) 0 ≡ get_or vs k 0
sets_inside [] l i k h g = absurd (omega arith)
sets_inside (v ∷ vs) l i zero h g =
    let z : i + 0 ≡ i = omega arith in
    rw z (sets_before vs (set l i v) (suc i) i (omega arith) ∙ get_or-set_same l i v 0 (omega arith))
sets_inside (v ∷ vs) l i (suc k) h g =
    let z : i + suc k ≡ suc i + k = omega arith in
    rw z (sets_inside vs (set l i v) (suc i) k (omega arith) (omega (arith, length-set l i v)))

-- a part of a table by its elements
part_at : (b : List ℕ) (m n i : ℕ) → i < n → get_or (take n (drop m b)) i 0 ≡ get_or b (m + i) 0
part_at b m n i h = get_or-take n (drop m b) i 0 h ∙ get_or-drop m b i 0

pub part_same : (b c : List ℕ) (m n : ℕ) → length b ≡ length c → ((j : ℕ) → m ≤ j → j < m + n → get_or b j 0 ≡ get_or c j 0) → take n (drop m b) ≡ take n (drop m c)
part_same b c m n e f = ext_get_or 0 (take n (drop m b)) (take n (drop m c))
    (omega (arith, length-take n (drop m b), length-take n (drop m c), length-drop m b, length-drop m c))
    (λ i h. let k : i < n = omega (arith, length-take n (drop m b)) in part_at b m n i k ∙ f (m + i) (omega arith) (omega arith) ∙ sym (part_at c m n i k))

pub part_is : (b t : List ℕ) (m : ℕ) → m + length t ≤ length b → ((i : ℕ) → i < length t → get_or b (m + i) 0 ≡ get_or t i 0) → take (length t) (drop m b) ≡ t
part_is b t m h f = ext_get_or 0 (take (length t) (drop m b)) t (omega (arith, length-take (length t) (drop m b), length-drop m b))
    (λ i g. let k : i < length t = omega (arith, length-take (length t) (drop m b)) in part_at b m (length t) i k ∙ f i k)

-- the signature is read off the first 258 bytes
pub signature_same : (b c : List ℕ) → length b ≡ length c → ((j : ℕ) → j < lengths_start → get_or b j 0 ≡ get_or c j 0) → signature_of b ≡ signature_of c
unfolding signature_of
signature_same b c e f = go (ltb 256 n) refl
  where
    n : ℕ
    n = get_or b 0 0 * 256 + get_or b 1 0

    same : n ≡ get_or c 0 0 * 256 + get_or c 1 0
    same = rw (f 0 (omega arith), f 1 (omega arith))

    go : (p : Bool) → ltb 256 n ≡ p → signature_of b ≡ signature_of c
    go true q = rw (← same, q)
    go false q = rw (← same, part_same b c 2 n e (λ j u v. f j (omega (arith, ltb-false 256 n q))))

largest_bound : (s : List ℕ) → ((x : ℕ) → get_or s x 0 ≤ 8) → largest_of s ≤ 8
unfolding largest_of
largest_bound [] h = omega arith
largest_bound (a ∷ s) h = let r = largest_bound s (λ x. h (suc x)) in let z = h 0 in omega arith

pub signed_signature : (b sig : List ℕ) → bytes_length ≤ length b → Signed sig → signature_of (signed b sig) ≡ sig
unfolding signed signature_of
signed_signature b sig h g =
    rw (n, p, le-ltb 256 (length sig) g.short, le-ltb 8 (largest_of sig) (largest_bound sig g.eight))
  where
    B : List ℕ
    B = blank bytes_length b

    C : List ℕ
    C = set (set B 0 (length sig / 256)) 1 (length sig % 256)

    long : length C ≡ length b
    long = length-set (set B 0 (length sig / 256)) 1 (length sig % 256) ∙ length-set B 0 (length sig / 256) ∙ length_blank bytes_length b h

    long0 : length B ≡ length b
    long0 = length_blank bytes_length b h

    first : get_or (sets C 2 sig) 0 0 ≡ length sig / 256
    first = sets_before sig C 2 0 (omega arith) ∙ get_or-set_other (set B 0 (length sig / 256)) 1 0 (length sig % 256) 0 (λ z. omega arith) ∙ get_or-set_same B 0 (length sig / 256) 0 (omega (arith, long0))

    second : get_or (sets C 2 sig) 1 0 ≡ length sig % 256
    second = sets_before sig C 2 1 (omega arith) ∙ get_or-set_same (set B 0 (length sig / 256)) 1 (length sig % 256) 0 (omega (arith, long0, length-set B 0 (length sig / 256)))

    n : get_or (sets C 2 sig) 0 0 * 256 + get_or (sets C 2 sig) 1 0 ≡ length sig
    n = omega (arith, first, second)

    p : take (length sig) (drop 2 (sets C 2 sig)) ≡ sig
    p = let s = g.short in part_is (sets C 2 sig) sig 2 (omega (arith, length-sets C 2 sig, long)) (λ i k. sets_inside sig C 2 i k (omega (arith, long)))

-- a term in its slot, and the other slots
module _ (b : List ℕ) (s : ℕ) (t : List ℕ) (l : bytes_length ≤ length b) (h : s < slot_count) (k : length t ≤ 64) where
  abbrev C : List ℕ
  C = set b (lengths_start + s) (length t)

  with_length : length (with_term b s t) ≡ length b
  unfolding with_term
  with_length = length-sets C (terms_start + 64 * s) t ∙ length-set b (lengths_start + s) (length t)

  pub with_signature : signature_of (with_term b s t) ≡ signature_of b
  unfolding with_term
  with_signature = signature_same (with_term b s t) b with_length (λ j g. low j g)
    where
      low : (j : ℕ) → j < lengths_start → get_or (with_term b s t) j 0 ≡ get_or b j 0
      low j g = sets_before t C (terms_start + 64 * s) j (omega arith) ∙ get_or-set_other b (lengths_start + s) j (length t) 0 (λ z. omega arith)

  pub with_term_same : term_of (with_term b s t) s ≡ t
  unfolding term_of with_term
  with_term_same = rw (size, mod-eq_of_lt (cap)) (part_is (sets C (terms_start + 64 * s) t) t (terms_start + 64 * s) (omega (arith, length-sets C (terms_start + 64 * s) t, length-set b (lengths_start + s) (length t)))
      (λ i g. sets_inside t C (terms_start + 64 * s) i g (omega (arith, length-set b (lengths_start + s) (length t)))))
    where
      cap : length t < 65
      cap = omega arith

      size : get_or (sets C (terms_start + 64 * s) t) (lengths_start + s) 0 ≡ length t
      size = sets_before t C (terms_start + 64 * s) (lengths_start + s) (omega arith) ∙ get_or-set_same b (lengths_start + s) (length t) 0 (omega arith)

  pub with_term_other : (x : ℕ) → x < slot_count → (x ≡ s → ⊥) → term_of (with_term b s t) x ≡ term_of b x
  unfolding term_of with_term
  with_term_other x g n = rw (size, part_same (sets C (terms_start + 64 * s) t) b (terms_start + 64 * x) (get_or b (lengths_start + x) 0 % 65) (length-sets C (terms_start + 64 * s) t ∙ length-set b (lengths_start + s) (length t)) same)
    where
      size : get_or (sets C (terms_start + 64 * s) t) (lengths_start + x) 0 ≡ get_or b (lengths_start + x) 0
      size = sets_before t C (terms_start + 64 * s) (lengths_start + x) (omega arith) ∙ get_or-set_other b (lengths_start + s) (lengths_start + x) (length t) 0 (λ z. n (omega arith))

      old : (j : ℕ) → terms_start ≤ j → get_or C j 0 ≡ get_or b j 0
      old j q = get_or-set_other b (lengths_start + s) j (length t) 0 (λ z. omega arith)

      same : (j : ℕ) → terms_start + 64 * x ≤ j → j < terms_start + 64 * x + get_or b (lengths_start + x) 0 % 65 → get_or (sets C (terms_start + 64 * s) t) j 0 ≡ get_or b j 0
      same j p q = side (dec_lt x s)
        where
          side : Dec (x < s) → get_or (sets C (terms_start + 64 * s) t) j 0 ≡ get_or b j 0
          side (yes r) = sets_before t C (terms_start + 64 * s) j (omega arith) ∙ old j (omega arith)
          side (no r) = sets_after t C (terms_start + 64 * s) j (omega arith) ∙ old j (omega arith)

-- the slots in use after a write of eight words
pub has_used : (u : List ℕ) (x : ℕ) → x < slot_count → has (used_of u) x ≡ bit (get_or u (x / 64) 0) (x % 64)
unfolding has used_of
has_used u x h = rw (get_or_words8 (λ i. get_or u i 0) (x / 64) (omega arith))

pub length_used : (u : List ℕ) → length (used_of u) ≡ 8
unfolding used_of words8
length_used u = refl

pub used_word : (u vs : List ℕ) (i : ℕ) → 8 ≤ length u → i < 8 → get_or (sets u 0 (used_of vs)) i 0 ≡ get_or vs i 0
unfolding used_of
used_word u vs i l h =
    let z : 0 + i ≡ i = omega arith in
    (rw z at (sets_inside (used_of vs) u 0 i (omega (arith, length_used vs)) (omega (arith, length_used vs)))) ∙ get_or_words8 (λ j. get_or vs j 0) i h

pub used_has : (u vs : List ℕ) (x : ℕ) → 8 ≤ length u → x < slot_count → has (used_of (sets u 0 (used_of vs))) x ≡ has vs x
unfolding has
used_has u vs x l h = has_used (sets u 0 (used_of vs)) x h ∙ rw (used_word u vs (x / 64) l (omega arith))

word_used : (u : List ℕ) (i : ℕ) → i < 8 → get_or (used_of u) i 0 ≡ get_or u i 0
unfolding used_of
word_used u i h = get_or_words8 (λ j. get_or u j 0) i h

module _ (u : List ℕ) (s : ℕ) (l : 8 ≤ length u) (h : s < slot_count) (w : Words u) where
  at : s < 64 * length (used_of u)
  at = omega (arith, length_used u)

  abbrev k : ℕ
  k = s / 64

  word_k : get_or (used_of u) k 0 < 2 ^ 64
  word_k = rw (word_used u k (omega arith)) (w k (omega arith))

  pub insert_same : has (used_of (sets u 0 (used_of (inserted (used_of u) s)))) s ≡ 1
  insert_same = used_has u (inserted (used_of u) s) s l h ∙ has_insert_same (used_of u) s at

  pub insert_other : (x : ℕ) → x < slot_count → (x ≡ s → ⊥) → has (used_of (sets u 0 (used_of (inserted (used_of u) s)))) x ≡ has (used_of u) x
  insert_other x g n = used_has u (inserted (used_of u) s) x l g ∙ has_insert_other (used_of u) s x n at

  pub remove_same : has (used_of (sets u 0 (used_of (removed (used_of u) s)))) s ≡ 0
  remove_same = used_has u (removed (used_of u) s) s l h ∙ has_removed_same (used_of u) s at

  pub remove_other : (x : ℕ) → x < slot_count → (x ≡ s → ⊥) → has (used_of (sets u 0 (used_of (removed (used_of u) s)))) x ≡ has (used_of u) x
  remove_other x g n = used_has u (removed (used_of u) s) x l g ∙ has_removed_other (used_of u) s x n at

  word_set : (v : ℕ) → v < 2 ^ 64 → Words (sets u 0 (used_of (set (used_of u) k v)))
  word_set v f i g = rw (used_word u (set (used_of u) k v) i l g) (go (ℕ_discrete i k))
    where
      go : Dec (i ≡ k) → get_or (set (used_of u) k v) i 0 < 2 ^ 64
      go (yes e) = rw (e, get_or-set_same (used_of u) k v 0 (omega (arith, length_used u))) f
      go (no e) = rw (get_or-set_other (used_of u) k i v 0 e, word_used u i g) (w i g)

  pub insert_words : Words (sets u 0 (used_of (inserted (used_of u) s)))
  unfolding inserted
  insert_words = word_set (bit_or (get_or (used_of u) k 0) (2 ^ (s % 64))) (or_lt 64 (get_or (used_of u) k 0) (2 ^ (s % 64)) word_k (let q : s % 64 < 64 = omega arith in pow-lt q))

  pub remove_words : Words (sets u 0 (used_of (removed (used_of u) s)))
  unfolding removed
  remove_words = word_set (bit_xor (get_or (used_of u) k 0) (bit_and (get_or (used_of u) k 0) (2 ^ (s % 64))))
      (xor_lt 64 (get_or (used_of u) k 0) (bit_and (get_or (used_of u) k 0) (2 ^ (s % 64))) word_k (and_lt 64 (get_or (used_of u) k 0) (2 ^ (s % 64)) word_k (let q : s % 64 < 64 = omega arith in pow-lt q)))

pub has_others : (u : List ℕ) (x : ℕ) → Words u → x < slot_count → has (others (used_of u)) x ≡ 1 - has (used_of u) x
has_others u x w h = Sets.has_others (used_of u) x (λ i g. rw (word_used u i g) (w i g)) h

-- zeros
pub blank_low : (n : ℕ) (l : List ℕ) (i : ℕ) → i < n → get_or (blank n l) i 0 ≡ 0
unfolding blank
blank_low n l i h = get_or-append (zeros n) (drop n l) 0 i (omega (arith, length-replicate {A = ℕ} n 0)) ∙ zeros_at n i
  where
    zeros : ℕ → List ℕ
    zeros n = replicate n 0

    zeros_at : (n i : ℕ) → get_or (zeros n) i 0 ≡ 0
    zeros_at zero i = refl
    zeros_at (suc n) zero = refl
    zeros_at (suc n) (suc i) = zeros_at n i

pub long_is : (b u l k c d e f : ℕ) → bytes_length ≤ b → 8 ≤ u → key_limit ≤ l → link_length ≤ k → set_length ≤ c → set_length ≤ d → set_length ≤ e → set_length ≤ f → long_enough b u l k c d e f ≡ true
unfolding long_enough sets_long
long_is b u l k c d e f h0 h1 h2 h3 h4 h5 h6 h7 =
    rw (le-ltb b bytes_length h0, le-ltb u 8 h1, le-ltb l key_limit h2, le-ltb k link_length h3, le-ltb c set_length h4, le-ltb d set_length h5, le-ltb e set_length h6, le-leb set_length f h7)
