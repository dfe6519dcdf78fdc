-- Serves SCOPE.md, 'Paths and keys': the sets of slots of 4,096 keys, eight words each, in four tables.
use Rattle.std.specs.Prelude.{ℕ, zero, suc, ◌+◌, ◌*◌, ◌/◌, ◌%◌, ◌^◌, ◌≤◌, ◌<◌, ◌≡◌, refl, ◌⊎◌, ◌↔◌, List, Bool, true, false, eqb, ltb, length, get_or, set, replicate}
use Rattle.std.proofs.Common.{sym, ◌∙◌, inl, inr, arith, eqb-true, length-set, get_or-set_same, get_or-set_other}
use Rattle.std.proofs.Math.Decide.{ℕ_discrete}
use Rattle.std.proofs.lemmas.Bool.{eqb-false}
use Rattle.std.specs.Int.Bits.{bit_and, bit_or, bit_xor, and_lt}
use Rattle.std.proofs.lemmas.Nat.{or_lt, xor_lt}
use Rattle.std.proofs.Math.Pow.{pow-lt}
use Rattle.laws.specs.Choice.{pick}
use Rattle.slots.specs.Slots.{words8}
use Rattle.laws.specs.Digits.{bit, bit_and_lem, bit_or_lem, bit_xor_lem, bit_pow_same, bit_pow_other, differ_self, differ_zero}
use Rattle.laws.specs.Digits.{bit_suc, bit_zero, some_bit}
use Rattle.laws.specs.Sizes.{key_limit, set_keys, set_length, slot_count}

-- what setting and clearing one digit does
unfoldable pub on : ℕ → ℕ → ℕ
on w s = bit_or w (2 ^ s)

unfoldable pub off : ℕ → ℕ → ℕ
off w s = bit_xor w (bit_and w (2 ^ s))

on_same : (w s : ℕ) → bit (on w s) s ≡ 1
unfolding on
on_same w s = rw (bit_or_lem, bit_pow_same) (omega arith)

on_other : (w s i : ℕ) → (i ≡ s → ⊥) → bit (on w s) i ≡ bit w i
unfolding on
on_other w s i h = rw (bit_or_lem, bit_pow_other s i h) (omega arith)

off_same : (w s : ℕ) → bit (off w s) s ≡ 0
unfolding off
off_same w s = rw (bit_xor_lem, bit_and_lem, bit_pow_same) (differ_self (bit w s) (omega arith))

off_other : (w s i : ℕ) → (i ≡ s → ⊥) → bit (off w s) i ≡ bit w i
unfolding off
off_other w s i h = rw (bit_xor_lem, bit_and_lem, bit_pow_other s i h) (differ_zero (bit w i) (omega arith))

pub record Sets : Type 0 where
  pub t0 : List ℕ
  pub t1 : List ℕ
  pub t2 : List ℕ
  pub t3 : List ℕ

abbrev pub four : List ℕ → List ℕ → List ℕ → List ℕ → Sets
four a b c d = record { t0 = a; t1 = b; t2 = c; t3 = d }

unfoldable pub tab : Sets → ℕ → List ℕ
tab σ zero = σ.t0
tab σ (suc zero) = σ.t1
tab σ (suc (suc zero)) = σ.t2
tab σ (suc (suc (suc q))) = σ.t3

unfoldable pub put_tab : Sets → ℕ → List ℕ → Sets
put_tab σ zero l = record { t0 = l; t1 = σ.t1; t2 = σ.t2; t3 = σ.t3 }
put_tab σ (suc zero) l = record { t0 = σ.t0; t1 = l; t2 = σ.t2; t3 = σ.t3 }
put_tab σ (suc (suc zero)) l = record { t0 = σ.t0; t1 = σ.t1; t2 = l; t3 = σ.t3 }
put_tab σ (suc (suc (suc q))) l = record { t0 = σ.t0; t1 = σ.t1; t2 = σ.t2; t3 = l }

tab_same : (σ : Sets) (q : ℕ) (l : List ℕ) → tab (put_tab σ q l) q ≡ l
unfolding tab put_tab
tab_same σ zero l = refl
tab_same σ (suc zero) l = refl
tab_same σ (suc (suc zero)) l = refl
tab_same σ (suc (suc (suc q))) l = refl

tab_other : (σ : Sets) (q p : ℕ) (l : List ℕ) → q < 4 → p < 4 → (p ≡ q → ⊥) → tab (put_tab σ q l) p ≡ tab σ p
unfolding tab put_tab
tab_other σ zero zero l a b h = absurd (h refl)
tab_other σ zero (suc zero) l a b h = refl
tab_other σ zero (suc (suc zero)) l a b h = refl
tab_other σ zero (suc (suc (suc p))) l a b h = refl
tab_other σ (suc zero) zero l a b h = refl
tab_other σ (suc zero) (suc zero) l a b h = absurd (h refl)
tab_other σ (suc zero) (suc (suc zero)) l a b h = refl
tab_other σ (suc zero) (suc (suc (suc p))) l a b h = refl
tab_other σ (suc (suc zero)) zero l a b h = refl
tab_other σ (suc (suc zero)) (suc zero) l a b h = refl
tab_other σ (suc (suc zero)) (suc (suc zero)) l a b h = absurd (h refl)
tab_other σ (suc (suc zero)) (suc (suc (suc p))) l a b h = refl
tab_other σ (suc (suc (suc q))) zero l a b h = refl
tab_other σ (suc (suc (suc q))) (suc zero) l a b h = refl
tab_other σ (suc (suc (suc q))) (suc (suc zero)) l a b h = refl
tab_other σ (suc (suc (suc q))) (suc (suc (suc p))) l a b h = absurd (h (omega arith))

-- word i of the set of key k
unfoldable pub word : Sets → ℕ → ℕ → ℕ
word σ k i = get_or (tab σ (k / set_keys)) (k % set_keys * 8 + i) 0

unfoldable pub put_word : Sets → ℕ → ℕ → ℕ → Sets
put_word σ k i v = put_tab σ (k / set_keys) (set (tab σ (k / set_keys)) (k % set_keys * 8 + i) v)

pub record Ok (σ : Sets) : Type 0 where
  pub long : (q : ℕ) → q < 4 → set_length ≤ length (tab σ q)
  pub fits : (k i : ℕ) → k < key_limit → i < 8 → word σ k i < 2 ^ 64

word_same : (σ : Sets) (k i v : ℕ) → Ok σ → k < key_limit → i < 8 → word (put_word σ k i v) k i ≡ v
unfolding word put_word
word_same σ k i v o l h = rw tab_same (get_or-set_same (tab σ (k / set_keys)) (k % set_keys * 8 + i) v 0 (omega (arith, o.long (k / set_keys) (omega arith))))

word_other : (σ : Sets) (k i v j e : ℕ) → k < key_limit → j < key_limit → i < 8 → e < 8 → ((j ≡ k) × (e ≡ i) → ⊥) → word (put_word σ k i v) j e ≡ word σ j e
unfolding word put_word
word_other σ k i v j e l m a b h = go (ℕ_discrete (j / set_keys) (k / set_keys))
  where
    go : Dec (j / set_keys ≡ k / set_keys) → get_or (tab (put_tab σ (k / set_keys) (set (tab σ (k / set_keys)) (k % set_keys * 8 + i) v)) (j / set_keys)) (j % set_keys * 8 + e) 0 ≡ get_or (tab σ (j / set_keys)) (j % set_keys * 8 + e) 0
    go (yes q) = rw (q, tab_same) (get_or-set_other (tab σ (k / set_keys)) (k % set_keys * 8 + i) (j % set_keys * 8 + e) v 0 (λ z. h (omega arith, omega arith)))
    go (no q) = rw (tab_other σ (k / set_keys) (j / set_keys) (set (tab σ (k / set_keys)) (k % set_keys * 8 + i) v) (omega arith) (omega arith) q)

-- slot s is in the set of key k
abbrev pub mem : Sets → ℕ → ℕ → Type 0
mem σ k s = (k < key_limit) × (s < slot_count) × (bit (word σ k (s / 64)) (s % 64) ≡ 1)

unfoldable pub mark : Sets → ℕ → ℕ → Sets
mark σ k s = put_word σ k (s / 64) (on (word σ k (s / 64)) (s % 64))

unfoldable pub unmark : Sets → ℕ → ℕ → Sets
unmark σ k s = put_word σ k (s / 64) (off (word σ k (s / 64)) (s % 64))

-- one digit of a word changes: every other one stays
digit : (σ : Sets) (k s v j t : ℕ) → Ok σ → k < key_limit → s < slot_count → j < key_limit → t < slot_count → ((i : ℕ) → (i ≡ s % 64 → ⊥) → bit v i ≡ bit (word σ k (s / 64)) i) → ((j ≡ k) × (t ≡ s) → ⊥)
    → bit (word (put_word σ k (s / 64) v) j (t / 64)) (t % 64) ≡ bit (word σ j (t / 64)) (t % 64)
digit σ k s v j t o l m a b f h = go (ℕ_discrete j k) (ℕ_discrete (t / 64) (s / 64))
  where
    go : Dec (j ≡ k) → Dec (t / 64 ≡ s / 64) → bit (word (put_word σ k (s / 64) v) j (t / 64)) (t % 64) ≡ bit (word σ j (t / 64)) (t % 64)
    go (yes q) (yes p) = rw (q, p, word_same σ k (s / 64) v o l (omega arith)) (f (t % 64) (λ z. h (q, omega arith)))
    go (yes q) (no p) = rw (word_other σ k (s / 64) v j (t / 64) l a (omega arith) (omega arith) (λ z. p z.1))
    go (no q) p = rw (word_other σ k (s / 64) v j (t / 64) l a (omega arith) (omega arith) (λ z. q z.0))

digit_here : (σ : Sets) (k s v : ℕ) → Ok σ → k < key_limit → s < slot_count → word (put_word σ k (s / 64) v) k (s / 64) ≡ v
digit_here σ k s v o l m = word_same σ k (s / 64) v o l (omega arith)

pub mark_law : (σ : Sets) (k s : ℕ) → Ok σ → k < key_limit → s < slot_count → (j t : ℕ) → mem (mark σ k s) j t ↔ (mem σ j t ⊎ ((j ≡ k) × (t ≡ s)))
unfolding mark
mark_law σ k s o l m j t = ((λ w. to w (ℕ_discrete j k) (ℕ_discrete t s)), fro)
  where
    v : ℕ
    v = on (word σ k (s / 64)) (s % 64)

    same : j < key_limit → t < slot_count → ((j ≡ k) × (t ≡ s) → ⊥) → bit (word (put_word σ k (s / 64) v) j (t / 64)) (t % 64) ≡ bit (word σ j (t / 64)) (t % 64)
    same a b h = digit σ k s v j t o l m a b (λ i z. on_other (word σ k (s / 64)) (s % 64) i z) h

    to : mem (put_word σ k (s / 64) v) j t → Dec (j ≡ k) → Dec (t ≡ s) → mem σ j t ⊎ ((j ≡ k) × (t ≡ s))
    to w (yes q) (yes p) = inr (q, p)
    to w (yes q) (no p) = inl (w.0, w.1, sym (same w.0 w.1 (λ z. p z.1)) ∙ w.2)
    to w (no q) p = inl (w.0, w.1, sym (same w.0 w.1 (λ z. q z.0)) ∙ w.2)

    this : j ≡ k → t ≡ s → mem (put_word σ k (s / 64) v) j t
    this q p = rw (q, p) (l, m, rw (digit_here σ k s v o l m) (on_same (word σ k (s / 64)) (s % 64)))

    old : mem σ j t → Dec (j ≡ k) → Dec (t ≡ s) → mem (put_word σ k (s / 64) v) j t
    old w (yes q) (yes p) = this q p
    old w (yes q) (no p) = (w.0, w.1, same w.0 w.1 (λ z. p z.1) ∙ w.2)
    old w (no q) p = (w.0, w.1, same w.0 w.1 (λ z. q z.0) ∙ w.2)

    fro : mem σ j t ⊎ ((j ≡ k) × (t ≡ s)) → mem (put_word σ k (s / 64) v) j t
    fro (inl w) = old w (ℕ_discrete j k) (ℕ_discrete t s)
    fro (inr w) = this w.0 w.1

pub unmark_law : (σ : Sets) (k s : ℕ) → Ok σ → k < key_limit → s < slot_count → (j t : ℕ) → mem (unmark σ k s) j t ↔ (mem σ j t × ((j ≡ k) × (t ≡ s) → ⊥))
unfolding unmark
unmark_law σ k s o l m j t = ((λ w. let h = gone w in ((w.0, w.1, (sym (same w.0 w.1 h) ∙ w.2)), h)), (λ w. (w.0.0, w.0.1, same w.0.0 w.0.1 w.1 ∙ w.0.2)))
  where
    v : ℕ
    v = off (word σ k (s / 64)) (s % 64)

    same : j < key_limit → t < slot_count → ((j ≡ k) × (t ≡ s) → ⊥) → bit (word (put_word σ k (s / 64) v) j (t / 64)) (t % 64) ≡ bit (word σ j (t / 64)) (t % 64)
    same a b h = digit σ k s v j t o l m a b (λ i z. off_other (word σ k (s / 64)) (s % 64) i z) h

    zeroed : bit (word (put_word σ k (s / 64) v) k (s / 64)) (s % 64) ≡ 0
    zeroed = rw (digit_here σ k s v o l m) (off_same (word σ k (s / 64)) (s % 64))

    gone : mem (put_word σ k (s / 64) v) j t → (j ≡ k) × (t ≡ s) → ⊥
    gone w z = let y : bit (word (put_word σ k (s / 64) v) k (s / 64)) (s % 64) ≡ 1 = rw (z.0, z.1) at w.2 in omega (arith, zeroed)

-- the words stay words
put_long : (σ : Sets) (k i v q : ℕ) → Ok σ → k < key_limit → q < 4 → set_length ≤ length (tab (put_word σ k i v) q)
unfolding put_word
put_long σ k i v q o l h = go (ℕ_discrete q (k / set_keys))
  where
    go : Dec (q ≡ k / set_keys) → set_length ≤ length (tab (put_tab σ (k / set_keys) (set (tab σ (k / set_keys)) (k % set_keys * 8 + i) v)) q)
    go (yes z) = rw (z, tab_same, length-set) (o.long (k / set_keys) (omega arith))
    go (no z) = rw (tab_other σ (k / set_keys) q (set (tab σ (k / set_keys)) (k % set_keys * 8 + i) v) (omega arith) h z) (o.long q h)

put_ok : (σ : Sets) (k i v : ℕ) → Ok σ → k < key_limit → i < 8 → v < 2 ^ 64 → Ok (put_word σ k i v)
put_ok σ k i v o l h f = record { long = λ q a. put_long σ k i v q o l a; fits = λ j e a b. go j e a b (ℕ_discrete j k) (ℕ_discrete e i) }
  where
    go : (j e : ℕ) → j < key_limit → e < 8 → Dec (j ≡ k) → Dec (e ≡ i) → word (put_word σ k i v) j e < 2 ^ 64
    go j e a b (yes q) (yes p) = rw (q, p, word_same σ k i v o l h) f
    go j e a b (yes q) (no p) = rw (word_other σ k i v j e l a h b (λ z. p z.1)) (o.fits j e a b)
    go j e a b (no q) p = rw (word_other σ k i v j e l a h b (λ z. q z.0)) (o.fits j e a b)

pub mark_ok : (σ : Sets) (k s : ℕ) → Ok σ → k < key_limit → s < slot_count → Ok (mark σ k s)
unfolding mark on
mark_ok σ k s o l m = let q : s % 64 < 64 = omega arith in put_ok σ k (s / 64) _ o l (omega arith) (or_lt 64 _ _ (o.fits k (s / 64) l (omega arith)) (pow-lt q))

pub unmark_ok : (σ : Sets) (k s : ℕ) → Ok σ → k < key_limit → s < slot_count → Ok (unmark σ k s)
unfolding unmark off
unmark_ok σ k s o l m = let q : s % 64 < 64 = omega arith in let w = o.fits k (s / 64) l (omega arith) in put_ok σ k (s / 64) _ o l (omega arith) (xor_lt 64 _ _ w (and_lt 64 _ _ w (pow-lt q)))

-- the first n words of a set are 0
unfoldable pub zeros : Sets → ℕ → ℕ → Bool
zeros σ k zero = true
zeros σ k (suc n) = pick (eqb (word σ k n) 0) (zeros σ k n) false

abbrev pub emptyb : Sets → ℕ → Bool
emptyb σ k = zeros σ k 8

zeros_yes : (σ : Sets) (k n : ℕ) → zeros σ k n ≡ true → (i : ℕ) → i < n → word σ k i ≡ 0
unfolding zeros
zeros_yes σ k zero h i l = absurd (omega arith)
zeros_yes σ k (suc n) h i l = go (eqb (word σ k n) 0) refl h (ℕ_discrete i n) (zeros_yes σ k n)
  where
    go : (b : Bool) → eqb (word σ k n) 0 ≡ b → pick b (zeros σ k n) false ≡ true → Dec (i ≡ n) → (zeros σ k n ≡ true → (i : ℕ) → i < n → word σ k i ≡ 0) → word σ k i ≡ 0
    go true q h (yes z) ih = rw z (eqb-true _ _ q)
    go true q h (no z) ih = ih h i (omega arith)
    go false q h z ih = let y : ◌≡◌ {A = ℕ} 0 1 = cc in absurd (omega arith)

zeros_no : (σ : Sets) (k n : ℕ) → zeros σ k n ≡ false → (i : ℕ) × (i < n) × (word σ k i ≡ 0 → ⊥)
unfolding zeros
zeros_no σ k zero h = let y : ◌≡◌ {A = ℕ} 0 1 = cc in absurd (omega arith)
zeros_no σ k (suc n) h = go (eqb (word σ k n) 0) refl h (zeros_no σ k n)
  where
    go : (b : Bool) → eqb (word σ k n) 0 ≡ b → pick b (zeros σ k n) false ≡ false → (zeros σ k n ≡ false → (i : ℕ) × (i < n) × (word σ k i ≡ 0 → ⊥)) → (i : ℕ) × (i < suc n) × (word σ k i ≡ 0 → ⊥)
    go true q h ih = let r = ih h in (r.0, (let l = r.1 in omega arith), r.2)
    go false q h ih = (n, omega arith, eqb-false _ _ q)

zero_bit : (i : ℕ) → bit 0 i ≡ 0
zero_bit zero = bit_zero 0
zero_bit (suc i) = bit_suc 0 i ∙ zero_bit i

pub empty_yes : (σ : Sets) (k t : ℕ) → Ok σ → k < key_limit → emptyb σ k ≡ true → mem σ k t → ⊥
empty_yes σ k t o l h m = let z = zeros_yes σ k 8 h (t / 64) (let q = m.1 in omega arith) in let y = rw z at m.2 in omega (arith, zero_bit (t % 64))

pub empty_no : (σ : Sets) (k : ℕ) → Ok σ → k < key_limit → emptyb σ k ≡ false → (t : ℕ) × mem σ k t
empty_no σ k o l h =
    let z = zeros_no σ k 8 h in
    let b = some_bit 64 (word σ k z.0) (o.fits k z.0 l z.1) z.2 in
    let i = z.0 in let j = b.0 in
    let a : (i * 64 + j) / 64 ≡ i = omega (arith, b.1) in
    let c : (i * 64 + j) % 64 ≡ j = omega (arith, b.1) in
    (i * 64 + j, (l, omega (arith, z.1, b.1), rw (a, c) b.2))

pub record SetTablesLong (a b c d : List ℕ) : Type 0 where
  pub l0 : set_length ≤ length a
  pub l1 : set_length ≤ length b
  pub l2 : set_length ≤ length c
  pub l3 : set_length ≤ length d

-- the slots of a set that have the key k; none where k is no key
unfoldable pub met : Sets → ℕ → List ℕ → List ℕ
met σ k ws = pick (ltb k key_limit) (words8 (λ i. bit_and (word σ k i) (get_or ws i 0))) (replicate 8 0)
