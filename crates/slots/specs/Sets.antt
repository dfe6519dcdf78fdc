-- SCOPE.md, 'Store' and 'Paths and keys': the operations on words are those on sets of slots. `has ws s` is 1 where
-- slot s is in the set and 0 where it is not; a set has eight words of 64 digits. The size is the length of `members`
-- by the contract of `listing::size`.
use Rattle.std.specs.Prelude.{ℕ, zero, suc, ◌+◌, ◌-◌, ◌*◌, ◌/◌, ◌%◌, ◌^◌, ◌≤◌, ◌<◌, min, max, ◌≡◌, refl, List, [], ◌∷◌, true, length, get_or, replicate}
use Rattle.std.proofs.Common.{ap, ◌∙◌, inl, inr, pow-suc, arith, eq-eqb, ne_eqb, eqb-true, pow_pos, get_or-set_same, get_or-set_other}
use Rattle.std.proofs.Math.Nat.{div-eq_of_lt}
use Rattle.std.proofs.Math.Decide.{ℕ_discrete}
use Rattle.std.specs.Int.Bits.{bit_and, bit_or}
use Rattle.std.proofs.Math.ListN.{get_or-eq_default}
use Rattle.std.proofs.Math.Seq.{set_out}
use Rattle.laws.specs.Digits.{bit, bit_and_lem, bit_or_lem, bit_xor_lem, bit_pow_same, bit_pow_other, differ_self, differ_zero}
use Rattle.laws.specs.Digits.{bit_suc, bit_zero, some_bit}
use Rattle.laws.specs.Members.{In, NoDup}
use Rattle.slots.specs.Slots.{has, inserted, removed, both, either, others, words8, none_in, members_from, members}
use Rattle.laws.specs.Sizes.{slot_count}

abbrev pub Words : List ℕ → Type 0
Words ws = (i : ℕ) → i < 8 → get_or ws i 0 < 2 ^ 64

pub has_digit : (ws : List ℕ) (s : ℕ) → has ws s < 2
unfolding has
has_digit ws s = omega arith

get_or_same : (n v i : ℕ) → i < n → get_or (replicate n v) i 0 ≡ v
get_or_same zero v i h = absurd (omega arith)
get_or_same (suc n) v zero h = refl
get_or_same (suc n) v (suc i) h = get_or_same n v i (omega arith)

bit_none : (i : ℕ) → bit 0 i ≡ 0
bit_none i = rw (div-eq_of_lt (pow_pos i))

-- the empty set has no slot
pub has_empty : (s : ℕ) → s < slot_count → has (replicate 8 0) s ≡ 0
unfolding has
has_empty s h = rw (get_or_same 8 0 (s / 64) (omega arith)) (bit_none (s % 64))

-- no number above 511 is a slot: it is in no set, and an insert or a remove of it leaves the set
pub has_beyond : (ws : List ℕ) (s : ℕ) → length ws ≡ 8 → slot_count ≤ s → has ws s ≡ 0
unfolding has
has_beyond ws s e h = rw (get_or-eq_default ws 0 {n = s / 64} (omega arith)) (bit_none (s % 64))

pub insert_beyond : (ws : List ℕ) (s : ℕ) → length ws ≡ 8 → slot_count ≤ s → inserted ws s ≡ ws
unfolding inserted
insert_beyond ws s e h = set_out ws (s / 64) _ (omega arith)

pub remove_beyond : (ws : List ℕ) (s : ℕ) → length ws ≡ 8 → slot_count ≤ s → removed ws s ≡ ws
unfolding removed
remove_beyond ws s e h = set_out ws (s / 64) _ (omega arith)

-- the complement of a word, digit by digit
pub bit_not : (k w i : ℕ) → w < 2 ^ k → i < k → bit ((2 ^ k - 1) - w) i ≡ 1 - bit w i
bit_not zero w i h g = absurd (omega arith)
bit_not (suc k) w zero h g =
    let e = pow-suc 2 k in
    rw (bit_zero, bit_zero) (omega (arith, e))
bit_not (suc k) w (suc i) h g =
    let e = pow-suc 2 k in
    let f : (2 ^ suc k - 1 - w) / 2 ≡ 2 ^ k - 1 - w / 2 = omega (arith, e) in
    rw (bit_suc, bit_suc, f) (bit_not k (w / 2) i (omega (arith, e)) (omega arith))

-- the full set has every slot
pub has_full : (s : ℕ) → s < slot_count → has (replicate 8 0xffff_ffff_ffff_ffff) s ≡ 1
unfolding has
has_full s h =
    let e : 0xffff_ffff_ffff_ffff ≡ 2 ^ 64 - 1 - 0 = refl in
    let b = bit_not 64 0 (s % 64) (omega arith) (omega arith) in
    rw (get_or_same 8 0xffff_ffff_ffff_ffff (s / 64) (omega arith), e) (b ∙ ap (λ (z : ℕ). 1 - z) (bit_none (s % 64)))

-- an insert puts its slot in, and leaves each other as it was
pub has_insert_same : (ws : List ℕ) (s : ℕ) → s < 64 * length ws → has (inserted ws s) s ≡ 1
unfolding has inserted
has_insert_same ws s h =
    let k : s / 64 < length ws = omega arith in
    rw (get_or-set_same ws (s / 64) _ 0 k, bit_or_lem, bit_pow_same) (omega arith)

pub has_insert_other : (ws : List ℕ) (s x : ℕ) → (x ≡ s → ⊥) → s < 64 * length ws → has (inserted ws s) x ≡ has ws x
unfolding has inserted
has_insert_other ws s x n h = go (ℕ_discrete (x / 64) (s / 64))
  where
    k : s / 64 < length ws
    k = omega arith

    go : Dec (x / 64 ≡ s / 64) → has (inserted ws s) x ≡ has ws x
    go (yes e) = rw (e, get_or-set_same ws (s / 64) _ 0 k, bit_or_lem, bit_pow_other (s % 64) (x % 64) (omega (arith, e))) (omega arith)
    go (no d) = rw (get_or-set_other ws (s / 64) (x / 64) _ 0 d)

-- a remove takes its slot out, and leaves each other as it was
pub has_removed_same : (ws : List ℕ) (s : ℕ) → s < 64 * length ws → has (removed ws s) s ≡ 0
unfolding has removed
has_removed_same ws s h =
    let k : s / 64 < length ws = omega arith in
    rw (get_or-set_same ws (s / 64) _ 0 k, bit_xor_lem, bit_and_lem, bit_pow_same) (differ_self (bit (get_or ws (s / 64) 0) (s % 64)) (omega arith))

pub has_removed_other : (ws : List ℕ) (s x : ℕ) → (x ≡ s → ⊥) → s < 64 * length ws → has (removed ws s) x ≡ has ws x
unfolding has removed
has_removed_other ws s x n h = go (ℕ_discrete (x / 64) (s / 64))
  where
    k : s / 64 < length ws
    k = omega arith

    go : Dec (x / 64 ≡ s / 64) → has (removed ws s) x ≡ has ws x
    go (yes e) = rw (e, get_or-set_same ws (s / 64) _ 0 k, bit_xor_lem, bit_and_lem, bit_pow_other (s % 64) (x % 64) (omega (arith, e))) (differ_zero (bit (get_or ws (s / 64) 0) (x % 64)) (omega arith))
    go (no d) = rw (get_or-set_other ws (s / 64) (x / 64) _ 0 d)

-- the intersection has the slots that both sets have
pub get_or_both : (us vs : List ℕ) (i : ℕ) → length us ≡ length vs → get_or (both us vs) i 0 ≡ bit_and (get_or us i 0) (get_or vs i 0)
unfolding both
get_or_both [] [] i h = refl
get_or_both [] (v ∷ vs) i h = absurd (omega arith)
get_or_both (u ∷ us) [] i h = absurd (omega arith)
get_or_both (u ∷ us) (v ∷ vs) zero h = refl
get_or_both (u ∷ us) (v ∷ vs) (suc i) h = get_or_both us vs i (omega arith)

pub has_both : (us vs : List ℕ) (x : ℕ) → length us ≡ length vs → has (both us vs) x ≡ min (has us x) (has vs x)
unfolding has
has_both us vs x h = rw (get_or_both us vs (x / 64) h, bit_and_lem)

pub get_or_words8 : (f : ℕ → ℕ) (i : ℕ) → i < 8 → get_or (words8 f) i 0 ≡ f i
unfolding words8
get_or_words8 f zero h = refl
get_or_words8 f (suc zero) h = refl
get_or_words8 f (suc (suc zero)) h = refl
get_or_words8 f (suc (suc (suc zero))) h = refl
get_or_words8 f (suc (suc (suc (suc zero)))) h = refl
get_or_words8 f (suc (suc (suc (suc (suc zero))))) h = refl
get_or_words8 f (suc (suc (suc (suc (suc (suc zero)))))) h = refl
get_or_words8 f (suc (suc (suc (suc (suc (suc (suc zero))))))) h = refl
get_or_words8 f (suc (suc (suc (suc (suc (suc (suc (suc i)))))))) h = absurd (omega arith)

-- the union has the slots that one of both has
pub has_either : (us vs : List ℕ) (x : ℕ) → x < slot_count → has (either us vs) x ≡ max (has us x) (has vs x)
unfolding has either
has_either us vs x h = rw (get_or_words8 _ (x / 64) (omega arith), bit_or_lem)

-- the complement has just the slots that the set has not
pub has_others : (us : List ℕ) (x : ℕ) → Words us → x < slot_count → has (others us) x ≡ 1 - has us x
unfolding has others
has_others us x w h = rw (get_or_words8 _ (x / 64) (omega arith)) (bit_not 64 (get_or us (x / 64) 0) (x % 64) (w (x / 64) (omega arith)) (omega arith))

-- is_empty says yes exactly where no slot is in the set
unfoldable ors : List ℕ → ℕ → ℕ
ors us zero = get_or us 0 0
ors us (suc k) = bit_or (ors us k) (get_or us (suc k) 0)

ors_none : (us : List ℕ) (i k : ℕ) → bit (ors us k) i ≡ 0 → (j : ℕ) → j ≤ k → bit (get_or us j 0) i ≡ 0
unfolding ors
ors_none us i zero h j l = let e : j ≡ 0 = omega arith in rw e h
ors_none us i (suc k) h j l = go (ℕ_discrete j (suc k)) (ors_none us i k)
  where
    parts : max (bit (ors us k) i) (bit (get_or us (suc k) 0) i) ≡ 0
    parts = rw bit_or_lem at h

    go : Dec (j ≡ suc k) → (bit (ors us k) i ≡ 0 → (j : ℕ) → j ≤ k → bit (get_or us j 0) i ≡ 0) → bit (get_or us j 0) i ≡ 0
    go (yes e) ih = rw e (omega (arith, parts))
    go (no n) ih = ih (omega (arith, parts)) j (omega arith)

pub none_has : (us : List ℕ) → none_in us ≡ true → (x : ℕ) → x < slot_count → has us x ≡ 0
unfolding has none_in ors
none_has us h x l = ors_none us (x % 64) 7 (let e : ors us 7 ≡ 0 = eqb-true (ors us 7) 0 h in rw e (bit_none (x % 64))) (x / 64) (omega arith)

pub has_none : (us : List ℕ) → Words us → ((x : ℕ) → x < slot_count → has us x ≡ 0) → none_in us ≡ true
unfolding has none_in
has_none us w h =
    rw (word 0 (omega arith), word 1 (omega arith), word 2 (omega arith), word 3 (omega arith), word 4 (omega arith), word 5 (omega arith), word 6 (omega arith), word 7 (omega arith))
  where
    word : (i : ℕ) → i < 8 → get_or us i 0 ≡ 0
    word i l = go (ℕ_discrete (get_or us i 0) 0)
      where
        go : Dec (get_or us i 0 ≡ 0) → get_or us i 0 ≡ 0
        go (yes e) = e
        go (no n) =
            let b = some_bit 64 (get_or us i 0) (w i l) n in
            let p : (i * 64 + b.0) / 64 ≡ i = omega (arith, b.1) in
            let q : (i * 64 + b.0) % 64 ≡ b.0 = omega (arith, b.1) in
            let r = rw (p, q) at (h (i * 64 + b.0) (omega (arith, b.1))) in
            absurd (omega (arith, r, b.2))

-- ascending, from a number on
abbrev pub Ascends : ℕ → List ℕ → Type 0
Ascends from [] = Unit {0}
Ascends from (x ∷ l) = (from ≤ x) × Ascends (suc x) l

ascends_from : (a b : ℕ) (l : List ℕ) → a ≤ b → Ascends b l → Ascends a l
ascends_from a b [] h s = tt
ascends_from a b (x ∷ l) h s = ((let q = s.0 in omega (arith, q)), s.1)

ascends_least : (from x : ℕ) (l : List ℕ) → Ascends from l → In x l → from ≤ x
ascends_least from x [] s x4 = elim x4 [ ]
ascends_least from x (y ∷ l) s (inl e) = let q = s.0 in omega (arith, q, e)
ascends_least from x (y ∷ l) s (inr i) = let q = s.0 in omega (arith, q, ascends_least (suc y) x l s.1 i)

ascends_once : (from : ℕ) (l : List ℕ) → Ascends from l → NoDup l
ascends_once from [] s = tt
ascends_once from (x ∷ l) s = ((λ i. let q = ascends_least (suc x) x l s.1 i in omega (arith, q)), ascends_once (suc x) l s.1)

from_ascends : (ws : List ℕ) (from k : ℕ) → Ascends from (members_from ws from k)
unfolding members_from
from_ascends ws from zero = tt
from_ascends ws from (suc k) = go (ℕ_discrete (has ws from) 1) (from_ascends ws (suc from) k)
  where
    go : Dec (has ws from ≡ 1) → Ascends (suc from) (members_from ws (suc from) k) → Ascends from (members_from ws from (suc k))
    go (yes e) ih = rw (eq-eqb (has ws from) 1 e) (omega arith, ih)
    go (no n) ih = rw (ne_eqb (has ws from) 1 n) (ascends_from from (suc from) (members_from ws (suc from) k) (omega arith) ih)

pub from_has : (ws : List ℕ) (from k x : ℕ) → In x (members_from ws from k) → (x < from + k) × (has ws x ≡ 1)
unfolding members_from
from_has ws from zero x i = absurd i
from_has ws from (suc k) x i = go (ℕ_discrete (has ws from) 1) (from_has ws (suc from) k x) i
  where
    go : Dec (has ws from ≡ 1) → (In x (members_from ws (suc from) k) → (x < suc from + k) × (has ws x ≡ 1)) → In x (members_from ws from (suc k)) → (x < from + suc k) × (has ws x ≡ 1)
    go (yes e) ih i = here (rw (eq-eqb (has ws from) 1 e) at i)
      where
        here : In x (from ∷ members_from ws (suc from) k) → (x < from + suc k) × (has ws x ≡ 1)
        here (inl f) = (omega (arith, f), rw f e)
        here (inr j) = let r = ih j in ((let q = r.0 in omega (arith, q)), r.1)
    go (no n) ih i = let r = ih (rw (ne_eqb (has ws from) 1 n) at i) in ((let q = r.0 in omega (arith, q)), r.1)

has_from : (ws : List ℕ) (from k x : ℕ) → from ≤ x → x < from + k → has ws x ≡ 1 → In x (members_from ws from k)
unfolding members_from
has_from ws from zero x a b e = absurd (omega arith)
has_from ws from (suc k) x a b e = go (ℕ_discrete x from) (ℕ_discrete (has ws from) 1) (λ l. has_from ws (suc from) k x l (omega arith) e)
  where
    go : Dec (x ≡ from) → Dec (has ws from ≡ 1) → (suc from ≤ x → In x (members_from ws (suc from) k)) → In x (members_from ws from (suc k))
    go (yes f) (yes g) ih = rw (eq-eqb (has ws from) 1 g) (inl f)
    go (yes f) (no g) ih = absurd (g (rw (← f) e))
    go (no f) (yes g) ih = rw (eq-eqb (has ws from) 1 g) (inr (ih (omega arith)))
    go (no f) (no g) ih = rw (ne_eqb (has ws from) 1 g) (ih (omega arith))

-- the listing ascends, has each slot of the set, and nothing else, once
pub members_ascend : (ws : List ℕ) → Ascends 0 (members ws)
unfolding members
members_ascend ws = from_ascends ws 0 slot_count

pub members_has : (ws : List ℕ) (x : ℕ) → In x (members ws) → (x < slot_count) × (has ws x ≡ 1)
unfolding members
members_has ws x i = let r = from_has ws 0 slot_count x i in ((let q = r.0 in omega (arith, q)), r.1)

pub has_members : (ws : List ℕ) (x : ℕ) → x < slot_count → has ws x ≡ 1 → In x (members ws)
unfolding members
has_members ws x h e = has_from ws 0 slot_count x (omega arith) (omega arith) e

pub members_once : (ws : List ℕ) → NoDup (members ws)
members_once ws = ascends_once 0 (members ws) (members_ascend ws)
