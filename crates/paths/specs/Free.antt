-- Serves SCOPE.md, 'Store' ('freed keys are used again'): the free keys, and how many there are.
use Rattle.std.specs.Prelude.{ℕ, zero, suc, ◌≤◌, ◌<◌, ◌≡◌, refl, ◌↔◌, List, [], ◌∷◌, Bool, true, false, eqb, length, get_or, set}
use Rattle.std.proofs.Common.{sym, ap, ◌∙◌, inl, inr, arith, eqb-true, get_or-set_other}
use Rattle.std.proofs.Math.Decide.{ℕ_discrete, dec_lt}
use Rattle.std.proofs.lemmas.Bool.{eqb-false}
use Rattle.laws.specs.Members.{In, NoDup, nodup_le}
use Rattle.laws.specs.Choice.{pick}
use Rattle.chains.specs.Chains.{Chains, Chain, home, find, find_complete, longer, longer_yes, longer_no}
use Rattle.laws.specs.Sizes.{free_head, key_limit}

-- the keys below n whose label is 0
unfoldable pub free_of : List ℕ → ℕ → List ℕ
free_of label zero = []
free_of label (suc n) = pick (eqb (get_or label n 0) 0) (n ∷ free_of label n) (free_of label n)

pub free_in : (label : List ℕ) (n k : ℕ) → In k (free_of label n) → (k < n) × (get_or label k 0 ≡ 0)
unfolding free_of
free_in label zero k h = absurd h
free_in label (suc n) k h = go (eqb (get_or label n 0) 0) refl h (free_in label n k)
  where
    go : (b : Bool) → eqb (get_or label n 0) 0 ≡ b → In k (pick b (n ∷ free_of label n) (free_of label n)) → (In k (free_of label n) → (k < n) × (get_or label k 0 ≡ 0)) → (k < suc n) × (get_or label k 0 ≡ 0)
    go true e (inl q) ih = (omega arith, ap (λ (x : ℕ). get_or label x 0) q ∙ eqb-true _ _ e)
    go true e (inr i) ih = let r = ih i in (omega arith, r.1)
    go false e i ih = let r = ih i in (omega arith, r.1)

pub in_free : (label : List ℕ) (n k : ℕ) → k < n → get_or label k 0 ≡ 0 → In k (free_of label n)
unfolding free_of
in_free label zero k l h = absurd (omega arith)
in_free label (suc n) k l h = go (ℕ_discrete k n) (eqb (get_or label n 0) 0) refl (in_free label n k)
  where
    go : Dec (k ≡ n) → (b : Bool) → eqb (get_or label n 0) 0 ≡ b → (k < n → get_or label k 0 ≡ 0 → In k (free_of label n)) → In k (pick b (n ∷ free_of label n) (free_of label n))
    go (yes q) true e ih = inl q
    go (yes q) false e ih = absurd (eqb-false _ _ e (ap (λ (x : ℕ). get_or label x 0) (sym q) ∙ h))
    go (no q) true e ih = inr (ih (omega arith) h)
    go (no q) false e ih = ih (omega arith) h

pub free_nodup : (label : List ℕ) (n : ℕ) → NoDup (free_of label n)
unfolding free_of
free_nodup label zero = tt
free_nodup label (suc n) = go (eqb (get_or label n 0) 0) (free_nodup label n)
  where
    go : (b : Bool) → NoDup (free_of label n) → NoDup (pick b (n ∷ free_of label n) (free_of label n))
    go true d = ((λ i. let z = (free_in label n n i).0 in omega arith), d)
    go false d = d

abbrev pub frees : List ℕ → ℕ
frees label = length (free_of label key_limit)

-- where one is free, the search of label 0 answers one
pub free_found : (link label : List ℕ) → Chains link label key_limit → 0 < frees label → find link label 0 < key_limit
free_found link label c h = go (free_of label key_limit) (free_in label key_limit) h
  where
    go : (l : List ℕ) → ((k : ℕ) → In k l → (k < key_limit) × (get_or label k 0 ≡ 0)) → 0 < length l → find link label 0 < key_limit
    go [] m q = absurd (omega arith)
    go (k ∷ l) m q = let z = m k (inl refl) in find_complete link label 0 k c z.0 z.1

-- a label given takes at most one of them
pub free_less : (label : List ℕ) (k w : ℕ) → frees label ≤ suc (frees (set label k w))
free_less label k w = nodup_le (free_of label key_limit) (k ∷ free_of (set label k w) key_limit) (free_nodup label key_limit)
    (λ j i. let z = free_in label key_limit j i in go j z (ℕ_discrete j k))
  where
    go : (j : ℕ) → (j < key_limit) × (get_or label j 0 ≡ 0) → Dec (j ≡ k) → In j (k ∷ free_of (set label k w) key_limit)
    go j z (yes q) = inl q
    go j z (no q) = inr (in_free (set label k w) key_limit j z.0 (get_or-set_other label k j w 0 q ∙ z.1))

-- the test for room: the free chain has at least m keys
label_free : (w : ℕ) → home w ≡ free_head → w ≡ 0
unfolding home
label_free zero h = refl
label_free (suc w) h = absurd (omega arith)

free_home : (w : ℕ) → w ≡ 0 → home w ≡ free_head
unfolding home
free_home zero h = refl
free_home (suc w) h = absurd (omega arith)

pub room : (link label : List ℕ) (m : ℕ) → Chains link label key_limit → (longer link m (get_or link free_head 0) ≡ true) ↔ (m ≤ frees label)
unfolding Chains
room link label m c = ((λ h. to h (dec_lt (frees label) m)), (λ h. longer_yes link m (get_or link free_head 0) d.keys d.linked (λ k i. (d.from k i).0) (omega (arith, same))))
  where
    d : Chain link label key_limit free_head
    d = c free_head (omega arith) (omega arith)

    le : length d.keys ≤ frees label
    le = nodup_le d.keys (free_of label key_limit) d.nodup (λ k i. let w = d.from k i in in_free label key_limit k w.0 (label_free _ w.1))

    ge : frees label ≤ length d.keys
    ge = nodup_le (free_of label key_limit) d.keys (free_nodup label key_limit) (λ k i. let w = free_in label key_limit k i in d.into k w.0 (free_home _ w.1) (λ z. let q = w.0 in omega arith))

    same : length d.keys ≡ frees label
    same = omega (arith, le, ge)

    to : longer link m (get_or link free_head 0) ≡ true → Dec (frees label < m) → m ≤ frees label
    to h (yes q) = let z = longer_no link m (get_or link free_head 0) d.keys d.linked (λ k i. (d.from k i).0) (omega (arith, same)) in let y : ◌≡◌ {A = ℕ} 0 1 = cc in absurd (omega arith)
    to h (no q) = omega arith
