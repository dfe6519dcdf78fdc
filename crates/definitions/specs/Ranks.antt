-- SCOPE.md, 'Numbers of refusal': 'of the refusals that apply, the first in rank is given'. Rows of its table, each a
-- refusal and when it applies; what they give; and the laws of rank.
use Rattle.std.specs.Prelude.{ℕ, zero, suc, ◌≤◌, ◌<◌, ◌≡◌, refl, ◌⊎◌, ◌↔◌, Bool, true, false, leb, eqb, get_or}
use Rattle.std.proofs.Common.{sym, ap, ◌∙◌, inl, inr, ⊎_elim, arith, leb-true, eqb-true}
use Rattle.std.proofs.Math.Decide.{dec_le, ℕ_discrete}
use Rattle.laws.specs.Choice.{pick}
use Rattle.refusals.specs.declared.Refusal.{Refusal}
use Rattle.refusals.specs.Refusals.{number_of, order, rank}
use Rattle.refusals.specs.Numbers.{number_some, number_one, every}
use Rattle.definitions.specs.Spelt.{taken}

-- of those that apply, P, the first in rank is n; 0 is none
pub record First (P : ℕ → Type 0) (n : ℕ) : Type 0 where
  pub given : (n ≡ 0) ⊎ P n
  pub first : (m : ℕ) → P m → (0 < n) × (rank n ≤ rank m)

-- rows of the table of refusals; a part of them that gives a number by itself, and the rows after it
pub data Rows : Type 1 where
  end : Rows
  row : Refusal → Type 0 → Rows → Rows
  part : Rows → Rows → Rows

-- a row with number m applies
abbrev pub AppliesIn : Rows → ℕ → Type 0
AppliesIn end m = ⊥
AppliesIn (row w A l) m = ((m ≡ number_of w) × A) ⊎ AppliesIn l m
AppliesIn (part l r) m = AppliesIn l m ⊎ AppliesIn r m

-- no row ranks before n; none of r before one of l; each row stands before those that rank after it
abbrev pub before : ℕ → Rows → Bool
before n end = true
before n (row w A l) = pick (leb (rank n) (rank (number_of w))) (before n l) false
before n (part l r) = pick (before n l) (before n r) false

abbrev pub across : Rows → Rows → Bool
across end r = true
across (row w A l) r = pick (before (number_of w) r) (across l r) false
across (part k l) r = pick (across k r) (across l r) false

abbrev pub ranked : Rows → Bool
ranked end = true
ranked (row w A l) = pick (before (number_of w) l) (ranked l) false
ranked (part l r) = pick (across l r) (ranked r) false

pub before_all : (n : ℕ) (l : Rows) → before n l ≡ true → (m : ℕ) → AppliesIn l m → rank n ≤ rank m
before_all n end h m a = elim a [ ]
before_all n (row w A l) h m (inl p) = rw p.0 (leb-true (rank n) (rank (number_of w)) (taken (leb (rank n) (rank (number_of w))) (before n l) h).0)
before_all n (row w A l) h m (inr p) = before_all n l (taken (leb (rank n) (rank (number_of w))) (before n l) h).1 m p
before_all n (part l r) h m (inl p) = before_all n l (taken (before n l) (before n r) h).0 m p
before_all n (part l r) h m (inr p) = before_all n r (taken (before n l) (before n r) h).1 m p

across_all : (l r : Rows) → across l r ≡ true → (k m : ℕ) → AppliesIn l k → AppliesIn r m → rank k ≤ rank m
across_all end r h k m p q = elim p [ ]
across_all (row w A l) r h k m (inl p) q = rw p.0 (before_all (number_of w) r (taken (before (number_of w) r) (across l r) h).0 m q)
across_all (row w A l) r h k m (inr p) q = across_all l r (taken (before (number_of w) r) (across l r) h).1 k m p q
across_all (part a b) r h k m (inl p) q = across_all a r (taken (across a r) (across b r) h).0 k m p q
across_all (part a b) r h k m (inr p) q = across_all b r (taken (across a r) (across b r) h).1 k m p q

-- what rows in the order of rank give: a row that applies is given, one that does not is passed
pub record Gives (l : Rows) (n : ℕ) : Type 0 where
  pub in_order : ranked l ≡ true → First (AppliesIn l) n

pub at_end : Gives end 0
at_end = record { in_order = λ h. record { given = inl refl; first = λ m p. absurd p } }

pub at_row : {w : Refusal} {A : Type 0} {l : Rows} → A → Gives (row w A l) (number_of w)
at_row {w = w} {A = A} {l = l} a = record { in_order = λ h. record { given = inr (inl (refl, a)); first = λ m p. (some, after h m p) } }
  where
    some : 0 < number_of w
    some = let n = number_some w in omega (arith, n)

    after : ranked (row w A l) ≡ true → (m : ℕ) → AppliesIn (row w A l) m → rank (number_of w) ≤ rank m
    after h m (inl p) = rw p.0 (omega arith)
    after h m (inr p) = before_all (number_of w) l (taken (before (number_of w) l) (ranked l) h).0 m p

pub past_row : {w : Refusal} {A : Type 0} {l : Rows} {n : ℕ} → (A → ⊥) → Gives l n → Gives (row w A l) n
past_row {w = w} {A = A} {l = l} {n = n} no-a g = record { in_order = λ h. widen (g.in_order (taken (before (number_of w) l) (ranked l) h).1) }
  where
    widen : First (AppliesIn l) n → First (AppliesIn (row w A l)) n
    widen f = record { given = ⊎_elim (λ z. inl z) (λ p. inr (inr p)) f.given; first = λ m p. ⊎_elim (λ q. absurd (no-a q.1)) (f.first m) p }

-- and so is a part of them, with what it gives by itself
pub at_part : {l r : Rows} {n : ℕ} → First (AppliesIn l) n → (n ≡ 0 → ⊥) → Gives (part l r) n
at_part {l = l} {r = r} {n = n} f z = record { in_order = λ h. ⊎_elim (λ e. absurd (z e)) (λ a. record { given = inr (inl a); first = after h a }) f.given }
  where
    after : ranked (part l r) ≡ true → AppliesIn l n → (m : ℕ) → AppliesIn (part l r) m → (0 < n) × (rank n ≤ rank m)
    after h a m (inl p) = f.first m p
    after h a m (inr p) = (omega (arith, z), across_all l r (taken (across l r) (ranked r) h).0 n m a p)

pub past_part : {l r : Rows} {k n : ℕ} → First (AppliesIn l) k → k ≡ 0 → Gives r n → Gives (part l r) n
past_part {l = l} {r = r} {k = k} {n = n} f z g = record { in_order = λ h. widen (g.in_order (taken (across l r) (ranked r) h).1) }
  where
    widen : First (AppliesIn r) n → First (AppliesIn (part l r)) n
    widen a = record {
      given = ⊎_elim (λ e. inl e) (λ p. inr (inr p)) a.given;
      first = λ m p. ⊎_elim (λ q. absurd (omega (arith, (f.first m q).0, z))) (a.first m) p;
    }

-- what rows give is 0 or the number of a refusal by name
abbrev pub NumberNamed : ℕ → Type 0
NumberNamed n = (why : Refusal) × (n ≡ number_of why)

pub applies_named : (l : Rows) (m : ℕ) → AppliesIn l m → NumberNamed m
applies_named end m p = elim p [ ]
applies_named (row w A l) m (inl p) = (w, p.0)
applies_named (row w A l) m (inr p) = applies_named l m p
applies_named (part l r) m p = ⊎_elim (applies_named l m) (applies_named r m) p

pub first_named : (l : Rows) (n : ℕ) → First (AppliesIn l) n → (n ≡ 0) ⊎ NumberNamed n
first_named l n f = ⊎_elim (λ z. inl z) (λ p. inr (applies_named l n p)) f.given

-- two refusals of one rank are one: the number at the place of a number is that number
rank_back : (w : Refusal) → get_or order (rank (number_of w)) 0 ≡ number_of w
unfolding rank
rank_back w = eqb-true (get_or order (rank (number_of w)) 0) (number_of w) (every (λ v. eqb (get_or order (rank (number_of v)) 0) (number_of v)) refl w)

pub rank_one : (w v : Refusal) → rank (number_of w) ≡ rank (number_of v) → w ≡ v
rank_one w v h = number_one w v (sym (rank_back w) ∙ ap (λ i. get_or order i 0) h ∙ rank_back v)

-- 'for the numbers 1 to 16 the rank is the order of the numbers': each ranks before the next, by one computed test
rises : ℕ → Bool
rises zero = true
rises (suc k) = pick (leb (suc (rank (suc k))) (rank (suc (suc k)))) (rises k) false

rises_told : (k : ℕ) → rises k ≡ true → (m : ℕ) → 0 < m → m ≤ k → rank m < rank (suc m)
unfolding rises
rises_told zero h m z l = absurd (omega (arith, z, l))
rises_told (suc k) h m z l = go (ℕ_discrete m (suc k)) (rises_told k)
  where
    t : (leb (suc (rank (suc k))) (rank (suc (suc k))) ≡ true) × (rises k ≡ true)
    t = taken (leb (suc (rank (suc k))) (rank (suc (suc k)))) (rises k) h

    go : Dec (m ≡ suc k) → (rises k ≡ true → (m : ℕ) → 0 < m → m ≤ k → rank m < rank (suc m)) → rank m < rank (suc m)
    go (yes e) ih = rw e (leb-true (suc (rank (suc k))) (rank (suc (suc k))) t.0)
    go (no n) ih = ih t.1 m z (omega (arith, n, l))

sixteen : rises 15 ≡ true
unfolding rises rank
sixteen = refl

rank_rises : (m n : ℕ) → 0 < m → m < n → n ≤ 16 → rank m < rank n
rank_rises m zero z l b = absurd (omega (arith, l))
rank_rises m (suc n) z l b = go (ℕ_discrete m n) (rank_rises m n z)
  where
    next : 0 < n → rank n < rank (suc n)
    next p = rises_told 15 sixteen n p (omega (arith, b))

    go : Dec (m ≡ n) → (m < n → n ≤ 16 → rank m < rank n) → rank m < rank (suc n)
    go (yes e) ih = rw e (next (omega (arith, z, e)))
    go (no d) ih = let a : m < n = omega (arith, d, l) in omega (arith, ih a (omega (arith, b)), next (omega (arith, a)))

pub rank_order : (m n : ℕ) → 0 < m → m ≤ 16 → 0 < n → n ≤ 16 → (rank m ≤ rank n) ↔ (m ≤ n)
rank_order m n z b y c = (from (dec_le m n), into (ℕ_discrete m n))
  where
    from : Dec (m ≤ n) → rank m ≤ rank n → m ≤ n
    from (yes l) h = l
    from (no d) h = absurd (omega (arith, h, rank_rises n m y (omega (arith, d)) b))

    into : Dec (m ≡ n) → m ≤ n → rank m ≤ rank n
    into (yes e) l = rw e (omega arith)
    into (no d) l = omega (arith, rank_rises m n z (omega (arith, d, l)) c)
