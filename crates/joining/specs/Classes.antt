-- Serves SCOPE.md, 'The solver's record': the classes of nodes: each node has the number of one of its class, which
-- has its own.
use Rattle.std.specs.Prelude.{◌≡◌, refl, ◌⊎◌, ◌≢◌, Bool, true, false, List, [], ◌∷◌, map, ℕ, zero, suc, ◌+◌, ◌*◌, ◌≤◌, ◌<◌, eqb, length, get_or}
use Rattle.std.proofs.Common.{sym, ap, ◌∙◌, inl, inr, arith, eqb-true}
use Rattle.std.proofs.Math.Decide.{ℕ_discrete}
use Rattle.std.proofs.lemmas.List.{length-map}
use Rattle.std.proofs.lemmas.Bool.{eqb-false}
use Rattle.laws.specs.Choice.{pick}

unfoldable pub swap : ℕ → ℕ → ℕ → ℕ
swap from to x = pick (eqb x from) to x

pub swap_cases : (from to x : ℕ) → ((x ≡ from) × (swap from to x ≡ to)) ⊎ ((x ≢ from) × (swap from to x ≡ x))
unfolding swap
swap_cases from to x = go (eqb x from) refl
  where
    go : (b : Bool) → eqb x from ≡ b → ((x ≡ from) × (pick b to x ≡ to)) ⊎ ((x ≢ from) × (pick b to x ≡ x))
    go true e = inl (eqb-true x from e, refl)
    go false e = inr (eqb-false x from e, refl)

pub get_or_map : (f : ℕ → ℕ) (l : List ℕ) (i : ℕ) → i < length l → get_or (map f l) i 0 ≡ f (get_or l i 0)
get_or_map f [] i b = absurd (omega arith)
get_or_map f (x ∷ l) zero b = refl
get_or_map f (x ∷ l) (suc i) b = get_or_map f l i (omega arith)

-- how many nodes have their own number
tally : {A : Type 0} → Dec A → ℕ
tally (yes a) = 1
tally (no f) = 0

own : ℕ → List ℕ → ℕ
own k [] = 0
own k (x ∷ l) = tally (ℕ_discrete x k) + own (k + 1) l

pub reps : List ℕ → ℕ
reps l = own 0 l

own_all : (k : ℕ) (l : List ℕ) → own k l ≤ length l
unfolding own tally
own_all k [] = omega arith
own_all k (x ∷ l) = omega (arith, own_all (k + 1) l, go (ℕ_discrete x k))
  where
    go : (d : Dec (x ≡ k)) → tally d ≤ 1
    go (yes a) = omega arith
    go (no f) = omega arith

pub reps_all : (l : List ℕ) → reps l ≤ length l
unfolding reps
reps_all l = own_all 0 l

tally_le : (x y k : ℕ) → (y ≡ k → x ≡ k) → tally (ℕ_discrete y k) ≤ tally (ℕ_discrete x k)
unfolding tally
tally_le x y k h = go (ℕ_discrete y k) (ℕ_discrete x k)
  where
    go : (d : Dec (y ≡ k)) (c : Dec (x ≡ k)) → tally d ≤ tally c
    go (yes a) (yes b) = omega arith
    go (yes a) (no f) = absurd (f (h a))
    go (no f) (yes b) = omega arith
    go (no f) (no g) = omega arith

tally_lt : (x y k : ℕ) → x ≡ k → y ≢ k → tally (ℕ_discrete y k) < tally (ℕ_discrete x k)
unfolding tally
tally_lt x y k e h = go (ℕ_discrete y k) (ℕ_discrete x k)
  where
    go : (d : Dec (y ≡ k)) (c : Dec (x ≡ k)) → tally d < tally c
    go (yes a) c = absurd (h a)
    go (no f) (yes b) = omega arith
    go (no f) (no g) = absurd (g e)

own_le : (k : ℕ) (l m : List ℕ) → length m ≡ length l → ((i : ℕ) → i < length l → get_or m i 0 ≡ k + i → get_or l i 0 ≡ k + i) → own k m ≤ own k l
unfolding own
own_le k [] [] e h = omega arith
own_le k [] (y ∷ m) e h = absurd (omega arith)
own_le k (x ∷ l) [] e h = absurd (omega arith)
own_le k (x ∷ l) (y ∷ m) e h =
    omega (arith, own_le (k + 1) l m (omega arith) (λ i b q. (let r = h (suc i) (omega arith) (omega arith) in omega arith)), tally_le x y k (λ q. (let r = h 0 (omega arith) (omega arith) in omega arith)))

own_lt : (k : ℕ) (l m : List ℕ) → length m ≡ length l → ((i : ℕ) → i < length l → get_or m i 0 ≡ k + i → get_or l i 0 ≡ k + i)
    → (j : ℕ) → j < length l → get_or l j 0 ≡ k + j → get_or m j 0 ≢ k + j → own k m < own k l
unfolding own
own_lt k [] m e h j b p q = absurd (omega arith)
own_lt k (x ∷ l) [] e h j b p q = absurd (omega arith)
own_lt k (x ∷ l) (y ∷ m) e h zero b p q =
    omega (arith, own_le (k + 1) l m (omega arith) (λ i b q. (let r = h (suc i) (omega arith) (omega arith) in omega arith)), tally_lt x y k (omega arith) (λ r. q (omega arith)))
own_lt k (x ∷ l) (y ∷ m) e h (suc j) b p q =
    omega (arith, own_lt (k + 1) l m (omega arith) (λ i b q. (let r = h (suc i) (omega arith) (omega arith) in omega arith)) j (omega arith) (omega arith) (λ r. q (omega arith)), tally_le x y k (λ q. (let r = h 0 (omega arith) (omega arith) in omega arith)))

-- n pairs on the stack
pub record Classes (n : ℕ) (cls : List ℕ) : Type 0 where
  pub many : length cls ≡ 64
  pub low : (i : ℕ) → i < 64 → get_or cls i 0 < 64
  pub rep : (i : ℕ) → i < 64 → get_or cls (get_or cls i 0) 0 ≡ get_or cls i 0
  pub room : n + 7 * reps cls ≤ 449

pub classes_less : (n m : ℕ) (cls : List ℕ) → m ≤ n → Classes n cls → Classes m cls
classes_less n m cls b c = record { many = c.many; low = c.low; rep = c.rep; room = omega (arith, c.room) }

pub classes_start : (cls : List ℕ) → length cls ≡ 64 → ((i : ℕ) → i < 64 → get_or cls i 0 ≡ i) → Classes 1 cls
classes_start cls e h = record {
  many = e;
  low = λ i b. omega (arith, h i b);
  rep = λ i b. (let q = h i b in ap (λ (x : ℕ). get_or cls x 0) q);
  room = omega (arith, reps_all cls);
}

-- two classes made one
module _ (n : ℕ) (cls : List ℕ) (c : Classes n cls) (p q : ℕ) (pl : p < 64) (ql : q < 64) (d : get_or cls p 0 ≢ get_or cls q 0) where
  -- the new classes
  abbrev pub join : List ℕ
  join = map (swap (get_or cls p 0) (get_or cls q 0)) cls

  at : (i : ℕ) → i < 64 → get_or join i 0 ≡ swap (get_or cls p 0) (get_or cls q 0) (get_or cls i 0)
  at i b = get_or_map (swap (get_or cls p 0) (get_or cls q 0)) cls i (omega (arith, c.many))

  pub join_each : (i : ℕ) → i < 64 → ((get_or cls i 0 ≡ get_or cls p 0) × (get_or join i 0 ≡ get_or cls q 0)) ⊎ ((get_or cls i 0 ≢ get_or cls p 0) × (get_or join i 0 ≡ get_or cls i 0))
  join_each i b = rw (at i b) (swap_cases (get_or cls p 0) (get_or cls q 0) (get_or cls i 0))

  keeps : (i : ℕ) → i < length cls → get_or join i 0 ≡ 0 + i → get_or cls i 0 ≡ 0 + i
  keeps i b e = go (join_each i (omega (arith, c.many)))
    where
      go : ((get_or cls i 0 ≡ get_or cls p 0) × (get_or join i 0 ≡ get_or cls q 0)) ⊎ ((get_or cls i 0 ≢ get_or cls p 0) × (get_or join i 0 ≡ get_or cls i 0)) → get_or cls i 0 ≡ 0 + i
      go (inl h) = let z : i ≡ get_or cls q 0 = omega (arith, h.1) in absurd (d (sym h.0 ∙ ap (λ (x : ℕ). get_or cls x 0) z ∙ c.rep q ql))
      go (inr h) = omega (arith, h.1)

  moves : get_or join (get_or cls p 0) 0 ≢ 0 + get_or cls p 0
  moves e = go (join_each (get_or cls p 0) (c.low p pl))
    where
      go : ((get_or cls (get_or cls p 0) 0 ≡ get_or cls p 0) × (get_or join (get_or cls p 0) 0 ≡ get_or cls q 0)) ⊎ ((get_or cls (get_or cls p 0) 0 ≢ get_or cls p 0) × (get_or join (get_or cls p 0) 0 ≡ get_or cls (get_or cls p 0) 0)) → ⊥
      go (inl h) = d (omega (arith, h.1))
      go (inr h) = h.0 (c.rep p pl)

  pub join_falls : reps join < reps cls
  unfolding reps
  join_falls = own_lt 0 cls join (length-map cls (swap (get_or cls p 0) (get_or cls q 0))) keeps (get_or cls p 0) (omega (arith, c.many, c.low p pl)) (omega (arith, c.rep p pl)) moves

  pub join_classes : (k : ℕ) → k ≤ n + 7 → Classes k join
  join_classes k b = record {
    many = length-map cls (swap (get_or cls p 0) (get_or cls q 0)) ∙ c.many;
    low = λ i l. low₁ i l (join_each i l);
    rep = λ i l. rep₁ i l (join_each i l);
    room = omega (arith, c.room, join_falls);
  }
    where
      low₁ : (i : ℕ) → i < 64 → ((get_or cls i 0 ≡ get_or cls p 0) × (get_or join i 0 ≡ get_or cls q 0)) ⊎ ((get_or cls i 0 ≢ get_or cls p 0) × (get_or join i 0 ≡ get_or cls i 0)) → get_or join i 0 < 64
      low₁ i l (inl h) = omega (arith, h.1, c.low q ql)
      low₁ i l (inr h) = omega (arith, h.1, c.low i l)

      keep : (x : ℕ) → x < 64 → get_or cls x 0 ≡ x → x ≢ get_or cls p 0 → get_or join x 0 ≡ x
      keep x l e f = go (join_each x l)
        where
          go : ((get_or cls x 0 ≡ get_or cls p 0) × (get_or join x 0 ≡ get_or cls q 0)) ⊎ ((get_or cls x 0 ≢ get_or cls p 0) × (get_or join x 0 ≡ get_or cls x 0)) → get_or join x 0 ≡ x
          go (inl h) = absurd (f (sym e ∙ h.0))
          go (inr h) = h.1 ∙ e

      rep₁ : (i : ℕ) → i < 64 → ((get_or cls i 0 ≡ get_or cls p 0) × (get_or join i 0 ≡ get_or cls q 0)) ⊎ ((get_or cls i 0 ≢ get_or cls p 0) × (get_or join i 0 ≡ get_or cls i 0)) → get_or join (get_or join i 0) 0 ≡ get_or join i 0
      rep₁ i l (inl h) = rw h.1 (keep (get_or cls q 0) (c.low q ql) (c.rep q ql) (λ e. d (sym e)))
      rep₁ i l (inr h) = rw h.1 (keep (get_or cls i 0) (c.low i l) (c.rep i l) h.0)
