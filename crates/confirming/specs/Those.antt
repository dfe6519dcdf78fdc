-- Serves SCOPE.md, 'The relations themselves': what a test leaves of the slots of a set.
use Prim.Native.Nat.{ℕ, zero, suc, ◌+◌, ◌≤◌, ◌<◌}
use Rattle.std.specs.Prelude.{◌≡◌, refl, ◌↔◌, List, [], ◌∷◌, Bool, eqb}
use Rattle.std.proofs.Math.Path.{sym}
use Rattle.std.proofs.Common.{◌∙◌, inl, inr, arith, eq-eqb, eqb-true}
use Rattle.std.proofs.Math.Bool.{true, false}
use Rattle.laws.specs.Choice.{pick}
use Rattle.laws.specs.Members.{In}
use Rattle.slots.specs.Slots.{has, members_from, members}
use Rattle.slots.specs.Sets.{members_has, has_members}
use Rattle.definitions.specs.Spelt.{clash}
use Rattle.confirming.specs.Confirms.{those}
use Rattle.laws.specs.Sizes.{slot_count}

-- `list k s` is, ascending, those of the k slots from s on that pass the test: as `members_from`, or a store's list of
-- slots
pub record SlotsBy (test : ℕ → Bool) (list : ℕ → ℕ → List ℕ) : Type 0 where
  pub none : (s : ℕ) → list zero s ≡ []
  pub more : (k s : ℕ) → list (suc k) s ≡ pick (test s) (s ∷ list k (suc s)) (list k (suc s))

-- a test that is true where two are
both_test : (b c d : Bool) → ((b ≡ true) × (c ≡ true)) ↔ (d ≡ true) → d ≡ pick b c false
both_test true true d h = h.0 (refl, refl)
both_test true false true h = clash (h.1 refl).1
both_test true false false h = refl
both_test false c true h = clash (h.1 refl).0
both_test false c false h = refl

module _ (p test : ℕ → Bool) (ws : List ℕ) (list : ℕ → ℕ → List ℕ) (f : SlotsBy test list) where
  one_more : (b : Bool) (s : ℕ) (l m : List ℕ) → those p l ≡ m → those p (pick b (s ∷ l) l) ≡ pick (pick b (p s) false) (s ∷ m) m
  unfolding those
  one_more true s l m e = rw e
  one_more false s l m e = e

  those_from : (k s : ℕ) → ((x : ℕ) → s ≤ x → x < s + k → ((has ws x ≡ 1) × (p x ≡ true)) ↔ (test x ≡ true)) → those p (members_from ws s k) ≡ list k s
  unfolding those members_from
  those_from zero s h = sym (f.none s)
  those_from (suc k) s h =
      let c = h s (omega arith) (omega arith) in
      let e : test s ≡ pick (eqb (has ws s) 1) (p s) false =
      both_test _ _ _ ((λ z. c.0 (eqb-true (has ws s) 1 z.0, z.1)), (λ z. (eq-eqb (has ws s) 1 (c.1 z).0, (c.1 z).1))) in
      one_more (eqb (has ws s) 1) s _ _ (those_from k (suc s) (λ x a b. h x (omega arith) (omega arith))) ∙ rw (← e) (sym (f.more k s))

  -- where a test is true just of the slots of a set that pass another, they are what that test leaves of the set
  pub those_slots : ((s : ℕ) → s < slot_count → ((has ws s ≡ 1) × (p s ≡ true)) ↔ (test s ≡ true)) → those p (members ws) ≡ list slot_count 0
  unfolding members
  those_slots h = those_from slot_count 0 (λ x a b. h x (omega arith))

-- the same of a set that has just those slots
pub those_members : (p : ℕ → Bool) (cs ws : List ℕ) → ((s : ℕ) → s < slot_count → (has ws s ≡ 1) ↔ ((has cs s ≡ 1) × (p s ≡ true))) → members ws ≡ those p (members cs)
unfolding members members_from
those_members p cs ws h = sym (those_slots p (λ s. eqb (has ws s) 1) cs (λ k s. members_from ws s k) (record { none = λ s. refl; more = λ k s. refl }) at)
  where
    at : (s : ℕ) → s < slot_count → ((has cs s ≡ 1) × (p s ≡ true)) ↔ (eqb (has ws s) 1 ≡ true)
    at s l = ((λ z. eq-eqb (has ws s) 1 ((h s l).1 z)), (λ z. (h s l).0 (eqb-true (has ws s) 1 z)))

-- which slots they are
those_in : (p : ℕ → Bool) (s : ℕ) (l : List ℕ) → In s (those p l) ↔ (In s l × (p s ≡ true))
unfolding those
those_in p s [] = ((λ i. absurd i), (λ z. absurd z.0))
those_in p s (x ∷ l) = go (p x) refl (those_in p s l)
  where
    go : (b : Bool) → p x ≡ b → In s (those p l) ↔ (In s l × (p s ≡ true)) → In s (pick b (x ∷ those p l) (those p l)) ↔ (In s (x ∷ l) × (p s ≡ true))
    go true e ih = (to, fro)
      where
        to : In s (x ∷ those p l) → In s (x ∷ l) × (p s ≡ true)
        to (inl z) = (inl z, rw z e)
        to (inr i) = (inr (ih.0 i).0, (ih.0 i).1)

        fro : In s (x ∷ l) × (p s ≡ true) → In s (x ∷ those p l)
        fro (inl z, t) = inl z
        fro (inr i, t) = inr (ih.1 (i, t))
    go false e ih = ((λ i. (inr (ih.0 i).0, (ih.0 i).1)), fro)
      where
        fro : In s (x ∷ l) × (p s ≡ true) → In s (those p l)
        fro (inl z, t) = let y : p x ≡ true = rw (← z) t in clash (sym e ∙ y)
        fro (inr i, t) = ih.1 (i, t)

pub those_are : (p : ℕ → Bool) (ws : List ℕ) (s : ℕ) → In s (those p (members ws)) ↔ ((s < slot_count) × (has ws s ≡ 1) × (p s ≡ true))
those_are p ws s = let a = those_in p s (members ws) in (
  (λ i. let z = a.0 i in let m = members_has ws s z.0 in (m.0, m.1, z.1)),
  (λ z. a.1 (has_members ws s z.0 z.1, z.2)),
)
