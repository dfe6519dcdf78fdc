-- Serves SCOPE.md, 'Store' and 'Numbers of refusal': the listings of sets of slots are the listings of stores, and
-- the smallest free slot of the words is that of the store.
use Rattle.std.specs.Prelude.{ℕ, zero, suc, ◌+◌, ◌-◌, ◌≤◌, ◌<◌, ◌≡◌, refl, ◌↔◌, List, Bool, true, false, eqb}
use Rattle.std.proofs.Common.{arith, eq-eqb, eqb-true, lt-ltb}
use Rattle.laws.specs.Choice.{pick}
use Rattle.slots.specs.Slots.{has, others, members, members_from}
use Rattle.layout.specs.Layout.{used_of, is_used}
use Rattle.definitions.specs.Spelt.{clash}
use Rattle.library.specs.Store.{Store, slots_from, slots_with, in_use, free_from, first_free}
use Rattle.store.specs.Tables.{least_from, free_slot}
use Rattle.slots.specs.Sets.{Words}
use Rattle.store.specs.Kept.{has_others}
use Rattle.laws.specs.Sizes.{slot_count}

-- two tests that are true together
pub same_test : (b c : Bool) → (b ≡ true) ↔ (c ≡ true) → b ≡ c
same_test true true h = refl
same_test true false h = clash (h.0 refl)
same_test false true h = clash (h.1 refl)
same_test false false h = refl

-- a digit's test
pub has_test : (n : ℕ) (c : Bool) → (n ≡ 1) ↔ (c ≡ true) → eqb n 1 ≡ c
has_test n c h = same_test (eqb n 1) c ((λ e. h.0 (eqb-true n 1 e)), (λ e. eq-eqb n 1 (h.1 e)))

members_from_lem : (ws : List ℕ) (p : ℕ → Bool) (k s : ℕ) → ((x : ℕ) → s ≤ x → x < s + k → (has ws x ≡ 1) ↔ (p x ≡ true)) → members_from ws s k ≡ slots_from p k s
unfolding members_from slots_from
members_from_lem ws p zero s h = refl
members_from_lem ws p (suc k) s h =
    rw (has_test (has ws s) (p s) (h s (omega arith) (omega arith)), members_from_lem ws p k (suc s) (λ x a b. h x (omega arith) (omega arith)))

-- the members of a set are the slots that pass a test, where the set has just those
pub members_slots : (ws : List ℕ) (p : ℕ → Bool) → ((s : ℕ) → s < slot_count → (has ws s ≡ 1) ↔ (p s ≡ true)) → members ws ≡ slots_with p
unfolding members
members_slots ws p h = members_from_lem ws p slot_count 0 (λ x a b. h x (omega arith))

has_two : (ws : List ℕ) (s : ℕ) → has ws s < 2
unfolding has
has_two ws s = omega arith

least_free : (ws : List ℕ) (st : Store) (k s : ℕ) → ((x : ℕ) → s ≤ x → x < s + k → eqb (has ws x) 1 ≡ pick (in_use st x) false true) → least_from ws s k ≡ free_from st k s
unfolding least_from free_from
least_free ws st zero s h = refl
least_free ws st (suc k) s h =
    let ih = least_free ws st k (suc s) (λ x a b. h x (omega arith) (omega arith)) in
    rw (h s (omega arith) (omega arith), ih) (go (in_use st s) (free_from st k (suc s)))
  where
    go : (b : Bool) (n : ℕ) → pick (pick b false true) s n ≡ pick b n s
    go true n = refl
    go false n = refl

-- the smallest slot that the words do not have is the smallest that the store does not use
pub free_first : (u : List ℕ) (st : Store) → Words u → ((s : ℕ) → s < slot_count → is_used u s ≡ in_use st s) → free_slot u ≡ first_free st
unfolding free_slot is_used
free_first u st w h = least_free (others (used_of u)) st slot_count 0 (λ x a b. at x (omega arith))
  where
    at : (x : ℕ) → x < slot_count → eqb (has (others (used_of u)) x) 1 ≡ pick (in_use st x) false true
    at x l = rw (← h x l, lt-ltb x slot_count l, has_others u x w l) (go (has (used_of u) x) (has_two (used_of u) x))
      where
        go : (n : ℕ) → n < 2 → eqb (1 - n) 1 ≡ pick (eqb n 1) false true
        go zero l = refl
        go (suc zero) l = refl
        go (suc (suc n)) l = absurd (omega arith)
