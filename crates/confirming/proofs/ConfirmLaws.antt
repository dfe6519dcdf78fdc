-- The decision of one candidate, and the loop over the candidates.
use Prim.Native.Nat.{ℕ, zero, suc, ◌*◌, ◌/◌, ◌<◌}
use mathlib.Core.Path.{◌≡◌, refl, sym, ap, ◌∙◌}
use mathlib.Core.List.{List, [], ◌∷◌}
use mathlib.Core.Bool.{Bool, true, false}
use native.Mathlib.Decide.{ℕ_discrete}
use Rattle.std.specs.Prelude.{◌⊎◌}
use Rattle.std.proofs.Common.{inl, inr, ⊎_elim}
use Rattle.laws.specs.Members.{In}
use native.Mathlib.Omega.{arith}
use borrow.Author.Tests.{eq-eqb, eqb-true, eqb-false}
use lib.Dec.{eqb}
use lib.ListN.{length, replicate, length-set}
use Rattle.laws.specs.Choice.{pick}
use Rattle.slots.specs.Slots.{has, inserted, members}
use Rattle.slots.specs.Sets.{members_has, has_members}
use Rattle.slots.proofs.SlotLaws.{has_insert_same, has_insert_other}
use Rattle.terms.specs.Terms.{Signed, refusal}
use Rattle.terms.proofs.TermLaws.{good}
use Rattle.theory.specs.CheckedItems.{fine_good}
use Rattle.theory.specs.Relations.{Decided, decided_one, Variant, Instance, Unifiable}
use Rattle.definitions.specs.Relations.{Stands}
use Rattle.definitions.specs.Decisions.{stands, stands_fine}
use Rattle.definitions.specs.Spelt.{clash}
use Rattle.candidates.specs.Has.{none_has}
use Rattle.confirming.specs.Confirms.{confirms_term, those}
use Rattle.confirming.specs.Those.{those_members}
use Rattle.laws.specs.Sizes.{slot_count}
use Rattle.layout.specs.Layout.{term_of}

-- the test that each candidate stands
abbrev pub test : List ℕ → ℕ → List ℕ → List ℕ → ℕ → Bool
test bytes relation sig q s = confirms_term sig relation (term_of bytes s) q

-- the ways out of `stands`: what is no term, and what is one where b decides the relation
pub confirms_none : (r : ℕ) (sig t q : List ℕ) (b : Bool) → b ≡ eqb (refusal sig t) 0 → b ≡ false → false ≡ confirms_term sig r t q
unfolding confirms_term
confirms_none r sig t q b e f = let z : eqb (refusal sig t) 0 ≡ false = sym e ∙ f in rw z

module _ (r : ℕ) (sig t q : List ℕ) (b : Bool) (g : Signed sig) (h : refusal sig q ≡ 0) where
  -- a right decision about a term is the one of the definitions
  confirms_term_lem : refusal sig t ≡ 0 → Decided b (Stands sig r t q) → b ≡ confirms_term sig r t q
  unfolding confirms_term
  confirms_term_lem i d = rw (eq-eqb (refusal sig t) 0 i) (decided_one b (stands sig r t q) d (stands_fine sig r t q (fine_good sig t g (good sig t i)) (fine_good sig q g (good sig q h))))

  -- the bytes of a term are a term
  pub confirms_equal : r ≡ 0 → Decided b (t ≡ q) → b ≡ confirms_term sig r t q
  unfolding confirms_term
  confirms_equal e d = go (eqb (refusal sig t) 0) refl
    where
      other : (c : Bool) → Decided c (t ≡ q) → (refusal sig t ≡ 0 → ⊥) → c ≡ false
      other true x n = absurd (n (rw (x.holds refl) h))
      other false x n = refl

      go : (y : Bool) → eqb (refusal sig t) 0 ≡ y → b ≡ pick (eqb (refusal sig t) 0) (stands sig r t q) false
      go true i = confirms_term_lem (eqb-true (refusal sig t) 0 i) (rw e d)
      go false i = rw i (other b d (eqb-false (refusal sig t) 0 i))

  module _ (y : Bool) (i : y ≡ eqb (refusal sig t) 0) (j : y ≡ true) where
    checked : refusal sig t ≡ 0
    checked = eqb-true (refusal sig t) 0 (sym i ∙ j)

    pub confirms_variant : r ≡ 1 → Decided b (Variant q t) → b ≡ confirms_term sig r t q
    confirms_variant e d = confirms_term_lem checked (rw e d)

    pub confirms_instance : r ≡ 2 → Decided b (Instance sig q t) → b ≡ confirms_term sig r t q
    confirms_instance e d = confirms_term_lem checked (rw e d)

    pub confirms_general : r ≡ 3 → Decided b (Instance sig t q) → b ≡ confirms_term sig r t q
    confirms_general e d = confirms_term_lem checked (rw e d)

    pub confirms_unifiable : (r ≡ 0 → ⊥) → (r ≡ 1 → ⊥) → (r ≡ 2 → ⊥) → (r ≡ 3 → ⊥) → Decided b (Unifiable sig t q) → b ≡ confirms_term sig r t q
    confirms_unifiable n0 n1 n2 n3 d = confirms_term_lem checked (go r n0 n1 n2 n3)
      where
        go : (k : ℕ) → (k ≡ 0 → ⊥) → (k ≡ 1 → ⊥) → (k ≡ 2 → ⊥) → (k ≡ 3 → ⊥) → Decided b (Stands sig k t q)
        go zero n m o p = absurd (n refl)
        go (suc zero) n m o p = absurd (m refl)
        go (suc (suc zero)) n m o p = absurd (o refl)
        go (suc (suc (suc zero))) n m o p = absurd (p refl)
        go (suc (suc (suc (suc k)))) n m o p = d

-- where the loop over the candidates stands, with the slots `now` to come: each answer is a candidate that passes, and
-- each candidate that passes is an answer or is to come
pub record Confirming (test : ℕ → Bool) (cs ws now : List ℕ) : Type 0 where
  pub eight : length ws ≡ 8
  pub ahead : (s : ℕ) → In s now → (s < slot_count) × (has cs s ≡ 1)
  pub sound : (s : ℕ) → has ws s ≡ 1 → (has cs s ≡ 1) × (test s ≡ true)
  pub full : (s : ℕ) → s < slot_count → has cs s ≡ 1 → test s ≡ true → (has ws s ≡ 1) ⊎ In s now

pub confirming_start : (test : ℕ → Bool) (cs ws now : List ℕ) → ws ≡ replicate 8 0 → now ≡ members cs → Confirming test cs ws now
confirming_start test cs ws now e f = record {
  eight = rw e refl;
  ahead = λ s i. members_has cs s (rw f at i);
  sound = λ s h. absurd (let z : has ws s ≡ 0 = rw e (none_has s) in omega (arith, h, z));
  full = λ s l h t. inr (rw f (has_members cs s l h));
}

module _ (test : ℕ → Bool) (cs ws now : List ℕ) (c : Confirming test cs ws now) (slot : ℕ) (later : List ℕ) (head : now ≡ slot ∷ later) where
  here : (slot < slot_count) × (has cs slot ≡ 1)
  here = c.ahead slot (rw head (inl refl))

  pub confirming_slot : slot < slot_count
  confirming_slot = here.0

  long : slot < 64 * length ws
  long = omega (arith, c.eight, here.0)

  -- the next candidate is an answer
  pub confirming_put : (b : Bool) → b ≡ test slot → b ≡ true → Confirming test cs (inserted ws slot) later
  confirming_put b d y = record {
    eight = unfold inserted in (length-set ws (slot / 64) _ ∙ c.eight);
    ahead = λ s i. c.ahead s (rw head (inr i));
    sound = λ s h. sound s (ℕ_discrete s slot) h;
    full = λ s l h t. full s (ℕ_discrete s slot) (c.full s l h t);
  }
    where
      sound : (s : ℕ) → Dec (s ≡ slot) → has (inserted ws slot) s ≡ 1 → (has cs s ≡ 1) × (test s ≡ true)
      sound s (yes e) h = rw e (here.1, sym d ∙ y)
      sound s (no n) h = c.sound s (sym (has_insert_other ws slot s n long) ∙ h)

      full : (s : ℕ) → Dec (s ≡ slot) → (has ws s ≡ 1) ⊎ In s now → (has (inserted ws slot) s ≡ 1) ⊎ In s later
      full s (yes e) i = inl (rw e (has_insert_same ws slot long))
      full s (no n) (inl h) = inl (has_insert_other ws slot s n long ∙ h)
      full s (no n) (inr i) = ⊎_elim (λ (e : s ≡ slot). absurd (n e)) (λ (j : In s later). inr j) (rw head at i)

  -- the next candidate is none
  pub confirming_pass : (b : Bool) → b ≡ test slot → b ≡ false → Confirming test cs ws later
  confirming_pass b d y = record {
    eight = c.eight;
    ahead = λ s i. c.ahead s (rw head (inr i));
    sound = c.sound;
    full = λ s l h t. full s t (c.full s l h t);
  }
    where
      full : (s : ℕ) → test s ≡ true → (has ws s ≡ 1) ⊎ In s now → (has ws s ≡ 1) ⊎ In s later
      full s t (inl h) = inl h
      full s t (inr i) = ⊎_elim (λ (e : s ≡ slot). clash (sym y ∙ d ∙ ap test (sym e) ∙ t)) (λ (j : In s later). inr j) (rw head at i)

pub confirming_end : (test : ℕ → Bool) (cs ws now : List ℕ) → Confirming test cs ws now → now ≡ [] → members ws ≡ those test (members cs)
confirming_end test cs ws now c e = those_members test cs ws (λ s l. (c.sound s, λ z. ⊎_elim (λ (h : has ws s ≡ 1). h) (λ (i : In s []). absurd i) (rw e at (c.full s l z.0 z.1))))

-- a choice whose test is known
pub pick_yes : (b : Bool) (x y z : List ℕ) → b ≡ true → z ≡ x → z ≡ pick b x y
pick_yes b x y z e h = rw e h

pub pick_no : (b : Bool) (x y z : List ℕ) → b ≡ false → z ≡ y → z ≡ pick b x y
pick_no b x y z e h = rw e h
