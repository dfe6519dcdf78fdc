-- Serves SCOPE.md, 'The solver's record': the unifier's loop: what is still to be made the same, and the classes of
-- nodes taken for the same.
use Rattle.std.specs.Prelude.{◌≡◌, refl, ◌⊎◌, List, [], ◌∷◌, ℕ, zero, suc, ◌+◌, ◌/◌, ◌%◌, ◌<◌, get_or, take}
use Rattle.std.proofs.Common.{sym, ap, ◌∙◌, inl, inr, arith}
use Rattle.std.proofs.Math.Decide.{ℕ_discrete}
use Rattle.theory.specs.Flat.{Item, sy}
use Rattle.theory.specs.Subst.{app, Sub}
use Rattle.theory.specs.Unify.{Bind, full, Solves, GoodBindings, Values, full_sub, solved, absorbs}
use Rattle.theory.specs.Canon.{Mgu}
use Rattle.joining.specs.Prefix.{SameFront, same_less, same_cons, same_all}

-- val: the term of a node; s and t: what is to be made the same
module _ (ar : ℕ → ℕ) (val : ℕ → List Item) (s t : List Item) where
  -- the two sides of a pair of the stack
  abbrev pub GoalHolds : (ℕ → List Item) → ℕ → Type 0
  GoalHolds σ e = app σ (val (e / 64)) ≡ app σ (val (e % 64))

  abbrev pub HoldsTo : (ℕ → List Item) → ℕ → ℕ → Type 0
  HoldsTo σ m e = SameFront m (app σ (val (e / 64))) (app σ (val (e % 64)))

  abbrev pub Pend : (ℕ → List Item) → List ℕ → ℕ → ℕ → Type 0
  Pend σ K n m = (i : ℕ) → i < n → HoldsTo σ m (get_or K i 0)

  abbrev pub Alike : (ℕ → List Item) → List ℕ → ℕ → Type 0
  Alike σ cls m = (a b : ℕ) → get_or cls a 0 ≡ get_or cls b 0 → a < 64 → b < 64
      → SameFront m (app σ (val a)) (app σ (val b))

  -- B the bindings, K the stack of n pairs, cls the classes
  pub record Goal (B : List Bind) (K : List ℕ) (n : ℕ) (cls : List ℕ) : Type 0 where
    pub complete : (σ : ℕ → List Item) → Sub ar σ → app σ s ≡ app σ t → Solves σ B
        × ((i : ℕ) → i < n → GoalHolds σ (get_or K i 0))
    pub sound : (σ : ℕ → List Item) → Solves σ B → (m : ℕ) → Pend σ K n m → Alike σ cls (suc m)
        × SameFront m (app σ s) (app σ t)

  -- the top pair holds for every solution of the bindings, which may have grown
  module _ (B : List Bind) (K : List ℕ) (n : ℕ) (cls : List ℕ) (g : Goal B K (n + 1) cls) where
    pend_more : (σ : ℕ → List Item) (m : ℕ) → Pend σ K n m → HoldsTo σ m (get_or K n 0) → Pend σ K (n + 1) m
    pend_more σ m p h i b = go (ℕ_discrete i n)
      where
        go : Dec (i ≡ n) → HoldsTo σ m (get_or K i 0)
        go (yes e) = rw e h
        go (no f) = p i (omega (arith, f))

    pub settled : (B' : List Bind) → ((σ : ℕ → List Item) → Sub ar σ → Solves σ B → GoalHolds σ (get_or K n 0) → Solves σ B')
        → ((σ : ℕ → List Item) → Solves σ B' → Solves σ B × GoalHolds σ (get_or K n 0)) → Goal B' K n cls
    settled B' f h = record {
      complete = λ σ w e. (let c = g.complete σ w e in (f σ w c.0 (c.1 n (omega arith)), λ i b. c.1 i (omega arith)));
      sound = λ σ z m p. (let d = h σ z in g.sound σ d.0 m (pend_more σ m p (ap (take m) d.1)));
    }

    -- the top pair leads to two nodes of one class
    module _ (a b : ℕ) (al : a < 64) (bl : b < 64)
        (ea : (σ : ℕ → List Item) → Solves σ B → app σ (val (get_or K n 0 / 64)) ≡ app σ (val a))
        (eb : (σ : ℕ → List Item) → Solves σ B → app σ (val (get_or K n 0 % 64)) ≡ app σ (val b)) where
      top : (σ : ℕ → List Item) → Solves σ B → (m : ℕ) → SameFront m (app σ (val a)) (app σ (val b)) → HoldsTo σ m (get_or K n 0)
      top σ z m e = ap (take m) (ea σ z) ∙ e ∙ ap (take m) (sym (eb σ z))

      top_all : (σ : ℕ → List Item) → Solves σ B → app σ (val a) ≡ app σ (val b) → GoalHolds σ (get_or K n 0)
      top_all σ z e = ea σ z ∙ e ∙ sym (eb σ z)

      skip_sound : get_or cls a 0 ≡ get_or cls b 0 → (σ : ℕ → List Item) → Solves σ B → (m : ℕ) → Pend σ K n m → Alike σ cls (suc m) × SameFront m (app σ s) (app σ t)
      skip_sound c σ z zero p = g.sound σ z zero (pend_more σ zero p (top σ z zero refl))
      skip_sound c σ z (suc m) p =
          let ih = skip_sound c σ z m (λ i l. same_less m (suc m) _ _ (omega arith) (p i l)) in
          g.sound σ z (suc m) (pend_more σ (suc m) p (top σ z (suc m) (ih.0 a b c al bl)))

      pub skipped : get_or cls a 0 ≡ get_or cls b 0 → Goal B K n cls
      skipped c = record {
        complete = λ σ w e. (let h = g.complete σ w e in (h.0, λ i l. h.1 i (omega arith)));
        sound = skip_sound c;
      }

      -- the classes of a and b joined, and n' pairs on the stack
      pub record Joined (cls' : List ℕ) : Type 0 where
        pub each : (i : ℕ) → i < 64
            → ((get_or cls i 0 ≡ get_or cls a 0) × (get_or cls' i 0 ≡ get_or cls b 0)) ⊎ (get_or cls' i 0 ≡ get_or cls i 0)

      join_alike : (σ : ℕ → List Item) (m : ℕ) (cls' : List ℕ) → Joined cls' → Alike σ cls m → SameFront m (app σ (val a)) (app σ (val b)) → Alike σ cls' m
      join_alike σ m cls' j h e c d q cl dl = go (j.each c cl) (j.each d dl)
        where
          go : ((get_or cls c 0 ≡ get_or cls a 0) × (get_or cls' c 0 ≡ get_or cls b 0)) ⊎ (get_or cls' c 0 ≡ get_or cls c 0)
              → ((get_or cls d 0 ≡ get_or cls a 0) × (get_or cls' d 0 ≡ get_or cls b 0)) ⊎ (get_or cls' d 0 ≡ get_or cls d 0) → SameFront m (app σ (val c)) (app σ (val d))
          go (inl x) (inl y) = h c d (x.0 ∙ sym y.0) cl dl
          go (inl x) (inr y) = h c a x.0 cl al ∙ e ∙ h b d (sym x.1 ∙ q ∙ y) bl dl
          go (inr x) (inl y) = h c b (sym x ∙ q ∙ y.1) cl bl ∙ sym e ∙ h a d (sym y.0) al dl
          go (inr x) (inr y) = h c d (sym x ∙ q ∙ y) cl dl

      pub merged : (f : ℕ) (u v : List Item) → val a ≡ sy f ∷ u → val b ≡ sy f ∷ v → (cls' K' : List ℕ) (n' : ℕ) → Joined cls'
          → ((σ : ℕ → List Item) → Sub ar σ → app σ u ≡ app σ v → ((i : ℕ) → i < n → GoalHolds σ (get_or K i 0)) → (i : ℕ) → i < n' → GoalHolds σ (get_or K' i 0))
          → ((σ : ℕ → List Item) (m : ℕ) → Pend σ K' n' m → Pend σ K n m × SameFront m (app σ u) (app σ v))
          → Goal B K' n' cls'
      merged f u v pa pb cls' K' n' j pc ps = record {
        complete = λ σ w e. (
            let h = g.complete σ w e in
            let k : app σ (sy f ∷ u) ≡ app σ (sy f ∷ v) = ap (app σ) (sym pa) ∙ sym (ea σ h.0) ∙ h.1 n (omega arith) ∙ eb σ h.0 ∙ ap (app σ) pb in
            let k' : app σ u ≡ app σ v = cc in
            (h.0, pc σ w k' (λ i l. h.1 i (omega arith))));
        sound = λ σ z m p. (
            let q = ps σ m p in
            let r : SameFront (suc m) (app σ (val a)) (app σ (val b)) = rw (pa, pb) (same_cons m (sy f) (app σ u) (app σ v) q.1) in
            let h = g.sound σ z m (pend_more σ m q.0 (top σ z m (same_less m (suc m) _ _ (omega arith) r))) in
            (join_alike σ (suc m) cls' j h.0 r, h.1));
      }

  -- the start, and the end
  pub begin : (K cls : List ℕ) → val (get_or K 0 0 / 64) ≡ s → val (get_or K 0 0 % 64) ≡ t → ((i : ℕ) → i < 64 → get_or cls i 0 ≡ i) → Goal [] K 1 cls
  begin K cls ea eb c = record {
    complete = λ σ w e. (tt, λ i b. (let z : i ≡ 0 = omega arith in rw (z, ea, eb) e));
    sound = λ σ z m p. (
      (λ a b q al bl. (let e : a ≡ b = sym (c a al) ∙ q ∙ c b bl in ap (λ (x : ℕ). take (suc m) (app σ (val x))) e)),
      ap (λ r. take m (app σ r)) (sym ea) ∙ p 0 (omega arith) ∙ ap (λ r. take m (app σ r)) eb,
    );
  }

  pub finished : (B : List Bind) (K cls : List ℕ) → GoodBindings B → Values ar B → Goal B K 0 cls → Mgu ar s t (full B)
  finished B K cls g v h = record {
    sub = full_sub ar B v;
    unifies = same_all (app (full B) s) (app (full B) t) (λ m. (h.sound (full B) (solved B g) m (λ i b. absurd (omega arith))).1);
    general = λ σ w e x. absorbs σ B (h.complete σ w e).0 x;
  }
