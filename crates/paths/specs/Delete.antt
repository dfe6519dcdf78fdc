-- Serves SCOPE.md, 'Store': in a delete each key of a term, the last first, loses the slot, and is freed where it has
-- none left.
use Rattle.std.specs.Prelude.{ℕ, suc, ◌<◌, ◌≡◌, ◌↔◌, Bool, true, false, get_or, set}
use Rattle.std.proofs.Math.Path.{refl}
use Rattle.std.proofs.Common.{ap, ◌∙◌, subst, inl, inr, ⊎_elim, arith, length-set, get_or-set_same, get_or-set_other}
use mathlib.Core.List.{List, [], ◌∷◌}
use Rattle.std.proofs.Math.Decide.{ℕ_discrete}
use Rattle.laws.specs.Members.{In, NoDup}
use Rattle.chains.specs.Chains.{relinked}
use Rattle.keys.specs.Keys.{Place, root, step, Key, key}
use Rattle.paths.specs.Rep.{Den, Rep, Full, Minus, den_fun, clear_rep, free_rep, den_stay}
use Rattle.paths.specs.Insert.{DenK, Dens, rep_iff, St, GoodTables, relinked_length}
use Rattle.laws.specs.Sizes.{key_limit, slot_count}

-- the place of each key is the root or leads from a key after it
abbrev pub From : Place → List Key → Type 0
From root Ks = Unit {0}
From (step P e i) Ks = In (key P e) Ks

abbrev pub Grown : List Key → Type 0
Grown [] = Unit {0}
Grown (key P e ∷ Ks) = From P Ks × Grown Ks

grown_parent : (Ks : List Key) (P : Place) (e i f : ℕ) → Grown Ks → In (key (step P e i) f) Ks → In (key P e) Ks
grown_parent [] P e i f g h = h
grown_parent (key Q x ∷ Ks) P e i f g (inl z) = let y : Q ≡ step P e i = cc in inr (subst (λ (X : Place). From X Ks) y g.0)
grown_parent (key Q x ∷ Ks) P e i f g (inr h) = inr (grown_parent Ks P e i f g.1 h)

high : Place → ℕ
high root = 0
high (step P e i) = suc (high P)

no_loop : (P : Place) (e i : ℕ) → P ≡ step P e i → ⊥
unfolding high
no_loop P e i h = let z : high P ≡ suc (high P) = ap high h in omega arith

abbrev pub Without : (ℕ → Place → ℕ → Type 0) → ℕ → ℕ → Place → ℕ → Type 0
Without R s t Q f = R t Q f × (t ≡ s → ⊥)

module _ (S : Type 0) (unmark : S → ℕ → ℕ → S) (emptyb : S → ℕ → Bool) where
  unfoldable pub freed : Bool → St S → ℕ → St S
  freed true σ k = record { link = relinked σ.link σ.label k 0; label = set σ.label k 0; sets = σ.sets }
  freed false σ k = σ

  unfoldable pub cleared : St S → ℕ → ℕ → St S
  cleared σ k s = record { link = σ.link; label = σ.label; sets = unmark σ.sets k s }

  unfoldable pub left : St S → ℕ → ℕ → St S
  left σ k s = freed (emptyb (unmark σ.sets k s) k) (cleared σ k s) k

  unfoldable pub del_run : St S → ℕ → List ℕ → St S
  del_run σ s [] = σ
  del_run σ s (k ∷ ks) = del_run (left σ k s) s ks

module _ (S : Type 0) (mem : S → ℕ → ℕ → Type 0) (mark unmark : S → ℕ → ℕ → S) (emptyb : S → ℕ → Bool) (Ok : S → Type 0) where
  module _ (unmark_ok : (σ : S) (k s : ℕ) → Ok σ → k < key_limit → s < slot_count → Ok (unmark σ k s)) (unmark_law : (σ : S) (k s : ℕ) → Ok σ → k < key_limit → s < slot_count → (j t : ℕ) → mem (unmark σ k s) j t ↔ (mem σ j t × ((j ≡ k) × (t ≡ s) → ⊥)))
      (empty_yes : (σ : S) (k t : ℕ) → Ok σ → k < key_limit → emptyb σ k ≡ true → mem σ k t → ⊥) (empty_no : (σ : S) (k : ℕ) → Ok σ → k < key_limit → emptyb σ k ≡ false → (t : ℕ) × mem σ k t) where
    record FewerKeys (σ τ : St S) (R : ℕ → Place → ℕ → Type 0) (k : ℕ) : Type 0 where
      pub good : GoodTables S mem mark Ok τ R
      pub keep : (j : ℕ) (K : Key) → (j ≡ k → ⊥) → DenK σ.label j K → DenK τ.label j K

    fewer : (σ : St S) (R : ℕ → Place → ℕ → Type 0) (s k : ℕ) (P : Place) (e : ℕ) → GoodTables S mem mark Ok σ R → s < slot_count → Den σ.label k P e
        → ((Q : Place) (i f : ℕ) → Q ≡ step P e i → R s Q f → ⊥) → FewerKeys σ (left S unmark emptyb σ k s) (Minus R s P e) k
    unfolding left cleared freed Full
    fewer σ R s k P e g l d below = go (emptyb sets k) refl
      where
        sets : S
        sets = unmark σ.sets k s

        ok' : Ok sets
        ok' = unmark_ok σ.sets k s g.ok d.low l

        law : (j t : ℕ) → mem sets j t ↔ (mem σ.sets j t × ((j ≡ k) × (t ≡ s) → ⊥))
        law = unmark_law σ.sets k s g.ok d.low l

        rep' : Rep σ.link σ.label (mem sets) (Minus R s P e)
        rep' = clear_rep σ.link σ.label (mem σ.sets) (mem sets) R g.rep k s P e d below law

        full' : Full σ.label (mem sets) k
        full' j q z o = let w = g.full j q z (λ y. omega arith) in (w.0, (law j w.0).1 (w.1, (λ y. o y.0)))

        go : (b : Bool) → emptyb sets k ≡ b → FewerKeys σ (freed S unmark emptyb b (cleared S unmark emptyb σ k s) k) (Minus R s P e) k
        go true q = record {
          good = record {
            rep = free_rep σ.link σ.label (mem sets) (Minus R s P e) rep' k P e d (λ t m. empty_yes sets k t ok' d.low q m) full' g.links g.labels;
            full = λ j m z o. let w = out j z in full' j m (λ y. z (get_or-set_other σ.label k j 0 0 w ∙ y)) w;
            links = omega (arith, relinked_length σ.link σ.label k 0 g.links d.low g.rep.chains, g.links);
            labels = omega (arith, length-set σ.label k 0, g.labels);
            ok = ok';
          };
          keep = keep';
        }
          where
            out : (j : ℕ) → (get_or (set σ.label k 0) j 0 ≡ 0 → ⊥) → j ≡ k → ⊥
            out j z y = z (ap (λ (x : ℕ). get_or (set σ.label k 0) x 0) y ∙ get_or-set_same σ.label k 0 0 (omega (arith, d.low, g.labels)))

            keep' : (j : ℕ) (K : Key) → (j ≡ k → ⊥) → DenK σ.label j K → DenK (set σ.label k 0) j K
            keep' j (key Q f) z b = den_stay σ.link σ.label (mem sets) (Minus R s P e) rep' k P e d (λ t m. empty_yes sets k t ok' d.low q m) full' g.links g.labels j Q f z b
        go false q = record {
          good = record { rep = rep'; full = λ j m z o. slot_left j m z (ℕ_discrete j k); links = g.links; labels = g.labels; ok = ok' };
          keep = λ j K z b. b;
        }
          where
            slot_left : (j : ℕ) → j < key_limit → (get_or σ.label j 0 ≡ 0 → ⊥) → Dec (j ≡ k) → (t : ℕ) × mem sets j t
            slot_left j m z (yes y) = rw y (empty_no sets k ok' d.low q)
            slot_left j m z (no y) = full' j m z y

    dens_keep : (σ τ : St S) (k : ℕ) (P : Place) (e : ℕ) → Den σ.label k P e → ((j : ℕ) (K : Key) → (j ≡ k → ⊥) → DenK σ.label j K → DenK τ.label j K)
        → (ks : List ℕ) (Ks : List Key) → (In (key P e) Ks → ⊥) → Dens σ.label ks Ks → Dens τ.label ks Ks
    dens_keep σ τ k P e d f [] [] o h = tt
    dens_keep σ τ k P e d f [] (_ ∷ Ks) o h = absurd h
    dens_keep σ τ k P e d f (_ ∷ ks) [] o h = absurd h
    dens_keep σ τ k P e d f (j ∷ ks) (key Q x ∷ Ks) o h =
        (f j (key Q x) (λ y. let c = den_fun σ.label k P Q e x d (rw y at h.0) in let a : P ≡ Q = c.0 in let b : e ≡ x = c.1 in o (inl (cc))) h.0, dens_keep σ τ k P e d f ks Ks (λ i. o (inr i)) h.1)

    pub del_good : (ks : List ℕ) (Ks : List Key) (σ : St S) (R : ℕ → Place → ℕ → Type 0) (s : ℕ) → GoodTables S mem mark Ok σ R → s < slot_count → Dens σ.label ks Ks → NoDup Ks → Grown Ks
        → ((Q : Place) (f : ℕ) → R s Q f → In (key Q f) Ks) → GoodTables S mem mark Ok (del_run S unmark emptyb σ s ks) (Without R s)
    unfolding del_run
    del_good [] [] σ R s g l d n w i = record { rep = rep_iff _ _ _ R (Without R s) (λ t Q f. ((λ h. (h, (λ z. i Q f (rw z at h)))), (λ h. h.0))) g.rep; full = g.full; links = g.links; labels = g.labels; ok = g.ok }
    del_good [] (_ ∷ Ks) σ R s g l d n w i = absurd d
    del_good (_ ∷ ks) [] σ R s g l d n w i = absurd d
    del_good (k ∷ ks) (key P e ∷ Ks) σ R s g l d n w i =
        let x = fewer σ R s k P e g l d.0 (λ Q j f q h. child Q j f q (i Q f h)) in
        let h = del_good ks Ks (left S unmark emptyb σ k s) (Minus R s P e) s x.good l (dens_keep σ (left S unmark emptyb σ k s) k P e d.0 x.keep ks Ks n.0 d.1) n.1 w.1 rest in
        record { rep = rep_iff _ _ _ (Without (Minus R s P e) s) (Without R s) (λ t Q f. ((λ y. (y.0.0, y.1)), (λ y. ((y.0, (λ q. y.1 q.0)), y.1)))) h.rep; full = h.full; links = h.links; labels = h.labels; ok = h.ok }
      where
        child : (Q : Place) (j f : ℕ) → Q ≡ step P e j → In (key Q f) (key P e ∷ Ks) → ⊥
        child Q j f q (inl z) = let y : P ≡ step P e j = (let y' : P ≡ Q = cc in y' ∙ q) in no_loop P e j y
        child Q j f q (inr h) = n.0 (grown_parent Ks P e j f w.1 (subst (λ (x : Place). In (key x f) Ks) q h))

        rest : (Q : Place) (f : ℕ) → Minus R s P e s Q f → In (key Q f) Ks
        rest Q f m = ⊎_elim (λ (z : key Q f ≡ key P e). absurd (m.1 (refl, (cc), (cc)))) (λ z. z) (i Q f m.0)
