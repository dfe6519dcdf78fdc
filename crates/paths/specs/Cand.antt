-- Serves SCOPE.md, 'Paths and keys': the candidate walk through the tables, and what it means.
use Rattle.std.specs.Prelude.{ℕ, suc, ◌+◌, ◌*◌, ◌≤◌, ◌<◌, ◌≡◌, ◌⊎◌, ◌↔◌, List, Bool, true, false, T, leb}
use Rattle.std.proofs.Common.{sym, ap, ◌∙◌, subst, inl, inr, ⊎_elim, arith, add-zero}
use Rattle.std.proofs.Math.Option.{Option, some}
use Rattle.laws.specs.Choice.{pick}
use Rattle.chains.specs.Chains.{find}
use Rattle.keys.specs.Keys.{Place, step, key, Tm, Args, node, nil, cons, end_of, HasKey, sub_at, top_of, down, nth}
use Rattle.keys.specs.Keys.{down_some}
use Rattle.definitions.specs.Trees.{count_args}
use Rattle.paths.specs.Rep.{lab, At, kid, Den, Rep, find_den, find_there}
use Rattle.paths.specs.StoredTrees.{Stored, KeyIn}
use Rattle.laws.specs.Sizes.{key_limit, variable_base}

-- every symbol has as many arguments as its arity, at most eight, and is below 256
unfoldable mutual
  pub Wf : (ℕ → ℕ) → Tm → Type 0
  Wf ar (node x us) = (count_args us ≡ ar (end_of x)) × (ar (end_of x) ≤ 8) × (end_of x < 257) × Wfs ar us

  pub Wfs : (ℕ → ℕ) → Args → Type 0
  Wfs ar nil = Unit {0}
  Wfs ar (cons t us) = Wf ar t × Wfs ar us

-- qv: a variable of the question agrees with anything; tv: a variable of the stored term does
module _ (qv tv : Bool) where
  -- what the walk finds of two terms, by the ends of their paths: SCOPE.md's table (Agreeing shows that)
  unfoldable mutual
    pub Agree : Tm → Tm → Type 0
    Agree (node x us) (node y vs) = pick (leb variable_base x)
        (pick qv (Unit {0}) (end_of y ≡ 256))
        ((T tv × (end_of y ≡ 256)) ⊎ ((end_of y ≡ end_of x) × AllAgree us vs))

    pub AllAgree : Args → Args → Type 0
    AllAgree nil vs = Unit {0}
    AllAgree (cons q us) nil = ⊥
    AllAgree (cons q us) (cons v vs) = Agree q v × AllAgree us vs

  -- the walk: sets as what is in them
  module _ (link label : List ℕ) (mem : ℕ → ℕ → Type 0) where
    -- slot t is in the set of the key with end e at place n
    abbrev pub At? : ℕ → ℕ → ℕ → Type 0
    At? n e t = (find link label (lab n e) < key_limit) × mem (find link label (lab n e)) t

    unfoldable mutual
      pub walk_t : Tm → ℕ → (ℕ → Type 0) → ℕ → Type 0
      walk_t (node x us) n W t = pick (leb variable_base x)
          (pick qv (W t) (W t × At? n 256 t))
          ((T tv × W t × At? n 256 t)
          ⊎ walk_a us (find link label (lab n (end_of x)) * 8) (λ u. W u × At? n (end_of x) u) t)

      pub walk_a : Args → ℕ → (ℕ → Type 0) → ℕ → Type 0
      walk_a nil m W t = W t
      walk_a (cons q us) m W t = walk_a us (suc m) (λ u. walk_t q m W u) t

    -- nothing comes in
    mutual
      unfolding walk_t

      walk_t_in : (q : Tm) (n : ℕ) (W : ℕ → Type 0) (t : ℕ) → walk_t q n W t → W t
      walk_t_in (node x us) n W t h = go (leb variable_base x) qv h (λ z. (walk_a_in us (find link label (lab n (end_of x)) * 8) (λ u. W u × At? n (end_of x) u) t z).0)
        where
          go : (b c : Bool) → pick b (pick c (W t) (W t × At? n 256 t)) ((T tv × W t × At? n 256 t) ⊎ walk_a us (find link label (lab n (end_of x)) * 8) (λ u. W u × At? n (end_of x) u) t)
              → (walk_a us (find link label (lab n (end_of x)) * 8) (λ u. W u × At? n (end_of x) u) t → W t) → W t
          go true true h f = h
          go true false h f = h.0
          go false c (inl h) f = h.1
          go false c (inr h) f = f h

      walk_a_in : (us : Args) (m : ℕ) (W : ℕ → Type 0) (t : ℕ) → walk_a us m W t → W t
      walk_a_in nil m W t h = h
      walk_a_in (cons q us) m W t h = walk_t_in q m W t (walk_a_in us (suc m) (λ u. walk_t q m W u) t h)

    module _ (st : ℕ → Option Tm) (r : Rep link label mem (Stored st)) (ar : ℕ → ℕ) (s : ℕ) (t : Tm) (holds : st s ≡ some t) where
      key_iff : (P : Place) (e : ℕ) → Stored st s P e ↔ HasKey t (key P e)
      key_iff P e = ((λ h. subst (λ (o : Option Tm). KeyIn o P e) holds h), (λ h. subst (λ (o : Option Tm). KeyIn o P e) (sym holds) h))

      -- the set of a key, at slot s
      set_iff : (n : ℕ) (P : Place) (e y : ℕ) (vs : Args) → At label n P → e < 257 → sub_at P t ≡ some (node y vs) → At? n e s ↔ (end_of y ≡ e)
      unfolding HasKey top_of
      set_iff n P e y vs a f u = (
        (λ h. let d = find_den link label mem (Stored st) r n P e a f h.0 in to ((key_iff P e).0 (r.into _ s P e d h.1))),
        (λ z. let h = (key_iff P e).1 (fro z) in let l = find_there link label mem (Stored st) r n P e a f s h in
            (l, r.from _ s P e (find_den link label mem (Stored st) r n P e a f l) h)),
      )
        where
          to : top_of (sub_at P t) ≡ some e → end_of y ≡ e
          to h = let z : top_of (some (node y vs)) ≡ some e = rw u at h in (cc)

          fro : end_of y ≡ e → top_of (sub_at P t) ≡ some e
          fro z = rw (u, z)

      mutual
        unfolding walk_t Agree Wf sub_at nth count_args

        -- slot s is in the result exactly if it is in W and its term at this place agrees
        pub walk_t_means : (q : Tm) (n : ℕ) (P : Place) (W : ℕ → Type 0) (v : Tm) → At label n P → sub_at P t ≡ some v → Wf ar q → Wf ar v → walk_t q n W s ↔ (W s × Agree q v)
        walk_t_means (node x us) n P W (node y vs) a u w wv =
            go (leb variable_base x) qv (set_iff n P 256 y vs a (omega arith) u) (set_iff n P (end_of x) y vs a w.2 u)
            (λ d z. walk_a_means us n P (end_of x) (find link label (lab n (end_of x))) 0 (find link label (lab n (end_of x)) * 8) (λ k. W k × At? n (end_of x) k) y vs vs d z u w.3 wv.3
            (omega arith) (omega (arith, w.0, w.1)) (λ j. ap (λ (i : ℕ). nth i vs) (omega arith)) (w.0 ∙ ap ar (sym z) ∙ sym wv.0))
          where
            k : ℕ
            k = find link label (lab n (end_of x))

            R : Type 0
            R = walk_a us (k * 8) (λ u. W u × At? n (end_of x) u) s

            go : (b c : Bool) → At? n 256 s ↔ (end_of y ≡ 256) → At? n (end_of x) s ↔ (end_of y ≡ end_of x)
                → (Den label k P (end_of x) → end_of y ≡ end_of x → R ↔ ((W s × At? n (end_of x) s) × AllAgree us vs))
                → pick b (pick c (W s) (W s × At? n 256 s)) ((T tv × W s × At? n 256 s) ⊎ R) ↔ (W s × pick b (pick c (Unit {0}) (end_of y ≡ 256)) ((T tv × (end_of y ≡ 256)) ⊎ ((end_of y ≡ end_of x) × AllAgree us vs)))
            go true true p m ih = ((λ h. (h, tt)), (λ h. h.0))
            go true false p m ih = ((λ h. (h.0, p.0 h.1)), (λ h. (h.0, p.1 h.1)))
            go false c p m ih = (to, fro)
              where
                to : (T tv × W s × At? n 256 s) ⊎ R → W s × ((T tv × (end_of y ≡ 256)) ⊎ ((end_of y ≡ end_of x) × AllAgree us vs))
                to (inl h) = (h.1, inl (h.0, p.0 h.2))
                to (inr h) = let i = walk_a_in us (k * 8) (λ u. W u × At? n (end_of x) u) s h in
                    let d = find_den link label mem (Stored st) r n P (end_of x) a w.2 i.1.0 in
                    let z = m.0 i.1 in (i.0, inr (z, ((ih d z).0 h).1))

                fro : W s × ((T tv × (end_of y ≡ 256)) ⊎ ((end_of y ≡ end_of x) × AllAgree us vs)) → (T tv × W s × At? n 256 s) ⊎ R
                fro h = ⊎_elim (λ z. inl (z.0, h.0, p.1 z.1)) (λ z. let b = m.1 z.0 in
                    inr ((ih (find_den link label mem (Stored st) r n P (end_of x) a w.2 b.0) z.0).1 ((h.0, b), z.1))) h.1

        walk_a_means : (us : Args) (n : ℕ) (P : Place) (e k i m : ℕ) (W : ℕ → Type 0) (y : ℕ) (all vs : Args) → Den label k P e → end_of y ≡ e → sub_at P t ≡ some (node y all) → Wfs ar us → Wfs ar vs
            → m ≡ k * 8 + i → i + count_args us ≤ 8 → ((j : ℕ) → nth (i + j) all ≡ nth j vs) → count_args us ≡ count_args vs → walk_a us m W s ↔ (W s × AllAgree us vs)
        walk_a_means nil n P e k i m W y all vs d z u w wv q l f c = ((λ h. (h, tt)), (λ h. h.0))
        walk_a_means (cons p us) n P e k i m W y all nil d z u w wv q l f c = absurd (omega arith)
        walk_a_means (cons p us) n P e k i m W y all (cons v vs) d z u w wv q l f c =
            let sub : sub_at (step P e i) t ≡ some v = ap (down e i) u ∙ down_some e i y all z ∙ (rw add-zero at (f 0)) in
            let a : At label m (step P e i) = kid {i = i} d.at d.low d.is d.fits (omega arith) q in
            let h = walk_t_means p m (step P e i) W v a sub w.0 wv.0 in
            let g = walk_a_means us n P e k (suc i) (suc m) (λ x. walk_t p m W x) y all vs d z u w.1 wv.1 (omega arith) (omega arith) (λ j. let o : suc i + j ≡ i + suc j = omega arith in rw o (f (suc j))) (omega arith) in
            ((λ x. let b = g.0 x in let o = h.0 b.0 in (o.0, (o.1, b.1))), (λ x. g.1 (h.1 (x.0, x.1.0), x.1.1)))
