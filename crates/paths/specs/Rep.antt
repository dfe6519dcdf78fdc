-- Serves SCOPE.md, 'Paths and keys': what the key tables mean.
use Rattle.std.specs.Prelude.{ℕ, suc, ◌+◌, ◌*◌, ◌≤◌, ◌<◌, ◌≡◌, refl, ◌⊎◌, ◌↔◌, List, length, set}
use Rattle.std.proofs.Math.Path.{sym, ap}
use Rattle.std.proofs.Common.{◌∙◌, subst, inl, inr, ⊎_elim, arith, get_or-set_same, get_or-set_other}
use Rattle.std.proofs.Math.Decide.{ℕ_discrete}
use Rattle.std.proofs.Math.ListN.{get_or}
use Rattle.chains.specs.Chains.{Chains, find, relinked, find_sound, find_complete, relinked_chains}
use Rattle.keys.specs.Keys.{Place, root, step}
use Rattle.laws.specs.Sizes.{key_limit, link_length, root_place}

-- the label of the key with end e at the place numbered n; labels are never 0
abbrev pub lab : ℕ → ℕ → ℕ
lab n e = suc (n * 257 + e)

pub lab_inj : (n m e f : ℕ) → e < 257 → f < 257 → lab n e ≡ lab m f → (n ≡ m) × (e ≡ f)
lab_inj n m e f a b h = (omega arith, omega arith)

-- the place numbered n is P: the root is 32776, the argument i of key k is 8 * k + i
pub data At (label : List ℕ) : ℕ → Place → Type 0 where
  top : At label root_place root
  kid : {n m k e i : ℕ} {P : Place} → At label n P → k < key_limit → get_or label k 0 ≡ lab n e → e < 257 → i < 8
      → m ≡ k * 8 + i → At label m (step P e i)

-- key k is the key (P, e)
pub record Den (label : List ℕ) (k : ℕ) (P : Place) (e : ℕ) : Type 0 where
  pub num : ℕ
  pub at : At label num P
  pub low : k < key_limit
  pub is : get_or label k 0 ≡ lab num e
  pub fits : e < 257

pub at_fun : (label : List ℕ) (n : ℕ) (P Q : Place) → At label n P → At label n Q → P ≡ Q
at_fun label n P Q top top = refl
at_fun label n P Q top (kid b l h f i m) = absurd (omega arith)
at_fun label n P Q (kid a l h f i m) top = absurd (omega arith)
at_fun label n P Q (kid {n = n₁} {k = k} {e = e} {i = i} {P = P'} a l h f b m) (kid {n = n₂} {k = k₂} {e = e₂} {i = i₂} {P = Q'} a₂ l₂ h₂ f₂ b₂ m₂) =
    let x : k ≡ k₂ = omega arith in
    let y : i ≡ i₂ = omega arith in
    let z = lab_inj n₁ n₂ e e₂ f f₂ (sym h ∙ ap (λ (q : ℕ). get_or label q 0) x ∙ h₂) in
    let u : P' ≡ Q' = at_fun label n₁ P' Q' a (rw z.0 a₂) in
    let v : e ≡ e₂ = z.1 in cc

unfoldable pub Unique : List ℕ → Type 0
Unique label = (k j : ℕ) → k < key_limit → j < key_limit → get_or label k 0 ≡ get_or label j 0 → (get_or label k 0 ≡ 0 → ⊥)
    → k ≡ j

pub at_inj : (label : List ℕ) → Unique label → (n m : ℕ) (P : Place) → At label n P → At label m P → n ≡ m
unfolding Unique
at_inj label u n m P top top = refl
at_inj label u n m P (kid {n = n₁} {k = k} {e = e} {i = i} {P = P'} a l h f b q) (kid {n = n₂} {k = k₂} a₂ l₂ h₂ f₂ b₂ q₂) =
    let x : n₁ ≡ n₂ = at_inj label u n₁ n₂ P' a a₂ in
    let y : k ≡ k₂ = u k k₂ l l₂ (h ∙ ap (λ (z : ℕ). lab z e) x ∙ sym h₂) (λ z. omega arith) in
    omega arith

pub den_fun : (label : List ℕ) (k : ℕ) (P Q : Place) (e f : ℕ) → Den label k P e → Den label k Q f → (P ≡ Q) × (e ≡ f)
den_fun label k P Q e f a b =
    let z = lab_inj a.num b.num e f a.fits b.fits (sym a.is ∙ b.is) in
    (at_fun label a.num P Q a.at (rw z.0 b.at), z.1)

pub den_inj : (label : List ℕ) → Unique label → (k j : ℕ) (P : Place) (e : ℕ) → Den label k P e → Den label j P e → k ≡ j
unfolding Unique
den_inj label u k j P e a b =
    let z = at_inj label u a.num b.num P a.at b.at in
    u k j a.low b.low (a.is ∙ ap (λ (n : ℕ). lab n e) z ∙ sym b.is) (λ q. let i = a.is in omega arith)

-- the tables stand for the relation R, slot s has the key (P, e)
pub record Rep (link label : List ℕ) (mem : ℕ → ℕ → Type 0) (R : ℕ → Place → ℕ → Type 0) : Type 0 where
  pub chains : Chains link label key_limit
  pub unique : Unique label
  pub means : (k : ℕ) → k < key_limit → (get_or label k 0 ≡ 0 → ⊥) → (P : Place) × (e : ℕ) × Den label k P e
  pub there : (s : ℕ) (P : Place) (e : ℕ) → R s P e → (k : ℕ) × Den label k P e
  pub into : (k s : ℕ) (P : Place) (e : ℕ) → Den label k P e → mem k s → R s P e
  pub from : (k s : ℕ) (P : Place) (e : ℕ) → Den label k P e → R s P e → mem k s
  pub free : (k s : ℕ) → k < key_limit → get_or label k 0 ≡ 0 → mem k s → ⊥
  pub closed : (s : ℕ) (P : Place) (e i f : ℕ) → R s (step P e i) f → R s P e

pub carry : (R : ℕ → Place → ℕ → Type 0) (s : ℕ) (P Q : Place) (e f : ℕ) → P ≡ Q → e ≡ f → R s P e → R s Q f
carry R s P Q e f p q h = rw (← p, ← q) h

-- every key in use, but for one, has a slot
unfoldable pub Full : List ℕ → (ℕ → ℕ → Type 0) → ℕ → Type 0
Full label mem out = (k : ℕ) → k < key_limit → (get_or label k 0 ≡ 0 → ⊥) → (k ≡ out → ⊥) → (s : ℕ) × mem k s

-- the search finds exactly the key of a place and an end
module _ (link label : List ℕ) (mem : ℕ → ℕ → Type 0) (R : ℕ → Place → ℕ → Type 0) (r : Rep link label mem R) (n : ℕ) (P : Place) (e : ℕ) (at : At label n P) (fits : e < 257) where
  pub find_den : find link label (lab n e) < key_limit → Den label (find link label (lab n e)) P e
  find_den h = record { num = n; at = at; low = h; is = find_sound link label (lab n e) r.chains h; fits = fits }

  pub den_find : (k : ℕ) → Den label k P e → find link label (lab n e) ≡ k
  den_find k d =
      let z : get_or label k 0 ≡ lab n e = d.is ∙ ap (λ (q : ℕ). lab q e) (at_inj label r.unique d.num n P d.at at) in
      den_inj label r.unique _ k P e (find_den (find_complete link label (lab n e) k r.chains d.low z)) d

  pub find_there : (s : ℕ) → R s P e → find link label (lab n e) < key_limit
  find_there s h = let d = r.there s P e h in rw (den_find d.0 d.1) d.1.low

  pub find_none : (key_limit ≤ find link label (lab n e)) → (k : ℕ) → Den label k P e → ⊥
  find_none h k d = let z = den_find k d in let l = d.low in omega arith

-- a free key gets the label of a place and an end that no key has
module _ (link label : List ℕ) (mem : ℕ → ℕ → Type 0) (R : ℕ → Place → ℕ → Type 0) (r : Rep link label mem R) (n : ℕ) (P : Place) (e k : ℕ) (at : At label n P) (fits : e < 257)
    (unfound : key_limit ≤ find link label (lab n e)) (low : k < key_limit) (isfree : get_or label k 0 ≡ 0) (len : link_length ≤ length link) (len' : key_limit ≤ length label) where
  abbrev pub label' : List ℕ
  label' = set label k (lab n e)

  other : (j : ℕ) → (j ≡ k → ⊥) → get_or label' j 0 ≡ get_or label j 0
  other j h = get_or-set_other label k j (lab n e) 0 h

  this : get_or label' k 0 ≡ lab n e
  this = get_or-set_same label k (lab n e) 0 (omega arith)

  used : (j m f : ℕ) → get_or label j 0 ≡ lab m f → j ≡ k → ⊥
  used j m f h q = let z : get_or label j 0 ≡ 0 = ap (λ (i : ℕ). get_or label i 0) q ∙ isfree in omega arith

  pub at_keep : (m : ℕ) (Q : Place) → At label m Q → At label' m Q
  at_keep m Q top = top
  at_keep m Q (kid {n = a} {k = j} {e = f} {P = Q'} b l h g i q) = kid (at_keep a Q' b) l (other j (used j a f h) ∙ h) g i q

  pub den_keep : (j : ℕ) (Q : Place) (f : ℕ) → Den label j Q f → Den label' j Q f
  den_keep j Q f d = record { num = d.num; at = at_keep d.num Q d.at; low = d.low; is = other j (used j d.num f d.is) ∙ d.is; fits = d.fits }

  pub add_den : Den label' k P e
  add_den = record { num = n; at = at_keep n P at; low = low; is = this; fits = fits }

  fresh : (j : ℕ) → j < key_limit → get_or label j 0 ≡ lab n e → ⊥
  fresh j l h = let z = find_complete link label (lab n e) j r.chains l h in omega arith

  pub add_rep : Rep (relinked link label k (lab n e)) label' mem R
  unfolding Unique
  add_rep = record {
    chains = relinked_chains link label k (lab n e) len low (omega arith) r.chains;
    unique = uniq;
    means = λ j l z. means' j l z (ℕ_discrete j k);
    there = λ s Q f h. let d = r.there s Q f h in (d.0, den_keep d.0 Q f d.1);
    into = λ j s Q f d m. into' j s Q f d m (ℕ_discrete j k);
    from = λ j s Q f d h. from' j s Q f d h;
    free = λ j s l z m. free' j s l z m (ℕ_discrete j k);
    closed = r.closed;
  }
    where
      both : (i j : ℕ) → Dec (i ≡ k) → Dec (j ≡ k) → i < key_limit → j < key_limit → get_or label' i 0 ≡ get_or label' j 0 → (get_or label' i 0 ≡ 0 → ⊥) → i ≡ j
      both i j (yes a) (yes b) l m q z = a ∙ sym b
      both i j (yes a) (no b) l m q z = absurd (fresh j m (sym (other j b) ∙ sym q ∙ ap (λ (x : ℕ). get_or label' x 0) a ∙ this))
      both i j (no a) (yes b) l m q z = absurd (fresh i l (sym (other i a) ∙ q ∙ ap (λ (x : ℕ). get_or label' x 0) b ∙ this))
      both i j (no a) (no b) l m q z = r.unique i j l m (sym (other i a) ∙ q ∙ other j b) (λ y. z (other i a ∙ y))

      uniq : Unique label'
      uniq i j l m q z = both i j (ℕ_discrete i k) (ℕ_discrete j k) l m q z

      means' : (j : ℕ) → j < key_limit → (get_or label' j 0 ≡ 0 → ⊥) → Dec (j ≡ k) → (Q : Place) × (f : ℕ) × Den label' j Q f
      means' j l z (yes a) = (P, e, rw a add_den)
      means' j l z (no a) = let d = r.means j l (λ y. z (other j a ∙ y)) in (d.0, d.1, den_keep j d.0 d.1 d.2)

      into' : (j s : ℕ) (Q : Place) (f : ℕ) → Den label' j Q f → mem j s → Dec (j ≡ k) → R s Q f
      into' j s Q f d m (yes a) = absurd (r.free k s low isfree (rw a at m))
      into' j s Q f d m (no a) = let b = r.means j d.low (λ y. let i = d.is in let o = other j a in omega arith) in
          let c = den_fun label' j b.0 Q b.1 f (den_keep j b.0 b.1 b.2) d in
          carry R s b.0 Q b.1 f c.0 c.1 (r.into j s b.0 b.1 b.2 m)

      from' : (j s : ℕ) (Q : Place) (f : ℕ) → Den label' j Q f → R s Q f → mem j s
      from' j s Q f d h = let c = r.there s Q f h in rw (den_inj label' uniq j c.0 Q f d (den_keep c.0 Q f c.1)) (r.from c.0 s Q f c.1 h)

      free' : (j s : ℕ) → j < key_limit → get_or label' j 0 ≡ 0 → mem j s → Dec (j ≡ k) → ⊥
      free' j s l z m (yes a) = let y : get_or label' j 0 ≡ lab n e = ap (λ (x : ℕ). get_or label' x 0) a ∙ this in omega arith
      free' j s l z m (no a) = r.free j s l (sym (other j a) ∙ z) m

-- slot s gets a key, or loses it
abbrev pub Plus : (ℕ → Place → ℕ → Type 0) → ℕ → Place → ℕ → ℕ → Place → ℕ → Type 0
Plus R s P e t Q f = R t Q f ⊎ ((t ≡ s) × (Q ≡ P) × (f ≡ e))

abbrev pub Minus : (ℕ → Place → ℕ → Type 0) → ℕ → Place → ℕ → ℕ → Place → ℕ → Type 0
Minus R s P e t Q f = R t Q f × ((t ≡ s) × (Q ≡ P) × (f ≡ e) → ⊥)

-- the parent's key of a key that slot s is to get
abbrev pub Above : (ℕ → Place → ℕ → Type 0) → ℕ → Place → Type 0
Above R s root = Unit {0}
Above R s (step P e i) = R s P e

module _ (link label : List ℕ) (mem mem' : ℕ → ℕ → Type 0) (R : ℕ → Place → ℕ → Type 0) (r : Rep link label mem R) (k s : ℕ) (P : Place) (e : ℕ) (d : Den label k P e) where
  -- the slot's bit is set
  pub set_rep : Above R s P → ((j t : ℕ) → mem' j t ↔ (mem j t ⊎ ((j ≡ k) × (t ≡ s)))) → Rep link label mem' (Plus R s P e)
  set_rep above bit = record {
    chains = r.chains;
    unique = r.unique;
    means = r.means;
    there = λ t Q f h. ⊎_elim (r.there t Q f) (λ w. (k, den_on Q f w.1 w.2)) h;
    into = λ j t Q f b m. ⊎_elim (λ x. inl (r.into j t Q f b x)) (λ w. let c = den_fun label j Q P f e b (rw w.0 d) in inr (w.1, c.0, c.1)) ((bit j t).0 m);
    from = λ j t Q f b h. (bit j t).1 (⊎_elim (λ x. inl (r.from j t Q f b x)) (λ w. inr (den_inj label r.unique j k Q f b (den_on Q f w.1 w.2), w.0)) h);
    free = λ j t l z m. ⊎_elim (λ x. r.free j t l z x) (λ w. let y = d.is in let q : get_or label j 0 ≡ get_or label k 0 = ap (λ (x : ℕ). get_or label x 0) w.0 in omega arith) ((bit j t).0 m);
    closed = λ t Q f i g h. ⊎_elim (λ x. inl (r.closed t Q f i g x)) (λ w. inl (up t Q f i w.0 w.1)) h;
  }
    where
      den_on : (Q : Place) (f : ℕ) → Q ≡ P → f ≡ e → Den label k Q f
      den_on Q f p q = rw (p, q) d

      up : (t : ℕ) (Q : Place) (f i : ℕ) → t ≡ s → step Q f i ≡ P → R t Q f
      up t Q f i q p = let a : R s Q f = subst (λ (X : Place). Above R s X) (sym p) above in rw q a

  -- the slot's bit is cleared
  pub clear_rep : ((Q : Place) (i f : ℕ) → Q ≡ step P e i → R s Q f → ⊥) → ((j t : ℕ) → mem' j t ↔ (mem j t × ((j ≡ k) × (t ≡ s) → ⊥))) → Rep link label mem' (Minus R s P e)
  clear_rep below bit = record {
    chains = r.chains;
    unique = r.unique;
    means = r.means;
    there = λ t Q f h. r.there t Q f h.0;
    into = λ j t Q f b m. let w = (bit j t).0 m in (r.into j t Q f b w.0, (λ q. w.1 (den_inj label r.unique j k Q f b (den_on Q f q.1 q.2), q.0)));
    from = λ j t Q f b h. (bit j t).1 (r.from j t Q f b h.0, (λ q. let c = den_fun label j Q P f e b (rw q.0 d) in h.1 (q.1, c.0, c.1)));
    free = λ j t l z m. r.free j t l z ((bit j t).0 m).0;
    closed = λ t Q f i g h. (r.closed t Q f i g h.0, (λ q. below (step Q f i) i g (same Q f i q.1 q.2) (rw q.0 at h.0)));
  }
    where
      den_on : (Q : Place) (f : ℕ) → Q ≡ P → f ≡ e → Den label k Q f
      den_on Q f p q = rw (p, q) d

      same : (Q : Place) (f i : ℕ) → Q ≡ P → f ≡ e → step Q f i ≡ step P e i
      same Q f i p q = rw (p, q)

-- a key with no slot is freed
module _ (link label : List ℕ) (mem : ℕ → ℕ → Type 0) (R : ℕ → Place → ℕ → Type 0) (r : Rep link label mem R) (k : ℕ) (P : Place) (e : ℕ) (d : Den label k P e)
    (empty : (s : ℕ) → mem k s → ⊥) (full : Full label mem k) (len : link_length ≤ length link) (len' : key_limit ≤ length label) where
  abbrev pub gone : List ℕ
  gone = set label k 0

  gone_other : (j : ℕ) → (j ≡ k → ⊥) → get_or gone j 0 ≡ get_or label j 0
  gone_other j h = get_or-set_other label k j 0 0 h

  gone_this : get_or gone k 0 ≡ 0
  gone_this = let l = d.low in get_or-set_same label k 0 0 (omega arith)

  nomem : (j t : ℕ) → mem j t → j ≡ k → ⊥
  nomem j t m y = empty t (rw y at m)

  -- no other key has the place of an argument of k
  at_stay : (n : ℕ) (Q : Place) → At label n Q → (j f : ℕ) → j < key_limit → (j ≡ k → ⊥) → get_or label j 0 ≡ lab n f → f < 257 → At gone n Q
  unfolding Full
  at_stay n Q top j f l z h b = top
  at_stay n Q (kid {n = n₁} {k = k₁} {e = e₁} {i = i₁} {P = Q₁} a l₁ h₁ b₁ c₁ m₁) j f l z h b =
      let dj : Den label j (step Q₁ e₁ i₁) f = record { num = n; at = kid a l₁ h₁ b₁ c₁ m₁; low = l; is = h; fits = b } in
      let dk : Den label k₁ Q₁ e₁ = record { num = n₁; at = a; low = l₁; is = h₁; fits = b₁ } in
      let w = full j l (λ y. omega arith) z in
      let p = r.from k₁ w.0 Q₁ e₁ dk (r.closed w.0 Q₁ e₁ i₁ f (r.into j w.0 (step Q₁ e₁ i₁) f dj w.1)) in
      let ne : k₁ ≡ k → ⊥ = nomem k₁ w.0 p in
      kid (at_stay n₁ Q₁ a k₁ e₁ l₁ ne h₁ b₁) l₁ (gone_other k₁ ne ∙ h₁) b₁ c₁ m₁

  pub den_stay : (j : ℕ) (Q : Place) (f : ℕ) → (j ≡ k → ⊥) → Den label j Q f → Den gone j Q f
  den_stay j Q f z b = record { num = b.num; at = at_stay b.num Q b.at j f b.low z b.is b.fits; low = b.low; is = gone_other j z ∙ b.is; fits = b.fits }

  pub free_rep : Rep (relinked link label k 0) gone mem R
  unfolding Unique
  free_rep = record {
    chains = let l = d.low in relinked_chains link label k 0 len l (omega arith) r.chains;
    unique = uniq;
    means = λ j l z. let o = gone_other j (out j z) in let b = r.means j l (λ y. z (o ∙ y)) in (b.0, b.1, den_stay j b.0 b.1 (out j z) b.2);
    there = λ s Q f h. let b = r.there s Q f h in (b.0, den_stay b.0 Q f (nomem b.0 s (r.from b.0 s Q f b.1 h)) b.1);
    into = λ j s Q f b m. let z = in_use_lem j Q f b in let y = r.means j b.low (λ q. let i = b.is in let o = gone_other j z in omega arith) in
        let c = den_fun gone j y.0 Q y.1 f (den_stay j y.0 y.1 z y.2) b in
        carry R s y.0 Q y.1 f c.0 c.1 (r.into j s y.0 y.1 y.2 m);
    from = λ j s Q f b h. let c = r.there s Q f h in
        let m = r.from c.0 s Q f c.1 h in
        let z : c.0 ≡ k → ⊥ = nomem c.0 s m in
        rw (den_inj gone uniq j c.0 Q f b (den_stay c.0 Q f z c.1)) m;
    free = λ j s l z m. freed j s l z m (ℕ_discrete j k);
    closed = r.closed;
  }
    where
      out : (j : ℕ) → (get_or gone j 0 ≡ 0 → ⊥) → j ≡ k → ⊥
      out j z y = z (ap (λ (x : ℕ). get_or gone x 0) y ∙ gone_this)

      in_use_lem : (j : ℕ) (Q : Place) (f : ℕ) → Den gone j Q f → j ≡ k → ⊥
      in_use_lem j Q f b y = out j (λ q. let i = b.is in omega arith) y

      uniq : Unique gone
      uniq i j l m q z = let a = out i z in let b = out j (λ y. z (q ∙ y)) in
          r.unique i j l m (sym (gone_other i a) ∙ q ∙ gone_other j b) (λ y. z (gone_other i a ∙ y))

      freed : (j s : ℕ) → j < key_limit → get_or gone j 0 ≡ 0 → mem j s → Dec (j ≡ k) → ⊥
      freed j s l z m (yes a) = empty s (rw a at m)
      freed j s l z m (no a) = r.free j s l (sym (gone_other j a) ∙ z) m
