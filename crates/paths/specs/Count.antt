-- SCOPE.md, 'Numbers of refusal': how many distinct keys the stored terms have, and refusal 12.
use Prim.Native.Nat.{ℕ, zero, suc, ◌+◌, ◌-◌, ◌≤◌, ◌<◌}
use Rattle.std.specs.Prelude.{◌≡◌, ◌⊎◌, ◌↔◌, List, [], ◌∷◌, ◌++◌, length}
use Rattle.std.proofs.Math.Path.{refl}
use Rattle.std.proofs.Common.{ap, ◌∙◌, eq-eqb, ne_eqb, length-append}
use Rattle.std.proofs.Math.Logic.{inl, inr, ⊎_elim}
use native.Mathlib.Omega.{arith}
use Rattle.std.proofs.Math.Decide.{ℕ_discrete}
use Rattle.std.proofs.Math.ListN.{get_or}
use Rattle.laws.specs.Members.{In, NoDup, nodup_le, nodup_append, in_append, in_left, in_right}
use Rattle.keys.specs.Keys.{Place, Key, key}
use Rattle.paths.specs.Rep.{Rep, Full, den_fun, den_inj}
use Rattle.paths.specs.Free.{free_of, frees}
use Rattle.paths.specs.Insert.{DenK, RK, Lack, done, has, new, With}
use Rattle.laws.specs.Sizes.{key_limit}

-- R has n distinct keys
pub record Distinct (R : ℕ → Place → ℕ → Type 0) (n : ℕ) : Type 0 where
  pub keys : List Key
  pub nodup : NoDup keys
  pub from : (K : Key) → In K keys → (s : ℕ) × RK R s K
  pub into : (s : ℕ) (K : Key) → RK R s K → In K keys
  pub many : length keys ≡ n

pub distinct_one : (R : ℕ → Place → ℕ → Type 0) (n m : ℕ) → Distinct R n → Distinct R m → n ≡ m
distinct_one R n m a b =
    let p = nodup_le a.keys b.keys a.nodup (λ K i. let w = a.from K i in b.into w.0 K w.1) in
    let q = nodup_le b.keys a.keys b.nodup (λ K i. let w = b.from K i in a.into w.0 K w.1) in
    omega (arith, a.many, b.many)

module _ (link label : List ℕ) (mem : ℕ → ℕ → Type 0) (R : ℕ → Place → ℕ → Type 0) (r : Rep link label mem R) (full : Full label mem key_limit) where
  record Upto (n : ℕ) : Type 0 where
    pub keys : List Key
    pub nodup : NoDup keys
    pub from : (K : Key) → In K keys → (k : ℕ) × (k < n) × DenK label k K
    pub into : (k : ℕ) (K : Key) → k < n → DenK label k K → In K keys
    pub many : length keys + length (free_of label n) ≡ n

  den_used : (k : ℕ) (K : Key) → DenK label k K → get_or label k 0 ≡ 0 → ⊥
  den_used k (key P e) d z = let i = d.is in omega arith

  den_same : (k : ℕ) (K J : Key) → DenK label k K → DenK label k J → K ≡ J
  den_same k (key P e) (key Q f) a b = let c = den_fun label k P Q e f a b in let x : P ≡ Q = c.0 in let y : e ≡ f = c.1 in cc

  den_one : (k j : ℕ) (K : Key) → DenK label k K → DenK label j K → k ≡ j
  den_one k j (key P e) a b = den_inj label r.unique k j P e a b

  upto : (n : ℕ) → n ≤ key_limit → Upto n
  unfolding free_of
  upto zero l = record { keys = []; nodup = tt; from = λ K i. absurd i; into = λ k K h d. absurd (omega arith); many = refl }
  upto (suc n) l = go (upto n (omega arith)) (ℕ_discrete (get_or label n 0) 0)
    where
      go : Upto n → Dec (get_or label n 0 ≡ 0) → Upto (suc n)
      go u (yes z) = record {
        keys = u.keys;
        nodup = u.nodup;
        from = λ K i. let w = u.from K i in (w.0, (let h = w.1 in omega arith), w.2);
        into = λ k K h d. u.into k K (let q : k ≡ n → ⊥ = λ y. den_used k K d (ap (λ (x : ℕ). get_or label x 0) y ∙ z) in omega arith) d;
        many = rw (eq-eqb (get_or label n 0) 0 z) (omega (arith, u.many));
      }
      go u (no z) = let m = r.means n l z in let K₀ = key m.0 m.1 in record {
        keys = K₀ ∷ u.keys;
        nodup = ((λ i. let w = u.from K₀ i in let q = den_one w.0 n K₀ w.2 m.2 in let h = w.1 in omega arith), u.nodup);
        from = λ K i. ⊎_elim (λ (y : K ≡ K₀). (n, omega arith, rw y m.2)) (λ y. let w = u.from K y in (w.0, (let h = w.1 in omega arith), w.2)) i;
        into = λ k K h d. put k K h d (ℕ_discrete k n);
        many = rw (ne_eqb (get_or label n 0) 0 z) (omega (arith, u.many));
      }
        where
          put : (k : ℕ) (K : Key) → k < suc n → DenK label k K → Dec (k ≡ n) → (K ≡ key (r.means n l z).0 (r.means n l z).1) ⊎ In K u.keys
          put k K h d (yes y) = inl (den_same n K _ (rw y at d) (r.means n l z).2)
          put k K h d (no y) = inr (u.into k K (omega arith) d)

  all : Upto key_limit
  all = upto key_limit (omega arith)

  den_low : (k : ℕ) (K : Key) → DenK label k K → k < key_limit
  den_low k (key P e) d = d.low

  there : (s : ℕ) (K : Key) → RK R s K → (k : ℕ) × DenK label k K
  there s (key P e) h = r.there s P e h

  some_slot : (k : ℕ) (K : Key) → DenK label k K → (s : ℕ) × RK R s K
  unfolding Full
  some_slot k (key P e) d = let w = full k d.low (λ z. den_used k (key P e) d z) (λ z. let l = d.low in omega arith) in (w.0, r.into k w.0 P e d w.1)

  -- the keys that are missing
  record Miss (Ks : List Key) (m : ℕ) : Type 0 where
    pub keys : List Key
    pub nodup : NoDup keys
    pub from : (K : Key) → In K keys → In K Ks × ((k : ℕ) → DenK label k K → ⊥)
    pub into : (K : Key) → In K Ks → In K keys ⊎ ((k : ℕ) × DenK label k K)
    pub many : length keys ≡ m

  miss : (Ks : List Key) (m : ℕ) → NoDup Ks → Lack label Ks m → Miss Ks m
  miss Ks m n done = record { keys = []; nodup = tt; from = λ K i. absurd i; into = λ K i. absurd i; many = refl }
  miss Ks m n (has {K = J} {Ks = L} {m = m'} k d l) = let u = miss L m' n.1 l in record {
    keys = u.keys;
    nodup = u.nodup;
    from = λ K i. (inr (u.from K i).0, (u.from K i).1);
    into = λ K i. ⊎_elim (λ (y : K ≡ J). inr (k, rw y d)) (λ y. u.into K y) i;
    many = u.many;
  }
  miss Ks m n (new {K = J} {Ks = L} {m = m'} f l) = let u = miss L m' n.1 l in record {
    keys = J ∷ u.keys;
    nodup = ((λ i. n.0 (u.from J i).0), u.nodup);
    from = λ K i. ⊎_elim (λ (y : K ≡ J). (inl y, (λ k d. f k (rw y at d)))) (λ y. (inr (u.from K y).0, (u.from K y).1)) i;
    into = λ K i. ⊎_elim (λ (y : K ≡ J). inl (inl y)) (λ y. ⊎_elim (λ x. inl (inr x)) (λ x. inr x) (u.into K y)) i;
    many = ap suc u.many;
  }

  with_in : (s t : ℕ) (Ks : List Key) (K : Key) → RK (With R s Ks) t K → RK R t K ⊎ In K Ks
  with_in s t Ks (key P e) h = ⊎_elim (λ x. inl x) (λ x. inr x.1) h

  in_with : (s t : ℕ) (Ks : List Key) (K : Key) → RK R t K ⊎ ((t ≡ s) × In K Ks) → RK (With R s Ks) t K
  in_with s t Ks (key P e) h = h

  -- the keys after an insert
  pub keys_then : (s : ℕ) (Ks : List Key) (m : ℕ) → NoDup Ks → Lack label Ks m → Distinct (With R s Ks) (key_limit - frees label + m)
  keys_then s Ks m n l = let u = miss Ks m n l in record {
    keys = all.keys ++ u.keys;
    nodup = nodup_append all.keys u.keys all.nodup u.nodup (λ K i j. let w = all.from K i in (u.from K j).1 w.0 w.2);
    from = λ K i. ⊎_elim (λ x. let w = all.from K x in let y = some_slot w.0 K w.2 in (y.0, in_with s y.0 Ks K (inl y.1))) (λ x. (s, in_with s s Ks K (inr (refl, (u.from K x).0)))) (in_append K all.keys u.keys i);
    into = λ t K h. ⊎_elim (λ x. let w = there t K x in in_left K all.keys u.keys (all.into w.0 K (den_low w.0 K w.1) w.1))
        (λ x. ⊎_elim (λ y. in_right K all.keys u.keys y) (λ y. in_left K all.keys u.keys (all.into y.0 K (den_low y.0 K y.1) y.1)) (u.into K x)) (with_in s t Ks K h);
    many = length-append all.keys u.keys ∙ omega (arith, all.many, u.many);
  }

  -- refusal 12 is given exactly when the stored terms would have over 4,096 distinct keys
  pub keys_refused : (s : ℕ) (Ks : List Key) (m N : ℕ) → NoDup Ks → Lack label Ks m → Distinct (With R s Ks) N → (frees label < m) ↔ (key_limit < N)
  keys_refused s Ks m N n l d = let e = distinct_one (With R s Ks) N (key_limit - frees label + m) d (keys_then s Ks m n l) in
      ((λ h. omega (arith, all.many)), (λ h. omega (arith, all.many)))
