-- Serves SCOPE.md, 'Store': in an insert each key of a term is found or added, and the slot's bit set.
use Prim.Native.Nat.{ℕ, zero, suc, ◌+◌, ◌*◌, ◌/◌, ◌%◌, ◌≤◌, ◌<◌}
use Rattle.std.specs.Prelude.{◌≡◌, refl, ◌⊎◌, ◌↔◌, false, get_or, set}
use Rattle.std.proofs.Common.{sym, ◌∙◌, inl, inr, arith, lt-ltb, le-ltb, get_or-set_other}
use Rattle.std.proofs.Math.Logic.{⊎_elim}
use mathlib.Core.List.{List, [], ◌∷◌, ◌++◌}
use Rattle.std.proofs.Math.Bool.{true}
use Rattle.std.proofs.Math.Nat.{mod-eq_of_lt}
use Rattle.std.proofs.Math.Decide.{ℕ_discrete, dec_lt}
use Rattle.std.proofs.Math.Dec.{ltb}
use Rattle.std.proofs.Math.ListN.{length, length-set, length-append}
use Rattle.laws.specs.Members.{In, NoDup, in_append}
use Rattle.laws.specs.Choice.{pick}
use Rattle.chains.specs.Chains.{Chains, find, relinked, pushed, find_sound, taken_chains}
use Rattle.keys.specs.Keys.{Place, root, step, Key, key}
use Rattle.paths.specs.Rep.{lab, At, top, kid, Den, Rep, Full, Plus, Above, den_fun, find_den}
use Rattle.paths.specs.Rep.{den_find, add_rep, add_den, set_rep, den_keep, carry}
use Rattle.paths.specs.Free.{frees, free_found, free_less}
use Rattle.paths.specs.TreeWalk.{kid_of, up_place, up_num, key_list}
use Rattle.laws.specs.Sizes.{key_limit, link_length, slot_count}

abbrev pub DenK : List ℕ → ℕ → Key → Type 0
DenK label k (key P e) = Den label k P e

abbrev pub RK : (ℕ → Place → ℕ → Type 0) → ℕ → Key → Type 0
RK R s (key P e) = R s P e

-- key numbers that are these keys
abbrev pub Dens : List ℕ → List ℕ → List Key → Type 0
Dens label [] [] = Unit {0}
Dens label [] (K ∷ Ks) = ⊥
Dens label (k ∷ ks) [] = ⊥
Dens label (k ∷ ks) (K ∷ Ks) = DenK label k K × Dens label ks Ks

pub dens_snoc : (label : List ℕ) (ks : List ℕ) (Ks : List Key) (k : ℕ) (K : Key) → Dens label ks Ks → DenK label k K → Dens label (ks ++ k ∷ []) (Ks ++ K ∷ [])
dens_snoc label [] [] k K d e = (e, tt)
dens_snoc label [] (_ ∷ Ks) k K d e = absurd d
dens_snoc label (_ ∷ ks) [] k K d e = absurd d
dens_snoc label (_ ∷ ks) (_ ∷ Ks) k K d e = (d.0, dens_snoc label ks Ks k K d.1 e)

pub dens_get : (label : List ℕ) (ks : List ℕ) (Ks : List Key) (n : ℕ) → Dens label ks Ks → n < length Ks → DenK label (get_or ks n 0) (get_or Ks n (key root 0)) × In (get_or Ks n (key root 0)) Ks
dens_get label [] [] n d h = absurd (omega arith)
dens_get label [] (_ ∷ Ks) n d h = absurd d
dens_get label (_ ∷ ks) [] n d h = absurd d
dens_get label (_ ∷ ks) (K ∷ Ks) zero d h = (d.0, inl refl)
dens_get label (_ ∷ ks) (K ∷ Ks) (suc n) d h = let r = dens_get label ks Ks n d.1 (omega arith) in (r.0, inr r.1)

pub dens_map : (label label' : List ℕ) → ((k : ℕ) (K : Key) → DenK label k K → DenK label' k K) → (ks : List ℕ) (Ks : List Key) → Dens label ks Ks → Dens label' ks Ks
dens_map label label' f [] [] d = tt
dens_map label label' f [] (_ ∷ Ks) d = absurd d
dens_map label label' f (_ ∷ ks) [] d = absurd d
dens_map label label' f (k ∷ ks) (K ∷ Ks) d = (f k K d.0, dens_map label label' f ks Ks d.1)

-- m of the keys have no number
pub data Lack (label : List ℕ) : List Key → ℕ → Type 0 where
  done : Lack label [] 0
  has : {K : Key} {Ks : List Key} {m : ℕ} (k : ℕ) → DenK label k K → Lack label Ks m → Lack label (K ∷ Ks) m
  new : {K : Key} {Ks : List Key} {m : ℕ} → ((k : ℕ) → DenK label k K → ⊥) → Lack label Ks m
      → Lack label (K ∷ Ks) (suc m)

pub lack_map : (label label' : List ℕ) (K₀ : Key) → ((k : ℕ) (K : Key) → DenK label k K → DenK label' k K) → ((k : ℕ) (K : Key) → DenK label' k K → (K ≡ K₀ → ⊥) → DenK label k K)
    → (Ks : List Key) (m : ℕ) → (In K₀ Ks → ⊥) → Lack label Ks m → Lack label' Ks m
lack_map label label' K₀ f g Ks m o done = done
lack_map label label' K₀ f g Ks m o (has {K = K} {Ks = L} k d l) = has k (f k K d) (lack_map label label' K₀ f g L _ (λ i. o (inr i)) l)
lack_map label label' K₀ f g Ks m o (new {K = K} {Ks = L} n l) = new (λ k d. n k (g k K d (λ z. o (inl (sym z))))) (lack_map label label' K₀ f g L _ (λ i. o (inr i)) l)

-- each up leads to an item before
abbrev pub Back : ℕ → List ℕ → Type 0
Back n [] = Unit {0}
Back n (zero ∷ us) = Back (suc n) us
Back n (suc v ∷ us) = (v / 8 < n) × Back (suc n) us

abbrev pub EndLabels : List ℕ → Type 0
EndLabels [] = Unit {0}
EndLabels (e ∷ es) = (e < 257) × EndLabels es

pub up_at : (label : List ℕ) (ks : List ℕ) (Ks : List Key) (u : ℕ) → Dens label ks Ks → Back (length Ks) (u ∷ []) → At label (up_num ks u) (up_place Ks u)
unfolding up_num up_place
up_at label ks Ks zero d b = top
up_at label ks Ks (suc v) d b = go (get_or Ks (v / 8) (key root 0)) (dens_get label ks Ks (v / 8) d b.0).0
  where
    go : (K : Key) → DenK label (get_or ks (v / 8) 0) K → At label (get_or ks (v / 8) 0 * 8 + v % 8) (kid_of K (v % 8))
    go (key P e) h = kid {i = v % 8} h.at h.low h.is h.fits (omega arith) refl

pub up_above : (label : List ℕ) (R : ℕ → Place → ℕ → Type 0) (s : ℕ) (ks : List ℕ) (Ks : List Key) (u : ℕ) → Dens label ks Ks → ((K : Key) → In K Ks → RK R s K) → Back (length Ks) (u ∷ []) → Above R s (up_place Ks u)
unfolding up_place
up_above label R s ks Ks zero d i b = tt
up_above label R s ks Ks (suc v) d i b = go (get_or Ks (v / 8) (key root 0)) (i _ (dens_get label ks Ks (v / 8) d b.0).1)
  where
    go : (K : Key) → RK R s K → Above R s (kid_of K (v % 8))
    go (key P e) h = h

pub back_one : (n u : ℕ) (us : List ℕ) → Back n (u ∷ us) → Back n (u ∷ []) × Back (suc n) us
back_one n zero us b = (tt, b)
back_one n (suc v) us b = ((b.0, tt), b.1)

-- the slot's keys after the walk
abbrev pub With : (ℕ → Place → ℕ → Type 0) → ℕ → List Key → ℕ → Place → ℕ → Type 0
With R s Ks t Q f = R t Q f ⊎ ((t ≡ s) × In (key Q f) Ks)

pub rep_iff : (link label : List ℕ) (mem : ℕ → ℕ → Type 0) (R R' : ℕ → Place → ℕ → Type 0) → ((s : ℕ) (P : Place) (e : ℕ) → R s P e ↔ R' s P e) → Rep link label mem R → Rep link label mem R'
rep_iff link label mem R R' f r = record {
  chains = r.chains;
  unique = r.unique;
  means = r.means;
  there = λ s P e h. r.there s P e ((f s P e).1 h);
  into = λ k s P e d m. (f s P e).0 (r.into k s P e d m);
  from = λ k s P e d h. r.from k s P e d ((f s P e).1 h);
  free = r.free;
  closed = λ s P e i g h. (f s P e).0 (r.closed s P e i g ((f s (step P e i) g).1 h));
}

pub relinked_length : (link label : List ℕ) (k w : ℕ) → link_length ≤ length link → k < key_limit → Chains link label key_limit → length (relinked link label k w) ≡ length link
unfolding relinked pushed
relinked_length link label k w n l c = rw (length-set, length-set) (taken_chains link label k n l c).1

-- the tables
pub record St (S : Type 0) : Type 0 where
  pub link : List ℕ
  pub label : List ℕ
  pub sets : S

module _ (S : Type 0) (mark : S → ℕ → ℕ → S) where
  -- the key for a label, found or taken from the free ones
  unfoldable pub key_for : St S → ℕ → ℕ
  key_for σ w = pick (ltb (find σ.link σ.label w) key_limit) (find σ.link σ.label w)
      (find σ.link σ.label 0 % key_limit)

  unfoldable pub ensured : St S → ℕ → St S
  ensured σ w = pick (ltb (find σ.link σ.label w) key_limit) σ
      (record {
        link = relinked σ.link σ.label (find σ.link σ.label 0 % key_limit) w;
        label = set σ.label
            (find σ.link σ.label 0 % key_limit) w;
        sets = σ.sets;
      })

  unfoldable pub marked : St S → ℕ → ℕ → St S
  marked σ k s = record { link = σ.link; label = σ.label; sets = mark σ.sets k s }

  unfoldable pub entered : St S → ℕ → ℕ → St S
  entered σ s w = marked (ensured σ w) (key_for σ w) s

  -- all items of a term
  unfoldable pub ins_run : St S → ℕ → List ℕ → List ℕ → List ℕ → St S
  ins_run σ s ks [] es = σ
  ins_run σ s ks (u ∷ us) [] = σ
  ins_run σ s ks (u ∷ us) (e ∷ es) = ins_run (entered σ s (lab (up_num ks u) e)) s
      (ks ++ key_for σ (lab (up_num ks u) e) ∷ []) us es

module _ (S : Type 0) (mem : S → ℕ → ℕ → Type 0) (mark : S → ℕ → ℕ → S) (Ok : S → Type 0) where
  pub record GoodTables (σ : St S) (R : ℕ → Place → ℕ → Type 0) : Type 0 where
    pub rep : Rep σ.link σ.label (mem σ.sets) R
    pub full : Full σ.label (mem σ.sets) key_limit
    pub links : link_length ≤ length σ.link
    pub labels : key_limit ≤ length σ.label
    pub ok : Ok σ.sets

  -- one item
  pub record InsertStepped (σ τ : St S) (R : ℕ → Place → ℕ → Type 0) (s k : ℕ) (P : Place) (e : ℕ) (Ks : List Key)
      (m : ℕ) : Type 0 where
    pub good : GoodTables τ (Plus R s P e)
    pub den : Den τ.label k P e
    pub keep : (j : ℕ) (K : Key) → DenK σ.label j K → DenK τ.label j K
    pub lack : Lack τ.label Ks m
    pub enough : m ≤ frees τ.label

  module _ (mark_ok : (σ : S) (k s : ℕ) → Ok σ → k < key_limit → s < slot_count → Ok (mark σ k s)) (mark_law : (σ : S) (k s : ℕ) → Ok σ → k < key_limit → s < slot_count → (j t : ℕ) → mem (mark σ k s) j t ↔ (mem σ j t ⊎ ((j ≡ k) × (t ≡ s)))) where
    -- the bit of a key that is there
    mark_good : (σ : St S) (R : ℕ → Place → ℕ → Type 0) (k s : ℕ) (P : Place) (e : ℕ) → Rep σ.link σ.label (mem σ.sets) R → Full σ.label (mem σ.sets) k → link_length ≤ length σ.link → key_limit ≤ length σ.label
        → Ok σ.sets → Den σ.label k P e → Above R s P → s < slot_count → GoodTables (marked S mark σ k s) (Plus R s P e)
    unfolding marked Full
    mark_good σ R k s P e r f a b oks d up l = record {
      rep = set_rep σ.link σ.label (mem σ.sets) (mem (mark σ.sets k s)) R r k s P e d up (mark_law σ.sets k s oks d.low l);
      full = λ j q z o. go j q z (ℕ_discrete j k);
      links = a;
      labels = b;
      ok = mark_ok σ.sets k s oks d.low l;
    }
      where
        go : (j : ℕ) → j < key_limit → (get_or σ.label j 0 ≡ 0 → ⊥) → Dec (j ≡ k) → (t : ℕ) × mem (mark σ.sets k s) j t
        go j q z (yes y) = (s, (mark_law σ.sets k s oks d.low l j s).1 (inr (y, refl)))
        go j q z (no y) = let w = f j q z y in (w.0, (mark_law σ.sets k s oks d.low l j w.0).1 (inl w.1))

    full_any : (label : List ℕ) (mm : ℕ → ℕ → Type 0) (k : ℕ) → Full label mm key_limit → Full label mm k
    unfolding Full
    full_any label mm k f j l z o = f j l z (λ y. omega arith)

    step_has : (σ : St S) (R : ℕ → Place → ℕ → Type 0) (s n : ℕ) (P : Place) (e : ℕ) (Ks : List Key) (m k : ℕ) → GoodTables σ R → At σ.label n P → e < 257 → Above R s P → s < slot_count
        → Den σ.label k P e → Lack σ.label Ks m → m ≤ frees σ.label → InsertStepped σ (entered S mark σ s (lab n e)) R s (key_for S mark σ (lab n e)) P e Ks m
    unfolding entered ensured key_for marked
    step_has σ R s n P e Ks m k g a f up l d la en =
        let q = den_find σ.link σ.label (mem σ.sets) R g.rep n P e a f k d in
        let z : ltb (find σ.link σ.label (lab n e)) key_limit ≡ true = rw q (lt-ltb k key_limit d.low) in
        rw (z, q) (record {
          good = mark_good σ R k s P e g.rep (full_any _ _ k g.full) g.links g.labels g.ok d up l;
          den = d;
          keep = λ j K h. h;
          lack = la;
          enough = en;
        })

    step_new : (σ : St S) (R : ℕ → Place → ℕ → Type 0) (s n : ℕ) (P : Place) (e : ℕ) (Ks : List Key) (m : ℕ) → GoodTables σ R → At σ.label n P → e < 257 → Above R s P → s < slot_count
        → ((k : ℕ) → Den σ.label k P e → ⊥) → (In (key P e) Ks → ⊥) → Lack σ.label Ks m → suc m ≤ frees σ.label → InsertStepped σ (entered S mark σ s (lab n e)) R s (key_for S mark σ (lab n e)) P e Ks m
    unfolding entered ensured key_for marked Full
    step_new σ R s n P e Ks m g a f up l d o la en = rw (z, mod-eq_of_lt low) (record {
      good = mark_good τ R k s P e rep' full' (omega (arith, len, g.links)) (omega (arith, length-set σ.label k (lab n e), g.labels)) g.ok den' up l;
      den = den';
      keep = keep';
      lack = lack_map σ.label label' (key P e) keep' back Ks m o la;
      enough = omega (arith, free_less σ.label k (lab n e));
    })
      where
        link : List ℕ
        link = σ.link

        label : List ℕ
        label = σ.label

        none' : key_limit ≤ find link label (lab n e)
        none' = ⊎_elim {A = find link label (lab n e) < key_limit} {B = key_limit ≤ find link label (lab n e)}
            (λ h. absurd (d _ (find_den link label (mem σ.sets) R g.rep n P e a f h))) (λ h. h) (cut (dec_lt (find link label (lab n e)) key_limit))
          where
            cut : Dec (find link label (lab n e) < key_limit) → (find link label (lab n e) < key_limit) ⊎ (key_limit ≤ find link label (lab n e))
            cut (yes h) = inl h
            cut (no h) = inr (omega arith)

        z : ltb (find link label (lab n e)) key_limit ≡ false
        z = le-ltb _ key_limit none'

        k : ℕ
        k = find link label 0

        low : k < key_limit
        low = free_found link label g.rep.chains (omega arith)

        isfree : get_or label k 0 ≡ 0
        isfree = find_sound link label 0 g.rep.chains low

        label' : List ℕ
        label' = set label k (lab n e)

        τ : St S
        τ = record { link = relinked link label k (lab n e); label = label'; sets = σ.sets }

        len : length (relinked link label k (lab n e)) ≡ length link
        len = relinked_length link label k (lab n e) g.links low g.rep.chains

        rep' : Rep τ.link label' (mem σ.sets) R
        rep' = add_rep link label (mem σ.sets) R g.rep n P e k a f none' low isfree g.links g.labels

        den' : Den label' k P e
        den' = add_den link label (mem σ.sets) R g.rep n P e k a f none' low isfree g.links g.labels

        keep' : (j : ℕ) (K : Key) → DenK label j K → DenK label' j K
        keep' j (key Q h) b = den_keep link label (mem σ.sets) R g.rep n P e k a f none' low isfree g.links g.labels j Q h b

        other : (j : ℕ) → (j ≡ k → ⊥) → get_or label' j 0 ≡ get_or label j 0
        other j y = get_or-set_other label k j (lab n e) 0 y

        back : (j : ℕ) (K : Key) → DenK label' j K → (K ≡ key P e → ⊥) → DenK label j K
        back j (key Q h) b y = go (ℕ_discrete j k)
          where
            go : Dec (j ≡ k) → Den label j Q h
            go (yes w) = let c = den_fun label' k Q P h e (rw w at b) den' in let c0 : Q ≡ P = c.0 in let c1 : h ≡ e = c.1 in absurd (y (cc))
            go (no w) = let v = g.rep.means j b.low (λ q. let i = b.is in let x = other j w in omega arith) in
                let c = den_fun label' j v.0 Q v.1 h (keep' j (key v.0 v.1) v.2) b in
                carry (λ x Y y. Den label j Y y) 0 v.0 Q v.1 h c.0 c.1 v.2

        full' : Full label' (mem σ.sets) k
        full' j q y w = g.full j q (λ x. y (other j w ∙ x)) (λ x. omega arith)

    stepped : (σ : St S) (R : ℕ → Place → ℕ → Type 0) (s n : ℕ) (P : Place) (e : ℕ) (Ks : List Key) (m : ℕ) → GoodTables σ R → At σ.label n P → e < 257 → Above R s P → s < slot_count
        → (In (key P e) Ks → ⊥) → Lack σ.label (key P e ∷ Ks) m → m ≤ frees σ.label → (m' : ℕ) × InsertStepped σ (entered S mark σ s (lab n e)) R s (key_for S mark σ (lab n e)) P e Ks m'
    stepped σ R s n P e Ks m g a f up l o (has k d la) en = (m, step_has σ R s n P e Ks m k g a f up l d la en)
    stepped σ R s n P e Ks m g a f up l o (new {m = m'} d la) en = (m', step_new σ R s n P e Ks m' g a f up l d o la en)

    one_more : (R : ℕ → Place → ℕ → Type 0) (s : ℕ) (P : Place) (e : ℕ) (Ks : List Key) (t : ℕ) (Q : Place) (f : ℕ) → With (Plus R s P e) s Ks t Q f ↔ With R s (key P e ∷ Ks) t Q f
    one_more R s P e Ks t Q f = (go, back)
      where
        go : With (Plus R s P e) s Ks t Q f → With R s (key P e ∷ Ks) t Q f
        go (inl (inl r)) = inl r
        go (inl (inr w)) = let x : Q ≡ P = w.1 in let y : f ≡ e = w.2 in inr (w.0, inl (cc))
        go (inr w) = inr (w.0, inr w.1)

        same : (t ≡ s) → (key Q f ≡ key P e) ⊎ In (key Q f) Ks → With (Plus R s P e) s Ks t Q f
        same q (inl z) = inl (inr (q, (cc), (cc)))
        same q (inr i) = inr (q, i)

        back : With R s (key P e ∷ Ks) t Q f → With (Plus R s P e) s Ks t Q f
        back (inl r) = inl (inl r)
        back (inr w) = same w.0 w.1

    in_snoc : (R : ℕ → Place → ℕ → Type 0) (s : ℕ) (P : Place) (e : ℕ) (Ks : List Key) → ((K : Key) → In K Ks → RK R s K) → (K : Key) → In K (Ks ++ key P e ∷ []) → RK (Plus R s P e) s K
    in_snoc R s P e Ks i (key Q f) h = ⊎_elim (λ x. inl (i (key Q f) x)) (λ x. inr (last x)) (in_append (key Q f) Ks (key P e ∷ []) h)
      where
        last : In (key Q f) (key P e ∷ []) → (s ≡ s) × (Q ≡ P) × (f ≡ e)
        last (inl z) = (refl, (cc), (cc))
        last (inr z) = absurd z

    -- the whole term
    pub ins_good : (us es : List ℕ) (σ : St S) (R : ℕ → Place → ℕ → Type 0) (s : ℕ) (ks : List ℕ) (Ks : List Key) (m : ℕ) → GoodTables σ R → s < slot_count → Dens σ.label ks Ks
        → ((K : Key) → In K Ks → RK R s K) → Back (length Ks) us → EndLabels es → NoDup (key_list Ks us es) → Lack σ.label (key_list Ks us es) m → m ≤ frees σ.label
        → GoodTables (ins_run S mark σ s ks us es) (With R s (key_list Ks us es))
    unfolding ins_run key_list
    ins_good [] es σ R s ks Ks m g l d i b f nd la en = record { rep = rep_iff _ _ _ R _ (λ t Q h. (inl, (λ w. ⊎_elim (λ x. x) (λ x. absurd x.1) w))) g.rep; full = g.full; links = g.links; labels = g.labels; ok = g.ok }
    ins_good (u ∷ us) [] σ R s ks Ks m g l d i b f nd la en = record { rep = rep_iff _ _ _ R _ (λ t Q h. (inl, (λ w. ⊎_elim (λ x. x) (λ x. absurd x.1) w))) g.rep; full = g.full; links = g.links; labels = g.labels; ok = g.ok }
    ins_good (u ∷ us) (e ∷ es) σ R s ks Ks m g l d i b f nd la en =
        let P = up_place Ks u in
        let n = up_num ks u in
        let bb = back_one (length Ks) u us b in
        let L = key_list (Ks ++ key P e ∷ []) us es in
        let r = stepped σ R s n P e L m g (up_at σ.label ks Ks u d bb.0) f.0 (up_above σ.label R s ks Ks u d i bb.0) l nd.0 la en in
        let st = r.1 in
        let q : length (Ks ++ key P e ∷ []) ≡ suc (length Ks) = rw length-append (omega arith) in
        let h = ins_good us es (entered S mark σ s (lab n e)) (Plus R s P e) s (ks ++ key_for S mark σ (lab n e) ∷ []) (Ks ++ key P e ∷ []) r.0 st.good l
        (dens_snoc _ ks Ks (key_for S mark σ (lab n e)) (key P e) (dens_map σ.label _ st.keep ks Ks d) st.den)
        (in_snoc R s P e Ks i) (rw q bb.1) f.1 nd.1 st.lack st.enough in
        record { rep = rep_iff _ _ _ (With (Plus R s P e) s L) (With R s (key P e ∷ L)) (one_more R s P e L) h.rep; full = h.full; links = h.links; labels = h.labels; ok = h.ok }
