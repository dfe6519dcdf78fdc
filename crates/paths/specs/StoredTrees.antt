-- Serves SCOPE.md, 'Store': what each slot holds; and that insert and delete of the tables are insert and delete of
-- the store.
use Rattle.std.specs.Prelude.{ℕ, zero, suc, ◌+◌, ◌*◌, ◌/◌, ◌%◌, ◌≤◌, ◌<◌, ◌≡◌, refl, ◌⊎◌, ◌↔◌, List, [], ◌∷◌, ◌++◌, Bool, true, false, eqb, length, get_or}
use Rattle.std.proofs.Common.{sym, ap, ◌∙◌, subst, inl, inr, ⊎_elim, append_assoc, append-nil, arith, eq-eqb, ne_eqb, length-append}
use Rattle.std.proofs.Math.Option.{Option, some, none}
use Rattle.std.proofs.Math.Decide.{ℕ_discrete}
use Rattle.laws.specs.Members.{In, NoDup}
use Rattle.laws.specs.Choice.{pick}
use Rattle.keys.specs.Keys.{Place, root, Key, key, Tm, Args, node, nil, cons, size, sizes, keys_t}
use Rattle.keys.specs.Keys.{HasKey, in_has, has_in, keys_nodup}
use Rattle.paths.specs.Free.{frees}
use Rattle.paths.specs.TreeWalk.{kid_of, up_place, key_list, ups_t, ups_a, ends_t, Eight, Eights}
use Rattle.paths.specs.TreeWalk.{key_list_keys}
use Rattle.paths.specs.Insert.{DenK, Dens, Back, EndLabels, With, rep_iff, St, GoodTables, ins_run}
use Rattle.paths.specs.Insert.{ins_good}
use Rattle.paths.specs.Delete.{From, Grown, Without, del_run, del_good}
use Rattle.paths.specs.Locate.{num_list, missing, located, lack_of, all_there}
use Rattle.laws.specs.Sizes.{key_limit, slot_count}

-- l, the last first, and then r
unfoldable pub back : {A : Type 0} → List A → List A → List A
back [] r = r
back (x ∷ l) r = back l (x ∷ r)

pub back_snoc : {A : Type 0} (l : List A) (x : A) (r : List A) → back (l ++ x ∷ []) r ≡ x ∷ back l r
unfolding back
back_snoc [] x r = refl
back_snoc (y ∷ l) x r = back_snoc l x (y ∷ r)

back_in : {A : Type 0} (a : A) (l r : List A) → In a l ⊎ In a r → In a (back l r)
unfolding back
back_in a [] r (inl h) = absurd h
back_in a [] r (inr h) = h
back_in a (x ∷ l) r (inl (inl e)) = back_in a l (x ∷ r) (inr (inl e))
back_in a (x ∷ l) r (inl (inr h)) = back_in a l (x ∷ r) (inl h)
back_in a (x ∷ l) r (inr h) = back_in a l (x ∷ r) (inr (inr h))

nodup_back : {A : Type 0} (l r : List A) → NoDup l → NoDup r → ((a : A) → In a l → In a r → ⊥) → NoDup (back l r)
unfolding back
nodup_back [] r p q d = q
nodup_back (x ∷ l) r p q d = nodup_back l (x ∷ r) p.1 ((λ i. d x (inl refl) i), q) (λ a i j. ⊎_elim (λ (e : a ≡ x). p.0 (rw e at i)) (λ h. d a (inr i) h) j)

dens_back : (label : List ℕ) (l r : List ℕ) (L Q : List Key) → Dens label l L → Dens label r Q → Dens label (back l r) (back L Q)
unfolding back
dens_back label [] r [] Q d e = e
dens_back label [] r (_ ∷ L) Q d e = absurd d
dens_back label (_ ∷ l) r [] Q d e = absurd d
dens_back label (k ∷ l) r (K ∷ L) Q d e = dens_back label l (k ∷ r) L (K ∷ Q) d.1 (d.0, e)

-- the keys of a walk, the last first, each lead from a later one
up_from : (acc r : List Key) (u : ℕ) → ((n : ℕ) → n < length acc → In (get_or acc n (key root 0)) r) → Back (length acc) (u ∷ []) → From (up_place acc u) r
unfolding up_place
up_from acc r zero h b = tt
up_from acc r (suc v) h b = go (get_or acc (v / 8) (key root 0)) (h (v / 8) b.0)
  where
    go : (K : Key) → In K r → From (kid_of K (v % 8)) r
    go (key P e) i = i

snoc_in : (acc r : List Key) (K : Key) → ((n : ℕ) → n < length acc → In (get_or acc n (key root 0)) r) → (n : ℕ) → n < suc (length acc) → In (get_or (acc ++ K ∷ []) n (key root 0)) (K ∷ r)
snoc_in [] r K h zero l = inl refl
snoc_in [] r K h (suc n) l = absurd (omega arith)
snoc_in (x ∷ acc) r K h zero l = inr (h 0 (omega arith))
snoc_in (x ∷ acc) r K h (suc n) l = snoc_in acc r K (λ m q. h (suc m) (omega arith)) n (omega arith)

back_first : (n u : ℕ) (us : List ℕ) → Back n (u ∷ us) → Back n (u ∷ []) × Back (suc n) us
back_first n zero us b = (tt, b)
back_first n (suc v) us b = ((b.0, tt), b.1)

grown_back : (us es : List ℕ) (acc r : List Key) → Grown r → ((n : ℕ) → n < length acc → In (get_or acc n (key root 0)) r) → Back (length acc) us → Grown (back (key_list acc us es) r)
unfolding key_list back
grown_back [] es acc r g h b = g
grown_back (u ∷ us) [] acc r g h b = g
grown_back (u ∷ us) (e ∷ es) acc r g h b =
    let bb = back_first (length acc) u us b in
    let q : length (acc ++ key (up_place acc u) e ∷ []) ≡ suc (length acc) = rw length-append (omega arith) in
    grown_back us es (acc ++ key (up_place acc u) e ∷ []) (key (up_place acc u) e ∷ r) (up_from acc r u h bb.0, g)
    (λ n l. snoc_in acc r (key (up_place acc u) e) h n (omega (arith, q))) (rw q bb.1)

-- a term's ups lead back
mutual
  unfolding ups_t size Eight

  back_tree : (t : Tm) (n u : ℕ) (us : List ℕ) → Eight t → Back n (u ∷ []) → Back (n + size t) us → Back n (ups_t n u t ++ us)
  back_tree (node x ts) n u us w b h = let q : n + suc (sizes ts) ≡ suc n + sizes ts = omega arith in join n u (ups_a (suc n) n 0 ts ++ us) b (back_args ts (suc n) n 0 us w (omega arith) (rw q at h))
    where
      join : (n u : ℕ) (l : List ℕ) → Back n (u ∷ []) → Back (suc n) l → Back n (u ∷ l)
      join n zero l b h = h
      join n (suc v) l b h = (b.0, h)

  back_args : (ts : Args) (m n i : ℕ) (us : List ℕ) → Eights i ts → n < m → Back (m + sizes ts) us → Back m (ups_a m n i ts ++ us)
  back_args nil m n i us w l h = let q : m + 0 ≡ m = omega arith in rw q at h
  back_args (cons t ts) m n i us w l h =
      let q : m + (size t + sizes ts) ≡ m + size t + sizes ts = omega arith in
      let z : i < 8 = w.0 in
      rw append_assoc (back_tree t m (suc (n * 8 + i)) (ups_a (m + size t) n (suc i) ts ++ us) w.1 (omega arith, tt) (back_args ts (m + size t) n (suc i) us w.2 (omega arith) (rw q at h)))

-- what a slot holds, and the keys that it has
abbrev pub KeyIn : Option Tm → Place → ℕ → Type 0
KeyIn none P e = ⊥
KeyIn (some t) P e = HasKey t (key P e)

abbrev pub Stored : (ℕ → Option Tm) → ℕ → Place → ℕ → Type 0
Stored st s P e = KeyIn (st s) P e

unfoldable pub put_tree : (ℕ → Option Tm) → ℕ → Option Tm → ℕ → Option Tm
put_tree st s o t = pick (eqb t s) o (st t)

put_same : (st : ℕ → Option Tm) (s : ℕ) (o : Option Tm) (t : ℕ) → t ≡ s → put_tree st s o t ≡ o
unfolding put_tree
put_same st s o t h = rw (eq-eqb t s h)

put_other : (st : ℕ → Option Tm) (s : ℕ) (o : Option Tm) (t : ℕ) → (t ≡ s → ⊥) → put_tree st s o t ≡ st t
unfolding put_tree
put_other st s o t h = rw (ne_eqb t s h)

-- a term that may be stored
pub record Storable (t : Tm) : Type 0 where
  pub eight : Eight t
  pub ends : EndLabels (ends_t t)

module _ (t : Tm) (f : Storable t) where
  pub fine_back : Back 0 (ups_t 0 0 t)
  fine_back = rw append-nil at (back_tree t 0 0 [] f.eight tt tt)

  pub fine_keys : key_list [] (ups_t 0 0 t) (ends_t t) ≡ keys_t root t
  fine_keys = key_list_keys t f.eight

  pub fine_nodup : NoDup (key_list [] (ups_t 0 0 t) (ends_t t))
  fine_nodup = rw fine_keys (keys_nodup root t)

  pub fine_in : (K : Key) → HasKey t K ↔ In K (key_list [] (ups_t 0 0 t) (ends_t t))
  fine_in K = ((λ h. rw fine_keys (has_in t K h)), (λ h. in_has t K (rw fine_keys at h)))

module _ (S : Type 0) (mem : S → ℕ → ℕ → Type 0) (mark unmark : S → ℕ → ℕ → S) (emptyb : S → ℕ → Bool) (Ok : S → Type 0)
    (mark_ok : (σ : S) (k s : ℕ) → Ok σ → k < key_limit → s < slot_count → Ok (mark σ k s)) (unmark_ok : (σ : S) (k s : ℕ) → Ok σ → k < key_limit → s < slot_count → Ok (unmark σ k s))
    (mark_law : (σ : S) (k s : ℕ) → Ok σ → k < key_limit → s < slot_count → (j t : ℕ) → mem (mark σ k s) j t ↔ (mem σ j t ⊎ ((j ≡ k) × (t ≡ s))))
    (unmark_law : (σ : S) (k s : ℕ) → Ok σ → k < key_limit → s < slot_count → (j t : ℕ) → mem (unmark σ k s) j t ↔ (mem σ j t × ((j ≡ k) × (t ≡ s) → ⊥)))
    (empty_yes : (σ : S) (k t : ℕ) → Ok σ → k < key_limit → emptyb σ k ≡ true → mem σ k t → ⊥) (empty_no : (σ : S) (k : ℕ) → Ok σ → k < key_limit → emptyb σ k ≡ false → (t : ℕ) × mem σ k t) where
  -- insert into a free slot, with keys enough
  pub insert_good : (σ : St S) (st : ℕ → Option Tm) (s : ℕ) (t : Tm) → GoodTables S mem mark Ok σ (Stored st) → s < slot_count → st s ≡ none → Storable t
      → missing (num_list σ.link σ.label [] (ups_t 0 0 t) (ends_t t)) ≤ frees σ.label
      → GoodTables S mem mark Ok (ins_run S mark σ s [] (ups_t 0 0 t) (ends_t t)) (Stored (put_tree st s (some t)))
  insert_good σ st s t g l e f en =
      let d = located σ.link σ.label (mem σ.sets) (Stored st) g.rep (ups_t 0 0 t) (ends_t t) [] [] tt (fine_back t f) f.ends in
      let h = ins_good S mem mark Ok mark_ok mark_law (ups_t 0 0 t) (ends_t t) σ (Stored st) s [] [] _ g l tt (λ K i. absurd i) (fine_back t f) f.ends (fine_nodup t f) (lack_of σ.label (num_list σ.link σ.label [] (ups_t 0 0 t) (ends_t t)) (key_list [] (ups_t 0 0 t) (ends_t t)) d) en in
      record { rep = rep_iff _ _ _ _ (Stored (put_tree st s (some t))) (λ u P x. (to u P x (ℕ_discrete u s), fro u P x (ℕ_discrete u s))) h.rep; full = h.full; links = h.links; labels = h.labels; ok = h.ok }
    where
      to : (u : ℕ) (P : Place) (x : ℕ) → Dec (u ≡ s) → With (Stored st) s (key_list [] (ups_t 0 0 t) (ends_t t)) u P x → KeyIn (put_tree st s (some t) u) P x
      to u P x (yes q) (inl r) = let z : st u ≡ none = ap st q ∙ e in absurd (subst (λ (o : Option Tm). KeyIn o P x) z r)
      to u P x (yes q) (inr r) = subst (λ (o : Option Tm). KeyIn o P x) (sym (put_same st s (some t) u q)) ((fine_in t f (key P x)).1 r.1)
      to u P x (no q) (inl r) = subst (λ (o : Option Tm). KeyIn o P x) (sym (put_other st s (some t) u q)) r
      to u P x (no q) (inr r) = absurd (q r.0)

      fro : (u : ℕ) (P : Place) (x : ℕ) → Dec (u ≡ s) → KeyIn (put_tree st s (some t) u) P x → With (Stored st) s (key_list [] (ups_t 0 0 t) (ends_t t)) u P x
      fro u P x (yes q) r = inr (q, (fine_in t f (key P x)).0 (subst (λ (o : Option Tm). KeyIn o P x) (put_same st s (some t) u q) r))
      fro u P x (no q) r = inl (subst (λ (o : Option Tm). KeyIn o P x) (put_other st s (some t) u q) r)

  -- delete of a slot in use
  pub delete_good : (σ : St S) (st : ℕ → Option Tm) (s : ℕ) (t : Tm) → GoodTables S mem mark Ok σ (Stored st) → s < slot_count → st s ≡ some t → Storable t
      → GoodTables S mem mark Ok (del_run S unmark emptyb σ s (back (num_list σ.link σ.label [] (ups_t 0 0 t) (ends_t t)) [])) (Stored (put_tree st s none))
  delete_good σ st s t g l e f =
      let L = key_list [] (ups_t 0 0 t) (ends_t t) in
      let d = located σ.link σ.label (mem σ.sets) (Stored st) g.rep (ups_t 0 0 t) (ends_t t) [] [] tt (fine_back t f) f.ends in
      let N = num_list σ.link σ.label [] (ups_t 0 0 t) (ends_t t) in
      let a = all_there σ.label N L d (λ K i. there K ((fine_in t f K).1 i)) in
      let h = del_good S mem mark unmark emptyb Ok unmark_ok unmark_law empty_yes empty_no (back (num_list σ.link σ.label [] (ups_t 0 0 t) (ends_t t)) []) (back L []) σ (Stored st) s g l
      (dens_back σ.label N [] L [] a tt) (nodup_back L [] (fine_nodup t f) tt (λ K i j. j)) (grown_back (ups_t 0 0 t) (ends_t t) [] [] tt (λ n q. absurd (omega arith)) (fine_back t f))
      (λ Q x r. back_in (key Q x) L [] (inl ((fine_in t f (key Q x)).0 (subst (λ (o : Option Tm). KeyIn o Q x) e r)))) in
      record { rep = rep_iff _ _ _ _ (Stored (put_tree st s none)) (λ u P x. (to u P x, fro u P x (ℕ_discrete u s))) h.rep; full = h.full; links = h.links; labels = h.labels; ok = h.ok }
    where
      there : (K : Key) → HasKey t K → (k : ℕ) × DenK σ.label k K
      there (key P x) h = g.rep.there s P x (subst (λ (o : Option Tm). KeyIn o P x) (sym e) h)

      to : (u : ℕ) (P : Place) (x : ℕ) → Without (Stored st) s u P x → KeyIn (put_tree st s none u) P x
      to u P x r = subst (λ (o : Option Tm). KeyIn o P x) (sym (put_other st s none u r.1)) r.0

      fro : (u : ℕ) (P : Place) (x : ℕ) → Dec (u ≡ s) → KeyIn (put_tree st s none u) P x → Without (Stored st) s u P x
      fro u P x (yes q) r = absurd (subst (λ (o : Option Tm). KeyIn o P x) (put_same st s none u q) r)
      fro u P x (no q) r = (subst (λ (o : Option Tm). KeyIn o P x) (put_other st s none u q) r, q)
