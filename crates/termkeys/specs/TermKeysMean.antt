-- Serves SCOPE.md, 'Store': the loops are the walks of the index: what they make of tables that stand for a store.
use Rattle.std.specs.Prelude.{ℕ, zero, suc, ◌+◌, ◌/◌, ◌%◌, ◌≤◌, ◌<◌, ◌≡◌, refl, List, [], ◌∷◌, ◌++◌, length, get_or, set, take}
use Rattle.std.proofs.Common.{sym, ◌∙◌, subst, append_assoc, append-nil, arith, mod-eq_of_lt, length-set, length-take, get_or-take, take-suc-set, take-suc}
use Rattle.std.proofs.Math.Option.{Option, some, none}
use Rattle.chains.specs.Chains.{find}
use Rattle.keys.specs.Keys.{Tm, Key, key, HasKey}
use Rattle.keysets.specs.KeySets.{Sets, Ok, mem, mark, unmark, emptyb, mark_ok, unmark_ok, mark_law, unmark_law}
use Rattle.keysets.specs.KeySets.{empty_yes, empty_no}
use Rattle.paths.specs.Rep.{lab}
use Rattle.paths.specs.Free.{frees}
use Rattle.paths.specs.TreeWalk.{up_num, ups_t, ends_t, key_list}
use Rattle.paths.specs.Insert.{St, GoodTables, Back, back_one, key_for, entered, ins_run, DenK, Dens}
use Rattle.paths.specs.Delete.{left, del_run}
use Rattle.paths.specs.Locate.{num_list, missing, located, all_there}
use Rattle.paths.specs.StoredTrees.{Stored, put_tree, Storable, back, back_snoc, insert_good, delete_good, fine_back}
use Rattle.paths.specs.StoredTrees.{fine_in, KeyIn}
use Rattle.termkeys.specs.Fill.{fill, ins_fill, del_fill}
use Rattle.laws.specs.Sizes.{key_limit, slot_count}

-- an item's place is read off the numbers before it
up_take : (ks : List ℕ) (i u : ℕ) → Back i (u ∷ []) → up_num ks u ≡ up_num (take i ks) u
unfolding up_num
up_take ks i zero b = refl
up_take ks i (suc v) b = rw (get_or-take i ks (v / 8) 0 b.0)

pub fill_nums : (link label us es ks : List ℕ) (i : ℕ) → Back i us → i + length us ≤ length ks → length us ≡ length es
    → take (i + length us) (fill link label ks i us es) ≡ take i ks ++ num_list link label (take i ks) us es
unfolding fill num_list
fill_nums link label [] es ks i b l e = let z : i + 0 ≡ i = omega arith in rw (z, append-nil)
fill_nums link label (u ∷ us) [] ks i b l e = absurd (omega arith)
fill_nums link label (u ∷ us) (x ∷ es) ks i b l e =
    let bb = back_one i u us b in
    let k = find link label (lab (up_num ks u) x) in
    let z : i + suc (length us) ≡ suc i + length us = omega arith in
    let h = fill_nums link label us es (set ks i k) (suc i) bb.1 (omega (arith, length-set ks i k)) (omega arith) in
    let t : take (suc i) (set ks i k) ≡ take i ks ++ k ∷ [] = take-suc-set ks i k (omega arith) in
    let g = rw (t, append_assoc) at h in
    rw (← up_take ks i u bb.0, z) g

pub ins_run_lem : (us es ks : List ℕ) (σ : St Sets) (s i : ℕ) → Back i us → i + length us ≤ length ks → length us ≡ length es
    → (ins_fill σ ks s i us es).st ≡ ins_run Sets mark σ s (take i ks) us es
unfolding ins_fill ins_run
ins_run_lem [] es ks σ s i b l e = refl
ins_run_lem (u ∷ us) [] ks σ s i b l e = refl
ins_run_lem (u ∷ us) (x ∷ es) ks σ s i b l e =
    let bb = back_one i u us b in
    let k = key_for Sets mark σ (lab (up_num ks u) x) in
    let h = ins_run_lem us es (set ks i k) (entered Sets mark σ s (lab (up_num ks u) x)) s (suc i) bb.1 (omega (arith, length-set ks i k)) (omega arith) in
    let t : take (suc i) (set ks i k) ≡ take i ks ++ k ∷ [] = take-suc-set ks i k (omega arith) in
    rw (← up_take ks i u bb.0) (rw t at h)

abbrev pub Lows : List ℕ → Type 0
Lows [] = Unit {0}
Lows (k ∷ ks) = (k < key_limit) × Lows ks

lows_get : (ks : List ℕ) (n : ℕ) → Lows ks → n < length ks → get_or ks n 0 < key_limit
lows_get [] n d l = absurd (omega arith)
lows_get (k ∷ ks) zero d l = d.0
lows_get (k ∷ ks) (suc n) d l = lows_get ks n d.1 (omega arith)

pub del_run_lem : (n : ℕ) (ks : List ℕ) (σ : St Sets) (s : ℕ) → n ≤ length ks → Lows (take n ks) → del_fill σ ks s n ≡ del_run Sets unmark emptyb σ s (back (take n ks) [])
unfolding del_fill del_run back
del_run_lem zero ks σ s l d = refl
del_run_lem (suc n) ks σ s l d =
    let q : get_or ks n 0 < key_limit = rw (get_or-take (suc n) ks n 0 (omega arith)) at (lows_get (take (suc n) ks) n d (omega (arith, length-take (suc n) ks))) in
    let e : get_or ks n 0 % key_limit ≡ get_or ks n 0 = mod-eq_of_lt q in
    let t = take-suc ks n 0 (omega arith) in
    let h = del_run_lem n ks (left Sets unmark emptyb σ (get_or ks n 0) s) s (omega arith) (shorten n ks d) in
    rw (e, t, back_snoc) h
  where
    shorten : (n : ℕ) (ks : List ℕ) → Lows (take (suc n) ks) → Lows (take n ks)
    shorten zero ks d = tt
    shorten (suc n) [] d = tt
    shorten (suc n) (k ∷ ks) d = (d.0, shorten n ks d.1)

abbrev pub GoodSt : St Sets → (ℕ → Option Tm) → Type 0
GoodSt σ st = GoodTables Sets mem mark Ok σ (Stored st)

-- INSERT: tables that stand for a store stand, after the loop, for the store with the term
pub insert_means : (σ : St Sets) (st : ℕ → Option Tm) (s : ℕ) (t : Tm) (ks : List ℕ) → GoodSt σ st → s < slot_count → st s ≡ none → Storable t → length (ups_t 0 0 t) ≤ length ks → length (ups_t 0 0 t) ≡ length (ends_t t)
    → missing (num_list σ.link σ.label [] (ups_t 0 0 t) (ends_t t)) ≤ frees σ.label
    → GoodSt (ins_fill σ ks s 0 (ups_t 0 0 t) (ends_t t)).st (put_tree st s (some t))
insert_means σ st s t ks g l e f a b m =
    let h = insert_good Sets mem mark unmark emptyb Ok mark_ok unmark_ok mark_law unmark_law empty_yes empty_no σ st s t g l e f m in
    let z : (ins_fill σ ks s 0 (ups_t 0 0 t) (ends_t t)).st ≡ ins_run Sets mark σ s [] (ups_t 0 0 t) (ends_t t) = ins_run_lem (ups_t 0 0 t) (ends_t t) ks σ s 0 (fine_back t f) (omega arith) b in
    rw z h

dens_low : (label ks : List ℕ) (Ks : List Key) → Dens label ks Ks → Lows ks
dens_low label [] Ks d = tt
dens_low label (k ∷ ks) [] d = absurd d
dens_low label (k ∷ ks) (key P e ∷ Ks) d = (d.0.low, dens_low label ks Ks d.1)

located_low : (σ : St Sets) (st : ℕ → Option Tm) (s : ℕ) (t : Tm) → GoodSt σ st → st s ≡ some t → Storable t → Lows (num_list σ.link σ.label [] (ups_t 0 0 t) (ends_t t))
located_low σ st s t g e f =
    let d = located σ.link σ.label (mem σ.sets) (Stored st) g.rep (ups_t 0 0 t) (ends_t t) [] [] tt (fine_back t f) f.ends in
    let L = key_list [] (ups_t 0 0 t) (ends_t t) in
    let N = num_list σ.link σ.label [] (ups_t 0 0 t) (ends_t t) in
    dens_low σ.label N L (all_there σ.label N L d (λ K i. there K ((fine_in t f K).1 i)))
  where
    there : (K : Key) → HasKey t K → (k : ℕ) × DenK σ.label k K
    there (key P x) h = g.rep.there s P x (subst (λ (o : Option Tm). KeyIn o P x) (sym e) h)

fill_length : (link label us es ks : List ℕ) (i : ℕ) → length (fill link label ks i us es) ≡ length ks
unfolding fill
fill_length link label [] es ks i = refl
fill_length link label (u ∷ us) [] ks i = refl
fill_length link label (u ∷ us) (x ∷ es) ks i = fill_length link label us es (set ks i (find link label (lab (up_num ks u) x))) (suc i) ∙ length-set ks i (find link label (lab (up_num ks u) x))

-- DELETE: the numbers found by `locate`, then the loop
pub delete_means : (σ : St Sets) (st : ℕ → Option Tm) (s : ℕ) (t : Tm) (ks : List ℕ) → GoodSt σ st → s < slot_count → st s ≡ some t → Storable t → length (ups_t 0 0 t) ≤ length ks → length (ups_t 0 0 t) ≡ length (ends_t t)
    → GoodSt (del_fill σ (fill σ.link σ.label ks 0 (ups_t 0 0 t) (ends_t t)) s (length (ups_t 0 0 t))) (put_tree st s none)
delete_means σ st s t ks g l e f a b =
    let u = ups_t 0 0 t in
    let N = num_list σ.link σ.label [] u (ends_t t) in
    let F = fill σ.link σ.label ks 0 u (ends_t t) in
    let z0 : 0 + length u ≡ length u = omega arith in
    let q : take (length u) F ≡ N = rw z0 at (fill_nums σ.link σ.label u (ends_t t) ks 0 (fine_back t f) (omega arith) b) in
    let h = delete_good Sets mem mark unmark emptyb Ok mark_ok unmark_ok mark_law unmark_law empty_yes empty_no σ st s t g l e f in
    let d = located_low σ st s t g e f in
    let r = del_run_lem (length u) F σ s (omega (arith, fill_length σ.link σ.label u (ends_t t) ks 0)) (rw q d) in
    rw (r, q) h
