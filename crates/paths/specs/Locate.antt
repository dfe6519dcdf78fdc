-- Serves SCOPE.md, 'Paths and keys': the key numbers of a term's items, 4096 for a key that no number has.
use Prim.Native.Nat.{ℕ, zero, suc, ◌+◌, ◌*◌, ◌/◌, ◌%◌, ◌≤◌, ◌<◌}
use Rattle.std.specs.Prelude.{◌≡◌, refl, ◌⊎◌, Bool, true, false, eqb, ltb, get_or}
use Rattle.std.proofs.Common.{sym, ◌∙◌, inl, inr, ⊎_elim, arith, lt-ltb, le-ltb}
use mathlib.Core.List.{List, [], ◌∷◌, ◌++◌}
use Rattle.std.proofs.Math.Decide.{dec_lt}
use Rattle.std.proofs.Math.ListN.{length, length-append}
use Rattle.laws.specs.Members.{In}
use Rattle.laws.specs.Choice.{pick}
use Rattle.chains.specs.Chains.{find, found_from, find_sound}
use Rattle.keys.specs.Keys.{Place, root, step, Key, key}
use Rattle.paths.specs.Rep.{lab, lab_inj, At, top, kid, Den, Rep, find_den, find_none}
use Rattle.paths.specs.TreeWalk.{kid_of, up_place, up_num, key_list}
use Rattle.paths.specs.Insert.{DenK, Dens, Lack, done, has, new, Back, EndLabels, back_one}
use Rattle.laws.specs.Sizes.{key_limit, root_place}

unfoldable pub num_list : List ℕ → List ℕ → List ℕ → List ℕ → List ℕ → List ℕ
num_list link label ks [] es = []
num_list link label ks (u ∷ us) [] = []
num_list link label ks (u ∷ us) (e ∷ es) = find link label (lab (up_num ks u) e) ∷ num_list link label
    (ks ++ find link label (lab (up_num ks u) e) ∷ []) us es

unfoldable pub missing : List ℕ → ℕ
missing [] = 0
missing (k ∷ ks) = pick (ltb k key_limit) (missing ks) (suc (missing ks))

abbrev pub DenM : List ℕ → ℕ → Key → Type 0
DenM label k K = DenK label k K ⊎ ((k ≡ key_limit) × ((j : ℕ) → DenK label j K → ⊥))

abbrev pub DensM : List ℕ → List ℕ → List Key → Type 0
DensM label [] [] = Unit {0}
DensM label [] (K ∷ Ks) = ⊥
DensM label (k ∷ ks) [] = ⊥
DensM label (k ∷ ks) (K ∷ Ks) = DenM label k K × DensM label ks Ks

dens_m_snoc : (label : List ℕ) (ks : List ℕ) (Ks : List Key) (k : ℕ) (K : Key) → DensM label ks Ks → DenM label k K → DensM label (ks ++ k ∷ []) (Ks ++ K ∷ [])
dens_m_snoc label [] [] k K d e = (e, tt)
dens_m_snoc label [] (_ ∷ Ks) k K d e = absurd d
dens_m_snoc label (_ ∷ ks) [] k K d e = absurd d
dens_m_snoc label (_ ∷ ks) (_ ∷ Ks) k K d e = (d.0, dens_m_snoc label ks Ks k K d.1 e)

dens_m_get : (label : List ℕ) (ks : List ℕ) (Ks : List Key) (n : ℕ) → DensM label ks Ks → n < length Ks → DenM label (get_or ks n 0) (get_or Ks n (key root 0))
dens_m_get label [] [] n d h = absurd (omega arith)
dens_m_get label [] (_ ∷ Ks) n d h = absurd d
dens_m_get label (_ ∷ ks) [] n d h = absurd d
dens_m_get label (_ ∷ ks) (K ∷ Ks) zero d h = d.0
dens_m_get label (_ ∷ ks) (K ∷ Ks) (suc n) d h = dens_m_get label ks Ks n d.1 (omega arith)

found_le : (link label : List ℕ) (w f x : ℕ) → found_from link label w f x ≤ key_limit
unfolding found_from
found_le link label w zero x = omega arith
found_le link label w (suc f) zero = omega arith
found_le link label w (suc f) (suc k) = go (eqb (get_or label (k % key_limit) 0) w) (found_le link label w f (get_or link (k % key_limit) 0))
  where
    go : (b : Bool) → found_from link label w f (get_or link (k % key_limit) 0) ≤ key_limit → pick b (k % key_limit) (found_from link label w f (get_or link (k % key_limit) 0)) ≤ key_limit
    go true h = omega arith
    go false h = h

pub find_le : (link label : List ℕ) (w : ℕ) → find link label w ≤ key_limit
unfolding find
find_le link label w = found_le link label w key_limit _

at_low : (label : List ℕ) (n : ℕ) (P : Place) → At label n P → (n ≡ root_place) ⊎ (n < key_limit * 8)
at_low label n P top = inl refl
at_low label n P (kid a l h f i m) = inr (omega arith)

at_parent : (label : List ℕ) (n : ℕ) (P : Place) (e i : ℕ) → At label n (step P e i) → (k : ℕ) × Den label k P e
at_parent label n P e i (kid {n = n'} {k = k} a l h f b m) = (k, record { num = n'; at = a; low = l; is = h; fits = f })

module _ (link label : List ℕ) (mem : ℕ → ℕ → Type 0) (R : ℕ → Place → ℕ → Type 0) (r : Rep link label mem R) where
  -- a place that has a number
  den_at : (n : ℕ) (P : Place) (e : ℕ) → At label n P → e < 257 → DenM label (find link label (lab n e)) (key P e)
  den_at n P e a f = go (dec_lt (find link label (lab n e)) key_limit)
    where
      go : Dec (find link label (lab n e) < key_limit) → DenM label (find link label (lab n e)) (key P e)
      go (yes h) = inl (find_den link label mem R r n P e a f h)
      go (no h) = inr (let q = find_le link label (lab n e) in omega arith, find_none link label mem R r n P e a f (omega arith))

  -- a place below a key that has none
  den_out : (P : Place) (e i f : ℕ) → f < 257 → i < 8 → ((j : ℕ) → Den label j P e → ⊥) → DenM label (find link label (lab (key_limit * 8 + i) f)) (key (step P e i) f)
  den_out P e i f b l h = inr (go (dec_lt (find link label (lab n f)) key_limit), (λ j d. let q = at_parent label d.num P e i d.at in h q.0 q.1))
    where
      n : ℕ
      n = key_limit * 8 + i

      go : Dec (find link label (lab n f) < key_limit) → find link label (lab n f) ≡ key_limit
      go (no q) = let w = find_le link label (lab n f) in omega arith
      go (yes q) = let s = find_sound link label (lab n f) r.chains q in
          let d = r.means (find link label (lab n f)) q (λ z. omega arith) in
          let z = lab_inj d.2.num n d.1 f d.2.fits b (sym d.2.is ∙ s) in
          absurd (⊎_elim (λ x. omega (arith, z.0)) (λ x. omega (arith, z.0)) (at_low label d.2.num d.0 d.2.at))

  up_den : (ks : List ℕ) (Ks : List Key) (u e : ℕ) → DensM label ks Ks → Back (length Ks) (u ∷ []) → e < 257 → DenM label (find link label (lab (up_num ks u) e)) (key (up_place Ks u) e)
  unfolding up_num up_place
  up_den ks Ks zero e d b f = den_at root_place root e top f
  up_den ks Ks (suc v) e d b f = go (get_or ks (v / 8) 0) (get_or Ks (v / 8) (key root 0)) (dens_m_get label ks Ks (v / 8) d b.0)
    where
      go : (k : ℕ) (K : Key) → DenM label k K → DenM label (find link label (lab (k * 8 + v % 8) e)) (key (kid_of K (v % 8)) e)
      go k (key P g) (inl h) = den_at (k * 8 + v % 8) (step P g (v % 8)) e (kid {i = v % 8} h.at h.low h.is h.fits (omega arith) refl) f
      go k (key P g) (inr h) = rw h.0 (den_out P g (v % 8) e f (omega arith) h.1)

  pub located : (us es : List ℕ) (ks : List ℕ) (Ks : List Key) → DensM label ks Ks → Back (length Ks) us → EndLabels es → DensM label (num_list link label ks us es) (key_list Ks us es)
  unfolding num_list key_list
  located [] es ks Ks d b f = tt
  located (u ∷ us) [] ks Ks d b f = tt
  located (u ∷ us) (e ∷ es) ks Ks d b f =
      let bb = back_one (length Ks) u us b in
      let h = up_den ks Ks u e d bb.0 f.0 in
      let q : length (Ks ++ key (up_place Ks u) e ∷ []) ≡ suc (length Ks) = rw length-append (omega arith) in
      (h, located us es (ks ++ find link label (lab (up_num ks u) e) ∷ []) (Ks ++ key (up_place Ks u) e ∷ []) (dens_m_snoc label ks Ks _ _ d h) (rw q bb.1) f.1)

-- how many keys are missing
pub lack_of : (label : List ℕ) (ks : List ℕ) (Ks : List Key) → DensM label ks Ks → Lack label Ks (missing ks)
unfolding missing
lack_of label [] [] d = done
lack_of label [] (_ ∷ Ks) d = absurd d
lack_of label (_ ∷ ks) [] d = absurd d
lack_of label (k ∷ ks) (key P e ∷ Ks) d = go d.0 (lack_of label ks Ks d.1)
  where
    go : DenM label k (key P e) → Lack label Ks (missing ks) → Lack label (key P e ∷ Ks) (pick (ltb k key_limit) (missing ks) (suc (missing ks)))
    go (inl h) l = rw (lt-ltb k key_limit h.low) (has k h l)
    go (inr h) l = let q : key_limit ≤ k = omega (arith, h.0) in rw (le-ltb k key_limit q) (new h.1 l)

-- where none is missing
pub all_there : (label : List ℕ) (ks : List ℕ) (Ks : List Key) → DensM label ks Ks → ((K : Key) → In K Ks → (k : ℕ) × DenK label k K) → Dens label ks Ks
all_there label [] [] d t = tt
all_there label [] (_ ∷ Ks) d t = absurd d
all_there label (_ ∷ ks) [] d t = absurd d
all_there label (k ∷ ks) (K ∷ Ks) d t = (⊎_elim (λ h. h) (λ h. let w = t K (inl refl) in absurd (h.1 w.0 w.1)) d.0, all_there label ks Ks d.1 (λ J i. t J (inr i)))
