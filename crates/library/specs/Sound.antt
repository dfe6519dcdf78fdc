-- SCOPE.md, 'Store': the stores that an opening and later calls lead to. Opening gives one; that every run of calls
-- leads to one is `run_sound` of meaning (Demands.antt).
use Rattle.std.specs.Prelude.{ℕ, zero, suc, ◌+◌, ◌≤◌, ◌<◌, ◌≡◌, refl, Bool, true, false, List, ltb, eqb}
use Rattle.std.proofs.Math.Option.{Option, some, none}
use native.Mathlib.Omega.{arith}
use Rattle.std.proofs.Common.{ltb-true, ne_eqb}
use Rattle.laws.specs.Choice.{pick}
use Rattle.terms.specs.Terms.{sig_refusal, refusal}
use Rattle.definitions.specs.Spelt.{taken}
use Rattle.library.specs.Store.{Store, holding, in_use, free_from, put, empty}
use Rattle.laws.specs.Sizes.{slot_count}

-- a checked signature; 'slots 0 to 511', and a checked term in each that is in use
pub record Sound (st : Store) : Type 0 where
  pub signed : sig_refusal st.signature ≡ 0
  pub bounded : (s : ℕ) → slot_count ≤ s → st.held s ≡ none
  pub checked : (s : ℕ) (t : List ℕ) → st.held s ≡ some t → refusal st.signature t ≡ 0

apart : (t : List ℕ) → none ≡ some t → ⊥
apart t e = let z : ◌≡◌ {A = ℕ} 0 1 = cc in omega arith

-- 'opening sets the signature and empties all'
pub sound_empty : (sig : List ℕ) → sig_refusal sig ≡ 0 → Sound (empty sig)
unfolding empty
sound_empty sig h = record { signed = h; bounded = λ s b. refl; checked = λ s t e. absurd (apart t e) }

pub free_most : (st : Store) (k s : ℕ) → free_from st k s ≤ s + k
unfolding free_from
free_most st zero s = omega arith
free_most st (suc k) s = go (in_use st s) (free_most st k (suc s))
  where
    go : (b : Bool) → free_from st k (suc s) ≤ suc s + k → pick b (free_from st k (suc s)) s ≤ s + suc k
    go true h = omega arith
    go false h = omega arith

pub use_below : (st : Store) (s : ℕ) → in_use st s ≡ true → s < slot_count
unfolding in_use
use_below st s h = ltb-true s slot_count (taken (ltb s slot_count) (holding (λ t. true) (st.held s)) h).0

module _ (st : Store) (h : Sound st) where
  held_after : (s u : ℕ) (o : Option (List ℕ)) (t : List ℕ) → ((t : List ℕ) → o ≡ some t → refusal st.signature t ≡ 0)
      → (b : Bool) → pick b o (st.held u) ≡ some t → refusal st.signature t ≡ 0
  held_after s u o t c true e = c t e
  held_after s u o t c false e = h.checked u t e

  pub sound_put : (s : ℕ) (o : Option (List ℕ)) → s < slot_count → ((t : List ℕ) → o ≡ some t → refusal st.signature t ≡ 0) → Sound (put st s o)
  unfolding put
  sound_put s o l c = record {
    signed = h.signed;
    bounded = λ u b. (let n : u ≡ s → ⊥ = λ e. omega arith in rw (ne_eqb u s n) (h.bounded u b));
    checked = λ u t e. held_after s u o t c (eqb u s) e;
  }
