-- SCOPE.md, 'Store': the lent tables stand for a store (docs/TABLES.md); field by field it is said in crate store
-- (TablesHold).
use Rattle.std.specs.Prelude.{ℕ, ◌<◌, ◌≡◌, Bool, true, false, List, ltb}
use Rattle.std.proofs.Math.Path.{refl}
use Rattle.std.proofs.Common.{◌∙◌, arith, lt-ltb, le-ltb, ltb-true}
use Rattle.std.proofs.Math.Option.{Option, some, none}
use Rattle.std.proofs.Math.Decide.{dec_lt}
use Rattle.std.proofs.Math.Dec.{eqb}
use Rattle.laws.specs.Choice.{pick}
use Rattle.keys.specs.Keys.{Tm}
use Rattle.terms.specs.Terms.{sig_refusal}
use Rattle.layout.specs.Layout.{is_used}
use Rattle.layout.specs.Tables.{Tables, ample}
use Rattle.definitions.specs.Spelt.{clash}
use Rattle.definitions.specs.Answers.{Answer, refused, done, unless}
use Rattle.calls.specs.Outcome.{Result, result}
use Rattle.library.specs.Store.{Store, holding, in_use}
use Rattle.library.specs.Sound.{Sound}
use Rattle.store.specs.TablesHold.{filled, stored_trees, Holds, holds_ample}
use Rattle.store.specs.Changes.{use_means}
use Rattle.laws.specs.Sizes.{slot_count}

-- by a signature that was checked
pub record Stand (T : Tables) (st : Store) : Type 0 where
  pub signed : sig_refusal st.signature ≡ 0
  pub holds : Holds T st.signature st.held

-- the trees of what the slots hold
abbrev pub trees_of : Store → ℕ → Option Tm
trees_of st = stored_trees st.signature st.held

module _ (T : Tables) (st : Store) (h : Stand T st) where
  pub stand_ample : ample T ≡ true
  stand_ample = holds_ample T st.signature st.held h.holds

  -- a store of checked terms below slot 512
  pub stand_sound : Sound st
  stand_sound = record { signed = h.signed; bounded = h.holds.beyond; checked = λ s t e. (h.holds.terms s t e).1 }

  pub stand_slots : (s : ℕ) → is_used T.used s ≡ in_use st s
  unfolding in_use
  stand_slots s = use_means T st.signature st.held s h.holds ∙ go (dec_lt s slot_count)
    where
      both : (o : Option (List ℕ)) → eqb (filled o) 1 ≡ holding (λ t. true) o
      both none = refl
      both (some t) = refl

      go : Dec (s < slot_count) → eqb (filled (st.held s)) 1 ≡ pick (ltb s slot_count) (holding (λ t. true) (st.held s)) false
      go (yes l) = rw (lt-ltb s slot_count l) (both (st.held s))
      go (no l) = rw (le-ltb s slot_count (omega arith), h.holds.beyond s (omega arith))

-- a slot in use, and what it holds
pub in_use_lem : (st : Store) (s : ℕ) → in_use st s ≡ true → (s < slot_count) × ((t : List ℕ) × (st.held s ≡ some t))
unfolding in_use
in_use_lem st s h = go (ltb s slot_count) refl h
  where
    full : (o : Option (List ℕ)) → holding (λ t. true) o ≡ true → (t : List ℕ) × (o ≡ some t)
    full none h = clash h
    full (some t) h = (t, refl)

    go : (b : Bool) → ltb s slot_count ≡ b → pick b (holding (λ t. true) (st.held s)) false ≡ true → (s < slot_count) × ((t : List ℕ) × (st.held s ≡ some t))
    go true e h = (ltb-true s slot_count e, full (st.held s) h)
    go false e h = clash h

-- A CALL MEANS: what it answers is the store's answer, and the tables afterwards stand for the store afterwards
pub record Means (r : Result) (a : Answer) (st : Store) : Type 0 where
  pub answer : r.answer ≡ a
  pub stand : Stand r.after st

pub refused_means : (n : ℕ) (T S : Tables) (st : Store) → Stand T st → Means (result (refused n) T S) (refused n) st
refused_means n T S st h = record { answer = refl; stand = h }

-- a question leaves the tables, whatever it answers
pub question_means : (x a : Answer) (T : Tables) (st : Store) → Stand T st → x ≡ a → Means (result x T T) a st
question_means x a T st h e = record { answer = e; stand = go x }
  where
    go : (x : Answer) → Stand (unless x T T) st
    go (refused n) = h
    go (done i j w) = h
