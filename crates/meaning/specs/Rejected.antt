-- SCOPE.md, 'What the contracts owe': programs that have to be rejected, where no edit of the code keeps its shape.
-- The others are edits in must-fail/ (docs/CONTRACTS.md).
use Rattle.std.specs.Prelude.{ℕ, ◌≡◌, refl, ◌≢◌, true, List, [], ◌∷◌, length}
use Rattle.std.proofs.Common.{sym, ◌∙◌, inl, arith}
use Rattle.std.proofs.Math.Option.{some}
use Rattle.laws.specs.Members.{In}
use Rattle.terms.specs.Terms.{sig_refusal}
use Rattle.layout.specs.Tables.{Tables, ample}
use Rattle.definitions.specs.Relations.{Stands}
use Rattle.library.specs.Store.{Store, open_with, retrieve}
use Rattle.calls.specs.Outcome.{Outcome}
use Rattle.meaning.specs.Runs.{Called, Run}
use Rattle.meaning.specs.Demands.{demand_1_open, demand_2}

-- one refusing everything: a good signature on tables that are long enough is never refused
pub refuses_everything : (T : Tables) (sig out₀ : List ℕ) (o : Outcome) → ample T ≡ true → sig_refusal sig ≡ 0 → Called T out₀ (open_with sig) o
    → o.refused ≢ 0 → ⊥
refuses_everything T sig out₀ o a g d n = n (demand_1_open T sig out₀ o d a ∙ g)

some_in : (s : ℕ) (l : List ℕ) → In s l → length l ≡ 0 → ⊥
some_in s [] i e = i
some_in s (x ∷ l) i e = omega arith

none_in_lem : (l : List ℕ) → ((s : ℕ) → In s l → ⊥) → length l ≡ 0
none_in_lem [] n = omega arith
none_in_lem (x ∷ l) n = absurd (n x (inl refl))

-- one with a fixed listing: no numbers serve a store with an answer and a store without
pub fixed_listing : (T T' : Tables) (st st' : Store) (relation room s : ℕ) (t q out₀ out₀' : List ℕ) (o o' : Outcome) → Run T st → Run T' st'
    → Called T out₀ (retrieve relation q room) o → Called T' out₀' (retrieve relation q room) o' → o.refused ≡ 0 → o'.refused ≡ 0 → o.second ≡ o'.second
    → st.held s ≡ some t → Stands st.signature relation t q
    → ((u : ℕ) (v : List ℕ) → st'.held u ≡ some v → Stands st'.signature relation v q → ⊥) → ⊥
fixed_listing T T' st st' relation room s t q out₀ out₀' o o' k k' d d' z z' f e w n =
    let a = demand_2 T st relation room q out₀ o k d z in
    let b = demand_2 T' st' relation room q out₀' o' k' d' z' in
    some_in s a.slots ((a.exactly s).1 (t, e, w)) (sym a.number ∙ f ∙ b.number ∙ none_in_lem b.slots (λ u i. let x = (b.exactly u).0 i in n u x.0 x.1 x.2))
