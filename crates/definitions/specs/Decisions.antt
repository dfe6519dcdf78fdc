-- SCOPE.md, 'The relations themselves' and 'The solver's record': functions that decide the five relations and
-- compute the record, proved against their definitions: matching and Robinson's method.
use Rattle.std.specs.Prelude.{ℕ, zero, suc, ◌≡◌, refl, Bool, true, false, List, [], ◌∷◌}
use Rattle.std.proofs.Math.Decide.{ℕ_discrete}
use Rattle.std.proofs.Common.{arith, ap}
use Rattle.std.proofs.Math.Option.{Option, some, none}
use Rattle.terms.specs.Terms.{refusal, sig_refusal}
use Rattle.theory.specs.Flat.{Item}
use Rattle.theory.specs.Unify.{Bind, full}
use Rattle.theory.specs.Items.{items, shift, shift_terms, Fine}
use Rattle.theory.specs.CheckedItems.{fine}
use Rattle.theory.specs.Relations.{Decided, decided_yes, decided_no, Unifies, Unifiable}
use Rattle.theory.specs.Solver.{solution, RightBindings, solution_right}
use Rattle.theory.specs.Matcher.{matcher, bound, named, turns_right, renames_right}
use Rattle.definitions.specs.Relations.{Stands}
use Rattle.definitions.specs.Records.{record_of, IsRecord, one_record}
use Rattle.terms.specs.Terms.{arity}

-- the same bytes
unfoldable pub same? : (s t : List ℕ) → Dec (s ≡ t)
same? [] [] = yes refl
same? [] (y ∷ t) = no (λ e. let z : ◌≡◌ {A = ℕ} 0 1 = cc in omega arith)
same? (x ∷ s) [] = no (λ e. let z : ◌≡◌ {A = ℕ} 0 1 = cc in omega arith)
same? (x ∷ s) (y ∷ t) = go (ℕ_discrete x y) (same? s t)
  where
    go : Dec (x ≡ y) → Dec (s ≡ t) → Dec (◌≡◌ {A = List ℕ} (x ∷ s) (y ∷ t))
    go (yes a) (yes b) = yes (cc)
    go (yes a) (no n) = no (λ e. n (cc))
    go (no n) d = no (λ e. n (cc))

abbrev pub answer : {P : Type 0} → Dec P → Bool
answer (yes h) = true
answer (no n) = false

answer_right : {P : Type 0} (d : Dec P) → Decided (answer d) P
answer_right (yes h) = decided_yes h
answer_right (no n) = decided_no n

-- the bindings of a stored term and a question that Robinson's method finds
unfoldable pub bindings? : List ℕ → List ℕ → List ℕ → Option (List Bind)
bindings? sig t q = solution (arity sig) (items t) (shift 32 (items q))

-- does the stored term t stand in relation r to the question q
unfoldable pub stands : List ℕ → ℕ → List ℕ → List ℕ → Bool
stands sig zero t q = answer (same? t q)
stands sig (suc zero) t q = named (arity sig) (matcher (arity sig) (items q) (items t))
stands sig (suc (suc zero)) t q = bound (arity sig) (matcher (arity sig) (items q) (items t))
stands sig (suc (suc (suc zero))) t q = bound (arity sig) (matcher (arity sig) (items t) (items q))
stands sig (suc (suc (suc (suc r)))) t q = bound (arity sig) (bindings? sig t q)

pub bindings_right : (sig t q : List ℕ) → Fine sig t → Fine sig q → RightBindings (arity sig) (items t) (shift 32 (items q)) (bindings? sig t q)
unfolding bindings?
bindings_right sig t q a b = solution_right (arity sig) (items t) (shift 32 (items q)) a.term (shift_terms (arity sig) 32 1 (items q) b.term)

unifies_right : (ar : ℕ → ℕ) (s t : List Item) (o : Option (List Bind)) → RightBindings ar s t o → Decided (bound ar o) (Unifies ar s t)
unifies_right ar s t (some B) h = decided_yes (record { by = full B; sub = h.1.sub; same = h.1.unifies })
unifies_right ar s t none h = decided_no (λ u. h u.by u.sub u.same)

-- the decision is right
pub stands_fine : (sig : List ℕ) (r : ℕ) (t q : List ℕ) → Fine sig t → Fine sig q → Decided (stands sig r t q) (Stands sig r t q)
unfolding stands
stands_fine sig zero t q a b = answer_right (same? t q)
stands_fine sig (suc zero) t q a b = renames_right (arity sig) (items q) (items t) b.term a.term
stands_fine sig (suc (suc zero)) t q a b = turns_right (arity sig) (items q) (items t) b.term a.term
stands_fine sig (suc (suc (suc zero))) t q a b = turns_right (arity sig) (items t) (items q) a.term b.term
stands_fine sig (suc (suc (suc (suc r)))) t q a b = unifies_right (arity sig) (items t) (shift 32 (items q)) (bindings? sig t q) (bindings_right sig t q a b)

pub stands_right : (sig : List ℕ) (r : ℕ) (t q : List ℕ) → sig_refusal sig ≡ 0 → refusal sig t ≡ 0 → refusal sig q ≡ 0 → Decided (stands sig r t q) (Stands sig r t q)
stands_right sig r t q s a b = stands_fine sig r t q (fine sig t s a) (fine sig q s b)

-- the record of a stored term and a question, where they unify
abbrev pub record_found : Option (List Bind) → Option (List ℕ)
record_found (some B) = some (record_of (full B))
record_found none = none

unfoldable pub record? : List ℕ → List ℕ → List ℕ → Option (List ℕ)
record? sig t q = record_found (bindings? sig t q)

abbrev pub Record? : List ℕ → List ℕ → List ℕ → Option (List ℕ) → Type 0
Record? sig t q (some w) = IsRecord sig t q w
Record? sig t q none = Unifiable sig t q → ⊥

pub record_fine : (sig t q : List ℕ) → Fine sig t → Fine sig q → Record? sig t q (record? sig t q)
unfolding record?
record_fine sig t q a b = go (bindings? sig t q) (bindings_right sig t q a b)
  where
    go : (o : Option (List Bind)) → RightBindings (arity sig) (items t) (shift 32 (items q)) o → Record? sig t q (record_found o)
    go (some B) h = record { by = full B; unifier = record { mgu = h.1; least = h.2 }; is = refl }
    go none h = λ u. h u.by u.sub u.same

-- it is computed rightly: there is a record exactly where the two unify
pub record_right : (sig t q : List ℕ) → sig_refusal sig ≡ 0 → refusal sig t ≡ 0 → refusal sig q ≡ 0 → Record? sig t q (record? sig t q)
record_right sig t q s a b = record_fine sig t q (fine sig t s a) (fine sig q s b)

-- and any record is the one that is computed
pub record_only : (sig t q : List ℕ) → Fine sig t → Fine sig q → (w : List ℕ) → IsRecord sig t q w → record? sig t q ≡ some w
record_only sig t q a b w r = go (record? sig t q) (record_fine sig t q a b)
  where
    go : (o : Option (List ℕ)) → Record? sig t q o → o ≡ some w
    go (some v) h = ap some (one_record sig t q v w h r)
    go none h = absurd (h (record { by = r.by; sub = r.unifier.mgu.sub; same = r.unifier.mgu.unifies }))
