-- SCOPE.md, 'Both sides of the edges': P1 to P12 as one table, the size limit, and the proof that the definitions say
-- so.
use Rattle.std.specs.Prelude.{ℕ, zero, suc, ◌+◌, ◌≤◌, ◌<◌, ◌≡◌, refl, Bool, true, false, eqb, leb, length}
use Rattle.std.proofs.Math.Decide.{ℕ_discrete, dec_le}
use Rattle.std.proofs.Common.{arith, eqb-true, leb-true}
use Rattle.std.proofs.Math.Option.{Option, some, none}
use mathlib.Core.List.{List, [], ◌∷◌}
use Rattle.laws.specs.Choice.{pick}
use Rattle.terms.specs.Terms.{numbers, span, declared, items_good, arities_good, sig_refusal, refusal}
use Rattle.theory.specs.Subst.{in?}
use Rattle.theory.specs.Flat.{Item}
use Rattle.theory.specs.Unify.{Bind, full, one}
use Rattle.theory.specs.CheckedItems.{fine}
use Rattle.theory.specs.Items.{items, shift, codes, moved}
use Rattle.theory.specs.Solver.{solution, RightBindings, solve, by_free, by_size, step, face, face_var, face_bound}
use Rattle.theory.specs.Solver.{var_symbol, var_var, once_cases, at_bind, at_swap, at_follow, terms?}
use Rattle.theory.specs.Matcher.{matcher, matching, against, items?, item?}
use Rattle.definitions.specs.Trees.{forest, firsts, arguments_after, top, tree_of}
use Rattle.definitions.specs.Candidates.{agree, agree_all, candidate, is_candidate}
use Rattle.definitions.specs.Relations.{Stands}
use Rattle.definitions.specs.Records.{Unifier, Short, IsRecord, record_of, listed_from, bytes, field_bytes, written_fields}
use Rattle.definitions.specs.Decisions.{same?, answer, stands, stands_right, bindings?, bindings_right, record?}
use Rattle.definitions.specs.Decisions.{Record?, record_right}
use Rattle.laws.specs.Sizes.{value_limit}
use Rattle.terms.specs.Terms.{arity}

-- what is said of a stored term and a question
pub data Claim : Type 0 where
  stays : ℕ → Claim
  drops : ℕ → Claim
  answers : ℕ → Claim
  fails : ℕ → Claim
  writes : List ℕ → Claim
  valued : ℕ → ℕ → Claim
  fits : Claim
  refused : ℕ → Claim

-- both byte strings are terms
abbrev pub Taken : List ℕ → List ℕ → List ℕ → Type 0
Taken sig t q = (refusal sig t ≡ 0) × (refusal sig q ≡ 0)

-- the value of the written variable y has n items; no value has over 2,048
abbrev pub Valued : List ℕ → List ℕ → List ℕ → ℕ → ℕ → Type 0
Valued sig t q y n = (θ : ℕ → List Item) × Unifier sig (items t) (shift 32 (items q)) θ × (length (θ y) ≡ n)

abbrev pub RecordFits : List ℕ → List ℕ → List ℕ → Type 0
RecordFits sig t q = (θ : ℕ → List Item) × Unifier sig (items t) (shift 32 (items q)) θ × Short θ

abbrev pub ClaimHolds : List ℕ → List ℕ → List ℕ → Claim → Type 0
-- the stored term is a candidate of relation r, or is none
ClaimHolds sig t q (stays r) = Taken sig t q × (is_candidate sig r q t ≡ true)
ClaimHolds sig t q (drops r) = Taken sig t q × (is_candidate sig r q t ≡ false)
-- it is an answer of relation r, or is none
ClaimHolds sig t q (answers r) = Taken sig t q × Stands sig r t q
ClaimHolds sig t q (fails r) = Taken sig t q × (Stands sig r t q → ⊥)
-- the record's bytes
ClaimHolds sig t q (writes w) = Taken sig t q × IsRecord sig t q w
ClaimHolds sig t q (valued y n) = Taken sig t q × Valued sig t q y n
ClaimHolds sig t q fits = Taken sig t q × RecordFits sig t q
-- the number of the refusal of the stored term's bytes
ClaimHolds sig t q (refused n) = refusal sig t ≡ n

-- P of the number, the stored term, the question, what is said of them
pub data Case : Type 0 where
  P : ℕ → List ℕ → List ℕ → List Claim → Case

abbrev pub All : List ℕ → List ℕ → List ℕ → List Claim → Type 0
All sig t q [] = Unit {0}
All sig t q (c ∷ cs) = ClaimHolds sig t q c × All sig t q cs

abbrev pub CaseTable : List ℕ → List Case → Type 0
CaseTable sig [] = Unit {0}
CaseTable sig (P n t q cs ∷ ps) = All sig t q cs × CaseTable sig ps

-- a=0 and b=1 of arity 0, f=2 of arity 2, g=3 of arity 1
abbrev pub signature : List ℕ
signature = 0 ∷ 0 ∷ 2 ∷ 1 ∷ []

-- every item is two bytes: 0,s is symbol s and 128,v is variable v
abbrev pub cases : List Case
cases =
    -- f(x0,x0), f(x0,g(x0)): candidate, no unifier
    P 1 (0 ∷ 2 ∷ 128 ∷ 0 ∷ 128 ∷ 0 ∷ []) (0 ∷ 2 ∷ 128 ∷ 0 ∷ 0 ∷ 3 ∷ 128 ∷ 0 ∷ []) (stays 4 ∷ fails 4 ∷ [])
    -- f(a,x0), f(x0,g(x0)): record 10 0006 8000 0003 0000 10 0004 8020 0000
    ∷ P 2 (0 ∷ 2 ∷ 0 ∷ 0 ∷ 128 ∷ 0 ∷ []) (0 ∷ 2 ∷ 128 ∷ 0 ∷ 0 ∷ 3 ∷ 128 ∷ 0 ∷ [])
    (writes (16 ∷ 0 ∷ 6 ∷ 128 ∷ 0 ∷ 0 ∷ 3 ∷ 0 ∷ 0 ∷ 16 ∷ 0 ∷ 4 ∷ 128 ∷ 32 ∷ 0 ∷ 0 ∷ []) ∷ [])
    -- x0, x0: record 10 0004 8020 8000
    ∷ P 3 (128 ∷ 0 ∷ []) (128 ∷ 0 ∷ []) (writes (16 ∷ 0 ∷ 4 ∷ 128 ∷ 32 ∷ 128 ∷ 0 ∷ []) ∷ [])
    -- x0, g(x0): unifiable, record 10 0006 8000 0003 8020
    ∷ P 4 (128 ∷ 0 ∷ []) (0 ∷ 3 ∷ 128 ∷ 0 ∷ []) (answers 4 ∷ writes (16 ∷ 0 ∷ 6 ∷ 128 ∷ 0 ∷ 0 ∷ 3 ∷ 128 ∷ 32 ∷ []) ∷ [])
    -- f(x0,x0), x0: an instance, not a generalization
    ∷ P 5 (0 ∷ 2 ∷ 128 ∷ 0 ∷ 128 ∷ 0 ∷ []) (128 ∷ 0 ∷ []) (answers 2 ∷ fails 3 ∷ [])
    -- f(x0,x0), f(a,b): a generalization candidate, no generalization
    ∷ P 6 (0 ∷ 2 ∷ 128 ∷ 0 ∷ 128 ∷ 0 ∷ []) (0 ∷ 2 ∷ 0 ∷ 0 ∷ 0 ∷ 1 ∷ []) (stays 3 ∷ fails 3 ∷ [])
    -- f(a,x0), f(x0,b): record 10 0004 8000 0001 10 0004 8020 0000
    ∷ P 7 (0 ∷ 2 ∷ 0 ∷ 0 ∷ 128 ∷ 0 ∷ []) (0 ∷ 2 ∷ 128 ∷ 0 ∷ 0 ∷ 1 ∷ [])
    (writes (16 ∷ 0 ∷ 4 ∷ 128 ∷ 0 ∷ 0 ∷ 1 ∷ 16 ∷ 0 ∷ 4 ∷ 128 ∷ 32 ∷ 0 ∷ 0 ∷ []) ∷ [])
    -- a, b: no candidate, of no relation
    ∷ P 8 (0 ∷ 0 ∷ []) (0 ∷ 1 ∷ []) (drops 0 ∷ drops 1 ∷ drops 2 ∷ drops 3 ∷ drops 4 ∷ [])
    -- bytes 0002 8000: 8; bytes 0000 0000: 8; no bytes: 6
    ∷ P 9 (0 ∷ 2 ∷ 128 ∷ 0 ∷ []) [] (refused 8 ∷ [])
    ∷ P 10 (0 ∷ 0 ∷ 0 ∷ 0 ∷ []) [] (refused 8 ∷ [])
    ∷ P 11 [] [] (refused 6 ∷ [])
    -- f(x0,f(x0,x1)), f(f(x0,x1),f(x1,x0)): no unifier
    ∷ P 12 (0 ∷ 2 ∷ 128 ∷ 0 ∷ 0 ∷ 2 ∷ 128 ∷ 0 ∷ 128 ∷ 1 ∷ [])
    (0 ∷ 2 ∷ 0 ∷ 2 ∷ 128 ∷ 0 ∷ 128 ∷ 1 ∷ 0 ∷ 2 ∷ 128 ∷ 1 ∷ 128 ∷ 0 ∷ []) (fails 4 ∷ [])
    ∷ []

-- the size limit: a=0 of arity 0, e=1 of arity 8, p=2 of arity 5, h=3 of arity 7 or 8
abbrev pub wide : ℕ → List ℕ
wide n = 0 ∷ 8 ∷ 5 ∷ n ∷ []

-- v eight times
abbrev eight : ℕ → List ℕ → List ℕ
eight v r = 128 ∷ v ∷ 128 ∷ v ∷ 128 ∷ v ∷ 128 ∷ v ∷ 128 ∷ v ∷ 128 ∷ v ∷ 128 ∷ v ∷ 128 ∷ v ∷ r

-- p(x0, e(x0 eight times), x1, x2, h(x1,x1,x1,x2,x2,x2,x2 and what follows))
abbrev pub grown_term : List ℕ → List ℕ
grown_term r = 0 ∷ 2 ∷ 128 ∷ 0 ∷ 0 ∷ 1 ∷ eight 0
    (128 ∷ 1 ∷ 128 ∷ 2 ∷ 0 ∷ 3 ∷ 128 ∷ 1 ∷ 128 ∷ 1 ∷ 128 ∷ 1 ∷ 128 ∷ 2 ∷ 128 ∷ 2 ∷ 128 ∷ 2 ∷ 128 ∷ 2 ∷ r)

-- p(e(x0 eight times), x1, e(x1 eight times), x1, x2)
abbrev pub asking : List ℕ
asking = 0 ∷ 2 ∷ 0 ∷ 1 ∷ eight 0 (128 ∷ 1 ∷ 0 ∷ 1 ∷ eight 1 (128 ∷ 1 ∷ 128 ∷ 2 ∷ []))

-- question variable 2 is written 34: its value has 2,048 items and no value has more; with an eighth argument a in h
-- it has 2,049
abbrev pub Limit : Type 0
Limit = All (wide 7) (grown_term []) asking (valued 34 value_limit ∷ fits ∷ [])
    × All (wide 8) (grown_term (0 ∷ 0 ∷ [])) asking (valued 34 (value_limit + 1) ∷ [])

-- the proof: each claim is decided, and what is decided holds
abbrev both_true : Bool → Bool → Bool
both_true a b = pick a b false

abbrev opposite : Bool → Bool
opposite a = pick a false true

both_true_lem : (a b : Bool) → both_true a b ≡ true → (a ≡ true) × (b ≡ true)
both_true_lem true b h = (refl, h)
both_true_lem false b h = absurd (let z : ◌≡◌ {A = ℕ} 0 1 = cc in omega arith)

opposite_true : (a : Bool) → opposite a ≡ true → a ≡ false
opposite_true true h = absurd (let z : ◌≡◌ {A = ℕ} 0 1 = cc in omega arith)
opposite_true false h = refl

abbrev is : Option (List ℕ) → List ℕ → Bool
is none w = false
is (some v) w = answer (same? v w)

abbrev long : ℕ → ℕ → Option (List Bind) → Bool
long y n none = false
long y n (some B) = eqb (length (full B y)) n

short_from : (ℕ → List Item) → ℕ → ℕ → Bool
short_from θ zero y = true
short_from θ (suc k) y = both_true (leb (length (θ y)) value_limit) (short_from θ k (y + 1))

short_from_lem : (θ : ℕ → List Item) (k y : ℕ) → short_from θ k y ≡ true → (z : ℕ) → y ≤ z → z < y + k → length (θ z) ≤ value_limit
unfolding short_from
short_from_lem θ zero y e z a b = absurd (omega arith)
short_from_lem θ (suc k) y e z a b = let h = both_true_lem (leb (length (θ y)) value_limit) (short_from θ k (y + 1)) e in go (ℕ_discrete y z) h.0 (short_from_lem θ k (y + 1) h.1 z)
  where
    go : Dec (y ≡ z) → leb (length (θ y)) value_limit ≡ true → (y + 1 ≤ z → z < y + 1 + k → length (θ z) ≤ value_limit) → length (θ z) ≤ value_limit
    go (yes p) h ih = rw (← p) (leb-true (length (θ y)) value_limit h)
    go (no n) h ih = ih (omega (arith, n)) (omega arith)

abbrev short : Option (List Bind) → Bool
short none = false
short (some B) = short_from (full B) 64 0

module _ (sig : List ℕ) where
  abbrev taken : List ℕ → List ℕ → Bool
  taken t q = both_true (eqb (refusal sig t) 0) (eqb (refusal sig q) 0)

  abbrev check : List ℕ → List ℕ → Claim → Bool
  check t q (stays r) = both_true (taken t q) (is_candidate sig r q t)
  check t q (drops r) = both_true (taken t q) (opposite (is_candidate sig r q t))
  check t q (answers r) = both_true (taken t q) (stands sig r t q)
  check t q (fails r) = both_true (taken t q) (opposite (stands sig r t q))
  check t q (writes w) = both_true (taken t q) (is (record? sig t q) w)
  check t q (valued y n) = both_true (taken t q) (long y n (bindings? sig t q))
  check t q fits = both_true (taken t q) (short (bindings? sig t q))
  check t q (refused n) = eqb (refusal sig t) n

  check_all : List ℕ → List ℕ → List Claim → Bool
  check_all t q [] = true
  check_all t q (c ∷ cs) = both_true (check t q c) (check_all t q cs)

  check_table : List Case → Bool
  check_table [] = true
  check_table (P n t q cs ∷ ps) = both_true (check_all t q cs) (check_table ps)

  record_is : (t q w : List ℕ) (o : Option (List ℕ)) → Record? sig t q o → is o w ≡ true → IsRecord sig t q w
  record_is t q w none r e = absurd (let z : ◌≡◌ {A = ℕ} 0 1 = cc in omega arith)
  record_is t q w (some v) r e = go (same? v w) e
    where
      go : (d : Dec (v ≡ w)) → answer d ≡ true → IsRecord sig t q w
      go (yes p) h = rw p at r
      go (no n) h = absurd (let z : ◌≡◌ {A = ℕ} 0 1 = cc in omega arith)

  abbrev CaseSolved : List ℕ → List ℕ → Option (List Bind) → Type 0
  CaseSolved t q o = RightBindings (arity sig) (items t) (shift 32 (items q)) o

  long_is : (t q : List ℕ) (y n : ℕ) (o : Option (List Bind)) → CaseSolved t q o → long y n o ≡ true → Valued sig t q y n
  long_is t q y n none h e = absurd (let z : ◌≡◌ {A = ℕ} 0 1 = cc in omega arith)
  long_is t q y n (some B) h e = (full B, record { mgu = h.1; least = h.2 }, eqb-true (length (full B y)) n e)

  short_is : (t q : List ℕ) (o : Option (List Bind)) → CaseSolved t q o → short o ≡ true → RecordFits sig t q
  short_is t q none h e = absurd (let z : ◌≡◌ {A = ℕ} 0 1 = cc in omega arith)
  short_is t q (some B) h e = (full B, record { mgu = h.1; least = h.2 }, λ y b. short_from_lem (full B) 64 0 e y (omega arith) (omega arith))

  module _ (s : sig_refusal sig ≡ 0) where
    with_taken : (t q : List ℕ) (b : Bool) → both_true (taken t q) b ≡ true → Taken sig t q × (b ≡ true)
    with_taken t q b e =
        let h = both_true_lem (taken t q) b e in
        let k = both_true_lem (eqb (refusal sig t) 0) (eqb (refusal sig q) 0) h.0 in ((eqb-true (refusal sig t) 0 k.0, eqb-true (refusal sig q) 0 k.1), h.1)

    holds : (t q : List ℕ) (c : Claim) → check t q c ≡ true → ClaimHolds sig t q c
    holds t q (stays r) e = with_taken t q (is_candidate sig r q t) e
    holds t q (drops r) e =
        let h = with_taken t q (opposite (is_candidate sig r q t)) e in (h.0, opposite_true (is_candidate sig r q t) h.1)
    holds t q (answers r) e = let h = with_taken t q (stands sig r t q) e in (h.0, (stands_right sig r t q s h.0.0 h.0.1).holds h.1)
    holds t q (fails r) e =
        let h = with_taken t q (opposite (stands sig r t q)) e in (h.0, (stands_right sig r t q s h.0.0 h.0.1).fails (opposite_true (stands sig r t q) h.1))
    holds t q (writes w) e =
        let h = with_taken t q (is (record? sig t q) w) e in (h.0, record_is t q w (record? sig t q) (record_right sig t q s h.0.0 h.0.1) h.1)
    holds t q (valued y n) e =
        let h = with_taken t q (long y n (bindings? sig t q)) e in
        (h.0, long_is t q y n (bindings? sig t q) (bindings_right sig t q (fine sig t s h.0.0) (fine sig q s h.0.1)) h.1)
    holds t q fits e =
        let h = with_taken t q (short (bindings? sig t q)) e in
        (h.0, short_is t q (bindings? sig t q) (bindings_right sig t q (fine sig t s h.0.0) (fine sig q s h.0.1)) h.1)
    holds t q (refused n) e = eqb-true (refusal sig t) n e

    all_hold : (t q : List ℕ) (cs : List Claim) → check_all t q cs ≡ true → All sig t q cs
    unfolding check_all
    all_hold t q [] e = tt
    all_hold t q (c ∷ cs) e = let h = both_true_lem (check t q c) (check_all t q cs) e in (holds t q c h.0, all_hold t q cs h.1)

    table_holds : (ps : List Case) → check_table ps ≡ true → CaseTable sig ps
    unfolding check_table
    table_holds [] e = tt
    table_holds (P n t q cs ∷ ps) e = let h = both_true_lem (check_all t q cs) (check_table ps) e in (all_hold t q cs h.0, table_holds ps h.1)

-- P1 to P12 hold of the definitions
pub cases_hold : CaseTable signature cases
unfolding check_table check_all sig_refusal arities_good refusal numbers span declared items_good is_candidate candidate agree agree_all tree_of forest firsts arguments_after top stands bindings? record? solution solve by_free by_size step face face_var face_bound var_symbol var_var in? once_cases ℕ_discrete one at_bind at_swap at_follow dec_le terms? codes moved matcher matching against items? item? same? record_of listed_from bytes field_bytes written_fields
cases_hold = table_holds signature refl cases refl

-- and so does the size limit
pub limit_holds : Limit
unfolding check_all short_from sig_refusal arities_good refusal span declared items_good bindings? solution solve by_free by_size step face face_var face_bound var_symbol var_var in? once_cases ℕ_discrete one at_bind at_swap at_follow dec_le terms? codes numbers moved
limit_holds = (all_hold (wide 7) refl (grown_term []) asking (valued 34 value_limit ∷ fits ∷ []) refl, all_hold (wide 8) refl (grown_term (0 ∷ 0 ∷ [])) asking (valued 34 (value_limit + 1) ∷ []) refl)
