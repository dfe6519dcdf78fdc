-- SCOPE.md, 'Numbers of refusal' ('the first in rank is given'): the numbers that Terms of terms computes are the
-- first in rank whose condition holds (Conditions.antt); on the way: what the walk counts is k terms in a row.
use Rattle.std.specs.Prelude.{ℕ, zero, suc, ◌+◌, ◌*◌, ◌≤◌, ◌<◌, ◌%◌, ◌≡◌, ◌⊎◌, List, [], ◌∷◌, ◌++◌, true, false}
use Rattle.std.proofs.Math.Path.{refl}
use Rattle.std.proofs.Common.{sym, ap, ◌∙◌, inl, inr, ⊎_elim, append-nil, append_assoc, zero-add, suc-add, length-append}
use native.Mathlib.Omega.{arith}
use Rattle.std.proofs.Math.Decide.{dec_lt, ℕ_discrete}
use borrow.Author.Tests.{le-leb, lt-leb, eq-eqb, ne_eqb, le-ltb, lt-ltb}
use Rattle.std.proofs.Math.ListN.{length, get_or-eq_default}
use Rattle.laws.specs.Members.{In}
use Rattle.terms.specs.Terms.{numbers, span, declared, items_good, arities_good, sig_refusal, refusal, first_item}
use Rattle.terms.specs.Terms.{arg_refusal}
use Rattle.refusals.specs.declared.Refusal.TheVariants as Refusal
use Rattle.refusals.specs.Refusals.{rank}
use Rattle.definitions.specs.Ranks.{First, end, row, AppliesIn, Gives, at_end, at_row, past_row, at_part}
use Rattle.definitions.specs.Ranks.{past_part}
use Rattle.definitions.specs.Conditions.{IsItem, TermsInRow, Term, Size, Odd, Symbol, Shape, EndsInside, GoesOn}
use Rattle.definitions.specs.Conditions.{NoSignature, NoArgument, signature_rows, term_rows, argument_rows}
use Rattle.definitions.specs.Conditions.TermsInRow.{done, more}
use Rattle.laws.specs.Sizes.{variable_base, variable_end}
use Rattle.terms.specs.Terms.{arity}

-- the walk, counted in items
unfoldable pub reach : List ℕ → List ℕ → ℕ → ℕ
reach sig [] k = k
reach sig (x ∷ r) zero = 0
reach sig (x ∷ r) (suc k) = suc (reach sig r (arity sig x + k))

pub span_reach : (sig t : List ℕ) (k : ℕ) → span sig t k ≡ 2 * reach sig (numbers t) k
unfolding span reach numbers
span_reach sig [] k = refl
span_reach sig (x ∷ []) k = refl
span_reach sig (x ∷ y ∷ r) zero = refl
span_reach sig (x ∷ y ∷ r) (suc k) = let e = span_reach sig r (arity sig (x * 256 + y) + k) in omega (arith, e)

-- k terms in a row take up just their items
pub terms_reach : (sig : List ℕ) {k : ℕ} {l : List ℕ} → TermsInRow sig k l → (r : List ℕ) (j : ℕ) → reach sig (l ++ r) (k + j) ≡ length l + reach sig r j
unfolding reach
terms_reach sig done r j = rw zero-add (omega arith)
terms_reach sig (more {k = k} {x = x} {l = l} {m = m} a b) r j =
    let f = terms_reach sig a (m ++ r) (k + j) in
    let g = terms_reach sig b r j in
    rw (suc-add, append_assoc l m r) (omega (arith, f, g, length-append l m))

terms_split : (sig : List ℕ) (a b : ℕ) (l : List ℕ) → TermsInRow sig (a + b) l
    → (p : List ℕ) × (q : List ℕ) × (l ≡ p ++ q) × TermsInRow sig a p × TermsInRow sig b q
terms_split sig zero b l h = ([], l, refl, done, (let e : 0 + b ≡ b = omega arith in rw e at h))
terms_split sig (suc a) b l h = go l (let e : suc a + b ≡ suc (a + b) = omega arith in rw e at h) (terms_split sig a b)
  where
    go : (l : List ℕ) → TermsInRow sig (suc (a + b)) l → ((l : List ℕ) → TermsInRow sig (a + b) l → (p : List ℕ) × (q : List ℕ) × (l ≡ p ++ q) × TermsInRow sig a p × TermsInRow sig b q)
        → (p : List ℕ) × (q : List ℕ) × (l ≡ p ++ q) × TermsInRow sig (suc a) p × TermsInRow sig b q
    go _ (more {x = x} {l = l} {m = m} u v) ih =
        let r = ih m v in
        (x ∷ (l ++ r.0), r.1, ap (λ (z : List ℕ). x ∷ z) (ap (λ (z : List ℕ). l ++ z) r.2 ∙ sym (append_assoc l r.0 r.1)), more u r.3, r.4)

-- k items that bring no arguments
leaves : (sig : List ℕ) (k : ℕ) → (m : List ℕ) × (length m ≡ k) × TermsInRow sig k m
leaves sig zero = ([], refl, done)
leaves sig (suc k) =
    let r = leaves sig k in
    let z : arity sig (length sig) ≡ 0 = get_or-eq_default sig 0 (omega arith) in
    (length sig ∷ r.0, ap suc r.1, more {x = length sig} {l = []} (rw z done) r.2)

join : (sig : List ℕ) (x k : ℕ) (l : List ℕ) → TermsInRow sig (arity sig x + k) l → TermsInRow sig (suc k) (x ∷ l)
join sig x k l h = let r = terms_split sig (arity sig x) k l h in rw r.2 (more r.3 r.4)

-- where the walk reaches the end or beyond, so many more items make k terms
reach_beyond : (sig l : List ℕ) (k : ℕ) → length l ≤ reach sig l k → (m : List ℕ) × (length l + length m ≡ reach sig l k) × TermsInRow sig k (l ++ m)
unfolding reach
reach_beyond sig [] k h = let r = leaves sig k in (r.0, (let e = r.1 in omega (arith, e)), r.2)
reach_beyond sig (x ∷ l) zero h = absurd (omega (arith, h))
reach_beyond sig (x ∷ l) (suc k) h =
    let r = reach_beyond sig l (arity sig x + k) (omega (arith, h)) in
    (r.0, (let e = r.1 in omega (arith, e)), join sig x k (l ++ r.0) r.2)

-- where it stops within, k terms stand there, and the rest follows
reach_within : (sig l : List ℕ) (k : ℕ) → reach sig l k ≤ length l → (p : List ℕ) × (m : List ℕ) × (length p ≡ reach sig l k) × (l ≡ p ++ m) × TermsInRow sig k p
unfolding reach
reach_within sig [] k h = let e : k ≡ 0 = omega (arith, h) in ([], [], (let f = e in omega (arith, f)), refl, rw e done)
reach_within sig (x ∷ l) zero h = ([], x ∷ l, refl, refl, done)
reach_within sig (x ∷ l) (suc k) h =
    let r = reach_within sig l (arity sig x + k) (omega (arith, h)) in
    (x ∷ r.0, r.1, ap suc r.2, ap (λ (z : List ℕ). x ∷ z) r.3, join sig x k r.0 r.4)

reach_zero : (sig m : List ℕ) → reach sig m 0 ≡ 0
unfolding reach
reach_zero sig [] = refl
reach_zero sig (x ∷ m) = refl

-- what starts with a term is reached up to that term's end
reach_term : (sig p m : List ℕ) → Term sig p → reach sig (p ++ m) 1 ≡ length p
reach_term sig p m h =
    let f = terms_reach sig h m 0 in
    let e : 1 + 0 ≡ 1 = omega arith in
    let g = rw e at f in
    omega (arith, g, reach_zero sig m)

-- just one term neither ends inside one nor goes on after one
pub shape_none : (sig l : List ℕ) → reach sig l 1 ≡ length l → EndsInside sig l ⊎ GoesOn sig l → ⊥
shape_none sig l e (inl d) =
    let r = reach_within sig l 1 (omega (arith, e)) in
    let a = reach_term sig (l ++ d.0) [] d.2 in
    let b = reach_term sig r.0 (r.1 ++ d.0) r.4 in
    let c = rw (← append_assoc r.0 r.1 d.0, ← r.3) at b in
    let f = rw append-nil at a in
    omega (arith, c, f, r.2, e, length-append l d.0, d.1)
shape_none sig l e (inr d) =
    let a = reach_term sig d.0 d.1 d.4 in
    let b = rw (← d.3) at a in
    let c = ap length d.3 in
    omega (arith, b, c, e, length-append d.0 d.1, d.2)

-- and what is not does one of both
pub shape_some : (sig l : List ℕ) → (reach sig l 1 ≡ length l → ⊥) → EndsInside sig l ⊎ GoesOn sig l
shape_some sig l n = go (dec_lt (reach sig l 1) (length l))
  where
    go : Dec (reach sig l 1 < length l) → EndsInside sig l ⊎ GoesOn sig l
    go (yes h) =
        let r = reach_within sig l 1 (omega arith) in
        let c = ap length r.3 in
        inr (r.0, r.1, omega (arith, c, length-append r.0 r.1, r.2), r.3, r.4)
    go (no h) =
        let m : length l < reach sig l 1 = omega arith in
        let r = reach_beyond sig l 1 (omega arith) in
        inl (r.0, omega (arith, r.1), r.2)

-- the test of an item
item_told : (sig : List ℕ) (x : ℕ) → ((declared (length sig) x ≡ true) × IsItem sig x) ⊎ ((declared (length sig) x ≡ false) × (IsItem sig x → ⊥))
unfolding declared
item_told sig x = go (dec_lt x (length sig)) (dec_lt x variable_base) (dec_lt x variable_end)
  where
    go : Dec (x < length sig) → Dec (x < variable_base) → Dec (x < variable_end) → ((declared (length sig) x ≡ true) × IsItem sig x) ⊎ ((declared (length sig) x ≡ false) × (IsItem sig x → ⊥))
    go (yes a) b c = inl (rw (lt-ltb x (length sig) a), inl a)
    go (no a) (yes b) c =
        let f : length sig ≤ x = omega arith in
        inr (rw (le-ltb x (length sig) f, lt-leb variable_base x b), ⊎_elim (λ i. a i) (λ i. omega (arith, i.0)))
    go (no a) (no b) (yes c) =
        let f : length sig ≤ x = omega arith in
        let g : variable_base ≤ x = omega arith in
        inl (rw (le-ltb x (length sig) f, le-leb variable_base x g, lt-ltb x variable_end c), inr (g, c))
    go (no a) (no b) (no c) =
        let f : length sig ≤ x = omega arith in
        let g : variable_base ≤ x = omega arith in
        let h : variable_end ≤ x = omega arith in
        inr (rw (le-ltb x (length sig) f, le-leb variable_base x g, le-ltb x variable_end h), ⊎_elim (λ i. a i) (λ i. c i.1))

-- the test of all items
items_told : (sig t : List ℕ) → ((items_good (length sig) t ≡ true) × (Symbol sig t → ⊥)) ⊎ ((items_good (length sig) t ≡ false) × Symbol sig t)
unfolding items_good numbers
items_told sig [] = inl (refl, λ d. d.1)
items_told sig (x ∷ []) = inl (refl, λ d. d.1)
items_told sig (x ∷ y ∷ r) = go (item_told sig (x * 256 + y)) (items_told sig r)
  where
    go : ((declared (length sig) (x * 256 + y) ≡ true) × IsItem sig (x * 256 + y)) ⊎ ((declared (length sig) (x * 256 + y) ≡ false) × (IsItem sig (x * 256 + y) → ⊥))
        → ((items_good (length sig) r ≡ true) × (Symbol sig r → ⊥)) ⊎ ((items_good (length sig) r ≡ false) × Symbol sig r)
        → ((items_good (length sig) (x ∷ y ∷ r) ≡ true) × (Symbol sig (x ∷ y ∷ r) → ⊥)) ⊎ ((items_good (length sig) (x ∷ y ∷ r) ≡ false) × Symbol sig (x ∷ y ∷ r))
    go (inl a) (inl b) = inl (rw a.0 b.0, λ d. ⊎_elim (λ e. d.2 (rw e a.1)) (λ i. b.1 (d.0, i, d.2)) d.1)
    go (inl a) (inr b) = inr (rw a.0 b.0, (b.1.0, inr b.1.1, b.1.2))
    go (inr a) b = inr (rw a.0, (x * 256 + y, inl refl, a.1))

length_numbers : (t : List ℕ) → (length t % 2 ≡ 1 → ⊥) → length t ≡ 2 * length (numbers t)
unfolding numbers
length_numbers [] n = refl
length_numbers (h ∷ []) n = absurd (n refl)
length_numbers (h ∷ l ∷ r) n = let e = length_numbers r (λ z. n (omega (arith, z))) in omega (arith, e)

-- the rows, one after another
module _ (sig t : List ℕ) where
  at_five : Size t → refusal sig t ≡ 5
  unfolding refusal
  at_five h = rw (lt-ltb 64 (length t) h)

  at_six : (Size t → ⊥) → Odd t → refusal sig t ≡ 6
  unfolding refusal
  at_six n (inl e) = let a : length t ≤ 64 = omega arith in rw (le-ltb 64 (length t) a, eq-eqb (length t) 0 e)
  at_six n (inr e) =
      let a : length t ≤ 64 = omega arith in
      let b : length t ≡ 0 → ⊥ = λ z. omega (arith, e, z) in
      rw (le-ltb 64 (length t) a, ne_eqb (length t) 0 b, eq-eqb (length t % 2) 1 e)

  module _ (n : Size t → ⊥) (o : Odd t → ⊥) where
    few : length t ≤ 64
    few = omega arith

    at_seven : items_good (length sig) t ≡ false → refusal sig t ≡ 7
    unfolding refusal
    at_seven e = rw (le-ltb 64 (length t) few, ne_eqb (length t) 0 (λ z. o (inl z)), ne_eqb (length t % 2) 1 (λ z. o (inr z)), e)

    at_eight : items_good (length sig) t ≡ true → (span sig t 1 ≡ length t → ⊥) → refusal sig t ≡ 8
    unfolding refusal
    at_eight e d = rw (le-ltb 64 (length t) few, ne_eqb (length t) 0 (λ z. o (inl z)), ne_eqb (length t % 2) 1 (λ z. o (inr z)), e, ne_eqb (span sig t 1) (length t) d)

    at_none : items_good (length sig) t ≡ true → span sig t 1 ≡ length t → refusal sig t ≡ 0
    unfolding refusal
    at_none e d = rw (le-ltb 64 (length t) few, ne_eqb (length t) 0 (λ z. o (inl z)), ne_eqb (length t % 2) 1 (λ z. o (inr z)), e, eq-eqb (span sig t 1) (length t) d)

    even : length t ≡ 2 * length (numbers t)
    even = length_numbers t (λ z. o (inr z))

    -- the last two rows
    above_six : Gives (row Refusal.Symbol (Symbol sig t) (row Refusal.Shape (Shape sig t) end)) (refusal sig t)
    above_six = go (items_told sig t) (ℕ_discrete (reach sig (numbers t) 1) (length (numbers t)))
      where
        go : ((items_good (length sig) t ≡ true) × (Symbol sig t → ⊥)) ⊎ ((items_good (length sig) t ≡ false) × Symbol sig t)
            → Dec (reach sig (numbers t) 1 ≡ length (numbers t)) → Gives (row Refusal.Symbol (Symbol sig t) (row Refusal.Shape (Shape sig t) end)) (refusal sig t)
        go (inr a) d = rw (at_seven a.0) (at_row a.1)
        go (inl a) (yes e) = rw (at_none a.0 (omega (arith, span_reach sig t 1, e, even))) (past_row a.1 (past_row (shape_none sig (numbers t) e) at_end))
        go (inl a) (no e) = rw (at_eight a.0 (λ z. e (omega (arith, span_reach sig t 1, z, even)))) (past_row a.1 (at_row (shape_some sig (numbers t) e)))

  odd? : Dec (Odd t)
  odd? = go (ℕ_discrete (length t) 0) (ℕ_discrete (length t % 2) 1)
    where
      go : Dec (length t ≡ 0) → Dec (length t % 2 ≡ 1) → Dec (Odd t)
      go (yes e) d = yes (inl e)
      go (no n) (yes e) = yes (inr e)
      go (no n) (no m) = no (⊎_elim n m)

  -- the number of a term's refusal is the first in rank that applies, and 0 where none does
  pub refusal_first : First (AppliesIn (term_rows sig t)) (refusal sig t)
  unfolding rank
  refusal_first = (go (dec_lt 64 (length t)) odd?).in_order refl
    where
      go : Dec (64 < length t) → Dec (Odd t) → Gives (term_rows sig t) (refusal sig t)
      go (yes h) d = rw (at_five h) (at_row h)
      go (no n) (yes h) = rw (at_six n h) (past_row n (at_row h))
      go (no n) (no o) = past_row n (past_row o (above_six n o))

  module _ (i : ℕ) where
    arg_term : (refusal sig t ≡ 0 → ⊥) → arg_refusal sig t i ≡ refusal sig t
    unfolding arg_refusal
    arg_term n = rw (ne_eqb (refusal sig t) 0 n)

    arg_ten : refusal sig t ≡ 0 → (i ≡ 0) ⊎ (arity sig (first_item t) < i) → arg_refusal sig t i ≡ 10
    unfolding arg_refusal
    arg_ten e (inl z) = rw (eq-eqb (refusal sig t) 0 e, eq-eqb i 0 z)
    arg_ten e (inr l) = let n : i ≡ 0 → ⊥ = λ z. omega (arith, l, z) in rw (eq-eqb (refusal sig t) 0 e, ne_eqb i 0 n, lt-ltb (arity sig (first_item t)) i l)

    arg_none : refusal sig t ≡ 0 → (i ≡ 0 → ⊥) → i ≤ arity sig (first_item t) → arg_refusal sig t i ≡ 0
    unfolding arg_refusal
    arg_none e n l = rw (eq-eqb (refusal sig t) 0 e, ne_eqb i 0 n, le-ltb (arity sig (first_item t)) i l)

    -- the same of an argument's
    pub argument_first : First (AppliesIn (argument_rows sig t i)) (arg_refusal sig t i)
    unfolding rank
    argument_first = (go (ℕ_discrete (refusal sig t) 0) (ℕ_discrete i 0) (dec_lt (arity sig (first_item t)) i)).in_order refl
      where
        reached : refusal sig t ≡ 0 → NoArgument sig t i → Gives (argument_rows sig t i) (arg_refusal sig t i)
        reached e h = rw (arg_ten e h) (past_part refusal_first e (at_row h))

        go : Dec (refusal sig t ≡ 0) → Dec (i ≡ 0) → Dec (arity sig (first_item t) < i) → Gives (argument_rows sig t i) (arg_refusal sig t i)
        go (no n) d f = rw (arg_term n) (at_part refusal_first n)
        go (yes e) (yes z) f = reached e (inl z)
        go (yes e) (no n) (yes l) = reached e (inr l)
        go (yes e) (no n) (no l) = rw (arg_none e n (omega arith)) (past_part refusal_first e (past_row (⊎_elim n l) at_end))

-- the test of the arities
arities_told : (s : List ℕ) → ((arities_good s ≡ true) × ((a : ℕ) → In a s → a ≤ 8)) ⊎ ((arities_good s ≡ false) × ((a : ℕ) × In a s × (8 < a)))
unfolding arities_good
arities_told [] = inl (refl, λ a h. absurd h)
arities_told (b ∷ s) = go (dec_lt 8 b) (arities_told s)
  where
    go : Dec (8 < b) → ((arities_good s ≡ true) × ((a : ℕ) → In a s → a ≤ 8)) ⊎ ((arities_good s ≡ false) × ((a : ℕ) × In a s × (8 < a)))
        → ((arities_good (b ∷ s) ≡ true) × ((a : ℕ) → In a (b ∷ s) → a ≤ 8)) ⊎ ((arities_good (b ∷ s) ≡ false) × ((a : ℕ) × In a (b ∷ s) × (8 < a)))
    go (yes h) d = inr (rw (lt-leb b 8 h), (b, inl refl, h))
    go (no n) (inl r) = let l : b ≤ 8 = omega arith in inl (rw (le-leb b 8 l) r.0, λ a. ⊎_elim (λ e. omega (arith, e, l)) (r.1 a))
    go (no n) (inr r) = let l : b ≤ 8 = omega arith in inr (rw (le-leb b 8 l) r.0, (r.1.0, inr r.1.1, r.1.2))

module _ (sig : List ℕ) where
  signature_empty : length sig ≡ 0 → sig_refusal sig ≡ 2
  unfolding sig_refusal
  signature_empty e = rw (eq-eqb (length sig) 0 e)

  signature_long : (length sig ≡ 0 → ⊥) → 256 < length sig → sig_refusal sig ≡ 2
  unfolding sig_refusal
  signature_long n l = rw (ne_eqb (length sig) 0 n, lt-ltb 256 (length sig) l)

  signature_arity : (length sig ≡ 0 → ⊥) → length sig ≤ 256 → arities_good sig ≡ false → sig_refusal sig ≡ 2
  unfolding sig_refusal
  signature_arity n l e = rw (ne_eqb (length sig) 0 n, le-ltb 256 (length sig) l, e)

  signature_none : (length sig ≡ 0 → ⊥) → length sig ≤ 256 → arities_good sig ≡ true → sig_refusal sig ≡ 0
  unfolding sig_refusal
  signature_none n l e = rw (ne_eqb (length sig) 0 n, le-ltb 256 (length sig) l, e)

-- the same of a signature's
pub signature_first : (sig : List ℕ) → First (AppliesIn (signature_rows sig)) (sig_refusal sig)
signature_first sig = (go (ℕ_discrete (length sig) 0) (dec_lt 256 (length sig)) (arities_told sig)).in_order refl
  where
    at_two : sig_refusal sig ≡ 2 → NoSignature sig → Gives (signature_rows sig) (sig_refusal sig)
    at_two e p = rw e (at_row p)

    go : Dec (length sig ≡ 0) → Dec (256 < length sig) → ((arities_good sig ≡ true) × ((a : ℕ) → In a sig → a ≤ 8)) ⊎ ((arities_good sig ≡ false) × ((a : ℕ) × In a sig × (8 < a)))
        → Gives (signature_rows sig) (sig_refusal sig)
    go (yes e) d r = at_two (signature_empty sig e) (inl e)
    go (no n) (yes l) r = at_two (signature_long sig n l) (inr (inl l))
    go (no n) (no l) (inr r) = at_two (signature_arity sig n (omega arith) r.0) (inr (inr r.1))
    go (no n) (no l) (inl r) = rw (signature_none sig n (omega arith) r.0) (past_row never at_end)
      where
        never : NoSignature sig → ⊥
        never (inl h) = n h
        never (inr (inl h)) = l h
        never (inr (inr (a, i, h))) = omega (arith, r.1 a i, h)
