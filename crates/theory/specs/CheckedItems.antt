-- Serves SCOPE.md, 'Term bytes': a term that the check takes is one term by its arities.
use Rattle.std.specs.Prelude.{◌≡◌, refl, Bool, true, false, List, [], ◌∷◌, ℕ, zero, suc, ◌+◌, ◌*◌, ◌/◌, ◌%◌, ◌≤◌, ◌<◌, ltb, leb, length}
use Rattle.std.proofs.Common.{zero-add, arith, lt-ltb, le-ltb, ltb-true}
use Rattle.std.proofs.Math.Decide.{dec_le}
use Rattle.std.proofs.Math.ListN.{get_or-eq_default}
use Rattle.laws.specs.Choice.{pick}
use Rattle.terms.specs.Terms.{span, declared, items_good, sig_refusal, Signed, refusal, item_at, numbers}
use Rattle.terms.proofs.TermLaws.{Good, good, signed}
use Rattle.theory.specs.Flat.{Item, Terms}
use Rattle.theory.specs.Items.{item16, moved_none, codes, items, Fine}
use Rattle.laws.specs.Sizes.{variable_base, variable_end}
use Rattle.terms.specs.Terms.{arity}

head : (sig : List ℕ) → length sig ≤ 256 → (c k : ℕ) (r : List Item) → Terms (arity sig) (arity sig c + k) r → Terms (arity sig) (suc k) (item16 c ∷ r)
head sig b c k r t = go (dec_le variable_base c)
  where
    go : Dec (variable_base ≤ c) → Terms (arity sig) (suc k) (item16 c ∷ r)
    go (yes v) = let z : arity sig c ≡ 0 = get_or-eq_default sig 0 (omega arith) in rw (le-ltb c variable_base v) (rw (z, zero-add) at t)
    go (no v) = let h : c < variable_base = omega arith in rw (lt-ltb c variable_base h) t

span_terms : (sig : List ℕ) → length sig ≤ 256 → (t : List ℕ) (k : ℕ) → length t % 2 ≡ 0 → span sig t k ≡ length t → Terms (arity sig) k (items t)
unfolding span codes numbers
span_terms sig b [] zero e h = tt
span_terms sig b [] (suc k) e h = absurd (omega arith)
span_terms sig b (x ∷ []) k e h = absurd (omega arith)
span_terms sig b (x ∷ l ∷ r) zero e h = absurd (omega arith)
span_terms sig b (x ∷ l ∷ r) (suc k) e h =
    rw (moved_none (x * 256 + l)) (head sig b (x * 256 + l) k (items r) (span_terms sig b r (arity sig (x * 256 + l) + k) (omega arith) (omega arith)))

span_even : (sig t : List ℕ) (k : ℕ) → span sig t k % 2 ≡ 0
unfolding span
span_even sig [] k = omega arith
span_even sig (x ∷ []) k = omega arith
span_even sig (x ∷ l ∷ r) zero = refl
span_even sig (x ∷ l ∷ r) (suc k) = omega (arith, span_even sig r (arity sig (x * 256 + l) + k))

-- a choice that is true took its first side
taken : (b c : Bool) → pick b c false ≡ true → (b ≡ true) × (c ≡ true)
taken true c h = (refl, h)
taken false true h = absurd (let z : ◌≡◌ {A = ℕ} 0 1 = cc in omega arith)
taken false false h = absurd (let z : ◌≡◌ {A = ℕ} 0 1 = cc in omega arith)

declared_below : (n x : ℕ) → n ≤ 256 → declared n x ≡ true → x < variable_end
unfolding declared
declared_below n x b h = go (ltb x n) refl h
  where
    go : (c : Bool) → ltb x n ≡ c → pick c true (pick (leb variable_base x) (ltb x variable_end) false) ≡ true → x < variable_end
    go true e g = let l = ltb-true x n e in omega arith
    go false e g = ltb-true x variable_end (taken (leb variable_base x) (ltb x variable_end) g).1

items_named : (n : ℕ) (t : List ℕ) → n ≤ 256 → items_good n t ≡ true → (i : ℕ) → i < length t / 2 → item_at t i < variable_end
unfolding items_good
items_named n [] b h i l = absurd (omega arith)
items_named n (x ∷ []) b h i l = absurd (omega arith)
items_named n (x ∷ y ∷ r) b h zero l = declared_below n (x * 256 + y) b (taken (declared n (x * 256 + y)) (items_good n r) h).0
items_named n (x ∷ y ∷ r) b h (suc i) l =
    let e : 2 * suc i ≡ suc (suc (2 * i)) = omega arith in
    let e' : suc (suc (2 * i)) + 1 ≡ suc (suc (2 * i + 1)) = omega arith in
    rw (e, e') (items_named n r b (taken (declared n (x * 256 + y)) (items_good n r) h).1 i (omega arith))

pub fine_good : (sig t : List ℕ) → Signed sig → Good sig t → Fine sig t
fine_good sig t s g =
    let e : length t % 2 ≡ 0 = omega (arith, g.shape, span_even sig t 1) in
    record {
      sized = s.short;
      even = e;
      short = g.short;
      term = span_terms sig s.short t 1 e g.shape;
      named = items_named (length sig) t s.short g.symbols;
    }

-- none of the refusals 2 and 5 to 8: what callers show of each term
pub fine : (sig t : List ℕ) → sig_refusal sig ≡ 0 → refusal sig t ≡ 0 → Fine sig t
fine sig t s h = fine_good sig t (signed sig s) (good sig t h)
