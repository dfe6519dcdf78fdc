-- Serves SCOPE.md, 'The solver's record': the two arms of the loop that change its state: a variable bound, and two
-- nodes of one symbol merged.
use Rattle.std.specs.Prelude.{◌≡◌, Bool, true, false, ◌≢◌, List, map, ℕ, ◌+◌, ◌*◌, ◌/◌, ◌%◌, ◌<◌, length, get_or, set}
use Rattle.std.proofs.Common.{sym, ap, ◌∙◌, arith}
use Rattle.std.proofs.Math.Decide.{ℕ_discrete}
use Rattle.std.proofs.lemmas.List.{length-map}
use Rattle.theory.specs.Items.{item16, items16, code_sym}
use Rattle.theory.specs.Nodes.{Begins, begins_at, begins_args}
use Rattle.joining.specs.Classes.{swap, reps, join_falls}
use Rattle.joining.specs.Masks.{On, spread}
use Rattle.laws.specs.Digits.{bit}
use Rattle.joining.specs.Push.{Pushed}
use Rattle.joining.specs.Run.{Given, Led, UnifierState, run_skip, run_merge}
use Rattle.laws.specs.Sizes.{variable_base}
use Rattle.terms.specs.Terms.{arity}

false_true : ◌≡◌ {A = Bool} false true → ⊥
false_true e = let z : ◌≡◌ {A = ℕ} 0 1 = cc in omega arith

-- x bound to the node u, whose set is m, unless x is in it
pub record Bound (x u m : ℕ) (tab tab' ms ms' : List ℕ) (r : Bool) : Type 0 where
  pub circle : r ≡ false → On x m
  pub free : r ≡ true → (On x m → ⊥) × (tab' ≡ set tab x (u + 1)) × (ms' ≡ map (spread x m) ms)

-- the two ways out, from what the calls tell: m' the set, b the digit of x in it, e the entry
pub bound_circle : (x u m m' b : ℕ) (tab ms : List ℕ) → m' ≡ m → b ≡ bit m' x → b ≡ 1 → Bound x u m tab tab ms ms false
bound_circle x u m m' b tab ms p q h = record { circle = λ z. rw p at (sym q ∙ h); free = λ z. absurd (false_true z) }

pub bound_free : (x u m m' b e : ℕ) (tab ms ms' : List ℕ) → m' ≡ m → b ≡ bit m' x → b ≢ 1 → e ≡ u + 1
    → ms' ≡ map (spread x m') ms → Bound x u m tab (set tab x e) ms ms' true
bound_free x u m m' b e tab ms ms' p q h k s = record {
  circle = λ z. absurd (false_true (sym z));
  free = λ z. ((λ o. h (q ∙ rw p o)), ap (set tab x) k, rw (← p) s);
}

-- nodes of one class are left; others are joined and their arguments pushed, so that n' pairs are on the stack
pub record Merged (sig pool cls cls' K K' : List ℕ) (n p r n' : ℕ) : Type 0 where
  pub skip : get_or cls p 0 ≡ get_or cls r 0 → (n' ≡ n) × (cls' ≡ cls) × (K' ≡ K)
  pub join : get_or cls p 0 ≢ get_or cls r 0 → (n' ≡ n + arity sig (get_or pool p 0))
      × (cls' ≡ map (swap (get_or cls p 0) (get_or cls r 0)) cls)
      ×
      ((l : ℕ) × (l' : ℕ) × Pushed (arity sig) (items16 pool) K K' n (arity sig (get_or pool p 0)) (p + 1) (r + 1)
      0 l l')

-- the arguments of a symbol begin after it
pub args_begin : (sig pool : List ℕ) → Given sig pool → (p : ℕ) → p < length pool → get_or pool p 0 < variable_base → Begins (arity sig) (items16 pool) (arity sig (get_or pool p 0)) (p + 1)
args_begin sig pool G p b a = begins_args (arity sig) (items16 pool) (get_or pool p 0) p (omega (arith, length-map pool item16)) (code_sym pool p a)
    (begins_at (arity sig) (items16 pool) G.count p G.terms (omega (arith, length-map pool item16)))

module _ (sig pool : List ℕ) (G : Given sig pool) (root : ℕ) (K : List ℕ) (n : ℕ) (tab ms cls : List ℕ) (v : UnifierState sig pool root K (n + 1) tab ms cls) (p r : ℕ)
    (dp : Led tab pool (get_or K n 0 / 64) p) (dr : Led tab pool (get_or K n 0 % 64) r) (a : get_or pool p 0 < variable_base) (e : get_or pool p 0 ≡ get_or pool r 0)
    (cls' K' : List ℕ) (n' : ℕ) (m : Merged sig pool cls cls' K K' n p r n') where
  pub run_merged : UnifierState sig pool root K' n' tab ms cls'
  run_merged = go (ℕ_discrete (get_or cls p 0) (get_or cls r 0))
    where
      go : Dec (get_or cls p 0 ≡ get_or cls r 0) → UnifierState sig pool root K' n' tab ms cls'
      go (yes q) = let s = m.skip q in rw (s.0, s.1, s.2) (run_skip sig pool G root K n tab ms cls v p r dp dr q)
      go (no d) = let j = m.join d in rw (j.0, j.1) (run_merge sig pool G root K n tab ms cls v p r dp dr a e d K' j.2.0 j.2.1 j.2.2)

  -- the measure falls
  pub merged_falls : 8 * reps cls' + n' < 8 * reps cls + (n + 1)
  merged_falls = go (ℕ_discrete (get_or cls p 0) (get_or cls r 0))
    where
      pl : p < 64
      pl = omega (arith, G.short, dp.low)

      rl : r < 64
      rl = omega (arith, G.short, dr.low)

      go : Dec (get_or cls p 0 ≡ get_or cls r 0) → 8 * reps cls' + n' < 8 * reps cls + (n + 1)
      go (yes q) = let s = m.skip q in rw (s.0, s.1) (omega arith)
      go (no d) = let j = m.join d in rw (j.0, j.1) (omega (arith, G.arities (get_or pool p 0), join_falls (n + 1) cls v.classes p r pl rl d))
