-- Serves SCOPE.md, 'The solver's record': two terms in bytes, as one pool of items.
use Rattle.std.specs.Prelude.{◌≡◌, refl, ◌≢◌, List, [], ◌∷◌, ◌++◌, ℕ, suc, ◌+◌, ◌-◌, ◌*◌, ◌/◌, ◌≤◌, ◌<◌, length, get_or, drop, take, eqb}
use Rattle.std.proofs.Common.{sym, ap, ◌∙◌, append-nil, zero-add, arith, length-append, get_or-append-add, take_at, eqb-true}
use Rattle.std.proofs.Math.Decide.{dec_lt}
use Rattle.std.proofs.lemmas.List.{length-map}
use Rattle.std.proofs.Math.ListN.{get_or-append}
use Rattle.std.proofs.Math.Seq.{drop-append_seam, length-sets}
use Rattle.std.proofs.lemmas.List.Edits.{sets, sets-eq}
use Rattle.theory.specs.Flat.{Item, Terms, terms_append}
use Rattle.std.proofs.lemmas.Bool.{eqb-false}
use Rattle.theory.specs.Relations.{Decided, Unifiable}
use Rattle.theory.specs.Subst.{app, Sub, term_length}
use Rattle.theory.specs.Unify.{Bind, full, GoodBindings}
use Rattle.theory.specs.Canon.{Least, Mgu}
use Rattle.theory.specs.Cut.{first, first_append}
use Rattle.theory.specs.Items.{item16, items16, codes, length_codes, get_or_codes, moved, moved_sym, moved_var, moved_le}
use Rattle.theory.specs.Items.{items, shift, shift_codes, shift_terms, Fine}
use Rattle.joining.specs.Run.{Given, BindingTable, Tab, UnifierEnds, term}
use Rattle.terms.specs.Terms.{arity, item_at, numbers}
use Rattle.laws.specs.Sizes.{variable_base, variable_end, written_end}
use Rattle.items.specs.Decoding.{written_as, decoded, as_symbol, as_variable}

pub record Asked (sig s q : List ℕ) : Type 0 where
  pub stored : Fine sig s
  pub question : Fine sig q
  pub arities : (f : ℕ) → arity sig f ≤ 8

-- one after the other
abbrev pub pooled : List ℕ → List ℕ → List ℕ
pooled s q = codes 0 s ++ codes 32 q

map_append : (a b : List ℕ) → items16 (a ++ b) ≡ items16 a ++ items16 b
map_append [] b = refl
map_append (x ∷ a) b = ap {B = List Item} (λ r. item16 x ∷ r) (map_append a b)

module _ (sig s q : List ℕ) (A : Asked sig s q) where
  question_term : Terms (arity sig) 1 (items16 (codes 32 q))
  question_term = rw (shift_codes 32 q) (shift_terms (arity sig) 32 1 (items q) A.question.term)

  pub length_both : length (pooled s q) ≡ length s / 2 + length q / 2
  length_both = length-append (codes 0 s) (codes 32 q) ∙ omega (arith, length_codes 0 s, length_codes 32 q)

  pub given : Given sig (pooled s q)
  given = record {
    count = 2;
    terms = rw map_append (terms_append (arity sig) 1 1 (items s) (items16 (codes 32 q)) A.stored.term question_term);
    short = omega (arith, length_both, A.stored.short, A.question.short);
    named = λ p b. name p b (dec_lt p (length (codes 0 s)));
    arities = A.arities;
  }
    where
      name : (p : ℕ) → p < length (pooled s q) → Dec (p < length (codes 0 s)) → get_or (pooled s q) p 0 < written_end
      name p b (yes l) =
          let i : p < length s / 2 = omega (arith, length_codes 0 s) in
          rw (get_or-append (codes 0 s) (codes 32 q) 0 p l, get_or_codes 0 s p i) (omega (arith, moved_le 0 (item_at s p) (A.stored.named p i)))
      name p b (no l) =
          let i : p - length (codes 0 s) < length q / 2 = omega (arith, length_codes 0 s, length_both) in
          let e : p ≡ length (codes 0 s) + (p - length (codes 0 s)) = omega arith in
          let j = p - length (codes 0 s) in
          rw (e, get_or-append-add (codes 0 s) (codes 32 q) (p - length (codes 0 s)) 0, get_or_codes 32 q (p - length (codes 0 s)) i)
          (omega (arith, moved_le 32 (item_at q j) (A.question.named j i)))

  pub term_stored : term sig (pooled s q) 0 ≡ items s
  term_stored = ap (first (arity sig) 1) (map_append (codes 0 s) (codes 32 q)) ∙ first_append (arity sig) 1 (items s) (items16 (codes 32 q)) A.stored.term

  pub term_question : term sig (pooled s q) (length s / 2) ≡ shift 32 (items q)
  term_question =
      ap (λ r. first (arity sig) 1 r) (ap (drop (length s / 2)) (map_append (codes 0 s) (codes 32 q))
      ∙ ap (λ (k : ℕ). drop k (items s ++ items16 (codes 32 q))) (sym (length-map (codes 0 s) item16 ∙ length_codes 0 s)) ∙ drop-append_seam (items s) (items16 (codes 32 q)) ∙ sym (append-nil (items16 (codes 32 q))))
      ∙ first_append (arity sig) 1 (items16 (codes 32 q)) [] question_term ∙ shift_codes 32 q

-- the answer: bindings that make the stored term and the question the same, in the bytes' own terms
pub record PairSolved (sig s q tab : List ℕ) : Type 0 where
  pub binds : List Bind
  pub good : GoodBindings binds
  pub table : Tab sig (pooled s q) tab binds
  pub shape : BindingTable tab (pooled s q)
  pub few : length binds ≤ 64
  pub mgu : Mgu (arity sig) (items s) (shift 32 (items q)) (full binds)
  pub least : Least (full binds)

abbrev pub PairAnswer : List ℕ → List ℕ → List ℕ → ℕ → List ℕ → Type 0
PairAnswer sig s q code tab = (code ≡ 0 → PairSolved sig s q tab)
    × (code ≢ 0 → (σ : ℕ → List Item) → Sub (arity sig) σ → app σ (items s) ≡ app σ (shift 32 (items q)) → ⊥)

pub answer : (sig s q : List ℕ) → Asked sig s q → (code : ℕ) (tab : List ℕ) → UnifierEnds sig (pooled s q) (length s / 2) code tab → PairAnswer sig s q code tab
answer sig s q A code tab e = (
  (λ z. let u = e.0 z in record {
    binds = u.binds;
    good = u.good;
    table = u.table;
    shape = u.shape;
    few = u.few;
    mgu = rw (term_stored sig s q A, term_question sig s q A) at u.mgu;
    least = u.least;
  }),
  (λ n σ w k. e.1 n σ w (rw (term_stored sig s q A, term_question sig s q A) k)),
)

-- of items that are items, the decoding is theirs
code_same : (bank c : ℕ) → c < variable_end → written_as bank c ≡ moved bank c
code_same bank c b = go (dec_lt c variable_base)
  where
    go : Dec (c < variable_base) → written_as bank c ≡ moved bank c
    go (yes l) = as_symbol bank c l ∙ sym (moved_sym bank c l)
    go (no l) = let v : variable_base ≤ c = omega arith in as_variable bank c v b ∙ sym (moved_var bank c v)

pub decoded_codes : (bank : ℕ) (t : List ℕ) → ((i : ℕ) → i < length t / 2 → item_at t i < variable_end) → decoded bank t ≡ codes bank t
unfolding decoded codes numbers
decoded_codes bank [] h = refl
decoded_codes bank (x ∷ []) h = refl
decoded_codes bank (x ∷ y ∷ r) h = rw (code_same bank (x * 256 + y) (h 0 (omega arith)), decoded_codes bank r (λ i b. next i b))
  where
    next : (i : ℕ) → i < length r / 2 → item_at r i < variable_end
    next i b =
        let e : 2 * suc i ≡ suc (suc (2 * i)) = omega arith in
        let f : suc (suc (2 * i)) + 1 ≡ suc (suc (2 * i + 1)) = omega arith in
        rw (e, f) at (h (suc i) (omega arith))

-- the pool that two loads leave, cut to its length
pub loaded : (s q pool : List ℕ) → length s / 2 + length q / 2 ≤ length pool
    → take (length s / 2 + length q / 2) (sets (sets pool 0 (codes 0 s)) (length s / 2) (codes 32 q)) ≡ pooled s q
loaded s q pool b =
    let a = length_codes 0 s in
    let c = length_codes 32 q in
    let e₁ : sets pool 0 (codes 0 s) ≡ codes 0 s ++ drop (length s / 2) pool
    = sets-eq (codes 0 s) pool 0 (omega arith) ∙ ap (λ (k : ℕ). codes 0 s ++ drop k pool) (zero-add (length (codes 0 s)) ∙ a) in
    let L = codes 0 s ++ drop (length s / 2) pool in
    let n : length L ≡ length pool = sym (ap length e₁) ∙ length-sets pool 0 (codes 0 s) in
    let D = drop (length s / 2 + length (codes 32 q)) L in
    let t : take (length s / 2) L ≡ codes 0 s = take_at (codes 0 s) (drop (length s / 2) pool) (length s / 2) a in
    let e₂ : sets L (length s / 2) (codes 32 q) ≡ pooled s q ++ D
    = sets-eq (codes 32 q) L (length s / 2) (omega arith) ∙ ap (λ r. r ++ codes 32 q ++ D) t in
    let m : length (pooled s q) ≡ length s / 2 + length q / 2 = length-append (codes 0 s) (codes 32 q) ∙ omega arith in
    ap (λ r. take (length s / 2 + length q / 2) (sets r (length s / 2) (codes 32 q))) e₁ ∙ ap (take (length s / 2 + length q / 2)) e₂ ∙ take_at (pooled s q) D (length s / 2 + length q / 2) m

-- what the loads leave: both terms in the pool, the question at r
pub record Loaded (sig s q pool : List ℕ) (r : ℕ) : Type 0 where
  pub root : r ≡ length s / 2
  pub many : length pool ≡ 64
  pub is : take (length s / 2 + length q / 2) pool ≡ pooled s q

-- from the two loads
pub loads : (sig s q p pool : List ℕ) (r : ℕ) → Asked sig s q → length s / 2 + length q / 2 ≤ length p → r ≡ length s / 2 → length p ≡ 64
    → pool ≡ sets (sets p 0 (decoded 0 s)) (length s / 2) (decoded 32 q) → Loaded sig s q pool r
loads sig s q p pool r A b e n is =
    let is' : pool ≡ sets (sets p 0 (codes 0 s)) (length s / 2) (codes 32 q)
    = is ∙ ap (λ (l : List ℕ). sets (sets p 0 l) (length s / 2) (decoded 32 q)) (decoded_codes 0 s A.stored.named)
    ∙ ap (λ (l : List ℕ). sets (sets p 0 (codes 0 s)) (length s / 2) l) (decoded_codes 32 q A.question.named) in
    record {
      root = e;
      many = ap length is' ∙ length-sets (sets p 0 (codes 0 s)) (length s / 2) (codes 32 q) ∙ length-sets p 0 (codes 0 s) ∙ n;
      is = ap (take (length s / 2 + length q / 2)) is' ∙ loaded s q p b;
    }

pub loaded_cut : (sig s q pool : List ℕ) (r : ℕ) → Loaded sig s q pool r → take (r + length q / 2) pool ≡ pooled s q
loaded_cut sig s q pool r l = ap (λ (k : ℕ). take (k + length q / 2) pool) l.root ∙ l.is

pub ready : (sig s q : List ℕ) → Asked sig s q → Given sig (pooled s q) × (length s / 2 < length (pooled s q))
ready sig s q A = (
  given sig s q A,
  omega (arith, length_both sig s q A, A.question.even, term_length (arity sig) 1 (items q) A.question.term, length-map (codes 0 q) item16, length_codes 0 q),
)

-- code 0 tells that the two are unifiable
pub decided : (sig s q : List ℕ) (code : ℕ) (tab : List ℕ) → PairAnswer sig s q code tab → Decided (eqb code 0) (Unifiable sig s q)
decided sig s q code tab a = record {
  holds = λ e. (let m = (a.0 (eqb-true code 0 e)).mgu in record { by = full (a.0 (eqb-true code 0 e)).binds; sub = m.sub; same = m.unifies });
  fails = λ e u. a.1 (eqb-false code 0 e) u.by u.sub u.same;
}
