-- Serves SCOPE.md, 'Term bytes': a walk over the items of a term, by the number of terms still open.
use Rattle.std.specs.Prelude.{◌≡◌, refl, ◌≢◌, List, [], ◌∷◌, ℕ, zero, suc, ◌+◌, ◌-◌, ◌≤◌, ◌<◌, ltb, length, get_or, drop}
use Rattle.std.proofs.Common.{sym, ap, ◌∙◌, suc-add, zero-add, add-one, arith, drop-cons, lt-ltb, le-ltb}
use Rattle.std.proofs.Math.Decide.{dec_le}
use Rattle.std.proofs.lemmas.List.{length-map}
use Rattle.std.proofs.Math.ListN.{get_or-map, get_or-eq_default}
use Rattle.laws.specs.Choice.{pick}
use Rattle.theory.specs.Flat.{Item, sy, va, Terms}
use Rattle.theory.specs.Cut.{first, rest}
use Rattle.theory.specs.Items.{item16, items16}
use Rattle.theory.specs.Nodes.{args, args_none, NextNode, Begins, begins_length}
use Rattle.laws.specs.Sizes.{variable_base}
use Rattle.terms.specs.Terms.{arity}

-- the arguments that follow the item c
unfoldable pub extra : List ℕ → ℕ → ℕ
extra sig c = pick (ltb c variable_base) (arity sig c) 0

pub extra_sym : (sig : List ℕ) (c : ℕ) → c < variable_base → extra sig c ≡ arity sig c
unfolding extra
extra_sym sig c b = rw (lt-ltb c variable_base b)

pub extra_var : (sig : List ℕ) (c : ℕ) → variable_base ≤ c → extra sig c ≡ 0
unfolding extra
extra_var sig c b = rw (le-ltb c variable_base b)

module _ (sig : List ℕ) where
  abbrev ar : ℕ → ℕ
  ar = arity sig

  abbrev pub more : Item → ℕ
  more (sy f) = arity sig f
  more (va x) = 0

  pub more_extra : (c : ℕ) → more (item16 c) ≡ extra sig c
  more_extra c = go (dec_le variable_base c)
    where
      go : Dec (variable_base ≤ c) → more (item16 c) ≡ extra sig c
      go (yes v) = rw (le-ltb c variable_base v) (sym (extra_var sig c v))
      go (no v) = let h : c < variable_base = omega arith in rw (lt-ltb c variable_base h) (sym (extra_sym sig c h))

  terms_step : (k : ℕ) (i : Item) (l : List Item) → Terms ar (suc k) (i ∷ l) → Terms ar (more i + k) l
  terms_step k (sy f) l t = t
  terms_step k (va x) l t = rw zero-add t

  rest_step : (k : ℕ) (i : Item) (l : List Item) → rest ar (suc k) (i ∷ l) ≡ rest ar (more i + k) l
  rest_step k (sy f) l = refl
  rest_step k (va x) l = rw zero-add

  pub first_step : (k : ℕ) (i : Item) (l : List Item) → first ar (suc k) (i ∷ l) ≡ i ∷ first ar (more i + k) l
  first_step k (sy f) l = refl
  first_step k (va x) l = rw zero-add

  module _ (pool : List ℕ) where
    abbrev P : List Item
    P = items16 pool

    len : length P ≡ length pool
    len = length-map pool item16

    pub item : (i : ℕ) → i < length pool → drop i P ≡ item16 (get_or pool i 0) ∷ drop (i + 1) P
    item i b = drop-cons P i (sy 0) (omega (arith, len)) ∙ rw (get_or-map item16 pool i 0, add-one)

    pub record Walk (p o i : ℕ) : Type 0 where
      pub begins : Begins ar P o i
      pub low : i ≤ length pool
      pub rests : rest ar o (drop i P) ≡ rest ar 1 (drop p P)

    pub walk_start : (p : ℕ) → Begins ar P 1 p → p < length pool → Walk p 1 p
    walk_start p b l = record { begins = b; low = omega arith; rests = refl }

    pub walk_low : (p o i : ℕ) → Walk p o i → o + i ≤ length pool
    walk_low p o i w = omega (arith, begins_length ar P o i w.begins (omega (arith, len, w.low)), len)

    pub walk_turn : (p o i : ℕ) → Walk p o i → o ≢ 0 → Walk p (o - 1 + extra sig (get_or pool i 0)) (i + 1)
    walk_turn p zero i w n = absurd (n refl)
    walk_turn p (suc o) i w n =
        let b : i < length pool = omega (arith, walk_low p (suc o) i w) in
        let j = w.begins.after in
        let e : extra sig (get_or pool i 0) + (o + j) ≡ suc o - 1 + extra sig (get_or pool i 0) + j = omega arith in
        let e' : extra sig (get_or pool i 0) + o ≡ suc o - 1 + extra sig (get_or pool i 0) = omega arith in
        record {
          begins = record { after = j; terms = rw (more_extra (get_or pool i 0), e) at (terms_step (o + j) (item16 (get_or pool i 0)) (drop (i + 1) P) (rw (suc-add, item i b) at w.begins.terms)) };
          low = omega arith;
          rests = sym (ap (λ (x : ℕ). rest ar x (drop (i + 1) P)) (ap (λ (x : ℕ). x + o) (more_extra (get_or pool i 0)) ∙ e')) ∙ sym (rest_step o (item16 (get_or pool i 0)) (drop (i + 1) P)) ∙ ap (rest ar (suc o)) (sym (item i b)) ∙ w.rests;
        }

    rest_none : (l : List Item) → rest ar 0 l ≡ l
    rest_none [] = refl
    rest_none (i ∷ l) = refl

    pub walk_end : (p o i : ℕ) → o ≡ 0 → Walk p o i → NextNode ar P p i
    walk_end p o i e w = sym (rest_none (drop i P)) ∙ ap (λ (x : ℕ). rest ar x (drop i P)) (sym e) ∙ w.rests

    pub args_turn : (o i : ℕ) → o ≢ 0 → i < length pool → args ar P o i ≡ item16 (get_or pool i 0) ∷ args ar P (o - 1 + extra sig (get_or pool i 0)) (i + 1)
    args_turn zero i n b = absurd (n refl)
    args_turn (suc o) i n b =
        let c = get_or pool i 0 in
        let e : extra sig c + o ≡ suc o - 1 + extra sig c = omega arith in
        ap (first ar (suc o)) (item i b) ∙ first_step o (item16 c) (drop (i + 1) P) ∙ ap (λ (x : ℕ). item16 c ∷ first ar x (drop (i + 1) P)) (ap (λ (x : ℕ). x + o) (more_extra c) ∙ e)

    pub args_end : (o i : ℕ) → o ≡ 0 → args ar P o i ≡ []
    args_end o i e = ap (λ (x : ℕ). first ar x (drop i P)) e ∙ args_none ar P i

-- a variable's number is none of a signature's: its arity is 0
pub extra_arity : (sig : List ℕ) → length sig ≤ 256 → (c : ℕ) → extra sig c ≡ arity sig c
extra_arity sig b c = go (dec_le variable_base c)
  where
    go : Dec (variable_base ≤ c) → extra sig c ≡ arity sig c
    go (yes v) = extra_var sig c v ∙ sym (get_or-eq_default sig 0 (omega arith))
    go (no v) = extra_sym sig c (omega arith)
