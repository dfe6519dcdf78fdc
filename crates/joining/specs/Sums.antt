-- Serves SCOPE.md, 'The solver's record': the set of the variables of a term, summed in a walk.
use Rattle.std.specs.Prelude.{◌≡◌, ◌≢◌, List, ◌∷◌, ℕ, ◌+◌, ◌-◌, ◌≤◌, ◌<◌, ltb, length, get_or, drop}
use Rattle.std.proofs.Math.Path.{sym}
use Rattle.std.proofs.Common.{ap, ◌∙◌, lt-ltb, le-ltb}
use Rattle.std.proofs.Math.Decide.{dec_le}
use native.Mathlib.Omega.{arith}
use Rattle.std.specs.Int.Bits.{bit_or, or_zero_r}
use Rattle.std.proofs.lemmas.List.{length-map}
use Rattle.theory.specs.Flat.{Item}
use Rattle.theory.specs.Cut.{first}
use Rattle.theory.specs.Items.{item16, items16}
use Rattle.laws.specs.Choice.{pick}
use Rattle.theory.specs.ItemWalk.{extra, args_turn}
use Rattle.joining.specs.Masks.{mask_of}
use Rattle.theory.specs.Nodes.{args, args_none, Begins, begins_at}
use Rattle.joining.specs.Run.{Given, term}
use Rattle.laws.specs.Sizes.{variable_base}
use Rattle.terms.specs.Terms.{arity}

-- the set of the item c
unfoldable pub set_of : List ℕ → ℕ → ℕ
set_of ms c = pick (ltb c variable_base) 0 (get_or ms (c - variable_base) 0)

pub set_sym : (ms : List ℕ) (c : ℕ) → c < variable_base → set_of ms c ≡ 0
unfolding set_of
set_sym ms c b = rw (lt-ltb c variable_base b)

pub set_var : (ms : List ℕ) (c : ℕ) → variable_base ≤ c → set_of ms c ≡ get_or ms (c - variable_base) 0
unfolding set_of
set_var ms c b = rw (le-ltb c variable_base b)

module _ (sig : List ℕ) where
  abbrev ar : ℕ → ℕ
  ar = arity sig

  module _ (pool : List ℕ) where
    abbrev P : List Item
    P = items16 pool

    -- the set so far
    abbrev pub Sum : List ℕ → ℕ → ℕ → ℕ → ℕ → Type 0
    Sum ms p o i m = mask_of ms m (args ar P o i) ≡ mask_of ms 0 (term sig pool p)

    mask_step : (ms : List ℕ) (m c : ℕ) (l : List Item) → mask_of ms m (item16 c ∷ l) ≡ mask_of ms (bit_or m (set_of ms c)) l
    unfolding mask_of
    mask_step ms m c l = go (dec_le variable_base c)
      where
        go : Dec (variable_base ≤ c) → mask_of ms m (item16 c ∷ l) ≡ mask_of ms (bit_or m (set_of ms c)) l
        go (yes v) = rw (le-ltb c variable_base v, set_var ms c v)
        go (no v) = let h : c < variable_base = omega arith in rw (lt-ltb c variable_base h, set_sym ms c h, or_zero_r)

    pub sum_turn : (ms : List ℕ) (p o i m : ℕ) → o ≢ 0 → i < length pool → Sum ms p o i m → Sum ms p (o - 1 + extra sig (get_or pool i 0)) (i + 1) (bit_or m (set_of ms (get_or pool i 0)))
    sum_turn ms p o i m n b h =
        sym (ap (mask_of ms m) (args_turn sig pool o i n b) ∙ mask_step ms m (get_or pool i 0) (args ar P (o - 1 + extra sig (get_or pool i 0)) (i + 1))) ∙ h

    pub sum_end : (ms : List ℕ) (p o i m : ℕ) → o ≡ 0 → Sum ms p o i m → m ≡ mask_of ms 0 (term sig pool p)
    unfolding mask_of
    sum_end ms p o i m e h = sym (ap (mask_of ms m) (ap (λ (x : ℕ). first ar x (drop i P)) e ∙ args_none ar P i)) ∙ h

    pub given_begins : Given sig pool → (p : ℕ) → p < length pool → Begins ar P 1 p
    given_begins G p b = begins_at ar P G.count p G.terms (omega (arith, length-map pool item16))
