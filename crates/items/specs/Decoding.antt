-- SCOPE.md, 'Term bytes': the items of a term's bytes as numbers, a variable's moved into its bank.
use Rattle.std.specs.Prelude.{ℕ, zero, suc, ◌+◌, ◌/◌, ◌≤◌, ◌<◌, ◌≡◌, refl, List, [], ◌∷◌, map, ltb, length, get_or}
use Rattle.std.proofs.Common.{ap, ◌∙◌, add-zero, arith, lt-ltb, le-ltb}
use Rattle.std.proofs.Math.Decide.{dec_lt}
use Rattle.std.proofs.lemmas.List.{length-map}
use Rattle.laws.specs.Choice.{pick}
use Rattle.laws.specs.Sizes.{variable_base, variable_end}
use Rattle.terms.specs.Terms.{numbers, item_at}
use Rattle.terms.proofs.TermLaws.{length_numbers, get_or_numbers}

-- a symbol's number stays, a variable's is moved; what is neither stays, and is never an item of a checked term
unfoldable pub written_as : ℕ → ℕ → ℕ
written_as bank c = pick (ltb c variable_base) c (pick (ltb c variable_end) (c + bank) c)

unfoldable pub decoded : ℕ → List ℕ → List ℕ
decoded bank t = map (written_as bank) (numbers t)

pub as_symbol : (bank c : ℕ) → c < variable_base → written_as bank c ≡ c
unfolding written_as
as_symbol bank c b = rw (lt-ltb c variable_base b)

pub as_variable : (bank c : ℕ) → variable_base ≤ c → c < variable_end → written_as bank c ≡ c + bank
unfolding written_as
as_variable bank c a b = rw (le-ltb c variable_base a, lt-ltb c variable_end b)

pub as_other : (bank c : ℕ) → variable_end ≤ c → written_as bank c ≡ c
unfolding written_as
as_other bank c a = let b : variable_base ≤ c = omega (arith, a) in rw (le-ltb c variable_base b, le-ltb c variable_end a)

-- a stored term's numbers are those of its bytes
as_stored : (c : ℕ) → written_as 0 c ≡ c
as_stored c = go (dec_lt c variable_base) (dec_lt c variable_end)
  where
    go : Dec (c < variable_base) → Dec (c < variable_end) → written_as 0 c ≡ c
    go (yes a) b = as_symbol 0 c a
    go (no a) (yes b) = as_variable 0 c (omega arith) b ∙ add-zero c
    go (no a) (no b) = as_other 0 c (omega arith)

stored_all : (l : List ℕ) → map (written_as 0) l ≡ l
stored_all [] = refl
stored_all (x ∷ l) = rw (as_stored x, stored_all l)

pub decoded_stored : (t : List ℕ) → decoded 0 t ≡ numbers t
unfolding decoded
decoded_stored t = stored_all (numbers t)

pub length_decoded : (bank : ℕ) (t : List ℕ) → length (decoded bank t) ≡ length t / 2
unfolding decoded
length_decoded bank t = length-map (numbers t) (written_as bank) ∙ length_numbers t

map_at : (bank : ℕ) (l : List ℕ) (i : ℕ) → i < length l → get_or (map (written_as bank) l) i 0 ≡ written_as bank (get_or l i 0)
map_at bank [] i b = absurd (omega (arith, b))
map_at bank (x ∷ l) zero b = refl
map_at bank (x ∷ l) (suc i) b = map_at bank l i (omega (arith, b))

-- item by item
pub decoded_at : (bank : ℕ) (t : List ℕ) (i : ℕ) → i < length t / 2
    → get_or (decoded bank t) i 0 ≡ written_as bank (item_at t i)
unfolding decoded
decoded_at bank t i b = map_at bank (numbers t) i (omega (arith, b, length_numbers t)) ∙ ap (written_as bank) (get_or_numbers t i b)
