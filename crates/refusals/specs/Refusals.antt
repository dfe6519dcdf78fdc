-- SCOPE.md, 'Numbers of refusal': the number of each refusal, and of what a check answers; the rank of each number.
use Rattle.std.specs.Prelude.{ℕ, suc, List, [], ◌∷◌, eqb, Result, Ok, Err, ⊤}
use Rattle.laws.specs.Choice.{pick}
use Rattle.refusals.specs.declared.Refusal.{Refusal}

abbrev pub number_of : Refusal → ℕ
number_of Refusal.Table = 1
number_of Refusal.Signature = 2
number_of Refusal.Relation = 3
number_of Refusal.Slot = 4
number_of Refusal.Size = 5
number_of Refusal.Odd = 6
number_of Refusal.Symbol = 7
number_of Refusal.Shape = 8
number_of Refusal.Key = 9
number_of Refusal.Argument = 10
number_of Refusal.Full = 11
number_of Refusal.Keys = 12
number_of Refusal.Nothing = 13
number_of Refusal.Long = 14
number_of Refusal.Room = 15
number_of Refusal.Log = 16

-- what a check answers: nothing, or why it refuses
abbrev pub Checked : Type 0
Checked = Result ⊤ Refusal

-- 0 for what is not refused
abbrev pub checked_number : Checked → ℕ
checked_number (Ok _) = 0
checked_number (Err why) = number_of why

-- 'of the refusals that apply, the first in rank is given': all numbers, the first in rank first
abbrev pub order : List ℕ
order =
    1 ∷ 2 ∷ 3 ∷ 21 ∷ 4 ∷ 5 ∷ 6 ∷ 7 ∷ 8 ∷ 9 ∷ 10 ∷ 17 ∷ 20 ∷ 18 ∷ 11 ∷ 12
    ∷ 19 ∷ 22 ∷ 23 ∷ 24 ∷ 13 ∷ 14 ∷ 15 ∷ 16 ∷ []

-- how many stand before n in a list
abbrev pub place_in : List ℕ → ℕ → ℕ
place_in [] n = 0
place_in (m ∷ l) n = pick (eqb n m) 0 (suc (place_in l n))

-- the place of a number in the order
unfoldable pub rank : ℕ → ℕ
rank n = place_in order n
