-- SCOPE.md, 'Both sides of the edges' and 'Numbers of refusal': the line that a case prints. Its word is told by its
-- first letter, and written here in ASCII: o open, i insert, g grow, d delete, k key, r retrieve, n numbers, s solve,
-- m measure, a argument.
use Rattle.std.specs.Prelude.{ℕ, ◌+◌, ◌*◌, ◌/◌, ◌%◌, min, List, [], ◌∷◌, ◌++◌, length, take, eqb, Ok, Err}
use Rattle.laws.specs.Choice.{pick}
use Rattle.laws.specs.Sizes.{answer_room}
use Rattle.refusals.specs.Refusals.{number_of}
use Rattle.terms.specs.Terms.{arg_refusal, arg_bytes}
use Rattle.calls.specs.Outcome.{Reply}
use Rattle.calls.specs.declared.Order.{Order}
use Rattle.calls.specs.declared.Order.TheVariants.{Open, Insert, Delete, WithKey, Retrieve, Solve, Nothing}
use Rattle.lines.specs.Lines.{ok, feed, figure, slot_list, plain_line, refused_line, slot_line, found_line, solved_line}
use Rattle.casetext.specs.declared.Case.{Case}

-- the call that a word asks for, n the case's number
abbrev pub order_of : ℕ → ℕ → Order
order_of word n =
    pick (eqb word 111) Open
    (pick (eqb word 105) Insert
    (pick (eqb word 103) Insert
    (pick (eqb word 100) (Delete n)
    (pick (eqb word 107) WithKey
    (pick (eqb word 114) (Retrieve n)
    (pick (eqb word 110) (Retrieve n)
    (pick (eqb word 115) (Solve n)
    (pick (eqb word 109) (Solve n)
    Nothing))))))))

-- a number that depends on each byte and its place: s so far, and the bytes that follow
unfoldable pub sum_from : ℕ → List ℕ → ℕ
sum_from s [] = s
sum_from s (b ∷ bytes) = sum_from ((s * 31 + b) % 65521) bytes

abbrev pub checksum_of : List ℕ → ℕ
checksum_of bytes = sum_from 0 bytes

-- two numbers, and the checksum of bytes that are too many to print
abbrev pub short_line : List ℕ → ℕ → ℕ → List ℕ → List ℕ
short_line head a b bytes = found_line head a b ((checksum_of bytes / 256) ∷ (checksum_of bytes % 256) ∷ [])

-- the number of slots of a listing, and the slots
abbrev pub listed_line : List ℕ → ℕ → List ℕ → List ℕ
listed_line head slots listing = head ++ (ok ++ (figure slots ++ (slot_list listing ++ feed)))

-- 'Cases P1 to P12 use that signature': a and b of no argument, f of two, g of one
abbrev pub edge_signature : List ℕ
edge_signature = 0 ∷ 0 ∷ 2 ∷ 1 ∷ []

-- argument i of a term: its length and its bytes, or its refusal
abbrev pub argument_line : List ℕ → List ℕ → ℕ → List ℕ
argument_line head term i =
    pick (eqb (arg_refusal edge_signature term i) 0)
    (solved_line head (length (arg_bytes edge_signature term i)) (arg_bytes edge_signature term i))
    (refused_line head (arg_refusal edge_signature term i))

-- how many bytes of the answer buffer an answer has: two a slot of a listing, or a record
abbrev pub written_by : Order → ℕ → ℕ → ℕ
written_by WithKey a b = min a (answer_room / 2) * 2
written_by (Retrieve r) a b = min b (answer_room / 2) * 2
written_by (Solve s) a b = min b answer_room
written_by Open a b = 0
written_by Insert a b = 0
written_by (Delete s) a b = 0
written_by Nothing a b = 0

-- the line of an answer of two numbers and some bytes
abbrev pub answer_line : ℕ → List ℕ → ℕ → ℕ → List ℕ → List ℕ
answer_line word head a b bytes =
    pick (eqb word 111) (plain_line head)
    (pick (eqb word 107) (listed_line head a bytes)
    (pick (eqb word 114) (found_line head a b bytes)
    (pick (eqb word 115) (solved_line head a bytes)
    (pick (eqb word 110) (short_line head a b bytes)
    (pick (eqb word 109) (short_line head a b bytes)
    (slot_line head a))))))

abbrev pub done_line : Case → List ℕ → ℕ → ℕ → List ℕ → List ℕ
done_line case head a b out =
    answer_line case.word head a b (take (written_by (order_of case.word case.number) a b) out)

-- LOG, 16, says that the word is no call: `argument` answers by itself, and any other word says nothing
abbrev pub refusal_line : Case → List ℕ → ℕ → List ℕ → List ℕ
refusal_line case head why given =
    pick (eqb why 16)
    (pick (eqb case.word 97) (argument_line head given case.number) [])
    (refused_line head why)

-- the line of a case, after its first three words
abbrev pub said : Case → Reply → List ℕ → List ℕ → List ℕ → List ℕ
said case (Ok n) head given out = done_line case head n.first n.second out
said case (Err why) head given out = refusal_line case head (number_of why) given
