-- SCOPE.md, 'Numbers of refusal', TABLE and ROOM: what a case lends to its call, and where the program goes on. Words
-- by their first letter in ASCII: b buffer, t table.
use Rattle.std.specs.Prelude.{ℕ, ◌+◌, ◌-◌, min, List, ◌++◌, length, take, drop, eqb, ltb}
use Rattle.laws.specs.Choice.{pick}
use Rattle.laws.specs.Sizes.{answer_room}
use Rattle.layout.specs.Tables.{Tables, held}
use Rattle.calls.specs.Outcome.{Outcome, told}
use Rattle.orders.specs.Orders.{ordered}
use Rattle.casetext.specs.declared.Case.{Case}
use Rattle.cases.specs.declared.Place.{Place}
use Rattle.caselines.specs.Said.{order_of}

-- the length of a table as it is lent: one element less of the table that is to be too short
abbrev pub lent_length : ℕ → ℕ → ℕ → ℕ
lent_length short table n = pick (eqb table short) (n - 1) n

-- the part of a table that is lent, and the part that is not
abbrev pub lent_part : ℕ → ℕ → List ℕ → List ℕ
lent_part short table l = take (lent_length short table (length l)) l

abbrev pub own_part : ℕ → ℕ → List ℕ → List ℕ
own_part short table l = drop (lent_length short table (length l)) l

abbrev pub lent_tables : ℕ → Tables → Tables
lent_tables short T = held (lent_part short 0 T.bytes) (lent_part short 1 T.used) (lent_part short 2 T.label)
    (lent_part short 3 T.link) (lent_part short 4 T.s0) (lent_part short 5 T.s1) (lent_part short 6 T.s2)
    (lent_part short 7 T.s3)

-- the tables after a call: the parts that were lent as the call left them, the others as they were
abbrev pub given_back : ℕ → Tables → Tables → Tables
given_back short T S = held (S.bytes ++ own_part short 0 T.bytes) (S.used ++ own_part short 1 T.used)
    (S.label ++ own_part short 2 T.label) (S.link ++ own_part short 3 T.link) (S.s0 ++ own_part short 4 T.s0)
    (S.s1 ++ own_part short 5 T.s1) (S.s2 ++ own_part short 6 T.s2) (S.s3 ++ own_part short 7 T.s3)

-- the same of what comes out of the call, whose answer buffer has the first `room` bytes
abbrev pub outcome_back : ℕ → ℕ → Tables → List ℕ → Outcome → Outcome
outcome_back short room T out o = record {
  refused = o.refused;
  first = o.first;
  second = o.second;
  after = given_back short T o.after;
  out = o.out ++ drop room out;
}

-- what one call of a case does, `given` its bytes
abbrev pub case_outcome : Case → Place → List ℕ → Tables → List ℕ → Outcome
case_outcome case place given T out =
    outcome_back place.short place.room T out (told (take place.room out)
    (ordered (order_of case.word case.number) (lent_tables place.short T) (take case.length given)
    place.room))

-- `buffer` sets the length of the answer buffer, as far as there is any
abbrev pub room_after : Case → ℕ → ℕ
room_after case room = pick (eqb case.word 98) (min case.number answer_room) room

-- the same line where calls are left, or else the next; `table` says which table is too short from then on
abbrev pub case_after : Case → Place → Place
case_after case place =
    pick (ltb 0 case.left)
    (record { at = place.at; round = place.round + 1; room = place.room; short = place.short })
    (record {
      at = case.next;
      round = 0;
      room = room_after case place.room;
      short = pick (eqb case.word 116) case.number place.short;
    })
