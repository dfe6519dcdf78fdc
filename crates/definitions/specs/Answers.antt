-- SCOPE.md, 'Numbers of refusal': what any call answers. A refusal is its number; an answer is up to two numbers and
-- the bytes that are written. The calls on stores (library) and the calls on lent tables (store, retrieve) both
-- answer so.
use Rattle.std.specs.Prelude.{ℕ, zero, suc, ◌*◌, Bool, true, false, List, [], ltb, length}
use Rattle.std.proofs.Math.Option.{Option, some, none}
use Rattle.laws.specs.Choice.{pick}
use Rattle.slots.specs.Slots.{listed}
use Rattle.refusals.specs.declared.Refusal.{Refusal}
use Rattle.refusals.specs.Refusals.{number_of}
use Rattle.theory.specs.Flat.{Item}
use Rattle.theory.specs.Unify.{Bind, full}
use Rattle.definitions.specs.Records.{record_of, count_of}
use Rattle.laws.specs.Sizes.{value_limit}

pub data Answer : Type 0 where
  refused : ℕ → Answer
  done : ℕ → ℕ → List ℕ → Answer

-- the number that a call is refused with, 0 where it is not; the two numbers that it answers, 0 where it is refused
abbrev pub refusal_in : Answer → ℕ
refusal_in (refused n) = n
refusal_in (done a b w) = 0

abbrev pub first_in : Answer → ℕ
first_in (refused n) = 0
first_in (done a b w) = a

abbrev pub second_in : Answer → ℕ
second_in (refused n) = 0
second_in (done a b w) = b

-- the first bytes of the answer buffer afterwards; no other byte changes
abbrev pub written : Answer → List ℕ
written (refused n) = []
written (done a b w) = w

-- a refused call leaves what was
abbrev pub unless : {A : Type 0} → Answer → A → A → A
unless (refused n) old new = old
unless (done a b w) old new = new

-- a refusal by its name; `refusal` of a term and `sig_refusal` of a signature are numbers of such names too
-- (FirstRefusal)
abbrev pub refuse : Refusal → Answer
refuse why = refused (number_of why)

-- opening answers nothing more, insert and delete the slot
abbrev pub opened : Answer
opened = done 0 0 []

abbrev pub slot : ℕ → Answer
slot s = done s 0 []

-- 'a listing is two bytes a slot, high first': the key question answers the number of slots and writes the listing
abbrev pub slots : List ℕ → Answer
slots l = done (length l) 0 (listed l)

-- 'a retrieval answers the number of candidates and the number of answers and writes the listing'
abbrev pub found : ℕ → List ℕ → Answer
found n l = done n (length l) (listed l)

-- 'solve answers the number of fields and writes the record'; the length of the record is told too
abbrev pub solved : ℕ → List ℕ → Answer
solved n w = done n (length w) w

-- ROOM, for a listing: 'the answer buffer is shorter than the answer'
abbrev pub fits : List ℕ → ℕ → Answer → Answer
fits l room a = pick (ltb room (2 * length l)) (refuse Refusal.Room) a

-- has some value of the k variables from y on over 2,048 items
unfoldable pub long_from : (ℕ → List Item) → ℕ → ℕ → Bool
long_from θ zero y = false
long_from θ (suc k) y = pick (ltb value_limit (length (θ y))) true (long_from θ k (suc y))

-- the record of a stored term and a question, from their bindings: NONE, LONG and ROOM in this order
abbrev pub recorded : Option (List Bind) → ℕ → Answer
recorded none room = refuse Refusal.Nothing
recorded (some B) room =
    pick (long_from (full B) 64 0) (refuse Refusal.Long)
    (pick (ltb room (length (record_of (full B)))) (refuse Refusal.Room)
    (solved (count_of (full B)) (record_of (full B))))
