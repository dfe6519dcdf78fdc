-- SCOPE.md, 'The log program': what a field asks for, by its tag and its payload.
use Rattle.std.specs.Prelude.{ℕ, ◌+◌, ◌*◌, Bool, List, [], ◌∷◌, eqb, take, drop}
use Rattle.std.proofs.Math.Option.{Option, some, none}
use Rattle.laws.specs.Choice.{pick}
use Rattle.logfields.specs.declared.field.Field.{Field}
use Rattle.logfields.specs.declared.field.Field.TheVariants.{End, Cut, Whole}

-- an operation of the log
pub data Operation : Type 0 where
  to_open : List ℕ → Operation
  to_insert : List ℕ → Operation
  to_delete : ℕ → Operation
  to_retrieve : ℕ → List ℕ → Operation
  to_solve : ℕ → List ℕ → Operation

-- the operation of a field, by its tag and its payload p; none where LOG stops the program. '1 signature, first and
-- only there'
unfoldable pub first_operation : ℕ → List ℕ → Option Operation
first_operation tag p = pick (eqb tag 1) (some (to_open p)) none

-- '3 delete, two bytes of slot', and 'for tag 3 one that is not exactly two bytes'
abbrev pub delete_operation : List ℕ → Option Operation
delete_operation [] = none
delete_operation (h ∷ []) = none
delete_operation (h ∷ l ∷ []) = some (to_delete (h * 256 + l))
delete_operation (h ∷ l ∷ m ∷ p) = none

-- '4 retrieve, one byte of relation and a term', or the fixed part is missing
abbrev pub retrieve_operation : List ℕ → Option Operation
retrieve_operation [] = none
retrieve_operation (r ∷ q) = some (to_retrieve r q)

-- '5 solve, two bytes of slot and a term', or the fixed part is missing
abbrev pub solve_operation : List ℕ → Option Operation
solve_operation [] = none
solve_operation (h ∷ []) = none
solve_operation (h ∷ l ∷ q) = some (to_solve (h * 256 + l) q)

-- a field after the first; '2 insert, a term'. An unknown tag is none, and 'a later field that is tag 1'
unfoldable pub later_operation : ℕ → List ℕ → Option Operation
later_operation tag p =
    pick (eqb tag 2) (some (to_insert p))
    (pick (eqb tag 3) (delete_operation p)
    (pick (eqb tag 4) (retrieve_operation p)
    (pick (eqb tag 5) (solve_operation p)
    none)))

-- the payload of a whole field of the input s: n bytes from a place on
abbrev pub payload : List ℕ → ℕ → ℕ → List ℕ
payload s start n = take n (drop start s)

-- the operation of a field of the input s, which is the first field or a later one; a cut field is none
abbrev pub operation_in : Bool → List ℕ → Field → Option Operation
operation_in first s End = none
operation_in first s Cut = none
operation_in first s (Whole tag start n) =
    pick first (first_operation tag (payload s start n)) (later_operation tag (payload s start n))
