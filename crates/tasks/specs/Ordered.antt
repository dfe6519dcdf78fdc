-- SCOPE.md, 'The log program': the order of a field as the code reads it, in the words of Operations.antt: which
-- operation the field at a place is, and where it ends.
use Rattle.std.specs.Prelude.{ℕ, ◌≤◌, ◌≡◌, List, ltb, eqb, length, drop}
use Rattle.std.proofs.Math.Option.{Option, some, none}
use Rattle.laws.specs.Choice.{pick}
use Rattle.laws.specs.Sizes.{input_limit}
use Rattle.logfields.specs.Fields.{field_at}
use Rattle.logfields.specs.Reading.{place_after}
use Rattle.calls.specs.declared.Order.{Order}
use Rattle.calls.specs.declared.Order.TheVariants.{Open, Insert, Delete, WithKey, Retrieve, Solve, Nothing}
use Rattle.tasks.specs.Operations.{Operation, to_open, to_insert, to_delete, to_retrieve, to_solve, operation_in}

-- THE ORDER OF A FIELD: t is what stands after the fixed part of the payload
abbrev pub fixed_part : Order → ℕ
fixed_part (Delete s) = 2
fixed_part (Retrieve r) = 1
fixed_part (Solve s) = 2
fixed_part Open = 0
fixed_part Insert = 0
fixed_part WithKey = 0
fixed_part Nothing = 0

-- the orders that a field can give
abbrev pub InLog : Order → Type 0
InLog Open = Unit {0}
InLog Insert = Unit {0}
InLog (Delete s) = Unit {0}
InLog WithKey = ⊥
InLog (Retrieve r) = Unit {0}
InLog (Solve s) = Unit {0}
InLog Nothing = Unit {0}

abbrev pub operation_of : Order → List ℕ → Option Operation
operation_of Open t = some (to_open t)
operation_of Insert t = some (to_insert t)
operation_of (Delete s) t = some (to_delete s)
operation_of WithKey t = none
operation_of (Retrieve r) t = some (to_retrieve r t)
operation_of (Solve s) t = some (to_solve s t)
operation_of Nothing t = none

-- an order is the operation c of a payload p
pub record Ordered (order : Order) (p : List ℕ) (c : Option Operation) : Type 0 where
  pub logged : InLog order
  pub fixed : fixed_part order ≤ length p
  pub operation : operation_of order (drop (fixed_part order) p) ≡ c

-- the operation of the field at a place, and the place past it; too long an input is none
unfoldable pub operation_at : List ℕ → ℕ → Option Operation
operation_at s at = pick (ltb input_limit (length s)) none (operation_in (eqb at 0) s (field_at s at))

unfoldable pub place_past : List ℕ → ℕ → ℕ
place_past s at = pick (ltb input_limit (length s)) (length s) (place_after s at)
