-- SCOPE.md, 'The log program': what an order means on all tables, by the call that it names. t is the signature, the
-- term or the key, and room the length of the answer buffer.
use Rattle.std.specs.Prelude.{ℕ, List}
use Rattle.refusals.specs.declared.Refusal.TheVariants as Refusal
use Rattle.definitions.specs.Answers.{refuse}
use Rattle.layout.specs.Tables.{Tables}
use Rattle.calls.specs.Outcome.{Result, result}
use Rattle.store.specs.Calls.{opening, inserting, deleting, key_question}
use Rattle.retrieve.specs.Retrieving.{retrieving}
use Rattle.solving.specs.Solving.{solving}
use Rattle.calls.specs.declared.Order.{Order}
use Rattle.calls.specs.declared.Order.TheVariants.{Open, Insert, Delete, WithKey, Retrieve, Solve, Nothing}

-- the calls that change no table; anything else is refused as LOG
abbrev pub asked : Order → Tables → List ℕ → ℕ → Result
asked WithKey T t room = key_question T t room
asked (Retrieve r) T t room = retrieving T r t room
asked (Solve s) T t room = solving T s t room
asked Open T t room = result (refuse Refusal.Log) T T
asked Insert T t room = result (refuse Refusal.Log) T T
asked (Delete s) T t room = result (refuse Refusal.Log) T T
asked Nothing T t room = result (refuse Refusal.Log) T T

abbrev pub ordered : Order → Tables → List ℕ → ℕ → Result
ordered Open T t room = opening T t
ordered Insert T t room = inserting T t
ordered (Delete s) T t room = deleting T s
ordered WithKey T t room = asked WithKey T t room
ordered (Retrieve r) T t room = asked (Retrieve r) T t room
ordered (Solve s) T t room = asked (Solve s) T t room
ordered Nothing T t room = asked Nothing T t room
