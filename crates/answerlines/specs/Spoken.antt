-- SCOPE.md, 'The log program': the line of a reply by its order, as the code writes it; turns/proofs/Turning ties it
-- to the words of turns/specs/Turns.
use Rattle.std.specs.Prelude.{ℕ, ◌*◌, ◌/◌, min, Bool, true, false, List, [], length, take, Ok, Err}
use Rattle.refusals.specs.Refusals.{number_of}
use Rattle.calls.specs.Outcome.{Reply}
use Rattle.calls.specs.declared.Order.{Order}
use Rattle.calls.specs.declared.Order.TheVariants.{Open, Insert, Delete, WithKey, Retrieve, Solve, Nothing}
use Rattle.lines.specs.Lines.{plain_line, refused_line, slot_line, found_line, solved_line}
use Rattle.tasks.specs.Operations.{to_open, to_insert, to_delete, to_retrieve, to_solve}
use Rattle.answerlines.specs.Words.{word_of, log_word}

-- the word of an order; it does not depend on the operation's bytes, and no field orders a key question
abbrev pub spoken_word : Order → List ℕ
spoken_word Open = word_of (to_open [])
spoken_word Insert = word_of (to_insert [])
spoken_word (Delete s) = word_of (to_delete s)
spoken_word WithKey = log_word
spoken_word (Retrieve r) = word_of (to_retrieve r [])
spoken_word (Solve s) = word_of (to_solve s [])
spoken_word Nothing = log_word

abbrev pub spoken_done : Order → List ℕ → ℕ → ℕ → List ℕ → List ℕ
spoken_done Open word a b out = plain_line word
spoken_done Insert word a b out = slot_line word a
spoken_done (Delete s) word a b out = slot_line word a
spoken_done WithKey word a b out = slot_line word a
spoken_done (Retrieve r) word a b out = found_line word a b (take (min b (length out / 2) * 2) out)
spoken_done (Solve s) word a b out = solved_line word a (take (min b (length out)) out)
spoken_done Nothing word a b out = slot_line word a

abbrev pub spoken : Order → Reply → List ℕ → List ℕ
spoken order (Ok n) out = spoken_done order (spoken_word order) n.first n.second out
spoken order (Err why) out = refused_line (spoken_word order) (number_of why)

-- the orders whose refusal stops the program
abbrev pub ending : Order → Bool
ending Open = true
ending Insert = false
ending (Delete s) = false
ending WithKey = false
ending (Retrieve r) = false
ending (Solve s) = false
ending Nothing = true

abbrev pub stopping : Order → Reply → Bool
stopping order (Ok n) = false
stopping order (Err why) = ending order
