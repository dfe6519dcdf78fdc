-- SCOPE.md, 'The log program': what `replay` prints for the bytes of its input, sentence by sentence, with the library
-- as functions on stores (library/specs/Store.antt). Fields are cut in logfields/specs (Fields, Reading); which
-- operation a field is stands in tasks/specs/Operations, the word of a line in answerlines/specs/Words, and the bytes of
-- a line are those of lines/specs/Lines. It computes: Example.antt has the scope's example.
use Rattle.std.specs.Prelude.{ℕ, true, false, List, [], ◌∷◌, ◌++◌, ltb, length}
use Rattle.std.proofs.Math.Option.{Option, some, none}
use Rattle.laws.specs.Choice.{pick}
use Rattle.laws.specs.Sizes.{input_limit, answer_room}
use Rattle.definitions.specs.Answers.{Answer, refused, done, unless}
use Rattle.library.specs.Store.{Store, Call, open_with, insert, delete, retrieve, solve, answered, empty, after}
use Rattle.logfields.specs.declared.field.Field.{Field}
use Rattle.logfields.specs.Reading.{fields_of}
use Rattle.lines.specs.Lines.{plain_line, refused_line, slot_line, found_line, solved_line}
use Rattle.tasks.specs.Operations.{Operation, to_open, to_insert, to_delete, to_retrieve, to_solve, operation_in}
use Rattle.answerlines.specs.Words.{word_of, log_word}

-- THE LIBRARY'S CALL that an operation of the log is, with an answer buffer of `room` bytes
abbrev pub library_call : ℕ → Operation → Call
library_call room (to_open sig) = open_with sig
library_call room (to_insert t) = insert t
library_call room (to_delete s) = delete s
library_call room (to_retrieve r q) = retrieve r q room
library_call room (to_solve s q) = solve s q room

-- THE LINES: an operation and what its call answered, or LOG
pub data Line : Type 0 where
  answer : Operation → Answer → Line
  log : Line

-- the store after a field
abbrev pub store_after : Store → Option Operation → Store
store_after st none = st
store_after st (some c) = after st (library_call answer_room c)

-- 'LOG is printed, and the program stops'; else one line for the field, and the rest
abbrev pub line_then : Store → Option Operation → List Line → List Line
line_then st none rest = log ∷ []
line_then st (some c) rest = answer c (answered st (library_call answer_room c)) ∷ rest

-- 'each prints one line': the fields after the signature
unfoldable pub later_lines : List ℕ → Store → List Field → List Line
later_lines s st [] = []
later_lines s st (f ∷ fs) =
    line_then st (operation_in false s f) (later_lines s (store_after st (operation_in false s f)) fs)

-- `open no 2`, 'which also stops the program'
abbrev pub unless_refused : Store → Option Operation → List Line → List Line
unless_refused st none rest = []
unless_refused st (some c) rest = unless (answered st (library_call answer_room c)) [] rest

-- no slot is in use before the opening, whose answer does not depend on the store
abbrev pub unopened : Store
unopened = empty []

-- 'an empty input prints nothing'
unfoldable pub first_lines : List ℕ → List Field → List Line
first_lines s [] = []
first_lines s (f ∷ fs) =
    line_then unopened (operation_in true s f)
    (unless_refused unopened (operation_in true s f)
    (later_lines s (store_after unopened (operation_in true s f)) fs))

-- 'for an input of over 65,535 bytes, whatever it holds; `log no 16` is then the only line'
unfoldable pub lines_of : List ℕ → List Line
lines_of s = pick (ltb input_limit (length s)) (log ∷ []) (first_lines s (fields_of s))

-- THE BYTES OF A LINE. '`ok` and: nothing for open; the slot for insert and delete; for retrieve the number of
-- candidates, the number of answers, the answering slots; for solve the number of fields, then their bytes'
abbrev pub done_text : Operation → ℕ → ℕ → List ℕ → List ℕ
done_text (to_open sig) a b w = plain_line (word_of (to_open sig))
done_text (to_insert t) a b w = slot_line (word_of (to_insert t)) a
done_text (to_delete s) a b w = slot_line (word_of (to_delete s)) a
done_text (to_retrieve r q) a b w = found_line (word_of (to_retrieve r q)) a b w
done_text (to_solve s q) a b w = solved_line (word_of (to_solve s q)) a w

-- 'then `no` and the refusal number, or `ok`'
abbrev pub answer_text : Operation → Answer → List ℕ
answer_text c (refused n) = refused_line (word_of c) n
answer_text c (done a b w) = done_text c a b w

abbrev pub text_of : Line → List ℕ
text_of (answer c a) = answer_text c a
text_of log = refused_line log_word 16

unfoldable pub text_of_all : List Line → List ℕ
text_of_all [] = []
text_of_all (l ∷ ls) = text_of l ++ text_of_all ls

-- what the program prints
unfoldable pub printed : List ℕ → List ℕ
printed s = text_of_all (lines_of s)
