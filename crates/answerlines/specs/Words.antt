-- SCOPE.md, 'The log program': the word that a line starts with, in ASCII.
use Rattle.std.specs.Prelude.{ℕ, List, [], ◌∷◌}
use Rattle.tasks.specs.Operations.{Operation, to_open, to_insert, to_delete, to_retrieve, to_solve}

-- 'The word (open, insert, delete, retrieve, solve)'
abbrev pub word_of : Operation → List ℕ
word_of (to_open sig) = 111 ∷ 112 ∷ 101 ∷ 110 ∷ []
word_of (to_insert t) = 105 ∷ 110 ∷ 115 ∷ 101 ∷ 114 ∷ 116 ∷ []
word_of (to_delete s) = 100 ∷ 101 ∷ 108 ∷ 101 ∷ 116 ∷ 101 ∷ []
word_of (to_retrieve r q) = 114 ∷ 101 ∷ 116 ∷ 114 ∷ 105 ∷ 101 ∷ 118 ∷ 101 ∷ []
word_of (to_solve s q) = 115 ∷ 111 ∷ 108 ∷ 118 ∷ 101 ∷ []

-- the word of `log no 16`
abbrev pub log_word : List ℕ
log_word = 108 ∷ 111 ∷ 103 ∷ []
