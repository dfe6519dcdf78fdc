-- SCOPE.md, 'The log program': the bytes of an answer's line.
use Rattle.std.specs.Prelude.{ℕ, zero, suc, ◌+◌, ◌*◌, ◌/◌, ◌%◌, min, ◌≡◌, List, [], ◌∷◌, ◌++◌, length, ltb}
use Rattle.std.proofs.lemmas.List.Edits.{sets}
use Rattle.laws.specs.Choice.{pick}

-- text written into a line from a place on, as far as there is room, and the next place
pub record Put (line₀ line : List ℕ) (at : ℕ) (text : List ℕ) (r : ℕ) : Type 0 where
  pub line_is : line ≡ sets line₀ at text
  pub next_is : r ≡ min (at + length text) (length line₀)

-- decimal digits, at most as many as the first number says
unfoldable pub digits : ℕ → ℕ → List ℕ
digits zero n = []
digits (suc k) n = pick (ltb n 10) [] (digits k (n / 10)) ++ ((48 + n % 10) ∷ [])

-- a number in decimal
unfoldable pub decimal : ℕ → List ℕ
decimal n = digits (suc n) n

-- a lowercase hex digit
abbrev pub glyph : ℕ → ℕ
glyph d = pick (ltb d 10) (48 + d) (87 + d)

unfoldable pub hex : List ℕ → List ℕ
hex [] = []
hex (b ∷ r) = glyph (b / 16) ∷ glyph (b % 16) ∷ hex r

-- the slots of a listing, two bytes each, high first, a blank before each
unfoldable pub slot_list : List ℕ → List ℕ
slot_list [] = []
slot_list (h ∷ []) = []
slot_list (h ∷ l ∷ r) = (32 ∷ decimal (h * 256 + l)) ++ slot_list r

abbrev pub ok : List ℕ
ok = 32 ∷ 111 ∷ 107 ∷ []

abbrev pub no : List ℕ
no = 32 ∷ 110 ∷ 111 ∷ []

abbrev pub feed : List ℕ
feed = 10 ∷ []

-- a blank and a number
abbrev pub figure : ℕ → List ℕ
figure n = 32 ∷ decimal n

-- a blank and the bytes of a record, if there are any
unfoldable pub record_text : List ℕ → List ℕ
record_text [] = []
record_text (b ∷ r) = 32 ∷ hex (b ∷ r)

-- `open ok`
unfoldable pub plain_line : List ℕ → List ℕ
plain_line word = word ++ (ok ++ feed)

-- `insert no 7`
unfoldable pub refused_line : List ℕ → ℕ → List ℕ
refused_line word n = word ++ (no ++ (figure n ++ feed))

-- `insert ok 0`
unfoldable pub slot_line : List ℕ → ℕ → List ℕ
slot_line word slot = word ++ (ok ++ (figure slot ++ feed))

-- `retrieve ok 3 1 1`
unfoldable pub found_line : List ℕ → ℕ → ℕ → List ℕ → List ℕ
found_line word candidates answers listing = word ++
    (ok ++ (figure candidates ++ (figure answers ++ (slot_list listing ++ feed))))

-- `solve ok 1 10000480208000`
unfoldable pub solved_line : List ℕ → ℕ → List ℕ → List ℕ
solved_line word fields bytes = word ++ (ok ++ (figure fields ++ (record_text bytes ++ feed)))
