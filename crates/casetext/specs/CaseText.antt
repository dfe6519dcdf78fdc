-- The text of a case: a line of four words with single blanks between them. Bytes are written in ASCII: 10 a line feed,
-- 32 a blank, 35 a #. Past the end of the text stand zeros.
use Rattle.std.specs.Prelude.{◌≡◌, ℕ, suc, ◌+◌, ◌-◌, ◌*◌, ◌/◌, ◌%◌, ◌<◌, min, Bool, true, false, List, [], ◌∷◌, length, drop, ◌==◌, nat_le, nat_lt, slice_index, slice_range, slice_set, refl}
use Rattle.std.proofs.Common.{sym, ap, ◌∙◌, arith, length-set, ext_get_or}
use Rattle.laws.specs.Choice.{pick}
use Rattle.casetext.specs.declared.Case.{Case}

-- how many bytes stand before the first blank or line feed
unfoldable pub word_length : List ℕ → ℕ
word_length [] = 0
word_length (b ∷ r) = pick (nat_le b 32) 0 (suc (word_length r))

-- where the word at a place ends
abbrev pub word_end : List ℕ → ℕ → ℕ
word_end text at = at + word_length (drop at text)

-- past one blank, if there is one
abbrev pub past_blank : List ℕ → ℕ → ℕ
past_blank text at = pick (slice_index text at == 32) (at + 1) at

-- how many bytes a line has, with its line feed
unfoldable pub line_length : List ℕ → ℕ
line_length [] = 0
line_length (b ∷ r) = pick (b == 10) 1 (suc (line_length r))

abbrev pub next_line : List ℕ → ℕ → ℕ
next_line text at = at + line_length (drop at text)

-- a number, and the digits after it; of the number before a digit the last six digits count
unfoldable pub decimal_from : ℕ → List ℕ → ℕ
decimal_from n [] = n
decimal_from n (b ∷ r) = decimal_from (n % 1000000 * 10 + b % 16) r

abbrev pub number_in : List ℕ → ℕ → ℕ → ℕ
number_in text from to = decimal_from 0 (slice_range text from to)

-- the value of a hex digit
abbrev pub digit_of : ℕ → ℕ
digit_of b = pick (nat_lt b 58) (b % 16) ((b + 9) % 16)

-- the byte of two hex digits at a place, 0 where the word ends before them
abbrev pub hex_at : List ℕ → ℕ → ℕ → ℕ
hex_at text at to = pick (nat_le (at + 2) to) (digit_of (slice_index text at) * 16 + digit_of (slice_index text (at + 1))) 0

-- the first n of the lent bytes are those of the hex, zeros after it
pub record HexRead (n : ℕ) (text : List ℕ) (from to : ℕ) (given : List ℕ) : Type 0 where
  pub byte : (i : ℕ) → i < n → slice_index given i ≡ hex_at text (from + i * 2) to

-- `grow` adds one each time to the second byte, round past 255
abbrev pub grown : ℕ → ℕ → List ℕ → List ℕ
grown word round given = pick (word == 103) (slice_set given 1 ((slice_index given 1 + round) % 256)) given

-- how many bytes a case has: for an opening as many as its number says, at most 512
abbrev pub length_of : ℕ → ℕ → ℕ → ℕ
length_of word number digits = min (pick (word == 111) number (digits / 2)) 512

-- `insert` and `grow` make as many calls as their number says, and one at least
abbrev pub repeating : ℕ → Bool
repeating word = pick (word == 105) true (word == 103)

abbrev pub left_after : ℕ → ℕ → ℕ → ℕ
left_after word number round = pick (repeating word) (number - round - 1) 0

-- THE FOUR WORDS of the line at a place: where the second, third and fourth start, and where the last two end
abbrev pub second_at : List ℕ → ℕ → ℕ
second_at text at = past_blank text (word_end text at)

abbrev pub third_at : List ℕ → ℕ → ℕ
third_at text at = past_blank text (word_end text (second_at text at))

abbrev pub third_end : List ℕ → ℕ → ℕ
third_end text at = word_end text (third_at text at)

abbrev pub fourth_at : List ℕ → ℕ → ℕ
fourth_at text at = past_blank text (third_end text at)

abbrev pub fourth_end : List ℕ → ℕ → ℕ
fourth_end text at = word_end text (fourth_at text at)

-- the first letter of the second word; a line that starts with # has the word 0
abbrev pub word_at : List ℕ → ℕ → ℕ
word_at text at = pick (slice_index text at == 35) 0 (slice_index text (second_at text at))

-- the third word
abbrev pub number_at : List ℕ → ℕ → ℕ
number_at text at = number_in text (third_at text at) (third_end text at)

-- the case of the line at a place, after `round` calls of it
abbrev pub case_at : List ℕ → ℕ → ℕ → Case
case_at text at round = record {
  word = word_at text at;
  number = number_at text at;
  shown = third_end text at;
  length = length_of (word_at text at) (number_at text at) (fourth_end text at - fourth_at text at);
  left = left_after (word_at text at) (number_at text at) round;
  next = next_line text at;
}

-- its 512 bytes: those of the fourth word, grown
pub record BytesRead (text : List ℕ) (at round : ℕ) (given : List ℕ) : Type 0 where
  pub hex : List ℕ
  pub read : HexRead 512 text (fourth_at text at) (fourth_end text at) hex
  pub is : given ≡ grown (word_at text at) round hex

-- growing keeps the length
grown_long : (b : Bool) (hex : List ℕ) (w : ℕ) → length (pick b (slice_set hex 1 w) hex) ≡ length hex
grown_long true hex w = length-set hex 1 w
grown_long false hex w = refl

-- any two readings of 512 bytes coincide
pub bytes_one : (text : List ℕ) (at round : ℕ) (a b : List ℕ) → length a ≡ 512 → length b ≡ 512
    → BytesRead text at round a → BytesRead text at round b → a ≡ b
bytes_one text at round a b m n p q =
    p.is ∙ (ap (grown (word_at text at) round) same ∙ sym q.is)
  where
    long : (l : List ℕ) → length l ≡ 512 → (r : BytesRead text at round l) → length r.hex ≡ 512
    long l h r = sym (grown_long (word_at text at == 103) r.hex _) ∙ (sym (ap length r.is) ∙ h)

    same : p.hex ≡ q.hex
    same =
        ext_get_or 0 p.hex q.hex (long a m p ∙ sym (long b n q))
        (λ i h. p.read.byte i (omega (arith, h, long a m p)) ∙ sym (q.read.byte i (omega (arith, h, long a m p))))
