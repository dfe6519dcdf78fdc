-- Laws of the text of a case: each way out of src/lib.rt is the definition of CaseText.antt.
use Rattle.std.proofs.Common.{◌≡◌, ℕ, suc, ◌+◌, ◌-◌, ◌*◌, ◌%◌, ◌<◌, ◌≤◌, min, Bool, true, false, not, eqb, nat_lt, ◌==◌, List, [], ◌∷◌, length, get_or, take, drop, set, fold, take_while, sym, refl, ap, ◌∙◌, arith, length-set, length-drop, length-take, get_or-set_other, get_or-set_same, le-ltb, lt-ltb, le-leb}
use native.Mathlib.Decide.{dec_lt}
use borrow.Author.Tests.{lt-leb}
use Rattle.std.specs.List.{prefix_len}
use Rattle.laws.specs.Choice.{pick}
use Rattle.laws.proofs.Lists.{tail_part}
use Rattle.casetext.specs.CaseText.{word_length, word_end, past_blank, line_length, next_line, decimal_from, number_in, hex_at, HexRead, grown, length_of, left_after, second_at, third_at, third_end, fourth_at, fourth_end, word_at, case_at, BytesRead}
use Rattle.casetext.specs.declared.Case.{Case}

one_more : (k b : ℕ) (r : List ℕ) → length (take (1 + k) (b ∷ r)) ≡ suc (length (take k r))
one_more k b r = let e : 1 + k ≡ suc k = omega arith in rw e refl

-- the bytes before a blank or a line feed are those of a word, those before a line feed and one more those of a line
pub word_long : (l : List ℕ) → length (take_while (λ b. nat_lt 32 b) l) ≡ word_length l
unfolding word_length
word_long [] = refl
word_long (b ∷ r) = go (dec_lt 32 b) (word_long r)
  where
    go : Dec (32 < b) → length (take_while (λ x. nat_lt 32 x) r) ≡ word_length r → length (take_while (λ x. nat_lt 32 x) (b ∷ r)) ≡ word_length (b ∷ r)
    go (yes h) i = rw (lt-ltb 32 b h, lt-leb b 32 h) (one_more _ b r ∙ ap suc i)
    go (no h) i = rw (le-ltb 32 b (omega arith), le-leb b 32 (omega arith)) refl

pub line_long : (l : List ℕ) → min (length l) (length (take_while (λ b. not (b == 10)) l) + 1) ≡ line_length l
unfolding line_length
line_long [] = refl
line_long (b ∷ r) = go (b == 10) refl (line_long r)
  where
    go : (t : Bool) → (b == 10) ≡ t → min (length r) (length (take_while (λ x. not (x == 10)) r) + 1) ≡ line_length r
        → min (length (b ∷ r)) (length (take_while (λ x. not (x == 10)) (b ∷ r)) + 1) ≡ line_length (b ∷ r)
    go true e i = rw e (omega arith)
    go false e i = rw (e, one_more _ b r) (omega (arith, i))

-- the same of the text from a place on
pub word_from : (text : List ℕ) (at r : ℕ) → r ≡ length (take_while (λ b. nat_lt 32 b) (take (length text - at) (drop at text))) → at + r ≡ word_end text at
word_from text at r e = rw (e, tail_part, word_long) refl

pub word_within : (text : List ℕ) (at r : ℕ) → at ≤ length text → r ≡ length (take_while (λ b. nat_lt 32 b) (take (length text - at) (drop at text))) → at + r ≤ length text
word_within text at r h e =
    let l = take (length text - at) (drop at text) in
    let a = length-take (prefix_len (λ b. nat_lt 32 b) l) l in
    let b = length-take (length text - at) (drop at text) in
    omega (arith, h, e, a, b)

pub line_from : (text : List ℕ) (at n r : ℕ) → at ≤ length text → n ≡ length (take_while (λ b. not (b == 10)) (take (length text - at) (drop at text)))
    → r ≡ min (length text) (at + n + 1) → r ≡ next_line text at
line_from text at n r h e f =
    let k = line_long (drop at text) in
    let g = length-drop at text in
    let m : n ≡ length (take_while (λ b. not (b == 10)) (drop at text)) = rw (e, tail_part) refl in
    omega (arith, f, k, g, m)

-- the last six digits of a number count
pub decimal_is : (n : ℕ) (l : List ℕ) → fold (λ m b. m % 1000000 * 10 + b % 16) n l ≡ decimal_from n l
unfolding decimal_from
decimal_is n [] = refl
decimal_is n (b ∷ r) = decimal_is (n % 1000000 * 10 + b % 16) r

pub decimal_small : (n : ℕ) (l : List ℕ) → n < 10000016 → decimal_from n l < 10000016
unfolding decimal_from
decimal_small n [] h = h
decimal_small n (b ∷ r) h = decimal_small (n % 1000000 * 10 + b % 16) r (omega arith)

pub hex_start : (text : List ℕ) (from to : ℕ) (given : List ℕ) → HexRead 0 text from to given
hex_start text from to given = record { byte = λ i h. absurd (omega arith) }

pub hex_turn : (text : List ℕ) (from to : ℕ) (given : List ℕ) (i v : ℕ) → i < length given → v ≡ hex_at text (from + i * 2) to
    → HexRead i text from to given → HexRead (i + 1) text from to (set given i v)
hex_turn text from to given i v h e p = record { byte = λ j g. go j g (dec_lt j i) }
  where
    go : (j : ℕ) → j < i + 1 → Dec (j < i) → get_or (set given i v) j 0 ≡ hex_at text (from + j * 2) to
    go j g (yes l) = get_or-set_other given i j v 0 (λ z. absurd (omega arith)) ∙ p.byte j l
    go j g (no l) = let z : j ≡ i = omega arith in rw z (get_or-set_same given i v 0 h ∙ e)

pub hex_end : (text : List ℕ) (from to : ℕ) (given : List ℕ) (i : ℕ) → i ≡ 512 → HexRead i text from to given → HexRead 512 text from to given
hex_end text from to given i e p = rw (sym e) p

-- growing keeps the length
grown_long : (b : Bool) (given : List ℕ) (w : ℕ) → length (pick b (set given 1 w) given) ≡ length given
grown_long true given w = length-set given 1 w
grown_long false given w = refl

pub grown_length : (word round : ℕ) (hex given : List ℕ) → given ≡ grown word round hex → length hex ≡ 512 → length given ≡ 512
grown_length word round hex given e h = ap length e ∙ (grown_long (eqb word 103) hex _ ∙ h)

-- A CASE, from the contracts of the calls that read it
module _ (text : List ℕ) (at a second b third shown from to word : ℕ)
    (e1 : a ≡ word_end text at) (e2 : second ≡ past_blank text a) (e3 : b ≡ word_end text second) (e4 : third ≡ past_blank text b)
    (e5 : shown ≡ word_end text third) (e6 : from ≡ past_blank text shown) (e7 : to ≡ word_end text from)
    (e8 : word ≡ pick (eqb (get_or text at 0) 35) 0 (get_or text second 0)) where
  second_is : second ≡ second_at text at
  second_is = e2 ∙ ap (past_blank text) e1

  third_is : third ≡ third_at text at
  third_is = e4 ∙ ap (past_blank text) (e3 ∙ ap (word_end text) second_is)

  shown_is : shown ≡ third_end text at
  shown_is = e5 ∙ ap (word_end text) third_is

  from_is : from ≡ fourth_at text at
  from_is = e6 ∙ ap (past_blank text) shown_is

  to_is : to ≡ fourth_end text at
  to_is = e7 ∙ ap (word_end text) from_is

  word_is : word ≡ word_at text at
  word_is = e8 ∙ ap (λ s. pick (eqb (get_or text at 0) 35) 0 (get_or text s 0)) second_is

  pub case_made : (round n len left next : ℕ) → n ≡ number_in text third shown → len ≡ length_of word n (to - from) → left ≡ left_after word n round → next ≡ next_line text at
      → ◌≡◌ {A = Case} (record { word = word; number = n; shown = shown; length = len; left = left; next = next }) (case_at text at round)
  case_made round n len left next en el ef ex = rw (ex, ef, el, en, third_is, shown_is, from_is, to_is, word_is) refl

  pub bytes_made : (round : ℕ) (hex given : List ℕ) → HexRead 512 text from to hex → given ≡ grown word round hex → BytesRead text at round given
  bytes_made round hex given p q =
      record { hex = hex; read = rw (sym to_is, sym from_is) p; is = rw (sym word_is) q }
