-- The items of a term in bytes (SCOPE.md, 'Term bytes').
use Rattle.std.specs.Prelude.{◌≡◌, refl, List, [], ◌∷◌, map, ℕ, zero, suc, ◌+◌, ◌-◌, ◌*◌, ◌/◌, ◌%◌, ◌≤◌, ◌<◌, ltb, length, get_or, drop}
use Rattle.std.proofs.Common.{sym, ap, ◌∙◌, add-zero, arith, drop-cons, add-one, lt-ltb, le-ltb}
use Rattle.std.proofs.Math.Decide.{dec_le}
use Rattle.std.proofs.lemmas.List.{length-map}
use Rattle.std.proofs.Math.ListN.{get_or-map}
use Rattle.laws.specs.Choice.{pick}
use Rattle.terms.specs.Terms.{numbers, arity, item_at}
use Rattle.theory.specs.Flat.{Item, sy, va, Terms}
use Rattle.laws.specs.Sizes.{variable_base, variable_end}

-- 'that symbol' below 0x8000, '0x8000 + v is variable v' from there on. Which numbers are declared symbols and
-- variables 0 to 31 is the term check's to say (Terms of crate `terms`); a written variable goes to 63
abbrev pub item16 : ℕ → Item
item16 c = pick (ltb c variable_base) (sy c) (va (c - variable_base))

-- and the number of an item
abbrev pub number : Item → ℕ
number (sy f) = f
number (va x) = variable_base + x

pub number_item : (c : ℕ) → number (item16 c) ≡ c
number_item c = go (dec_le variable_base c)
  where
    go : Dec (variable_base ≤ c) → number (item16 c) ≡ c
    go (yes v) = rw (le-ltb c variable_base v) (omega arith)
    go (no v) = let h : c < variable_base = omega arith in rw (lt-ltb c variable_base h)

-- items by their numbers
abbrev pub items16 : List ℕ → List Item
items16 pool = map item16 pool

pub code_sym : (pool : List ℕ) (p : ℕ) → get_or pool p 0 < variable_base → get_or (items16 pool) p (sy 0) ≡ sy (get_or pool p 0)
code_sym pool p b = get_or-map item16 pool p 0 ∙ rw (lt-ltb (get_or pool p 0) variable_base b)

pub code_var : (pool : List ℕ) (p : ℕ) → variable_base ≤ get_or pool p 0 → get_or (items16 pool) p (sy 0) ≡ va (get_or pool p 0 - variable_base)
code_var pool p b = get_or-map item16 pool p 0 ∙ rw (le-ltb (get_or pool p 0) variable_base b)

-- the number of an item, a variable's moved into its bank ('a question variable v is written 0x8000 + 32 + v')
unfoldable pub moved : ℕ → ℕ → ℕ
moved bank c = pick (ltb c variable_base) c (c + bank)

pub moved_sym : (bank c : ℕ) → c < variable_base → moved bank c ≡ c
unfolding moved
moved_sym bank c b = rw (lt-ltb c variable_base b)

pub moved_var : (bank c : ℕ) → variable_base ≤ c → moved bank c ≡ c + bank
unfolding moved
moved_var bank c b = rw (le-ltb c variable_base b)

-- a stored term's numbers stay
pub moved_none : (c : ℕ) → moved 0 c ≡ c
moved_none c = go (dec_le variable_base c)
  where
    go : Dec (variable_base ≤ c) → moved 0 c ≡ c
    go (yes v) = moved_var 0 c v ∙ add-zero c
    go (no v) = moved_sym 0 c (omega arith)

pub moved_le : (bank c : ℕ) → c < variable_end → moved bank c < variable_end + bank
moved_le bank c b = go (dec_le variable_base c)
  where
    go : Dec (variable_base ≤ c) → moved bank c < variable_end + bank
    go (yes v) = omega (arith, moved_var bank c v)
    go (no v) = omega (arith, moved_sym bank c (omega arith))

-- the items of the bytes as numbers, the variables' moved into their bank
unfoldable pub codes : ℕ → List ℕ → List ℕ
codes bank t = map (moved bank) (numbers t)

pub length_codes : (bank : ℕ) (t : List ℕ) → length (codes bank t) ≡ length t / 2
unfolding codes numbers
length_codes bank [] = refl
length_codes bank (h ∷ []) = refl
length_codes bank (h ∷ l ∷ r) = omega (arith, length_codes bank r)

pub get_or_codes : (bank : ℕ) (t : List ℕ) (i : ℕ) → i < length t / 2 → get_or (codes bank t) i 0 ≡ moved bank (item_at t i)
unfolding codes numbers
get_or_codes bank [] i b = absurd (omega arith)
get_or_codes bank (h ∷ []) i b = absurd (omega arith)
get_or_codes bank (h ∷ l ∷ r) zero b = refl
get_or_codes bank (h ∷ l ∷ r) (suc i) b =
    let e : 2 * suc i ≡ suc (suc (2 * i)) = omega arith in
    let e' : suc (suc (2 * i)) + 1 ≡ suc (suc (2 * i + 1)) = omega arith in
    rw (e, e') (get_or_codes bank r i (omega arith))

-- the items of the bytes
abbrev pub items : List ℕ → List Item
items t = items16 (codes 0 t)

-- a stored term's numbers are those of the bytes
pub codes_numbers : (t : List ℕ) → codes 0 t ≡ numbers t
unfolding codes numbers
codes_numbers [] = refl
codes_numbers (h ∷ []) = refl
codes_numbers (h ∷ l ∷ r) = rw (moved_none (h * 256 + l), codes_numbers r)

pub length_items : (t : List ℕ) → length (items t) ≡ length t / 2
length_items t = length-map (codes 0 t) item16 ∙ length_codes 0 t

pub codes_at : (t : List ℕ) (i : ℕ) → i < length t / 2 → get_or (codes 0 t) i 0 ≡ item_at t i
codes_at t i b = get_or_codes 0 t i b ∙ moved_none (item_at t i)

pub items_at : (t : List ℕ) (i : ℕ) → i < length t / 2 → get_or (items t) i (sy 0) ≡ item16 (item_at t i)
items_at t i b = get_or-map item16 (codes 0 t) i 0 ∙ ap item16 (codes_at t i b)

pub items_drop : (t : List ℕ) (i : ℕ) → i < length t / 2 → drop i (items t) ≡ item16 (item_at t i) ∷ drop (i + 1) (items t)
items_drop t i b = drop-cons (items t) i (sy 0) (omega (arith, length_items t)) ∙ rw (items_at t i b, add-one i)

-- numbers of items that are the same are the same
pub item16_one : (a b : ℕ) → item16 a ≡ item16 b → a ≡ b
item16_one a b e = sym (number_item a) ∙ ap number e ∙ number_item b

-- the variables moved by n: those of a question are written apart by 32
abbrev pub shift : ℕ → List Item → List Item
shift n [] = []
shift n (sy s ∷ l) = sy s ∷ shift n l
shift n (va x ∷ l) = va (n + x) ∷ shift n l

pub shift_codes : (n : ℕ) (t : List ℕ) → items16 (codes n t) ≡ shift n (items t)
unfolding codes numbers
shift_codes n [] = refl
shift_codes n (h ∷ []) = refl
shift_codes n (h ∷ l ∷ r) = go (h * 256 + l) (dec_le variable_base (h * 256 + l)) (shift_codes n r)
  where
    go : (c : ℕ) → Dec (variable_base ≤ c) → items16 (codes n r) ≡ shift n (items r) → item16 (moved n c) ∷ items16 (codes n r) ≡ shift n (item16 (moved 0 c) ∷ items r)
    go c (yes v) ih =
        let a : variable_base ≤ c + n = omega arith in
        let a₀ : variable_base ≤ c + 0 = omega arith in
        let e : c + n - variable_base ≡ n + (c + 0 - variable_base) = omega arith in
        rw (moved_var n c v, moved_var 0 c v, le-ltb (c + n) variable_base a, le-ltb (c + 0) variable_base a₀, e, ih)
    go c (no v) ih =
        let a : c < variable_base = omega arith in
        rw (moved_sym n c a, moved_sym 0 c a, lt-ltb c variable_base a, ih)

pub shift_terms : (ar : ℕ → ℕ) (n k : ℕ) (l : List Item) → Terms ar k l → Terms ar k (shift n l)
shift_terms ar n zero [] t = t
shift_terms ar n zero (i ∷ l) t = absurd t
shift_terms ar n (suc k) [] t = absurd t
shift_terms ar n (suc k) (sy s ∷ l) t = shift_terms ar n (ar s + k) l t
shift_terms ar n (suc k) (va x ∷ l) t = shift_terms ar n k l t

-- what the unifier needs of a term, and the term check shows (Checked, `fine`). The check shows more, as that each
-- symbol is declared: the exact words are `refusal` and IsTerm
pub record Fine (sig t : List ℕ) : Type 0 where
  pub sized : length sig ≤ 256
  pub even : length t % 2 ≡ 0
  pub short : length t ≤ 64
  pub term : Terms (arity sig) 1 (items t)
  pub named : (i : ℕ) → i < length t / 2 → item_at t i < variable_end
