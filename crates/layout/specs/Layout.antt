-- SCOPE.md, 'Store' ('the tables' sizes are written in docs/'), docs/TABLES.md: how long the lent tables are, and
-- where the signature, the slots in use and the terms stand in them.
use Rattle.std.specs.Prelude.{ℕ, ◌+◌, ◌*◌, ◌/◌, ◌%◌, ◌≤◌, max, List, [], ◌∷◌, ◌++◌, Bool, false, ltb, leb, eqb, length, get_or, set, take, drop, replicate}
use Rattle.std.proofs.lemmas.List.Edits.{sets}
use Rattle.laws.specs.Choice.{pick}
use Rattle.slots.specs.Slots.{has, words8}
use Rattle.laws.specs.Sizes.{bytes_length, label_length, lengths_start, link_length, set_length, slot_count, terms_start}
use Rattle.laws.specs.Sizes.{used_length}

unfoldable pub sets_long : ℕ → ℕ → ℕ → ℕ → Bool
sets_long a b c d = pick (ltb a set_length) false
    (pick (ltb b set_length) false (pick (ltb c set_length) false (leb set_length d)))

-- refusal 1 is given exactly where this is false
unfoldable pub long_enough : ℕ → ℕ → ℕ → ℕ → ℕ → ℕ → ℕ → ℕ → Bool
long_enough b u l k s0 s1 s2 s3 =
    pick (ltb b bytes_length) false
    (pick (ltb u used_length) false
    (pick (ltb l label_length) false (pick (ltb k link_length) false (sets_long s0 s1 s2 s3))))

-- the tables are as long as that
pub record Long (b u l k s0 s1 s2 s3 : ℕ) : Type 0 where
  pub bytes : bytes_length ≤ b
  pub used : used_length ≤ u
  pub labels : label_length ≤ l
  pub links : link_length ≤ k
  pub l0 : set_length ≤ s0
  pub l1 : set_length ≤ s1
  pub l2 : set_length ≤ s2
  pub l3 : set_length ≤ s3

unfoldable pub largest_of : List ℕ → ℕ
largest_of [] = 0
largest_of (x ∷ l) = max x (largest_of l)

-- the bytes of the signature, if they are one
abbrev pub arities : List ℕ → List ℕ
arities b = take (get_or b 0 0 * 256 + get_or b 1 0) (drop 2 b)

-- the signature; on memory that no opening made, none where the bytes are no signature
unfoldable pub signature_of : List ℕ → List ℕ
signature_of b = pick (ltb 256 (get_or b 0 0 * 256 + get_or b 1 0)) [] (pick (ltb 8 (largest_of (arities b))) [] (arities b))

-- the bytes of the term of a slot
unfoldable pub term_of : List ℕ → ℕ → List ℕ
term_of b s = take (get_or b (lengths_start + s) 0 % 65) (drop (terms_start + 64 * s) b)

-- the slots in use
unfoldable pub used_of : List ℕ → List ℕ
used_of u = words8 (λ i. get_or u i 0)

unfoldable pub is_used : List ℕ → ℕ → Bool
is_used u s = pick (ltb s slot_count) (eqb (has (used_of u) s) 1) false

-- a list with zeros in its first n places
unfoldable pub blank : ℕ → List ℕ → List ℕ
blank n l = replicate n 0 ++ drop n l

-- the table of bytes after an opening with a signature
unfoldable pub signed : List ℕ → List ℕ → List ℕ
signed b sig = sets (set (set (blank bytes_length b) 0 (length sig / 256)) 1 (length sig % 256)) 2 sig

-- the table of bytes with a term in a slot
unfoldable pub with_term : List ℕ → ℕ → List ℕ → List ℕ
with_term b s t = sets (set b (lengths_start + s) (length t)) (terms_start + 64 * s) t
