-- SCOPE.md, 'Store' and 'Paths and keys': a set of slots as eight words, slot s in word s / 64 at weight 2^(s mod 64).
use Rattle.std.specs.Prelude.{ℕ, zero, suc, ◌-◌, ◌*◌, ◌/◌, ◌%◌, ◌^◌, ◌≤◌, ◌<◌, ◌≡◌, List, [], ◌∷◌, Bool, length, get_or, set, eqb, ltb}
use Rattle.std.proofs.lemmas.List.Edits.{sets}
use Rattle.std.proofs.Common.{lt-ltb, le-ltb, arith}
use Rattle.std.specs.Int.Bits.{bit_and, bit_or, bit_xor}
use Rattle.std.proofs.Math.Decide.{dec_lt}
use Rattle.laws.specs.Choice.{pick}
use Rattle.laws.specs.Digits.{bit}
use Rattle.laws.specs.Sizes.{slot_count}

-- 1 where the slot s is in the set, else 0
unfoldable pub has : List ℕ → ℕ → ℕ
has ws s = bit (get_or ws (s / 64) 0) (s % 64)

unfoldable pub inserted : List ℕ → ℕ → List ℕ
inserted ws s = set ws (s / 64) (bit_or (get_or ws (s / 64) 0) (2 ^ (s % 64)))

unfoldable pub removed : List ℕ → ℕ → List ℕ
removed ws s = let w = get_or ws (s / 64) 0 in set ws (s / 64) (bit_xor w (bit_and w (2 ^ (s % 64))))

unfoldable pub both : List ℕ → List ℕ → List ℕ
both [] vs = []
both (u ∷ us) [] = []
both (u ∷ us) (v ∷ vs) = bit_and u v ∷ both us vs

-- eight words, each by its number
unfoldable pub words8 : (ℕ → ℕ) → List ℕ
words8 f = f 0 ∷ f 1 ∷ f 2 ∷ f 3 ∷ f 4 ∷ f 5 ∷ f 6 ∷ f 7 ∷ []

unfoldable pub either : List ℕ → List ℕ → List ℕ
either us vs = words8 (λ i. bit_or (get_or us i 0) (get_or vs i 0))

-- the slots that are not in the set
unfoldable pub others : List ℕ → List ℕ
others us = words8 (λ i. 2 ^ 64 - 1 - get_or us i 0)

-- has the set no slot
unfoldable pub none_in : List ℕ → Bool
none_in us =
    eqb
    (bit_or
    (bit_or
    (bit_or (bit_or (bit_or (bit_or (bit_or (get_or us 0 0) (get_or us 1 0)) (get_or us 2 0)) (get_or us 3 0)) (get_or us 4 0))
    (get_or us 5 0)) (get_or us 6 0)) (get_or us 7 0)) 0

-- r is the least slot of the set at or after from, or 512 where there is none
pub record Next (ws : List ℕ) (from r : ℕ) : Type 0 where
  pub above : r < slot_count → from ≤ r
  pub most : r ≤ slot_count
  pub member : r < slot_count → has ws r ≡ 1
  pub passed : (x : ℕ) → from ≤ x → x < r → has ws x ≡ 0

pub next_above : (ws : List ℕ) (from r : ℕ) → Next ws from r → from ≤ slot_count → from ≤ r
next_above ws from r n h = go (dec_lt r slot_count)
  where
    go : Dec (r < slot_count) → from ≤ r
    go (yes l) = n.above l
    go (no l) = omega arith

-- it leaves one number
pub next_one : (ws : List ℕ) (from a b : ℕ) → Next ws from a → Next ws from b → a ≡ b
next_one ws from a b h k = go (dec_lt a b) (dec_lt b a)
  where
    below : (r q : ℕ) → Next ws from r → Next ws from q → r < q → ⊥
    below r q m n l =
        let one = m.member (omega (arith, n.most)) in
        let out = n.passed r (m.above (omega (arith, n.most))) l in
        omega (arith, one, out)

    go : Dec (a < b) → Dec (b < a) → a ≡ b
    go (yes l) d = absurd (below a b h k l)
    go (no n) (yes l) = absurd (below b a k h l)
    go (no n) (no m) = omega arith

-- the slots of the set among the k from `from` on, ascending
unfoldable pub members_from : List ℕ → ℕ → ℕ → List ℕ
members_from ws from zero = []
members_from ws from (suc k) = pick (eqb (has ws from) 1) (from ∷ members_from ws (suc from) k)
    (members_from ws (suc from) k)

-- the slots of the set, ascending
unfoldable pub members : List ℕ → List ℕ
members ws = members_from ws 0 slot_count

-- a listing: two bytes a slot, high byte first (SCOPE.md, 'Numbers of refusal')
unfoldable pub listed : List ℕ → List ℕ
listed [] = []
listed (s ∷ ss) = s / 256 ∷ s % 256 ∷ listed ss

-- a buffer after the listing of a set: as it was where that does not fit
unfoldable pub listed_into : List ℕ → List ℕ → List ℕ
listed_into ws out = pick (ltb (length out) (2 * length (members ws))) out (sets out 0 (listed (members ws)))

pub into_none : (ws out : List ℕ) → length out < 2 * length (members ws) → listed_into ws out ≡ out
unfolding listed_into
into_none ws out h = rw (lt-ltb (length out) (2 * length (members ws)) h)

pub into_all : (ws out : List ℕ) → 2 * length (members ws) ≤ length out → listed_into ws out ≡ sets out 0 (listed (members ws))
unfolding listed_into
into_all ws out h = rw (le-ltb (length out) (2 * length (members ws)) h)
