-- The slots of a set in order: how many there are, and how a listing goes from one to the next.
use Prim.Native.Nat.{ℕ, zero, suc, ◌+◌, ◌-◌, ◌*◌, ◌/◌, ◌%◌, ◌^◌, ◌≤◌, ◌<◌}
use mathlib.Core.Path.{◌≡◌, refl, sym, ap, ◌∙◌}
use mathlib.Core.List.{List, [], ◌∷◌}
use native.Mathlib.Nat.{pow-suc, div-one}
use native.Mathlib.Numerals.{add-one}
use native.Mathlib.Omega.{arith}
use native.Mathlib.Decide.{ℕ_discrete, dec_lt}
use borrow.Author.Tests.{eq-eqb, ne_eqb}
use borrow.Rule.Slice.PartMut.{put_mid}
use Rattle.std.proofs.lemmas.List.Edits.{sets-eq}
use Rattle.std.proofs.lemmas.Slice.{put_mid-paste}
use Rattle.std.proofs.Common.{inl}
use lib.Count.{ones, ones_step}
use lib.Dec.{eqb}
use lib.ListN.{length, get_or, set, take, drop, length-drop}
use lib.Pow.{shr-shr}
use lib.Seq.{sets, drop-drop, get_or-drop, take_all}
use Rattle.std.specs.List.{sum_by}
use Rattle.std.proofs.lemmas.List.Sums.{sum_by_more}
use Rattle.laws.specs.Members.{nodup_bound}
use Rattle.slots.specs.Sets.{members_once, members_has, from_has}
use Rattle.laws.specs.Choice.{pick}
use Rattle.laws.proofs.Lists.{front_turn, front_end}
use Rattle.std.proofs.lemmas.List.FromFn.{fill_by_all}
use Rattle.slots.specs.Slots.{has, words8, members_from, members, listed, Next, next_above}
use Rattle.laws.specs.Sizes.{slot_count}

-- eight words that are one by one those of another list
pub eight_same : (xs ws : List ℕ) → length xs ≡ 8 → length ws ≡ 8 → get_or xs 0 0 ≡ get_or ws 0 0 → get_or xs 1 0 ≡ get_or ws 1 0
    → get_or xs 2 0 ≡ get_or ws 2 0 → get_or xs 3 0 ≡ get_or ws 3 0 → get_or xs 4 0 ≡ get_or ws 4 0
    → get_or xs 5 0 ≡ get_or ws 5 0 → get_or xs 6 0 ≡ get_or ws 6 0 → get_or xs 7 0 ≡ get_or ws 7 0 → xs ≡ ws
unfolding words8
eight_same xs ws a b e0 e1 e2 e3 e4 e5 e6 e7 =
    let x : xs ≡ words8 (λ i. get_or xs i 0) = fill_by_all (λ i. get_or xs i 0) xs 8 0 a (λ k l. refl) in
    let w : ws ≡ words8 (λ i. get_or ws i 0) = fill_by_all (λ i. get_or ws i 0) ws 8 0 b (λ k l. refl) in
    let m : words8 (λ i. get_or xs i 0) ≡ words8 (λ i. get_or ws i 0) = rw (e0, e1, e2, e3, e4, e5, e6, e7) refl in
    x ∙ m ∙ sym w

-- two bytes, each for an equal one
pub pair_is : (a b c d : ℕ) → a ≡ c → b ≡ d → a ∷ b ∷ [] ≡ c ∷ d ∷ []
pair_is a b c d e f = rw (e, f) refl

-- the number of ones among the digits of a word
unfoldable pub digits : ℕ → ℕ → ℕ
digits zero w = 0
digits (suc k) w = w % 2 + digits k (w / 2)

pub ones_digits : (k w : ℕ) → w < 2 ^ k → ones w ≡ digits k w
unfolding digits
ones_digits zero w h = let e : w ≡ 0 = omega arith in rw e (unfold ones in refl)
ones_digits (suc k) w h = let g = rw pow-suc at h in rw ones_step (ap (λ (x : ℕ). w % 2 + x) (ones_digits k (w / 2) (omega arith)))

-- how many of the k slots from `from` on are in the set
unfoldable pub tally : List ℕ → ℕ → ℕ → ℕ
tally ws from zero = 0
tally ws from (suc k) = has ws from + tally ws (suc from) k

tally_add : (ws : List ℕ) (from a b : ℕ) → tally ws from (a + b) ≡ tally ws from a + tally ws (from + a) b
unfolding tally
tally_add ws from zero b = let e : 0 + b ≡ b = omega arith in let f : from + 0 ≡ from = omega arith in rw (e, f) (omega arith)
tally_add ws from (suc a) b =
    let e : suc a + b ≡ suc (a + b) = omega arith in
    let f : from + suc a ≡ suc from + a = omega arith in
    rw (e, f) (omega (arith, tally_add ws (suc from) a b))

-- one word of the set
tally_word : (ws : List ℕ) (i j k : ℕ) → j + k ≤ 64 → tally ws (i * 64 + j) k ≡ digits k (get_or ws i 0 / 2 ^ j)
unfolding tally digits has
tally_word ws i j zero h = refl
tally_word ws i j (suc k) h =
    let a : (i * 64 + j) / 64 ≡ i = omega arith in
    let b : (i * 64 + j) % 64 ≡ j = omega arith in
    let d : suc (i * 64 + j) ≡ i * 64 + suc j = omega arith in
    let e : get_or ws i 0 / 2 ^ suc j ≡ get_or ws i 0 / 2 ^ j / 2 ^ 1 = rw (← add-one j) (sym (shr-shr (get_or ws i 0) j 1)) in
    rw (a, b, d, tally_word ws i (suc j) k (omega arith), e)

tally_ones : (ws : List ℕ) (i : ℕ) → get_or ws i 0 < 2 ^ 64 → tally ws 0 (64 * (i + 1)) ≡ tally ws 0 (64 * i) + ones (get_or ws i 0)
tally_ones ws i h =
    let e : 64 * (i + 1) ≡ 64 * i + 64 = omega arith in
    let f : 0 + 64 * i ≡ i * 64 + 0 = omega arith in
    let g : get_or ws i 0 / 2 ^ 0 ≡ get_or ws i 0 = div-one (get_or ws i 0) in
    rw e (tally_add ws 0 (64 * i) 64 ∙ ap (λ (x : ℕ). tally ws 0 (64 * i) + x)
    (ap (λ (x : ℕ). tally ws x 64) f ∙ tally_word ws i 0 64 (omega arith) ∙ ap (digits 64) g ∙ sym (ones_digits 64 (get_or ws i 0) h)))

members_tally : (ws : List ℕ) (from k : ℕ) → length (members_from ws from k) ≡ tally ws from k
unfolding members_from tally
members_tally ws from zero = refl
members_tally ws from (suc k) = go (ℕ_discrete (has ws from) 1) (members_tally ws (suc from) k)
  where
    less : has ws from < 2
    less = unfold has in omega arith

    go : Dec (has ws from ≡ 1) → length (members_from ws (suc from) k) ≡ tally ws (suc from) k
        → length (pick (eqb (has ws from) 1) (from ∷ members_from ws (suc from) k) (members_from ws (suc from) k)) ≡ has ws from + tally ws (suc from) k
    go (yes e) ih = rw (eq-eqb (has ws from) 1 e, e) (omega arith)
    go (no n) ih = let z : has ws from ≡ 0 = omega (arith, less) in rw (ne_eqb (has ws from) 1 n, z) (omega arith)

-- the first i words have the slots below 64 * i
words_tally : (ws : List ℕ) (i : ℕ) → i ≤ length ws → ((k : ℕ) → get_or ws k 0 < 2 ^ 64) → sum_by ones (take i ws) ≡ tally ws 0 (64 * i)
unfolding tally
words_tally ws zero h w = refl
words_tally ws (suc i) h w =
    let e : suc i ≡ i + 1 = omega arith in
    rw (e, sum_by_more ones ws i 0 (omega arith), tally_ones ws i (w i), words_tally ws i (omega arith) w)

pub size_words : (ws : List ℕ) → length ws ≡ 8 → ((k : ℕ) → get_or ws k 0 < 2 ^ 64) → sum_by ones ws ≡ length (members ws)
unfolding members
size_words ws h w =
    ap (sum_by ones) (sym (take_all 8 ws (omega arith))) ∙ words_tally ws 8 (omega arith) w ∙ sym (members_tally ws 0 slot_count)

-- no more than all slots
pub size_most : (ws : List ℕ) → length (members ws) ≤ slot_count
size_most ws = nodup_bound slot_count (members ws) (members_once ws) (λ k i. (members_has ws k i).0)

-- no slot of the set is passed over
skip : (ws : List ℕ) (d from : ℕ) → from + d ≤ slot_count → ((x : ℕ) → from ≤ x → x < from + d → has ws x ≡ 0)
    → members_from ws from (slot_count - from) ≡ members_from ws (from + d) (slot_count - (from + d))
unfolding members_from
skip ws zero from h n = let e : from + 0 ≡ from = omega arith in rw e
skip ws (suc d) from h n =
    let e : slot_count - from ≡ suc (slot_count - suc from) = omega arith in
    let f : from + suc d ≡ suc from + d = omega arith in
    let z : has ws from ≡ 1 → ⊥ = λ q. let o = n from (omega arith) (omega arith) in omega (arith, q, o) in
    rw (e, ne_eqb (has ws from) 1 z, f) (skip ws d (suc from) (omega arith) (λ x a b. n x (omega arith) (omega arith)))

members_next : (ws : List ℕ) (from r : ℕ) → from ≤ slot_count → Next ws from r → members_from ws from (slot_count - from) ≡ members_from ws r (slot_count - r)
members_next ws from r h n =
    let a = next_above ws from r n h in
    let e : from + (r - from) ≡ r = omega (arith, a) in
    rw e at (skip ws (r - from) from (omega (arith, a, n.most)) (λ x p q. n.passed x p (omega (arith, a, q))))

members_here : (ws : List ℕ) (r : ℕ) → r < slot_count → has ws r ≡ 1 → members_from ws r (slot_count - r) ≡ r ∷ members_from ws (r + 1) (slot_count - (r + 1))
unfolding members_from
members_here ws r h e =
    let f : slot_count - r ≡ suc (slot_count - (r + 1)) = omega arith in
    rw (f, eq-eqb (has ws r) 1 e, add-one r)

members_done : (ws : List ℕ) (r : ℕ) → slot_count ≤ r → members_from ws r (slot_count - r) ≡ []
unfolding members_from
members_done ws r h = let e : slot_count - r ≡ 0 = omega arith in rw e

-- a step of a walk over a set: the slot that comes next is the first that is left, and where there is none, none is
pub left_some : (ws : List ℕ) (from r : ℕ) → r < slot_count → Next ws from r
    → members_from ws from (slot_count - from) ≡ r ∷ members_from ws (r + 1) (slot_count - (r + 1))
left_some ws from r h n = members_next ws from r (omega (arith, n.above h)) n ∙ members_here ws r h (n.member h)

pub left_none : (ws : List ℕ) (from : ℕ) → Next ws from slot_count → members_from ws from (slot_count - from) ≡ []
left_none ws from n = go (dec_lt from slot_count)
  where
    go : Dec (from < slot_count) → members_from ws from (slot_count - from) ≡ []
    go (yes l) = members_next ws from slot_count (omega arith) n ∙ members_done ws slot_count (omega arith)
    go (no l) = members_done ws from (omega arith)

pub length_listed : (ss : List ℕ) → length (listed ss) ≡ 2 * length ss
unfolding listed
length_listed [] = refl
length_listed (s ∷ ss) = omega (arith, length_listed ss)

-- what comes next in a walk is a slot
pub left_slot : (ws : List ℕ) (from slot : ℕ) (later : List ℕ) → members_from ws from (slot_count - from) ≡ slot ∷ later → slot < slot_count
left_slot ws from slot later e = go (from_has ws from (slot_count - from) slot (rw e (inl refl))) (dec_lt from slot_count)
  where
    go : (slot < from + (slot_count - from)) × (has ws slot ≡ 1) → Dec (from < slot_count) → slot < slot_count
    go h (yes l) = let q = h.0 in omega (arith, q)
    go h (no l) = let z = members_done ws from (omega arith) in let d = ap length (sym e ∙ z) in absurd (omega (arith, d))

-- a loop that lists the set ws into out: 2 * i bytes are written, and the slots of `now` are to come
module _ (ws out out₀ : List ℕ) (i : ℕ) (now : List ℕ) (rest : drop (2 * i) (listed (members ws)) ≡ listed now)
    (filled : out ≡ sets out₀ 0 (take (2 * i) (listed (members ws)))) where
  pub list_end : now ≡ [] → out ≡ sets out₀ 0 (listed (members ws))
  unfolding listed
  list_end e = front_end out out₀ (listed (members ws)) (2 * i) filled (go (rest ∙ ap listed e))
    where
      go : drop (2 * i) (listed (members ws)) ≡ [] → length (listed (members ws)) ≤ 2 * i
      go e = let d = length-drop (2 * i) (listed (members ws)) in let f = ap length e in omega (arith, d, f)

  module _ (slot : ℕ) (later : List ℕ) (head : now ≡ slot ∷ later) where
    ahead : drop (2 * i) (listed (members ws)) ≡ slot / 256 ∷ slot % 256 ∷ listed later
    unfolding listed
    ahead = rest ∙ ap listed head

    pub list_room : 2 * i + 2 ≤ 2 * length (members ws)
    list_room =
        let e = ap length ahead in
        omega (arith, e, length-drop (2 * i) (listed (members ws)), length_listed (members ws))

    first : get_or (listed (members ws)) (2 * i) 0 ≡ slot / 256
    first =
        let z : 2 * i + 0 ≡ 2 * i = omega arith in
        ap (λ (k : ℕ). get_or (listed (members ws)) k 0) (sym z) ∙ sym (get_or-drop (2 * i) (listed (members ws)) 0 0) ∙ ap (λ (r : List ℕ). get_or r 0 0) ahead

    second : get_or (listed (members ws)) (2 * i + 1) 0 ≡ slot % 256
    second = sym (get_or-drop (2 * i) (listed (members ws)) 1 0) ∙ ap (λ (r : List ℕ). get_or r 1 0) ahead

    pub list_rest : drop (2 * (i + 1)) (listed (members ws)) ≡ listed later
    list_rest =
        let e : 2 * (i + 1) ≡ 2 * i + 2 = omega arith in
        rw e (sym (drop-drop 2 (2 * i) (listed (members ws))) ∙ ap (drop 2) ahead)

    pub list_turn : (k : ℕ) (two : List ℕ) → k ≡ 2 → two ≡ slot / 256 ∷ slot % 256 ∷ [] → 2 * length (members ws) ≤ length out
        → put_mid (2 * i) k out two ≡ sets out₀ 0 (take (2 * (i + 1)) (listed (members ws)))
    list_turn k two e f room =
        let here = list_room in
        let long = length_listed (members ws) in
        let pair : List ℕ = slot / 256 ∷ slot % 256 ∷ [] in
        let put = put_mid-paste (2 * i) k out two pair 2 f (sym e) refl in
        let at = sets-eq pair out (2 * i) (omega (arith, here, room)) in
        let one = front_turn out out₀ (listed (members ws)) (2 * i) (slot / 256) filled (omega (arith, here, long)) (sym first) in
        let both = front_turn (set out (2 * i) (slot / 256)) out₀ (listed (members ws)) (2 * i + 1) (slot % 256) one (omega (arith, here, long)) (sym second) in
        let z : 2 * i + 1 + 1 ≡ 2 * (i + 1) = omega arith in
        put ∙ sym at ∙ (rw add-one at (rw z at both))
