-- Laws of lists and of parts of lists.
use Prim.Native.Nat.{ℕ, zero, suc, ◌+◌, ◌-◌, ◌≤◌, ◌<◌}
use mathlib.Core.Path.{◌≡◌, refl, ap, ◌∙◌}
use mathlib.Core.List.{List, [], ◌∷◌, ◌++◌, append-nil}
use native.Mathlib.Nat.{add-zero}
use native.Mathlib.Numerals.{add-one}
use native.Mathlib.Omega.{arith}
use lib.ListN.{length, get_or, set, take, drop, length-drop, drop_of_length-le}
use lib.Seq.{sets, take_all, take-suc, take-suc-set}
use borrow.Rule.Slice.PartMut.{put_mid}

-- a tail lent as a part is the tail
pub tail_part : (t : List ℕ) (k : ℕ) → take (length t - k) (drop k t) ≡ drop k t
tail_part t k = take_all (length t - k) (drop k t) (simp length-drop (omega arith))

-- a lent tail that came back
pub tail_back : (a : ℕ) (xs ys : List ℕ) → put_mid a (length xs - a) xs ys ≡ take a xs ++ ys
tail_back a xs ys =
    let e : drop (length xs - a) (drop a xs) ≡ [] = drop_of_length-le (drop a xs) {i = length xs - a} (simp length-drop (omega arith)) in
    rw (e, append-nil)

-- a turn of a loop that writes B into a list from the front
pub fill_turn : (out B : List ℕ) (i v : ℕ) → length out ≡ length B → i < length B → v ≡ get_or B i 0 → take i out ≡ take i B → take (i + 1) (set out i v) ≡ take (i + 1) B
fill_turn out B i v l h e p =
    let g : i < length out = omega arith in
    rw (add-one, take-suc-set out i v g, take-suc B i 0 h, p, e)

-- writing the first i + 1 of a list is writing the first i, and one more
pub sets_turn : (l : List ℕ) (at i : ℕ) (vs : List ℕ) → i < length vs → set (sets l at (take i vs)) (at + i) (get_or vs i 0) ≡ sets l at (take (i + 1) vs)
sets_turn l at i [] h = absurd (omega arith)
sets_turn l at zero (v ∷ vs) h = rw add-zero
sets_turn l at (suc i) (v ∷ vs) h =
    let e : at + suc i ≡ suc at + i = omega arith in
    let f : suc i + 1 ≡ suc (i + 1) = omega arith in
    rw (e, f) (sets_turn (set l at v) (suc at) i vs (omega arith))

-- the same from the front of the list, as a loop meets it
pub front_turn : (out out₀ vs : List ℕ) (i v : ℕ) → out ≡ sets out₀ 0 (take i vs) → i < length vs → v ≡ get_or vs i 0 → set out i v ≡ sets out₀ 0 (take (i + 1) vs)
front_turn out out₀ vs i v e h f =
    let z : 0 + i ≡ i = omega arith in
    rw (e, f) (rw z at (sets_turn out₀ 0 i vs h))

pub front_end : (out out₀ vs : List ℕ) (i : ℕ) → out ≡ sets out₀ 0 (take i vs) → length vs ≤ i → out ≡ sets out₀ 0 vs
front_end out out₀ vs i e h = e ∙ ap (sets out₀ 0) (take_all i vs h)

pub front_start : (out vs : List ℕ) → out ≡ sets out 0 (take 0 vs)
front_start out [] = refl
front_start out (v ∷ vs) = refl

pub sets_start : (out : List ℕ) (at : ℕ) (vs : List ℕ) → out ≡ sets out at (take 0 vs)
sets_start out at [] = refl
sets_start out at (v ∷ vs) = refl

-- the rest of a part is a part
part_tail : (s : List ℕ) (k n : ℕ) → k ≤ n → take (n - k) (drop k s) ≡ drop k (take n s)
part_tail s zero n h = let e : n - 0 ≡ n = omega arith in rw e
part_tail [] (suc k) zero h = absurd (omega arith)
part_tail [] (suc k) (suc n) h = let e : (suc n) - (suc k) ≡ n - k = omega arith in rw e (go (n - k))
  where
    go : (m : ℕ) → ◌≡◌ {A = List ℕ} (take m []) []
    go zero = refl
    go (suc m) = refl
part_tail (x ∷ s) (suc k) zero h = absurd (omega arith)
part_tail (x ∷ s) (suc k) (suc n) h = let e : (suc n) - (suc k) ≡ n - k = omega arith in rw e (part_tail s k n (omega arith))

drop_twice : (s : List ℕ) (i k : ℕ) → drop (i + k) s ≡ drop k (drop i s)
drop_twice s zero k = let e : 0 + k ≡ k = omega arith in rw e
drop_twice [] (suc i) zero = let e : (suc i) + 0 ≡ suc i = omega arith in rw e
drop_twice [] (suc i) (suc k) = let e : (suc i) + (suc k) ≡ suc (i + suc k) = omega arith in rw e
drop_twice (x ∷ s) (suc i) k = let e : (suc i) + k ≡ suc (i + k) = omega arith in rw e (drop_twice s i k)

pub part_rest : (s : List ℕ) (start k n : ℕ) → k ≤ n → take (n - k) (drop (start + k) s) ≡ drop k (take n (drop start s))
part_rest s start k n h = rw (drop_twice s start k) (part_tail (drop start s) k n h)
