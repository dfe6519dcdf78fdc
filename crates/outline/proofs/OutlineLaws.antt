use Prim.Native.Nat.{ℕ, zero, suc, ◌+◌, ◌-◌, ◌*◌, ◌≤◌, ◌<◌}
use mathlib.Core.Path.{◌≡◌, refl, sym, ap, ◌∙◌}
use mathlib.Core.List.{List, [], ◌∷◌, ◌++◌, append_assoc, append-nil}
use borrow.Rule.Slice.PartMut.{put_mid}
use lib.ListN.{length, get_or, set, take, drop, drop_of_length-le, length-drop}
use lib.Seq.{drop-cons, drop-drop, drop-set-lt, take_all, length-take-le, take-suc-set}
use native.Mathlib.Numerals.{add-one}
use native.Mathlib.Omega.{arith}
use Rattle.std.proofs.lemmas.List.{drop_at}
use Rattle.laws.proofs.Lists.{fill_turn}
use Rattle.paths.specs.Ups.{kids, ups_f}

-- the part of the stack that takes the ups of a arguments
pub pushed_part : (st : List ℕ) (top a : ℕ) → a ≤ top → top ≤ length st → length (take (top - (top - a)) (drop (top - a) st)) ≡ a
pushed_part st top a h l = length-take-le _ _ (omega (arith, length-drop (top - a) st)) ∙ omega arith

length_kids : (n i a : ℕ) → length (kids n i a) ≡ a
unfolding kids
length_kids n i zero = refl
length_kids n i (suc a) = ap suc (length_kids n (suc i) a)

kid_at : (n i a j : ℕ) → j < a → n * 8 + (i + j) + 1 ≡ get_or (kids n i a) j 0
unfolding kids
kid_at n i zero j h = absurd (omega arith)
kid_at n i (suc a) zero h = omega arith
kid_at n i (suc a) (suc j) h = let e : n * 8 + (i + suc j) + 1 ≡ n * 8 + (suc i + j) + 1 = omega arith in e ∙ kid_at n (suc i) a j (omega arith)

-- one more of them
pub pushed_turn : (us : List ℕ) (n j a v : ℕ) → length us ≡ a → j < a → v ≡ n * 8 + j + 1 → take j us ≡ take j (kids n 0 a) → take (j + 1) (set us j v) ≡ take (j + 1) (kids n 0 a)
pushed_turn us n j a v l h e p =
    let k = length_kids n 0 a in
    let w : v ≡ n * 8 + (0 + j) + 1 = omega arith in
    fill_turn us (kids n 0 a) j v (omega arith) (omega arith) (w ∙ kid_at n 0 a j h) p

-- all of them, and the stack with them in front
pub pushed_end : (st us : List ℕ) (n top a j : ℕ) → a ≤ top → top ≤ length st → length us ≡ a → a ≤ j → take j us ≡ take j (kids n 0 a)
    → drop (top - a) (put_mid (top - a) (top - (top - a)) st us) ≡ kids n 0 a ++ drop top st
pushed_end st us n top a j h l m k p =
    let q : us ≡ kids n 0 a = sym (take_all j us (omega arith)) ∙ p ∙ take_all j (kids n 0 a) (omega (arith, length_kids n 0 a)) in
    let z : top - a + (top - (top - a)) ≡ top = omega arith in
    let d : drop (top - (top - a)) (drop (top - a) st) ≡ drop top st = drop-drop (top - (top - a)) (top - a) st ∙ ap (λ (i : ℕ). drop i st) z in
    drop_at (take (top - a) st) _ (top - a) (length-take-le (top - a) st (omega arith)) ∙ rw (q, d)

pub ups_turn : (ar : ℕ → ℕ) (out st st' items : List ℕ) (sp sp' i u a : ℕ) → i < length items → sp < length st → i < length out → u ≡ get_or st sp 0 → a ≡ ar (get_or items i 0) → drop sp' st' ≡ kids i 0 a ++ drop (sp + 1) st
    → take i out ++ ups_f ar i (drop sp st) (drop i items) ≡ take (i + 1) (set out i u) ++ ups_f ar (i + 1) (drop sp' st') (drop (i + 1) items)
unfolding ups_f
ups_turn ar out st st' items sp sp' i u a l m o e f d =
    rw (d, add-one, add-one, drop-cons st sp 0 m, drop-cons items i 0 l, take-suc-set out i u o, append_assoc, e, f)

pub ups_stop : (ar : ℕ → ℕ) (out st items : List ℕ) (sp i : ℕ) → length st ≤ sp → take i out ++ ups_f ar i (drop sp st) (drop i items) ≡ take i out
unfolding ups_f
ups_stop ar out st items sp i h = rw (drop_of_length-le st h) (go (drop i items))
  where
    go : (l : List ℕ) → take i out ++ ups_f ar i [] l ≡ take i out
    go [] = append-nil (take i out)
    go (x ∷ l) = append-nil (take i out)

pub ups_done : (ar : ℕ → ℕ) (out st items : List ℕ) (sp i : ℕ) → length items ≤ i → take i out ++ ups_f ar i (drop sp st) (drop i items) ≡ take i out
unfolding ups_f
ups_done ar out st items sp i h = rw (drop_of_length-le items h, append-nil)

-- what is not written yet is as it was
pub kept_turn : (out out₀ : List ℕ) (i v : ℕ) → drop i out ≡ drop i out₀ → drop (i + 1) (set out i v) ≡ drop (i + 1) out₀
kept_turn out out₀ i v e = drop-set-lt (i + 1) out i v (omega arith) ∙ sym (drop-drop 1 i out) ∙ ap (drop 1) e ∙ drop-drop 1 i out₀

-- each of the list is at most b
abbrev pub Below : ℕ → List ℕ → Type 0
Below b [] = Unit {0}
Below b (x ∷ l) = (x ≤ b) × Below b l

below_more : (b d : ℕ) (l : List ℕ) → b ≤ d → Below b l → Below d l
below_more b d [] h p = tt
below_more b d (x ∷ l) h p = ((let q = p.0 in omega arith), below_more b d l h p.1)

below_append : (b : ℕ) (l r : List ℕ) → Below b l → Below b r → Below b (l ++ r)
below_append b [] r p q = q
below_append b (x ∷ l) r p q = (p.0, below_append b l r p.1 q)

below_kids : (n i a : ℕ) → i + a ≤ 8 → Below (8 * (n + 1)) (kids n i a)
unfolding kids
below_kids n i zero h = tt
below_kids n i (suc a) h = (omega arith, below_kids n (suc i) a (omega arith))

-- what the stack holds before item i is at most 8 * i
pub below_turn : (i sp a : ℕ) (stack next : List ℕ) → sp < length stack → a ≤ 8 → Below (8 * i) (drop sp stack) → next ≡ kids i 0 a ++ drop (sp + 1) stack → Below (8 * (i + 1)) next
below_turn i sp a stack next h l p e =
    let q = rw (drop-cons stack sp 0 h) at p in
    rw (e, add-one sp) (below_append (8 * (i + 1)) (kids i 0 a) (drop (suc sp) stack) (below_kids i 0 a (omega arith)) (below_more (8 * i) (8 * (i + 1)) (drop (suc sp) stack) (omega arith) q.1))
