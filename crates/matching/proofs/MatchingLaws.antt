-- Laws of a term's items and their bytes, of the binding table, of a flag's number, and of a step.
use mathlib.Core.Path.{◌≡◌, refl, sym, ap, ◌∙◌}
use mathlib.Core.Bool.{Bool, true, false, not}
use mathlib.Core.List.{List}
use Prim.Native.Nat.{ℕ, zero, suc, ◌+◌, ◌-◌, ◌*◌, ◌/◌, ◌%◌, ◌≤◌, ◌<◌}
use native.Mathlib.Decide.{ℕ_discrete}
use native.Mathlib.Omega.{arith}
use lib.Dec.{eqb}
use lib.ListN.{length, get_or, take, drop, replicate, length-drop}
use lib.Pointwise.{pointwise, bytes_decides}
use lib.Seq.{ext_get_or, get_or-take, get_or-drop, length-take-le}
use Rattle.theory.specs.Flat.{Item, sy}
use Rattle.theory.specs.Items.{items, item16, item16_one, items_at, length_items}
use Rattle.theory.specs.Relations.{Decided}
use Rattle.terms.specs.Terms.{item_at}
use Rattle.matching.specs.Steps.{Stepped}
use Rattle.std.specs.Bool.{then_some}
use Rattle.std.specs.Prelude.{Option, Some, None}

-- n items of t from a on and from b on, by their bytes
module _ (t : List ℕ) (a b n : ℕ) (la : a + n ≤ length t / 2) (lb : b + n ≤ length t / 2) where
  abbrev bytes : ℕ → List ℕ
  bytes k = take (2 * (k + n) - 2 * k) (drop (2 * k) t)

  abbrev part : ℕ → List Item
  part k = take n (drop k (items t))

  length_bytes : (k : ℕ) → k + n ≤ length t / 2 → length (bytes k) ≡ 2 * n
  length_bytes k h = length-take-le (2 * (k + n) - 2 * k) (drop (2 * k) t) (omega (arith, length-drop (2 * k) t)) ∙ omega arith

  length_part : (k : ℕ) → k + n ≤ length t / 2 → length (part k) ≡ n
  length_part k h = length-take-le n (drop k (items t)) (omega (arith, length-drop k (items t), length_items t))

  byte : (k j : ℕ) → j < 2 * n → get_or (bytes k) j 0 ≡ get_or t (2 * k + j) 0
  byte k j l = get_or-take (2 * (k + n) - 2 * k) (drop (2 * k) t) j 0 (omega arith) ∙ get_or-drop (2 * k) t j 0

  item : (k i : ℕ) → k + n ≤ length t / 2 → i < n → get_or (part k) i (sy 0) ≡ item16 (item_at t (k + i))
  item k i h l = get_or-take n (drop k (items t)) i (sy 0) l ∙ get_or-drop k (items t) i (sy 0) ∙ items_at t (k + i) (omega arith)

  same_part : bytes a ≡ bytes b → part a ≡ part b
  same_part e = ext_get_or (sy 0) (part a) (part b) (length_part a la ∙ sym (length_part b lb)) (λ i l. at i (omega (arith, length_part a la)))
    where
      byte_at : (j : ℕ) → j < 2 * n → get_or t (2 * a + j) 0 ≡ get_or t (2 * b + j) 0
      byte_at j l = sym (byte a j l) ∙ ap (λ (r : List ℕ). get_or r j 0) e ∙ byte b j l

      number : (i : ℕ) → i < n → item_at t (a + i) ≡ item_at t (b + i)
      number i l =
          let p : 2 * (a + i) ≡ 2 * a + 2 * i = omega arith in
          let q : 2 * (b + i) ≡ 2 * b + 2 * i = omega arith in
          let p' : 2 * (a + i) + 1 ≡ 2 * a + (2 * i + 1) = omega arith in
          let q' : 2 * (b + i) + 1 ≡ 2 * b + (2 * i + 1) = omega arith in
          rw (p', q', p, q, byte_at (2 * i) (omega arith), byte_at (2 * i + 1) (omega arith)) refl

      at : (i : ℕ) → i < n → get_or (part a) i (sy 0) ≡ get_or (part b) i (sy 0)
      at i l = item a i la l ∙ ap item16 (number i l) ∙ sym (item b i lb l)

  same_bytes : ((i : ℕ) → get_or t i 0 < 256) → part a ≡ part b → bytes a ≡ bytes b
  same_bytes f e = ext_get_or 0 (bytes a) (bytes b) (length_bytes a la ∙ sym (length_bytes b lb)) (λ j l. at j (omega (arith, length_bytes a la)))
    where
      number : (i : ℕ) → i < n → item_at t (a + i) ≡ item_at t (b + i)
      number i l = item16_one _ _ (sym (item a i la l) ∙ ap (λ (r : List Item). get_or r i (sy 0)) e ∙ item b i lb l)

      byte_at : (j i : ℕ) → j < 2 * n → i ≡ j / 2 → Dec (j % 2 ≡ 0) → get_or t (2 * a + j) 0 ≡ get_or t (2 * b + j) 0
      byte_at j i l h (yes z) =
          let p : 2 * a + j ≡ 2 * (a + i) = omega arith in
          let q : 2 * b + j ≡ 2 * (b + i) = omega arith in
          rw (p, q) (omega (arith, number i (omega arith), f (2 * (a + i)), f (2 * (a + i) + 1), f (2 * (b + i)), f (2 * (b + i) + 1)))
      byte_at j i l h (no z) =
          let p : 2 * a + j ≡ 2 * (a + i) + 1 = omega arith in
          let q : 2 * b + j ≡ 2 * (b + i) + 1 = omega arith in
          rw (p, q) (omega (arith, number i (omega arith), f (2 * (a + i)), f (2 * (a + i) + 1), f (2 * (b + i)), f (2 * (b + i) + 1)))

      at : (j : ℕ) → j < 2 * n → get_or (bytes a) j 0 ≡ get_or (bytes b) j 0
      at j l = byte a j l ∙ byte_at j (j / 2) l refl (ℕ_discrete (j % 2) 0) ∙ sym (byte b j l)

  pub same_decided : ((i : ℕ) → get_or t i 0 < 256) → (r : Bool) → r ≡ pointwise eqb (bytes a) (bytes b) → Decided r (part a ≡ part b)
  same_decided f r e = record {
    holds = λ h. same_part ((bytes_decides (bytes a) (bytes b)).0 (sym e ∙ h));
    fails = λ h u. let w : false ≡ true = sym h ∙ e ∙ (bytes_decides (bytes a) (bytes b)).1 (same_bytes f u) in absurd (let z : ◌≡◌ {A = ℕ} 0 1 = cc in omega arith);
  }

pub none_at : (n y : ℕ) → ◌≡◌ {A = Option ℕ} (get_or (replicate n None) y None) None
none_at zero y = refl
none_at (suc n) zero = refl
none_at (suc n) (suc y) = none_at n y

-- a flag is on where its number is not 0
pub flag_on : (n : ℕ) → not (eqb n 0) ≡ true → n ≡ 0 → ⊥
flag_on zero h e = absurd (let z : ◌≡◌ {A = ℕ} 0 1 = cc in omega arith)
flag_on (suc n) h e = absurd (omega arith)

-- a step by a test that tells the two outcomes apart
pub stepped_if : (sig p t : List ℕ) (tab tab' : List (Option ℕ)) (i j v : ℕ) (b : Bool) → (b ≡ true → Stepped sig p t tab tab' i j (Some v))
    → (b ≡ false → Stepped sig p t tab tab' i j None) → Stepped sig p t tab tab' i j (then_some b v)
stepped_if sig p t tab tab' i j v true y n = y refl
stepped_if sig p t tab tab' i j v false y n = n refl
