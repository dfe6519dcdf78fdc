-- Serves SCOPE.md, 'Paths and keys' (candidates): laws of the trees that items spell: how many items they have, and
-- how a walk passes from one to the next.
use Prim.Native.Nat.{ℕ, zero, suc, ◌+◌, ◌-◌, ◌≤◌, ◌<◌}
use Rattle.std.specs.Prelude.{◌≡◌, List, [], ◌∷◌, length, get_or, drop}
use Rattle.std.proofs.Math.Path.{refl, ap}
use Rattle.std.proofs.Common.{sym, ◌∙◌, add-one, length-drop, drop_of_length-le, drop-cons}
use native.Mathlib.Omega.{arith}
use Rattle.keys.specs.Keys.{Tm, Args, node, nil, cons, size, sizes}
use Rattle.definitions.specs.Trees.{firsts, arguments_after, forest, top}
use Rattle.candidates.specs.Ends.{Ended}
use Rattle.terms.specs.Terms.{arity}

split_sizes : (k : ℕ) (us : Args) → sizes (firsts k us) + sizes (arguments_after k us) ≡ sizes us
unfolding firsts arguments_after sizes
split_sizes zero us = omega arith
split_sizes (suc k) nil = refl
split_sizes (suc k) (cons t us) = omega (arith, split_sizes k us)

-- as many items as there are
pub forest_sizes : (sig xs : List ℕ) → sizes (forest sig xs) ≡ length xs
unfolding forest sizes size
forest_sizes sig [] = refl
forest_sizes sig (x ∷ xs) = omega (arith, split_sizes (arity sig x) (forest sig xs), forest_sizes sig xs)

pub others_one : (k : ℕ) (us : Args) → arguments_after (suc k) us ≡ arguments_after k (arguments_after 1 us)
unfolding arguments_after
others_one zero nil = refl
others_one (suc k) nil = refl
others_one k (cons t us) = refl

no_sizes : (us : Args) → sizes us ≡ 0 → us ≡ nil
unfolding sizes size
no_sizes nil h = refl
no_sizes (cons (node x vs) us) h = absurd (omega arith)

pub others_nil : (k : ℕ) → arguments_after k nil ≡ nil
unfolding arguments_after
others_nil zero = refl
others_nil (suc k) = refl

pub forest_end : (sig items : List ℕ) (i k : ℕ) → length items ≤ i → arguments_after k (forest sig (drop i items)) ≡ forest sig (drop i items)
unfolding forest
forest_end sig items i k h = rw (drop_of_length-le items h) (others_nil k)

-- the tree at item i, and those after it
pub forest_at : (sig items : List ℕ) (i : ℕ) → i < length items
    → forest sig (drop i items) ≡ cons (node (get_or items i 0) (firsts (arity sig (get_or items i 0)) (forest sig (drop (i + 1) items)))) (arguments_after (arity sig (get_or items i 0)) (forest sig (drop (i + 1) items)))
unfolding forest
forest_at sig items i h = rw (drop-cons items i 0 h, add-one i)

pub forest_next : (sig items : List ℕ) (i : ℕ) → i < length items → arguments_after 1 (forest sig (drop i items)) ≡ arguments_after (arity sig (get_or items i 0)) (forest sig (drop (i + 1) items))
unfolding arguments_after
forest_next sig items i h = rw (forest_at sig items i h)

pub forest_top : (sig items : List ℕ) (i : ℕ) → i < length items → top (forest sig (drop i items)) ≡ node (get_or items i 0) (firsts (arity sig (get_or items i 0)) (forest sig (drop (i + 1) items)))
unfolding top
forest_top sig items i h = rw (forest_at sig items i h)

first_of_lem : (k : ℕ) (us : Args) (t : Tm) (r : Args) → us ≡ cons t r → firsts (suc k) us ≡ cons (top us) (firsts k r)
unfolding firsts top
first_of_lem k us t r e = rw e

-- j trees are to come from item c on, up to item e
module _ (sig items : List ℕ) (c e j : ℕ) (all : arguments_after j (forest sig (drop c items)) ≡ forest sig (drop e items)) where
  counted : sizes (firsts j (forest sig (drop c items))) + (length items - e) ≡ length items - c
  counted = let a = split_sizes j (forest sig (drop c items)) in let b = forest_sizes sig (drop c items) in let d = forest_sizes sig (drop e items) in let m = ap sizes all in
      omega (arith, a, b, d, m, length-drop c items, length-drop e items)

  -- none, where the end is reached
  pub kids_done : e ≤ c → firsts j (forest sig (drop c items)) ≡ nil
  kids_done h = no_sizes _ (omega (arith, counted))

  -- one at least before it
  pub kids_some : c < e → e ≤ length items → j ≡ suc (j - 1)
  unfolding firsts sizes
  kids_some h l = go j refl
    where
      go : (k : ℕ) → k ≡ j → j ≡ suc (j - 1)
      go zero q = let z = rw (← q) at counted in absurd (omega (arith, z))
      go (suc k) q = omega arith

  pub kids_turn : (ends : List ℕ) → c < e → e ≤ length items → Ended 0 sig items ends
      → (firsts j (forest sig (drop c items)) ≡ cons (top (forest sig (drop c items))) (firsts (j - 1) (forest sig (drop (get_or ends c 0) items)))) × (arguments_after (j - 1) (forest sig (drop (get_or ends c 0) items)) ≡ forest sig (drop e items))
  unfolding firsts arguments_after top
  kids_turn ends h l d =
      let s = kids_some h l in
      let f = forest_at sig items c (omega arith) in
      let g : forest sig (drop (get_or ends c 0) items) ≡ arguments_after (arity sig (get_or items c 0)) (forest sig (drop (c + 1) items)) = d c (omega arith) (omega arith) ∙ forest_next sig items c (omega arith) in
      let a : arguments_after (suc (j - 1)) (forest sig (drop c items)) ≡ forest sig (drop e items) = rw (← s) all in
      (ap (λ (k : ℕ). firsts k (forest sig (drop c items))) s ∙ first_of_lem (j - 1) (forest sig (drop c items)) _ _ f ∙ ap (λ (us : Args). cons (top (forest sig (drop c items))) (firsts (j - 1) us)) (sym g), rw g (rw f at a))
