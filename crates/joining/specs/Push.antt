-- Serves SCOPE.md, 'The solver's record': pairs of nodes on a stack, and the pairs of the arguments of two nodes.
use Rattle.std.specs.Prelude.{◌≡◌, refl, ◌≢◌, List, [], ◌++◌, ℕ, ◌+◌, ◌/◌, ◌%◌, ◌≤◌, ◌<◌, length, get_or, set}
use Rattle.std.proofs.Common.{sym, ap, ◌∙◌, arith, length-set, get_or-set_same, get_or-set_other}
use Rattle.std.proofs.Math.Decide.{ℕ_discrete}
use Rattle.theory.specs.Flat.{Item, readable}
use Rattle.theory.specs.Subst.{app, app_append, Sub, app_terms}
use Rattle.theory.specs.Nodes.{args, args_more, val, NextNode, Begins, begins_length, begins_next, begins_term}
use Rattle.joining.specs.Prefix.{SameFront, same_append}
use Rattle.joining.specs.Goal.{GoalHolds, HoldsTo}

module _ (ar : ℕ → ℕ) where
  -- P: the items
  module _ (P : List Item) where
    -- a pair of nodes as one number
    abbrev pub Inside : ℕ → Type 0
    Inside e = (e / 64 < length P) × (e % 64 < length P)

    -- of a pairs of arguments, from p and q on, those past the first i are on the stack above n, and l and r begin
    -- the others
    pub record Pushed (K₀ K : List ℕ) (n a p q i l r : ℕ) : Type 0 where
      pub many : length K ≡ length K₀
      pub low : (x : ℕ) → x < n → get_or K x 0 ≡ get_or K₀ x 0
      pub inside : (x : ℕ) → i ≤ x → x < a → Inside (get_or K (n + x) 0)
      pub left : Begins ar P i l
      pub right : Begins ar P i r
      pub ll : l ≤ length P
      pub rl : r ≤ length P
      pub sound : (σ : ℕ → List Item) (m : ℕ)
          → ((x : ℕ) → i ≤ x → x < a → HoldsTo ar (val ar P) [] [] σ m (get_or K (n + x) 0))
          → SameFront m (app σ (args ar P i l)) (app σ (args ar P i r))
          → SameFront m (app σ (args ar P a p)) (app σ (args ar P a q))
      pub complete : (σ : ℕ → List Item) → Sub ar σ → app σ (args ar P a p) ≡ app σ (args ar P a q)
          → (app σ (args ar P i l) ≡ app σ (args ar P i r))
          × ((x : ℕ) → i ≤ x → x < a → GoalHolds ar (val ar P) [] [] σ (get_or K (n + x) 0))

    pub push_none : (K : List ℕ) (n a p q : ℕ) → Begins ar P a p → Begins ar P a q → p ≤ length P → q ≤ length P → Pushed K K n a p q a p q
    push_none K n a p q h k pl ql = record {
      many = refl;
      low = λ x b. refl;
      inside = λ x b c. absurd (omega arith);
      left = h;
      right = k;
      ll = pl;
      rl = ql;
      sound = λ σ m f e. e;
      complete = λ σ w e. (e, λ x b c. absurd (omega arith));
    }

    module _ (K₀ K : List ℕ) (n a p q i l r l' r' e : ℕ) (h : Pushed K₀ K n a p q (i + 1) l r) (il : i < a) (fits : n + i < length K)
        (el : e / 64 ≡ l) (er : e % 64 ≡ r) (nl : NextNode ar P l l') (nr : NextNode ar P r r') (lb : l' ≤ length P) (rb : r' ≤ length P) where
      here : get_or (set K (n + i) e) (n + i) 0 ≡ e
      here = get_or-set_same K (n + i) e 0 fits

      there : (x : ℕ) → x ≢ n + i → get_or (set K (n + i) e) x 0 ≡ get_or K x 0
      there x d = get_or-set_other K (n + i) x e 0 d

      in_l : l < length P
      in_l = omega (arith, begins_length ar P (i + 1) l h.left h.ll)

      in_r : r < length P
      in_r = omega (arith, begins_length ar P (i + 1) r h.right h.rl)

      at : (Q : ℕ → Type 0) → Q e → ((x : ℕ) → i + 1 ≤ x → x < a → Q (get_or K (n + x) 0)) → (x : ℕ) → i ≤ x → x < a → Q (get_or (set K (n + i) e) (n + x) 0)
      at Q q₀ f x b c = go (ℕ_discrete x i)
        where
          go : Dec (x ≡ i) → Q (get_or (set K (n + i) e) (n + x) 0)
          go (yes d) = rw (d, here) q₀
          go (no d) = rw (there (n + x) (λ y. d (omega (arith, y)))) (f x (omega (arith, d)) c)

      old : (x : ℕ) → i + 1 ≤ x → get_or (set K (n + i) e) (n + x) 0 ≡ get_or K (n + x) 0
      old x b = there (n + x) (λ y. omega (arith, y))

      split_l : (σ : ℕ → List Item) → app σ (args ar P (i + 1) l) ≡ app σ (val ar P l) ++ app σ (args ar P i l')
      split_l σ = ap (app σ) (args_more ar P i l l' nl) ∙ app_append σ (val ar P l) (args ar P i l')

      split_r : (σ : ℕ → List Item) → app σ (args ar P (i + 1) r) ≡ app σ (val ar P r) ++ app σ (args ar P i r')
      split_r σ = ap (app σ) (args_more ar P i r r' nr) ∙ app_append σ (val ar P r) (args ar P i r')

      one_l : Begins ar P 1 l
      one_l = record { after = i + h.left.after; terms = (let k : i + 1 + h.left.after ≡ 1 + (i + h.left.after) = omega arith in rw k at h.left.terms) }

      one_r : Begins ar P 1 r
      one_r = record { after = i + h.right.after; terms = (let k : i + 1 + h.right.after ≡ 1 + (i + h.right.after) = omega arith in rw k at h.right.terms) }

      pub push_turn : Pushed K₀ (set K (n + i) e) n a p q i l' r'
      push_turn = record {
        many = rw length-set h.many;
        low = λ x b. there x (λ y. omega (arith, y)) ∙ h.low x b;
        inside = at Inside (rw (el, er) (in_l, in_r)) h.inside;
        left = begins_next ar P i l l' h.left nl;
        right = begins_next ar P i r r' h.right nr;
        ll = lb;
        rl = rb;
        sound = λ σ m f d. h.sound σ m (λ x b c. rw (old x b) at (f x (omega arith) c))
            (rw (split_l σ, split_r σ) (same_append m (app σ (val ar P l)) (app σ (val ar P r)) (app σ (args ar P i l')) (app σ (args ar P i r')) (pair σ m f) d));
        complete = λ σ w d. (
            let k = h.complete σ w d in
            let t = readable ar 1 (app σ (val ar P l)) (app σ (val ar P r)) (app σ (args ar P i l')) (app σ (args ar P i r'))
            (app_terms ar σ w 1 (val ar P l) (begins_term ar P 1 l one_l)) (app_terms ar σ w 1 (val ar P r) (begins_term ar P 1 r one_r)) (sym (split_l σ) ∙ k.0 ∙ split_r σ) in
            (t.1, at (GoalHolds ar (val ar P) [] [] σ) (rw (el, er) t.0) k.1));
      }
        where
          pair : (σ : ℕ → List Item) (m : ℕ) → ((x : ℕ) → i ≤ x → x < a → HoldsTo ar (val ar P) [] [] σ m (get_or (set K (n + i) e) (n + x) 0)) → SameFront m (app σ (val ar P l)) (app σ (val ar P r))
          pair σ m f = rw (el, er) at (rw here at (f i (omega arith) il))
