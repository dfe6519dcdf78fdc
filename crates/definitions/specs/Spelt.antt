-- SCOPE.md, 'Term bytes': laws of Trees. The bytes that the term check takes are the terms, each spells one tree, and
-- its parts spell the tree's parts. 'Paths and keys': a term of n items has n keys, all distinct.
use Prim.Native.Nat.{ℕ, zero, suc, ◌+◌, ◌-◌, ◌*◌, ◌%◌, ◌≤◌, ◌<◌}
use Rattle.std.proofs.Math.Path.{◌≡◌, refl, sym, ap}
use Rattle.std.proofs.Common.{◌∙◌, add-zero, zero-add, suc-add}
use Rattle.std.specs.Prelude.{◌⊎◌, ◌↔◌, Bool, leb, take}
use Rattle.std.proofs.Math.Logic.{inl, inr}
use mathlib.Core.List.{List, [], ◌∷◌, ◌++◌, append_assoc, append-nil}
use Rattle.std.proofs.Math.Bool.{true, false}
use Rattle.std.proofs.Math.Option.{some}
use native.Mathlib.Omega.{arith}
use borrow.Author.Tests.{lt-ltb, le-leb, lt-leb, ltb-true, leb-true}
use Rattle.std.proofs.Math.Dec.{ltb}
use Rattle.std.proofs.Math.ListN.{length, drop, length-append, length-take, length-drop, get_or-eq_default}
use Rattle.std.proofs.Math.Seq.{drop-drop}
use Rattle.laws.specs.Choice.{pick}
use Rattle.laws.specs.Members.{In, NoDup}
use Rattle.keys.specs.Keys.{Tm, Args, node, nil, cons, nth, root, Key, end_of, size, sizes, HasKey, keys_length}
use Rattle.keys.specs.Keys.{keys_nodup, in_has, has_in}
use Rattle.terms.specs.Terms.{numbers, span, declared, items_good, Signed, refusal, first_item, arg_refusal, arg_bytes}
use Rattle.terms.proofs.TermLaws.{Good, good, span_zero, all_taken, length_numbers, arg_none}
use Rattle.theory.specs.CheckedItems.{fine_good}
use Rattle.definitions.specs.Trees.{count_args, items_t, items_a, IsSymbol, Variable, Shaped, Shapes, IsTerm, firsts}
use Rattle.definitions.specs.Trees.{arguments_after, forest, top, tree_of, args_of, keys_of}
use Rattle.laws.specs.Sizes.{variable_base, variable_end}
use Rattle.terms.specs.Terms.{arity}

-- us, and then vs
unfoldable pub join : Args → Args → Args
join nil vs = vs
join (cons u us) vs = cons u (join us vs)

count_join : (us vs : Args) → count_args (join us vs) ≡ count_args us + count_args vs
unfolding join count_args
count_join nil vs = omega arith
count_join (cons u us) vs = omega (arith, count_join us vs)

items_join : (us vs : Args) → items_a (join us vs) ≡ items_a us ++ items_a vs
unfolding join items_t
items_join nil vs = refl
items_join (cons u us) vs = rw (items_join us vs, append_assoc)

firsts_join : (us vs : Args) (k : ℕ) → firsts (count_args us + k) (join us vs) ≡ join us (firsts k vs)
unfolding join count_args firsts
firsts_join nil vs k = rw zero-add
firsts_join (cons u us) vs k = rw (suc-add, firsts_join us vs k)

others_join : (us vs : Args) (k : ℕ) → arguments_after (count_args us + k) (join us vs) ≡ arguments_after k vs
unfolding join count_args arguments_after
others_join nil vs k = rw zero-add
others_join (cons u us) vs k = rw (suc-add, others_join us vs k)

join_nil : (us : Args) → join us nil ≡ us
unfolding join
join_nil nil = refl
join_nil (cons u us) = rw (join_nil us)

firsts_all : (us vs : Args) → firsts (count_args us) (join us vs) ≡ us
unfolding firsts
firsts_all us vs = rw (add-zero, join_nil) at (firsts_join us vs 0)

others_all : (us vs : Args) → arguments_after (count_args us) (join us vs) ≡ vs
unfolding arguments_after
others_all us vs = rw add-zero at (others_join us vs 0)

count_firsts : (k n : ℕ) (us : Args) → count_args us ≡ k + n → count_args (firsts k us) ≡ k
unfolding firsts count_args
count_firsts zero n us e = refl
count_firsts (suc k) n nil e = omega arith
count_firsts (suc k) n (cons u us) e = ap suc (count_firsts k n us (omega arith))

count_others : (k n : ℕ) (us : Args) → count_args us ≡ k + n → count_args (arguments_after k us) ≡ n
unfolding arguments_after count_args
count_others zero n us e = omega arith
count_others (suc k) n nil e = omega arith
count_others (suc k) n (cons u us) e = count_others k n us (omega arith)

items_parts : (k : ℕ) (us : Args) → items_a (firsts k us) ++ items_a (arguments_after k us) ≡ items_a us
unfolding firsts arguments_after items_t
items_parts zero us = refl
items_parts (suc k) nil = refl
items_parts (suc k) (cons u us) = rw (append_assoc, items_parts k us)

pub clash : {A : Type 0} → false ≡ true → A
clash h = absurd (let z : ◌≡◌ {A = ℕ} 0 1 = cc in omega arith)

-- a choice that is true took its first side
pub taken : (b c : Bool) → pick b c false ≡ true → (b ≡ true) × (c ≡ true)
taken true c h = (refl, h)
taken false c h = clash h

-- the end of a variable's path is the star, of a symbol's the symbol
pub end_variable : (x : ℕ) → variable_base ≤ x → end_of x ≡ 256
unfolding end_of
end_variable x h = rw (le-leb variable_base x h)

pub end_symbol : (x : ℕ) → x < variable_base → end_of x ≡ x
unfolding end_of
end_symbol x h = rw (lt-leb variable_base x h)

module _ (sig : List ℕ) where
  shapes_firsts : (k : ℕ) (us : Args) → Shapes sig us → Shapes sig (firsts k us)
  unfolding firsts Shaped
  shapes_firsts zero us w = tt
  shapes_firsts (suc k) nil w = tt
  shapes_firsts (suc k) (cons u us) w = (w.0, shapes_firsts k us w.1)

  pub shapes_others : (k : ℕ) (us : Args) → Shapes sig us → Shapes sig (arguments_after k us)
  unfolding arguments_after Shaped
  shapes_others zero us w = w
  shapes_others (suc k) nil w = tt
  shapes_others (suc k) (cons u us) w = shapes_others k us w.1

  shapes_join : (us vs : Args) → Shapes sig us → Shapes sig vs → Shapes sig (join us vs)
  unfolding join Shaped
  shapes_join nil vs w x = x
  shapes_join (cons u us) vs w x = (w.0, shapes_join us vs w.1 x)

  -- a variable's number is beyond the signature's end
  pub variable_arity : length sig ≤ 256 → (x : ℕ) → Variable x → arity sig x ≡ 0
  variable_arity b x v = get_or-eq_default sig 0 (omega (arith, v.0))

  pub shaped_count : length sig ≤ 256 → (x : ℕ) (us : Args) → Shaped sig (node x us) → count_args us ≡ arity sig x
  unfolding Shaped
  shaped_count b x us w = go w.0
    where
      go : (IsSymbol sig x × (count_args us ≡ arity sig x)) ⊎ (Variable x × (count_args us ≡ 0)) → count_args us ≡ arity sig x
      go (inl h) = h.1
      go (inr h) = h.1 ∙ sym (variable_arity b x h.0)

  declared_shape : length sig ≤ 256 → (x : ℕ) (us : Args) → declared (length sig) x ≡ true → count_args us ≡ arity sig x → Shapes sig us → Shaped sig (node x us)
  unfolding declared Shaped
  declared_shape b x us d c w = (go (ltb x (length sig)) refl d, w)
    where
      go : (q : Bool) → ltb x (length sig) ≡ q → pick q true (pick (leb variable_base x) (ltb x variable_end) false) ≡ true
          → (IsSymbol sig x × (count_args us ≡ arity sig x)) ⊎ (Variable x × (count_args us ≡ 0))
      go true e h = inl (ltb-true _ _ e, c)
      go false e h =
          let p = taken (leb variable_base x) (ltb x variable_end) h in
          let v : Variable x = (leb-true _ _ p.0, ltb-true _ _ p.1) in
          inr (v, c ∙ variable_arity b x v)

  shape_declared : (x : ℕ) (us : Args) → Shaped sig (node x us) → declared (length sig) x ≡ true
  unfolding declared Shaped
  shape_declared x us w = go w.0
    where
      go : (IsSymbol sig x × (count_args us ≡ arity sig x)) ⊎ (Variable x × (count_args us ≡ 0)) → pick (ltb x (length sig)) true (pick (leb variable_base x) (ltb x variable_end) false) ≡ true
      go (inl h) = rw (lt-ltb x (length sig) h.0)
      go (inr h) = rw (le-leb variable_base x h.0.0, lt-ltb x variable_end h.0.1) (same (ltb x (length sig)))
        where
          same : (q : Bool) → pick q true true ≡ true
          same true = refl
          same false = refl

  -- the items of a tree are read back as that tree
  mutual
    unfolding forest items_t Shaped join

    pub forest_tree : length sig ≤ 256 → (u : Tm) (r : List ℕ) → Shaped sig u → forest sig (items_t u ++ r) ≡ cons u (forest sig r)
    forest_tree b (node x us) r w =
        let c = shaped_count b x us w in
        rw (forest_args b us r w.1, ← c, firsts_all us (forest sig r), others_all us (forest sig r))

    forest_args : length sig ≤ 256 → (us : Args) (r : List ℕ) → Shapes sig us → forest sig (items_a us ++ r) ≡ join us (forest sig r)
    forest_args b nil r w = refl
    forest_args b (cons u us) r w = rw (append_assoc, forest_tree b u (items_a us ++ r) w.0, forest_args b us r w.1)

  -- bytes that are just k terms of declared items are read as k trees with these items
  read : length sig ≤ 256 → (t : List ℕ) (k : ℕ) → length t % 2 ≡ 0 → items_good (length sig) t ≡ true → span sig t k ≡ length t
      → (count_args (forest sig (numbers t)) ≡ k) × Shapes sig (forest sig (numbers t)) × (items_a (forest sig (numbers t)) ≡ numbers t)
  unfolding forest numbers span items_good count_args items_t Shaped
  read b [] k e g h = (omega arith, tt, refl)
  read b (x ∷ []) k e g h = absurd (omega arith)
  read b (x ∷ l ∷ r) zero e g h = absurd (omega arith)
  read b (x ∷ l ∷ r) (suc k) e g h = go (taken (declared (length sig) (x * 256 + l)) (items_good (length sig) r) g) (λ d. read b r (arity sig (x * 256 + l) + k) (omega arith) d (omega arith))
    where
      y : ℕ
      y = x * 256 + l

      A : ℕ
      A = arity sig y

      F : Args
      F = forest sig (numbers r)

      go : (declared (length sig) y ≡ true) × (items_good (length sig) r ≡ true)
          → (items_good (length sig) r ≡ true → (count_args F ≡ A + k) × Shapes sig F × (items_a F ≡ numbers r))
          → (suc (count_args (arguments_after A F)) ≡ suc k) × (Shaped sig (node y (firsts A F)) × Shapes sig (arguments_after A F)) × (y ∷ items_a (firsts A F) ++ items_a (arguments_after A F) ≡ y ∷ numbers r)
      go d ih = let i = ih d.1 in (
        ap suc (count_others A k F i.0),
        (declared_shape b y (firsts A F) d.0 (count_firsts A k F i.0) (shapes_firsts A F i.1), shapes_others A F i.1),
        ap {B = List ℕ} (λ z. y ∷ z) (items_parts A F ∙ i.2),
      )

  -- the first k of the trees that bytes spell stand in their first bytes, the others in the rest
  pub record Parts (t : List ℕ) (k : ℕ) (us : Args) : Type 0 where
    pub long : span sig t k ≡ 2 * length (items_a (firsts k us))
    pub before : numbers (take (span sig t k) t) ≡ items_a (firsts k us)
    pub after : numbers (drop (span sig t k) t) ≡ items_a (arguments_after k us)

  parts_none : (t : List ℕ) (us : Args) → numbers t ≡ items_a us → Parts t 0 us
  unfolding firsts arguments_after items_t numbers
  parts_none t us e = record { long = rw (span_zero sig t); before = rw (span_zero sig t); after = rw (span_zero sig t) e }

  parts_more : (h m : ℕ) (r : List ℕ) (k x : ℕ) (vs us : Args) → count_args vs ≡ arity sig x → h * 256 + m ≡ x → Parts r (count_args vs + k) (join vs us)
      → Parts (h ∷ m ∷ r) (suc k) (cons (node x vs) us)
  unfolding numbers span firsts arguments_after items_t
  parts_more h m r k x vs us c e p =
      let f : items_a (firsts (count_args vs + k) (join vs us)) ≡ items_a vs ++ items_a (firsts k us) = ap items_a (firsts_join vs us k) ∙ items_join vs (firsts k us) in
      record {
        long = rw (e, ← c, p.long, f) (omega arith);
        before = rw (e, ← c, two) (rw (e, p.before, f));
        after = rw (e, ← c, two) (p.after ∙ ap items_a (others_join vs us k));
      }
    where
      two : 2 + span sig r (count_args vs + k) ≡ suc (suc (span sig r (count_args vs + k)))
      two = omega arith

  pub parts : length sig ≤ 256 → (t : List ℕ) (k : ℕ) (us : Args) → Shapes sig us → k ≤ count_args us → numbers t ≡ items_a us → Parts t k us
  unfolding numbers count_args items_t Shaped
  parts b [] zero us w l e = parts_none [] us e
  parts b (h ∷ []) zero us w l e = parts_none (h ∷ []) us e
  parts b (h ∷ m ∷ r) zero us w l e = parts_none (h ∷ m ∷ r) us e
  parts b [] (suc k) nil w l e = absurd (omega arith)
  parts b (h ∷ []) (suc k) nil w l e = absurd (omega arith)
  parts b (h ∷ m ∷ r) (suc k) nil w l e = absurd (omega arith)
  parts b [] (suc k) (cons (node x vs) us) w l e = absurd (let z : ◌≡◌ {A = ℕ} 0 1 = cc in omega arith)
  parts b (h ∷ []) (suc k) (cons (node x vs) us) w l e = absurd (let z : ◌≡◌ {A = ℕ} 0 1 = cc in omega arith)
  parts b (h ∷ m ∷ r) (suc k) (cons (node x vs) us) w l e =
      let s : numbers r ≡ items_a vs ++ items_a us = cc in
      parts_more h m r k x vs us (shaped_count b x vs w.0) (cc)
      (parts b r (count_args vs + k) (join vs us) (shapes_join vs us w.0.1 w.1) (omega (arith, count_join vs us)) (s ∙ sym (items_join vs us)))

  -- what spells trees has only declared items
  tree_items : (t : List ℕ) (us : Args) → Shapes sig us → numbers t ≡ items_a us → items_good (length sig) t ≡ true
  unfolding numbers items_t Shaped items_good
  tree_items [] us w e = refl
  tree_items (h ∷ []) us w e = refl
  tree_items (h ∷ m ∷ r) nil w e = absurd (let z : ◌≡◌ {A = ℕ} 0 1 = cc in omega arith)
  tree_items (h ∷ m ∷ r) (cons (node x vs) us) w e =
      let y : h * 256 + m ≡ x = cc in
      let s : numbers r ≡ items_a vs ++ items_a us = cc in
      rw (y, shape_declared x vs w.0, tree_items r (join vs us) (shapes_join vs us w.0.1 w.1) (s ∙ sym (items_join vs us)))

  only : (us : Args) (xs : List ℕ) → count_args us ≡ 1 → Shapes sig us → items_a us ≡ xs → Shaped sig (top us) × (items_t (top us) ≡ xs)
  unfolding count_args Shaped items_t top
  only nil xs c w e = absurd (omega arith)
  only (cons u nil) xs c w e = (w.0, sym (append-nil (items_t u)) ∙ e)
  only (cons u (cons v us)) xs c w e = absurd (omega arith)

  some_items : (u : Tm) → 1 ≤ length (items_t u)
  unfolding items_t
  some_items (node x us) = omega arith

  -- 'A term is one item, followed by the terms of its arguments from left to right. It has 1 to 32 items':
  -- bytes that the term check takes are a term, of the tree that they are read as,
  pub term_tree : (t : List ℕ) → Signed sig → refusal sig t ≡ 0 → IsTerm sig t
  unfolding tree_of
  term_tree t s h =
      let g = good sig t h in
      let f = fine_good sig t s g in
      let r = read s.short t 1 f.even g.symbols g.shape in
      let o = only (forest sig (numbers t)) (numbers t) r.0 r.1 r.2 in
      let n = length_numbers t in
      let l = ap length o.1 in
      record { tree = tree_of sig t; shaped = o.0; spells = sym o.1; whole = omega (arith, n, l, f.even); short = omega (arith, n, l, g.short) }

  pub term_tree_is : (t : List ℕ) (s : Signed sig) (h : refusal sig t ≡ 0) → (term_tree t s h).tree ≡ tree_of sig t
  unfolding term_tree
  term_tree_is t s h = refl

  -- and terms are taken
  pub tree_term : (t : List ℕ) → Signed sig → IsTerm sig t → refusal sig t ≡ 0
  unfolding count_args Shaped items_t firsts
  tree_term t s i =
      let us = cons i.tree nil in
      let e : numbers t ≡ items_t i.tree ++ [] = i.spells ∙ sym (append-nil (items_t i.tree)) in
      let p = parts s.short t 1 us (i.shaped, tt) (omega arith) e in
      let l = ap length (append-nil (items_t i.tree)) in
      all_taken sig t (omega (arith, i.whole, i.short)) (λ z. omega (arith, z, i.whole, some_items i.tree)) (λ z. omega (arith, z, i.whole))
      (tree_items t us (i.shaped, tt) e) (omega (arith, p.long, i.whole, l))

  -- bytes spell one tree
  pub tree_is : (t : List ℕ) → Signed sig → (i : IsTerm sig t) → i.tree ≡ tree_of sig t
  unfolding tree_of forest top
  tree_is t s i = let e = forest_tree s.short i.tree [] i.shaped in sym (ap (λ (l : List ℕ). top (forest sig l)) (i.spells ∙ sym (append-nil (items_t i.tree))) ∙ ap top e)

  pub tree_one : (t : List ℕ) → Signed sig → (i j : IsTerm sig t) → i.tree ≡ j.tree
  tree_one t s i j = tree_is t s i ∙ sym (tree_is t s j)

  pub tree_shaped : (t : List ℕ) → Signed sig → refusal sig t ≡ 0 → Shaped sig (tree_of sig t)
  tree_shaped t s h = rw (← term_tree_is t s h) (term_tree t s h).shaped

  pub tree_spells : (t : List ℕ) → Signed sig → refusal sig t ≡ 0 → numbers t ≡ items_t (tree_of sig t)
  tree_spells t s h = rw (← term_tree_is t s h) (term_tree t s h).spells

  pub taken_term : (t : List ℕ) → Signed sig → Good sig t → refusal sig t ≡ 0
  taken_term t s g =
      let f = fine_good sig t s g in
      all_taken sig t g.short (λ z. omega (arith, z, g.long)) (λ z. omega (arith, z, f.even)) g.symbols g.shape

  -- the tree that argument k of a root is
  record Nth (k : ℕ) (us : Args) : Type 0 where
    pub one : Tm
    pub is : nth k us ≡ some one
    pub shaped : Shaped sig one
    pub first : items_a (firsts 1 (arguments_after k us)) ≡ items_t one
    pub fits : length (items_t one) ≤ length (items_a (arguments_after k us))
    pub counts : 1 ≤ count_args (arguments_after k us)

  nth_tree : (k : ℕ) (us : Args) → Shapes sig us → k < count_args us → Nth k us
  unfolding nth firsts arguments_after items_t Shaped count_args
  nth_tree k nil w l = absurd (omega arith)
  nth_tree zero (cons u us) w l = record { one = u; is = refl; shaped = w.0; first = append-nil (items_t u); fits = rw length-append (omega arith); counts = omega arith }
  nth_tree (suc k) (cons u us) w l = let h = nth_tree k us w.1 (omega arith) in
      record { one = h.one; is = h.is; shaped = h.shaped; first = h.first; fits = h.fits; counts = h.counts }

  -- the bytes of argument i, where it is not refused
  arg_part : (t : List ℕ) (i : ℕ) → arg_refusal sig t i ≡ 0 → arg_bytes sig t i ≡ take (span sig (drop (span sig (drop 2 t) (i - 1)) (drop 2 t)) 1) (drop (span sig (drop 2 t) (i - 1)) (drop 2 t))
  unfolding arg_bytes
  arg_part t i h = rw (h, drop-drop (span sig (drop 2 t) (i - 1)) 2 t)

  root_items : (t : List ℕ) (x : ℕ) (us : Args) → numbers t ≡ items_t (node x us) → (first_item t ≡ x) × (numbers (drop 2 t) ≡ items_a us)
  unfolding numbers items_t
  root_items [] x us e = absurd (let z : ◌≡◌ {A = ℕ} 0 1 = cc in omega arith)
  root_items (h ∷ []) x us e = absurd (let z : ◌≡◌ {A = ℕ} 0 1 = cc in omega arith)
  root_items (h ∷ m ∷ r) x us e = ((cc), (cc))

  arg_term : (t : List ℕ) (i : ℕ) → Signed sig → arg_refusal sig t i ≡ 0 → (u : Tm) → Shaped sig u → numbers t ≡ items_t u
      → (a : IsTerm sig (arg_bytes sig t i)) × (nth (i - 1) (args_of u) ≡ some a.tree)
  unfolding Shaped args_of
  arg_term t i s h (node x us) w e =
      let n = arg_none sig t i h in
      let r = root_items t x us e in
      let c : count_args us ≡ arity sig (first_item t) = shaped_count s.short x us w ∙ ap (λ (z : ℕ). arity sig z) (sym r.0) in
      let D = drop 2 t in
      let p = parts s.short D (i - 1) us w.1 (omega (arith, c, n.2)) r.1 in
      let v = nth_tree (i - 1) us w.1 (omega (arith, c, n.1, n.2)) in
      let E = drop (span sig D (i - 1)) D in
      let q = parts s.short E 1 (arguments_after (i - 1) us) (shapes_others (i - 1) us w.1) v.counts p.after in
      let f = ap length v.first in
      let z = length_numbers E in
      let y = ap length p.after in
      let m = length-take (span sig E 1) E in
      let a = ap length (arg_part t i h) in
      let whole : length (arg_bytes sig t i) ≡ 2 * length (items_t v.one) = omega (arith, a, m, z, y, f, v.fits, q.long) in (
        record {
          tree = v.one;
          shaped = v.shaped;
          spells = ap numbers (arg_part t i h) ∙ q.before ∙ v.first;
          whole = whole;
          short = omega (arith, whole, a, m, length-drop (span sig D (i - 1)) D, length-drop 2 t, n.0.short);
        },
        v.is,
      )

  -- 'The argument i of a term (first argument is 1)': its bytes are a term, and spell that argument of the tree
  pub argument_tree : (t : List ℕ) (i : ℕ) → Signed sig → arg_refusal sig t i ≡ 0
      → (refusal sig (arg_bytes sig t i) ≡ 0) × (nth (i - 1) (args_of (tree_of sig t)) ≡ some (tree_of sig (arg_bytes sig t i)))
  argument_tree t i s h =
      let g = taken_term t s (arg_none sig t i h).0 in
      let a = arg_term t i s h (tree_of sig t) (tree_shaped t s g) (tree_spells t s g) in
      (tree_term (arg_bytes sig t i) s a.0, a.1 ∙ ap some (tree_is (arg_bytes sig t i) s a.0))

mutual
  unfolding items_t size

  pub size_items : (u : Tm) → size u ≡ length (items_t u)
  size_items (node x us) = ap suc (sizes_items us)

  pub sizes_items : (us : Args) → sizes us ≡ length (items_a us)
  sizes_items nil = refl
  sizes_items (cons u us) = rw (length-append, size_items u, sizes_items us)

-- 'A term of n items has exactly n keys, all distinct'
pub keys_count : (sig t : List ℕ) → Signed sig → refusal sig t ≡ 0 → (length (keys_of sig t) ≡ length (numbers t)) × NoDup (keys_of sig t)
unfolding keys_of
keys_count sig t s h = (keys_length root (tree_of sig t) ∙ size_items (tree_of sig t) ∙ ap length (sym (tree_spells sig t s h)), keys_nodup root (tree_of sig t))

-- 'A key is a path with what stands at its end': the keys are those that stand in the term
pub keys_stand : (sig t : List ℕ) (K : Key) → In K (keys_of sig t) ↔ HasKey (tree_of sig t) K
unfolding keys_of
keys_stand sig t K = (in_has (tree_of sig t) K, has_in (tree_of sig t) K)
