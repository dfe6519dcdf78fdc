-- Serves SCOPE.md, 'The relations themselves': the walk of matching, before item i of the pattern p and item j of the
-- target t: its state, each step, and the ends.
use Rattle.std.specs.Prelude.{◌≡◌, refl, ◌≢◌, List, [], ◌∷◌, ◌++◌, ℕ, zero, suc, ◌+◌, ◌-◌, ◌/◌, ◌≤◌, ◌<◌, length, get_or, drop, take, set, Option, Some, None}
use Rattle.std.proofs.Common.{sym, ap, ◌∙◌, inl, inr, arith, length-set, length-drop, length-append, drop_of_length-le, take-append-drop, get_or-set_same, get_or-set_other, take_at, lt-ltb, le-ltb}
use Rattle.std.proofs.Math.Decide.{ℕ_discrete}
use Rattle.theory.specs.Flat.{Item, sy, va, Terms}
use Rattle.theory.specs.Subst.{vars, app, app_agree, term_length}
use Rattle.theory.specs.Unify.{Bind, ◌:=◌, Unbound, Has}
use Rattle.theory.specs.Cut.{first, rest, first_rest, first_terms, rest_terms, first_append}
use Rattle.theory.specs.Items.{item16, item16_one, items, length_items, items_at, items_drop, Fine}
use Rattle.theory.specs.Nodes.{val, val_var, NextNode}
use Rattle.theory.specs.Relations.{Instance, Variant}
use Rattle.theory.specs.Match.{MatchInv, start, step_symbol, step_new, step_old, none_symbol, none_differs, found, once}
use Rattle.theory.specs.Match.{once_sub, agrees_once, agrees_has}
use Rattle.laws.specs.Sizes.{variable_base}
use Rattle.terms.specs.Terms.{arity, item_at}

sym_item : (c : ℕ) → c < variable_base → item16 c ≡ sy c
sym_item c b = rw (lt-ltb c variable_base b)

var_item : (c : ℕ) → variable_base ≤ c → item16 c ≡ va (c - variable_base)
var_item c b = rw (le-ltb c variable_base b)

module _ (sig p t : List ℕ) where
  -- the binding of y: none, or to the term at an item before j
  abbrev pub Entry : List Bind → ℕ → ℕ → Option ℕ → Type 0
  Entry B j y None = Unbound y B
  Entry B j y (Some q) = (q < j) × Has y (val (arity sig) (items t) q) B

  pub record Going (tab : List (Option ℕ)) (i j : ℕ) : Type 0 where
    pub binds : List Bind
    pub count : ℕ
    pub inv : MatchInv (arity sig) (items p) (items t) binds count (drop i (items p)) (drop j (items t))
    pub table : (y : ℕ) → Entry binds j y (get_or tab y None)
    pub many : length tab ≡ 32
    pub low : j ≤ length t / 2

  pub going_start : Fine sig p → Fine sig t → (tab : List (Option ℕ)) → length tab ≡ 32 → ((y : ℕ) → get_or tab y None ≡ None) → Going tab 0 0
  going_start f g tab l z = record {
    binds = [];
    count = 1;
    inv = start (arity sig) (items p) (items t) f.term g.term;
    table = λ y. rw (z y) tt;
    many = l;
    low = omega arith;
  }

  entry_later : (B : List Bind) (j e y : ℕ) (n : Option ℕ) → j ≤ e → Entry B j y n → Entry B e y n
  entry_later B j e y None b h = h
  entry_later B j e y (Some q) b h = (omega (arith, h.0), h.1)

  entry_more : (B : List Bind) (x : ℕ) (u : List Item) (j e y : ℕ) (n : Option ℕ) → j ≤ e → x ≢ y → Entry B j y n → Entry ((x := u) ∷ B) e y n
  entry_more B x u j e y None b d h = (d, h)
  entry_more B x u j e y (Some q) b d h = (omega (arith, h.0), inr h.1)

  module _ (tab : List (Option ℕ)) (i j : ℕ) (g : Going tab i j) (il : i < length p / 2) where
    head_p : drop i (items p) ≡ item16 (item_at p i) ∷ drop (i + 1) (items p)
    head_p = items_drop p i il

    -- where the pattern has an item left, so has the target
    pub going_in : j < length t / 2
    going_in = go g.count (rw head_p at g.inv.left) g.inv.right
      where
        go : (k : ℕ) → Terms (arity sig) k (item16 (item_at p i) ∷ drop (i + 1) (items p)) → Terms (arity sig) k (drop j (items t)) → j < length t / 2
        go zero a b = absurd a
        go (suc k) a b = omega (arith, term_length (arity sig) (suc k) (drop j (items t)) b, length-drop j (items t), length_items t)

    head_t : drop j (items t) ≡ item16 (item_at t j) ∷ drop (j + 1) (items t)
    head_t = items_drop t j going_in

    module _ (f : item_at p i < variable_base) where
      sym_p : drop i (items p) ≡ sy (item_at p i) ∷ drop (i + 1) (items p)
      sym_p = head_p ∙ ap (λ (r : Item). r ∷ drop (i + 1) (items p)) (sym_item (item_at p i) f)

      pub going_symbol : item_at t j ≡ item_at p i → Going tab (i + 1) (j + 1)
      going_symbol e = go g.count (rw (sym_p, sym_t) at g.inv)
        where
          sym_t : drop j (items t) ≡ sy (item_at p i) ∷ drop (j + 1) (items t)
          sym_t = head_t ∙ ap (λ (r : Item). r ∷ drop (j + 1) (items t)) (ap item16 e ∙ sym_item (item_at p i) f)

          go : (k : ℕ) → MatchInv (arity sig) (items p) (items t) g.binds k (sy (item_at p i) ∷ drop (i + 1) (items p)) (sy (item_at p i) ∷ drop (j + 1) (items t)) → Going tab (i + 1) (j + 1)
          go zero v = absurd v.left
          go (suc k) v = record {
            binds = g.binds;
            count = arity sig (item_at p i) + k;
            inv = step_symbol (arity sig) (items p) (items t) g.binds k (item_at p i) (drop (i + 1) (items p)) (drop (j + 1) (items t)) v;
            table = λ y. entry_later g.binds j (j + 1) y (get_or tab y None) (omega arith) (g.table y);
            many = g.many;
            low = omega (arith, going_in);
          }

      pub going_clash : item_at t j ≢ item_at p i → Instance sig p t → ⊥
      going_clash n r =
          none_symbol (arity sig) (items p) (items t) g.binds g.count (item_at p i) (drop (i + 1) (items p)) (drop (j + 1) (items t)) (item16 (item_at t j))
          (λ e. n (item16_one (item_at t j) (item_at p i) (e ∙ sym (sym_item (item_at p i) f)))) (rw (sym_p, head_t) at g.inv) r.by r.sub r.turns

    -- a variable of the pattern against the term at j, which ends before e
    module _ (f : variable_base ≤ item_at p i) where
      abbrev x : ℕ
      x = item_at p i - variable_base

      var_p : drop i (items p) ≡ va x ∷ drop (i + 1) (items p)
      var_p = head_p ∙ ap (λ (r : Item). r ∷ drop (i + 1) (items p)) (var_item (item_at p i) f)

      -- a symbol of the target there: no variable becomes it
      pub going_lone : item_at t j < variable_base → Variant p t → ⊥
      going_lone b r =
          let σ : ℕ → List Item = λ y. vars (r.to y) in
          let d = ((g.inv.same σ (λ y. tt)).0 r.turns).1 in
          let d' : va (r.to x) ∷ app σ (drop (i + 1) (items p)) ≡ sy (item_at t j) ∷ drop (j + 1) (items t)
          = sym (ap (app σ) var_p) ∙ d ∙ head_t ∙ ap (λ (c : Item). c ∷ drop (j + 1) (items t)) (sym_item (item_at t j) b) in
          let z : ◌≡◌ {A = ℕ} 0 1 = cc in omega arith

      module _ (e : ℕ) (next : NextNode (arity sig) (items t) j e) (je : j < e) (el : e ≤ length t / 2) where
        whole : drop j (items t) ≡ val (arity sig) (items t) j ++ drop e (items t)
        whole = sym (first_rest (arity sig) 1 (drop j (items t))) ∙ ap (λ (r : List Item). first (arity sig) 1 (drop j (items t)) ++ r) (sym next)

        abbrev Step : ℕ → Type 0
        Step k = MatchInv (arity sig) (items p) (items t) g.binds (suc k) (va x ∷ drop (i + 1) (items p))
            (val (arity sig) (items t) j ++ drop e (items t))

        term_u : (k : ℕ) → Terms (arity sig) (suc k) (drop j (items t)) → Terms (arity sig) 1 (val (arity sig) (items t) j)
        term_u k h = let q : suc k ≡ 1 + k = omega arith in first_terms (arity sig) 1 k (drop j (items t)) (rw q at h)

        term_e : (k : ℕ) → Terms (arity sig) (suc k) (drop j (items t)) → Terms (arity sig) k (drop e (items t))
        term_e k h = let q : suc k ≡ 1 + k = omega arith in rw next (rest_terms (arity sig) 1 k (drop j (items t)) (rw q at h))

        -- the state with its first pair taken apart
        taken : {A : Type 0} → ((k : ℕ) → Terms (arity sig) 1 (val (arity sig) (items t) j) → Terms (arity sig) k (drop e (items t)) → Step k → A) → A
        taken {A = A} h = go g.count g.inv
          where
            go : (k : ℕ) → MatchInv (arity sig) (items p) (items t) g.binds k (drop i (items p)) (drop j (items t)) → A
            go zero v = absurd (rw var_p at v.left)
            go (suc k) v = h k (term_u k v.right) (term_e k v.right) (rw (var_p, whole) at v)

        pub going_new : x < 32 → get_or tab x None ≡ None → Going (set tab x (Some j)) (i + 1) e
        going_new xl z = taken (λ k a b v. record {
          binds = (x := val (arity sig) (items t) j) ∷ g.binds;
          count = k;
          inv = step_new (arity sig) (items p) (items t) g.binds k x (val (arity sig) (items t) j) (drop (i + 1) (items p)) (drop e (items t)) a b (rw z at (g.table x)) v;
          table = λ y. at y (ℕ_discrete x y);
          many = length-set tab x (Some j) ∙ g.many;
          low = el;
        })
          where
            at : (y : ℕ) → Dec (x ≡ y) → Entry ((x := val (arity sig) (items t) j) ∷ g.binds) e y (get_or (set tab x (Some j)) y None)
            at y (yes q) = rw (← q, get_or-set_same tab x (Some j) None (omega (arith, g.many))) (je, inl (refl, refl))
            at y (no d) = rw (get_or-set_other tab x y (Some j) None (λ q. d (sym q))) (entry_more g.binds x (val (arity sig) (items t) j) j e y (get_or tab y None) (omega arith) d (g.table y))

        module _ (q : ℕ) (z : get_or tab x None ≡ Some q) where
          pub before : q < j
          before = (rw z at (g.table x)).0

          has : Has x (val (arity sig) (items t) q) g.binds
          has = (rw z at (g.table x)).1

          size : length (val (arity sig) (items t) j) ≡ e - j
          size = omega (arith, ap length whole, length-append (val (arity sig) (items t) j) (drop e (items t)), length-drop j (items t), length-drop e (items t), length_items t)

          first_j : take (e - j) (drop j (items t)) ≡ val (arity sig) (items t) j
          first_j = ap (take (e - j)) whole ∙ take_at (val (arity sig) (items t) j) (drop e (items t)) (e - j) size

          pub going_old : take (e - j) (drop q (items t)) ≡ take (e - j) (drop j (items t)) → Going tab (i + 1) e
          going_old s = taken (λ k a b v. record {
            binds = g.binds;
            count = k;
            inv = step_old (arity sig) (items p) (items t) g.binds k x (val (arity sig) (items t) j) (drop (i + 1) (items p)) (drop e (items t)) a b (rw (same a) at has) v;
            table = λ y. entry_later g.binds j e y (get_or tab y None) (omega arith) (g.table y);
            many = g.many;
            low = el;
          })
            where
              same : Terms (arity sig) 1 (val (arity sig) (items t) j) → val (arity sig) (items t) q ≡ val (arity sig) (items t) j
              same a = ap (first (arity sig) 1) (sym (take-append-drop (e - j) (drop q (items t))) ∙ ap (λ (r : List Item). r ++ drop (e - j) (drop q (items t))) (s ∙ first_j))
                  ∙ first_append (arity sig) 1 (val (arity sig) (items t) j) (drop (e - j) (drop q (items t))) a

          pub going_differs : (take (e - j) (drop q (items t)) ≡ take (e - j) (drop j (items t)) → ⊥) → Instance sig p t → ⊥
          going_differs d r = taken (λ k a b v.
              none_differs (arity sig) (items p) (items t) g.binds k x (val (arity sig) (items t) q) (val (arity sig) (items t) j) (drop (i + 1) (items p)) (drop e (items t)) a has
              (λ s. d (other s)) v r.by r.sub r.turns)
            where
              other : val (arity sig) (items t) q ≡ val (arity sig) (items t) j → take (e - j) (drop q (items t)) ≡ take (e - j) (drop j (items t))
              other s = ap (take (e - j)) (sym (first_rest (arity sig) 1 (drop q (items t))) ∙ ap (λ (r : List Item). r ++ rest (arity sig) 1 (drop q (items t))) s)
                  ∙ take_at (val (arity sig) (items t) j) (rest (arity sig) 1 (drop q (items t))) (e - j) size ∙ sym first_j

  -- the end
  module _ (tab : List (Option ℕ)) (i j : ℕ) (g : Going tab i j) (il : length p / 2 ≤ i) where
    turns : app (once g.binds) (items p) ≡ items t
    turns = go g.count (drop j (items t)) (rw gone at g.inv)
      where
        gone : drop i (items p) ≡ []
        gone = drop_of_length-le (items p) {i = i} (omega (arith, length_items p))

        go : (k : ℕ) (m : List Item) → MatchInv (arity sig) (items p) (items t) g.binds k [] m → app (once g.binds) (items p) ≡ items t
        go (suc k) m v = absurd v.left
        go zero (a ∷ m) v = absurd v.right
        go zero [] v = found (arity sig) (items p) (items t) g.binds v

    pub going_end : Instance sig p t
    going_end = record { by = once g.binds; sub = once_sub (arity sig) g.binds g.inv.values; turns = turns }

    once_free : (B : List Bind) (y : ℕ) → Unbound y B → once B y ≡ vars y
    once_free [] y n = refl
    once_free ((z := v) ∷ B) y n = go (ℕ_discrete z y) (once_free B y n.1)
      where
        go : (d : Dec (z ≡ y)) → once B y ≡ vars y → Rattle.theory.specs.Unify.pick_decided d v (once B y) ≡ vars y
        go (yes e) h = absurd (n.0 e)
        go (no d) h = h

    -- every binding is to a variable
    pub going_renames : ((y q : ℕ) → get_or tab y None ≡ Some q → variable_base ≤ item_at t q) → Variant p t
    going_renames h = record { to = λ y. name y (get_or tab y None); turns = app_agree (λ y. vars (name y (get_or tab y None))) (once g.binds) (items p) (λ y k. at y (get_or tab y None) refl) ∙ turns }
      where
        name : ℕ → Option ℕ → ℕ
        name y None = y
        name y (Some q) = item_at t q - variable_base

        at : (y : ℕ) (n : Option ℕ) → get_or tab y None ≡ n → vars (name y n) ≡ once g.binds y
        at y None e = sym (once_free g.binds y (rw e at (g.table y)))
        at y (Some q) e =
            let k : Entry g.binds j y (Some q) = rw e at (g.table y) in
            let b : q < length t / 2 = omega (arith, k.0, g.low) in
            sym (agrees_has (once g.binds) y (val (arity sig) (items t) q) g.binds k.1 (agrees_once (arity sig) g.binds g.inv.once_each)
            ∙ val_var (arity sig) (items t) q (item_at t q - variable_base) (omega (arith, length_items t)) (items_at t q b ∙ var_item (item_at t q) (h y q e)))
