-- Serves SCOPE.md, 'The solver's record': the unifier's state as the code holds it, each step, and the ends.
use Rattle.std.specs.Prelude.{◌≡◌, refl, ◌⊎◌, ◌≢◌, ◌↔◌, List, [], ◌∷◌, map, ℕ, zero, suc, ◌+◌, ◌-◌, ◌/◌, ◌%◌, ◌^◌, ◌≤◌, ◌<◌, length, get_or, drop, set}
use Rattle.std.proofs.Math.Path.{sym, ap}
use Rattle.std.proofs.Common.{◌∙◌, inl, inr, append-nil, add-one, arith, length-set, get_or-set_same, get_or-set_other}
use Rattle.std.proofs.Math.Decide.{ℕ_discrete, dec_le}
use Rattle.std.proofs.lemmas.List.{length-map}
use Rattle.theory.specs.Flat.{Item, sy, va, Terms}
use Rattle.theory.specs.Subst.{vars, app, Occurs, Sub, app_terms, in_left}
use Rattle.theory.specs.Unify.{Bind, ◌:=◌, full, Solves, GoodBindings, Values, full_sub, Unbound, unbound, circular}
use Rattle.theory.specs.Unify.{Has, solves_has}
use Rattle.theory.specs.Canon.{Least, Mgu, least_step}
use Rattle.theory.specs.Cut.{first, rest, first_rest}
use Rattle.theory.specs.Items.{item16, items16, code_sym, code_var}
use Rattle.joining.specs.Goal.{GoalHolds, Goal, settled, skipped, merged, begin, finished}
use Rattle.joining.specs.Classes.{Classes, classes_less, classes_start, join_each, join_classes, swap}
use Rattle.joining.specs.Masks.{On, mask_of, spread, VariableSets, WrittenOnly, sets_term, sets_bind, sets_start}
use Rattle.theory.specs.Nodes.{args, args_none, val, val_sym, val_var, begins_at, begins_term}
use Rattle.joining.specs.Push.{Inside, Pushed}
use Rattle.laws.specs.Sizes.{variable_base, written_end}
use Rattle.terms.specs.Terms.{arity}

-- terms one after another, as numbers
pub record Given (sig pool : List ℕ) : Type 0 where
  pub count : ℕ
  pub terms : Terms (arity sig) count (items16 pool)
  pub short : length pool ≤ 64
  pub named : (p : ℕ) → p < length pool → get_or pool p 0 < written_end
  pub arities : (s : ℕ) → arity sig s ≤ 8

-- the table of bindings: 0, or one more than the node that the variable is bound to; a variable leads to a symbol or
-- a smaller variable
pub record BindingTable (tab pool : List ℕ) : Type 0 where
  pub many : length tab ≡ 64
  pub inside : (y : ℕ) → get_or tab y 0 ≤ length pool
  pub down : (x p : ℕ) → get_or tab x 0 ≡ suc p → get_or pool p 0 < variable_base + x

-- the term of a node
abbrev pub term : List ℕ → List ℕ → ℕ → List Item
term sig pool p = val (arity sig) (items16 pool) p

abbrev pub BindingEntry : List ℕ → List ℕ → List Bind → ℕ → ℕ → Type 0
BindingEntry sig pool B y zero = Unbound y B
BindingEntry sig pool B y (suc p) = Has y (term sig pool p) B

abbrev pub Tab : List ℕ → List ℕ → List ℕ → List Bind → Type 0
Tab sig pool tab B = (y : ℕ) → y < 64 → BindingEntry sig pool B y (get_or tab y 0)

-- r is where bindings lead from p
pub record Led (tab pool : List ℕ) (p r : ℕ) : Type 0 where
  pub low : r < length pool
  pub same : (sig : List ℕ) (B : List Bind) → Tab sig pool tab B → (σ : ℕ → List Item) → Solves σ B
      → app σ (term sig pool p) ≡ app σ (term sig pool r)
  pub stops : variable_base ≤ get_or pool r 0 → get_or tab (get_or pool r 0 - variable_base) 0 ≡ 0

length_items : (pool : List ℕ) → length (items16 pool) ≡ length pool
length_items pool = length-map pool item16

pub term_var : (sig pool : List ℕ) (p : ℕ) → p < length pool → variable_base ≤ get_or pool p 0 → term sig pool p ≡ vars (get_or pool p 0 - variable_base)
term_var sig pool p b h = val_var (arity sig) (items16 pool) p (get_or pool p 0 - variable_base) (omega (arith, length_items pool)) (code_var pool p h)

pub term_sym : (sig pool : List ℕ) (p : ℕ) → p < length pool → get_or pool p 0 < variable_base
    → term sig pool p ≡ sy (get_or pool p 0) ∷ args (arity sig) (items16 pool) (arity sig (get_or pool p 0)) (p + 1)
term_sym sig pool p b h = val_sym (arity sig) (items16 pool) p (get_or pool p 0) (omega (arith, length_items pool)) (code_sym pool p h)

app_var : (σ : ℕ → List Item) (x : ℕ) → app σ (vars x) ≡ σ x
app_var σ x = append-nil (σ x)

module _ (tab pool : List ℕ) (p : ℕ) where
  -- one binding followed
  follow : (sig : List ℕ) (r e : ℕ) → r < length pool → variable_base ≤ get_or pool r 0 → get_or pool r 0 < written_end → get_or tab (get_or pool r 0 - variable_base) 0 ≡ suc e
      → (B : List Bind) → Tab sig pool tab B → (σ : ℕ → List Item) → Solves σ B → app σ (term sig pool r) ≡ app σ (term sig pool e)
  follow sig r e b v n h B t σ s =
      let x = get_or pool r 0 - variable_base in
      let k : Has x (term sig pool e) B = rw h at (t x (omega arith)) in
      ap (app σ) (term_var sig pool r b v) ∙ app_var σ x ∙ solves_has σ x (term sig pool e) B k s

  abbrev pub Way : ℕ → Type 0
  Way r = (sig : List ℕ) (B : List Bind) → Tab sig pool tab B → (σ : ℕ → List Item) → Solves σ B
      → app σ (term sig pool p) ≡ app σ (term sig pool r)

  pub way_more : (r e : ℕ) → r < length pool → variable_base ≤ get_or pool r 0 → get_or pool r 0 < written_end → get_or tab (get_or pool r 0 - variable_base) 0 ≡ suc e → Way r → Way e
  way_more r e b v n h w sig B t σ s = w sig B t σ s ∙ follow sig r e b v n h B t σ s

-- variables with no binding
nought : ℕ → ℕ
nought zero = 1
nought (suc p) = 0

pub zeros : List ℕ → ℕ
zeros [] = 0
zeros (e ∷ tab) = nought e + zeros tab

zeros_set : (tab : List ℕ) (x p : ℕ) → x < length tab → get_or tab x 0 ≡ 0 → zeros (set tab x (p + 1)) + 1 ≡ zeros tab
unfolding zeros nought
zeros_set [] x p b e = absurd (omega arith)
zeros_set (a ∷ tab) zero p b e = rw (e, add-one p) (omega arith)
zeros_set (a ∷ tab) (suc x) p b e = omega (arith, zeros_set tab x p (omega arith) e)

zeros_all : (tab : List ℕ) → ((y : ℕ) → get_or tab y 0 ≡ 0) → zeros tab ≡ length tab
unfolding zeros nought
zeros_all [] h = refl
zeros_all (a ∷ tab) h = let e : a ≡ 0 = h 0 in rw e (omega (arith, zeros_all tab (λ y. h (suc y))))

-- the bindings that the tables stand for
pub record BindingsHeld (sig pool tab ms : List ℕ) (B : List Bind) : Type 0 where
  pub good : GoodBindings B
  pub values : Values (arity sig) B
  pub least : Least (full B)
  pub table : Tab sig pool tab B
  pub sets : VariableSets B ms
  pub many : length ms ≡ 64
  pub count : length B + zeros tab ≡ 64

module _ (sig pool : List ℕ) (G : Given sig pool) where
  pub node_term : (p : ℕ) → p < length pool → Terms (arity sig) 1 (term sig pool p)
  node_term p b = begins_term (arity sig) (items16 pool) 1 p (begins_at (arity sig) (items16 pool) G.count p G.terms (omega (arith, length_items pool)))

  named_list : (l : List ℕ) → ((p : ℕ) → p < length l → get_or l p 0 < written_end) → WrittenOnly (items16 l)
  named_list [] h y i = absurd i
  named_list (c ∷ l) h y i = go (dec_le variable_base c) i (named_list l (λ p b. h (suc p) (omega arith)))
    where
      go : Dec (variable_base ≤ c) → Occurs y (item16 c ∷ items16 l) → WrittenOnly (items16 l) → y < 64
      go (yes v) j ih = at (rw (code_var (c ∷ []) 0 v) at j)
        where
          at : (y ≡ c - variable_base) ⊎ Occurs y (items16 l) → y < 64
          at (inl e) = omega (arith, h 0 (omega arith))
          at (inr k) = ih y k
      go (no v) j ih = ih y (rw (code_sym (c ∷ []) 0 (omega arith)) at j)

  in_drop : (y p : ℕ) (l : List Item) → Occurs y (drop p l) → Occurs y l
  in_drop y zero l i = i
  in_drop y (suc p) [] i = i
  in_drop y (suc p) (sy f ∷ l) i = in_drop y p l i
  in_drop y (suc p) (va x ∷ l) i = inr (in_drop y p l i)

  pub node_named : (p : ℕ) → WrittenOnly (term sig pool p)
  node_named p y i = named_list pool G.named y (in_drop y p (items16 pool)
      (rw (first_rest (arity sig) 1 (drop p (items16 pool))) at (in_left y (first (arity sig) 1 (drop p (items16 pool))) (rest (arity sig) 1 (drop p (items16 pool))) i)))

  -- a binding of x to the node u
  module _ (tab ms : List ℕ) (B : List Bind) (h : BindingsHeld sig pool tab ms B) (S : BindingTable tab pool) (x u : ℕ) (xl : x < 64) (free : get_or tab x 0 ≡ 0)
      (ul : u < length pool) (less : get_or pool u 0 < variable_base + x) (ends : variable_base ≤ get_or pool u 0 → get_or tab (get_or pool u 0 - variable_base) 0 ≡ 0) where
    unbound_x : Unbound x B
    unbound_x = rw free at (h.table x xl)

    -- what u is
    sub : Sub (arity sig) (full B)
    sub = full_sub (arity sig) B h.values

    var_stays : variable_base ≤ get_or pool u 0 → app (full B) (term sig pool u) ≡ vars (get_or pool u 0 - variable_base)
    var_stays v = ap (app (full B)) (term_var sig pool u ul v) ∙ app_var (full B) _
        ∙ unbound (get_or pool u 0 - variable_base) B (rw (ends v) at (h.table (get_or pool u 0 - variable_base) (omega (arith, G.named u ul))))

    smaller : (y : ℕ) → app (full B) (term sig pool u) ≡ vars y → y ≤ x
    smaller y e = go (dec_le variable_base (get_or pool u 0))
      where
        go : Dec (variable_base ≤ get_or pool u 0) → y ≤ x
        go (yes v) = let k = var_stays v in let z : get_or pool u 0 - variable_base ≡ y = cc in omega arith
        go (no v) = let k = term_sym sig pool u ul (omega arith) in
            let q : app (full B) (sy (get_or pool u 0) ∷ args (arity sig) (items16 pool) (arity sig (get_or pool u 0)) (u + 1)) ≡ vars y = sym (ap (app (full B)) k) ∙ e in
            let c : ◌≡◌ {A = ℕ} 0 1 = cc in absurd (omega arith)

    entry_old : (v : List Item) (y e : ℕ) → x ≢ y → BindingEntry sig pool B y e → BindingEntry sig pool ((x := v) ∷ B) y e
    entry_old v y zero n k = (n, k)
    entry_old v y (suc p) n k = inr k

    pub held_bind : (On x (mask_of ms 0 (term sig pool u)) → ⊥) → BindingsHeld sig pool (set tab x (u + 1)) (map (spread x (mask_of ms 0 (term sig pool u))) ms) ((x := term sig pool u) ∷ B)
    held_bind o = record {
      good = (unbound_x, (λ i. o ((sets_term B ms h.sets (term sig pool u) (node_named u) x unbound_x).1 i)), h.good);
      values = (node_term u ul, h.values);
      least = least_step (arity sig) (full B) sub x (app (full B) (term sig pool u)) (app_terms (arity sig) (full B) sub 1 (term sig pool u) (node_term u ul)) smaller h.least;
      table = λ y b. at y b (ℕ_discrete x y);
      sets = sets_bind B ms h.many h.sets x (term sig pool u) unbound_x (node_named u);
      many = length-map ms _ ∙ h.many;
      count = omega (arith, h.count, zeros_set tab x u (omega (arith, S.many)) free);
    }
      where
        at : (y : ℕ) → y < 64 → Dec (x ≡ y) → BindingEntry sig pool ((x := term sig pool u) ∷ B) y (get_or (set tab x (u + 1)) y 0)
        at y b (yes e) = rw (← e, get_or-set_same tab x (u + 1) 0 (omega (arith, S.many)), add-one) (inl (refl, refl))
        at y b (no n) = rw (get_or-set_other tab x y (u + 1) 0 (λ e. n (sym e))) (entry_old (term sig pool u) y (get_or tab y 0) n (h.table y b))

    pub shape_bind : BindingTable (set tab x (u + 1)) pool
    shape_bind = record {
      many = length-set tab x (u + 1) ∙ S.many;
      inside = λ y. in₁ y (ℕ_discrete x y);
      down = λ y p. down₁ y p (ℕ_discrete x y);
    }
      where
        in₁ : (y : ℕ) → Dec (x ≡ y) → get_or (set tab x (u + 1)) y 0 ≤ length pool
        in₁ y (yes e) = rw (← e, get_or-set_same tab x (u + 1) 0 (omega (arith, S.many))) (omega arith)
        in₁ y (no n) = rw (get_or-set_other tab x y (u + 1) 0 (λ e. n (sym e))) (S.inside y)

        down₁ : (y p : ℕ) → Dec (x ≡ y) → get_or (set tab x (u + 1)) y 0 ≡ suc p → get_or pool p 0 < variable_base + y
        down₁ y p (yes e) q = let k : u ≡ p = omega (arith, rw (← e, get_or-set_same tab x (u + 1) 0 (omega (arith, S.many))) at q) in rw (← k, ← e) less
        down₁ y p (no n) q = S.down y p (rw (get_or-set_other tab x y (u + 1) 0 (λ e. n (sym e))) at q)

    -- the occurs check: x in u leaves no solution
    pub no_solution : On x (mask_of ms 0 (term sig pool u)) → (σ : ℕ → List Item) → Sub (arity sig) σ → Solves σ B → σ x ≡ app σ (term sig pool u) → ⊥
    no_solution o σ w s e = go (dec_le variable_base (get_or pool u 0))
      where
        i : Occurs x (app (full B) (term sig pool u))
        i = (sets_term B ms h.sets (term sig pool u) (node_named u) x unbound_x).0 o

        is : (y : ℕ) → Occurs x (vars y) → x ≡ y
        is y (inr x'') = elim x'' [ ]
        is y (inl q) = q

        long : (f : ℕ) (l : List Item) → Occurs x (app (full B) (sy f ∷ l)) → 1 < length (app (full B) (sy f ∷ l))
        long f l j = in_length (app (full B) l) j
          where
            in_length : (m : List Item) → Occurs x m → 1 < suc (length m)
            in_length [] k = absurd k
            in_length (a ∷ m) k = omega arith

        go : Dec (variable_base ≤ get_or pool u 0) → ⊥
        go (yes v) = let k = is (get_or pool u 0 - variable_base) (rw (var_stays v) at i) in omega arith
        go (no v) =
            let k = term_sym sig pool u ul (omega arith) in
            circular (arity sig) σ w B s x (term sig pool u) i (rw k (long (get_or pool u 0) (args (arity sig) (items16 pool) (arity sig (get_or pool u 0)) (u + 1)) (rw k at i))) e

-- no substitution makes the two the same
abbrev pub None : List ℕ → List ℕ → ℕ → Type 0
None sig pool root = (σ : ℕ → List Item) → Sub (arity sig) σ → app σ (term sig pool 0) ≡ app σ (term sig pool root) → ⊥

-- bindings that make them the same, as general as can be, smallest variables first
pub record Unified (sig pool : List ℕ) (root : ℕ) (tab : List ℕ) : Type 0 where
  pub binds : List Bind
  pub good : GoodBindings binds
  pub table : Tab sig pool tab binds
  pub shape : BindingTable tab pool
  pub few : length binds ≤ 64
  pub mgu : Mgu (arity sig) (term sig pool 0) (term sig pool root) (full binds)
  pub least : Least (full binds)

-- the answer's code: 0 where they unify, 1 and 2 where they do not
abbrev pub UnifierEnds : List ℕ → List ℕ → ℕ → ℕ → List ℕ → Type 0
UnifierEnds sig pool root code tab = (code ≡ 0 → Unified sig pool root tab) × (code ≢ 0 → None sig pool root)

-- the loop's state
pub record UnifierState (sig pool : List ℕ) (root : ℕ) (K : List ℕ) (n : ℕ) (tab ms cls : List ℕ) : Type 0 where
  pub binds : List Bind
  pub held : BindingsHeld sig pool tab ms binds
  pub goal : Goal (arity sig) (term sig pool) (term sig pool 0) (term sig pool root) binds K n cls
  pub shape : BindingTable tab pool
  pub classes : Classes n cls
  pub deep : length K ≡ 512
  pub inside : (i : ℕ) → i < n → Inside (arity sig) (items16 pool) (get_or K i 0)

module _ (sig pool : List ℕ) (G : Given sig pool) (root : ℕ) where
  pub run_start : (K tab ms cls : List ℕ) → length K ≡ 512 → root < length pool → get_or K 0 0 ≡ root → ((y : ℕ) → get_or tab y 0 ≡ 0) → length tab ≡ 64
      → length ms ≡ 64 → ((y : ℕ) → y < 64 → get_or ms y 0 ≡ 2 ^ y) → length cls ≡ 64 → ((i : ℕ) → i < 64 → get_or cls i 0 ≡ i) → UnifierState sig pool root K 1 tab ms cls
  run_start K tab ms cls kd rl k0 tz tl ml mz cl cz = record {
    binds = [];
    held = record { good = tt; values = tt; least = λ x y e. (let h : x ≡ y = cc in omega arith); table = λ y b. rw (tz y) tt; sets = sets_start ms mz; many = ml; count = omega (arith, zeros_all tab tz) };
    goal = begin (arity sig) (term sig pool) (term sig pool 0) (term sig pool root) K cls
        (let z : get_or K 0 0 / 64 ≡ 0 = omega (arith, G.short) in ap (term sig pool) z) (let z : get_or K 0 0 % 64 ≡ root = omega (arith, G.short) in ap (term sig pool) z) cz;
    shape = record { many = tl; inside = λ y. omega (arith, tz y); down = λ x p e. absurd (omega (arith, tz x)) };
    classes = classes_start cls cl cz;
    deep = kd;
    inside = λ i b. (let z : i ≡ 0 = omega arith in rw (z, k0) (omega (arith, G.short, length_items pool), omega (arith, G.short, length_items pool)));
  }

  pub run_end : (K tab ms cls : List ℕ) → UnifierState sig pool root K 0 tab ms cls → Unified sig pool root tab
  run_end K tab ms cls v = record {
    binds = v.binds;
    good = v.held.good;
    table = v.held.table;
    shape = v.shape;
    few = omega (arith, v.held.count);
    mgu = finished (arity sig) (term sig pool) (term sig pool 0) (term sig pool root) v.binds K cls v.held.good v.held.values v.goal;
    least = v.held.least;
  }

  -- the top pair, and where it leads
  module _ (K : List ℕ) (n : ℕ) (tab ms cls : List ℕ) (v : UnifierState sig pool root K (n + 1) tab ms cls) (p r : ℕ)
      (dp : Led tab pool (get_or K n 0 / 64) p) (dr : Led tab pool (get_or K n 0 % 64) r) where
    solve_p : (σ : ℕ → List Item) → Solves σ v.binds → app σ (term sig pool (get_or K n 0 / 64)) ≡ app σ (term sig pool p)
    solve_p σ s = dp.same sig v.binds v.held.table σ s

    solve_r : (σ : ℕ → List Item) → Solves σ v.binds → app σ (term sig pool (get_or K n 0 % 64)) ≡ app σ (term sig pool r)
    solve_r σ s = dr.same sig v.binds v.held.table σ s

    Top : (ℕ → List Item) → Type 0
    Top σ = GoalHolds (arity sig) (term sig pool) (term sig pool 0) (term sig pool root) σ (get_or K n 0)

    down : (σ : ℕ → List Item) → Solves σ v.binds → Top σ → app σ (term sig pool p) ≡ app σ (term sig pool r)
    unfolding Top
    down σ s e = sym (solve_p σ s) ∙ e ∙ solve_r σ s

    up : (σ : ℕ → List Item) → Solves σ v.binds → app σ (term sig pool p) ≡ app σ (term sig pool r) → Top σ
    unfolding Top
    up σ s e = solve_p σ s ∙ e ∙ sym (solve_r σ s)

    pub run_same : term sig pool p ≡ term sig pool r → UnifierState sig pool root K n tab ms cls
    unfolding Top
    run_same e = record {
      binds = v.binds;
      held = v.held;
      goal = settled (arity sig) (term sig pool) (term sig pool 0) (term sig pool root) v.binds K n cls v.goal v.binds (λ σ w s h. s) (λ σ s. (s, up σ s (ap (app σ) e)));
      shape = v.shape;
      classes = classes_less (n + 1) n cls (omega arith) v.classes;
      deep = v.deep;
      inside = λ i b. v.inside i (omega arith);
    }

    pub run_clash : get_or pool p 0 < variable_base → get_or pool r 0 < variable_base → get_or pool p 0 ≢ get_or pool r 0 → None sig pool root
    unfolding Top
    run_clash a b d σ w e =
        let h = v.goal.complete σ w e in
        let k = down σ h.0 (h.1 n (omega arith)) in
        let k' : app σ (sy (get_or pool p 0) ∷ args (arity sig) (items16 pool) (arity sig (get_or pool p 0)) (p + 1)) ≡ app σ (sy (get_or pool r 0) ∷ args (arity sig) (items16 pool) (arity sig (get_or pool r 0)) (r + 1))
        = ap (app σ) (sym (term_sym sig pool p dp.low a)) ∙ k ∙ ap (app σ) (term_sym sig pool r dr.low b) in
        d (cc)

    pub run_skip : get_or cls p 0 ≡ get_or cls r 0 → UnifierState sig pool root K n tab ms cls
    run_skip e = record {
      binds = v.binds;
      held = v.held;
      goal = skipped (arity sig) (term sig pool) (term sig pool 0) (term sig pool root) v.binds K n cls v.goal p r (omega (arith, G.short, dp.low)) (omega (arith, G.short, dr.low)) solve_p solve_r e;
      shape = v.shape;
      classes = classes_less (n + 1) n cls (omega arith) v.classes;
      deep = v.deep;
      inside = λ i b. v.inside i (omega arith);
    }

    -- x against u, on either side
    module _ (x u w : ℕ) (side : ((w ≡ p) × (u ≡ r)) ⊎ ((w ≡ r) × (u ≡ p))) (ex : get_or pool w 0 ≡ variable_base + x) (less : get_or pool u 0 < variable_base + x) where
      w_low : w < length pool
      w_low = go side
        where
          go : ((w ≡ p) × (u ≡ r)) ⊎ ((w ≡ r) × (u ≡ p)) → w < length pool
          go (inl h) = omega (arith, h.0, dp.low)
          go (inr h) = omega (arith, h.0, dr.low)

      pub u_low : u < length pool
      u_low = go side
        where
          go : ((w ≡ p) × (u ≡ r)) ⊎ ((w ≡ r) × (u ≡ p)) → u < length pool
          go (inl h) = omega (arith, h.1, dr.low)
          go (inr h) = omega (arith, h.1, dp.low)

      stop : (z : ℕ) → (z ≡ p) ⊎ (z ≡ r) → variable_base ≤ get_or pool z 0 → get_or tab (get_or pool z 0 - variable_base) 0 ≡ 0
      stop z (inl e) b = rw e (dp.stops (rw e at b))
      stop z (inr e) b = rw e (dr.stops (rw e at b))

      u_stop : variable_base ≤ get_or pool u 0 → get_or tab (get_or pool u 0 - variable_base) 0 ≡ 0
      u_stop = go side
        where
          go : ((w ≡ p) × (u ≡ r)) ⊎ ((w ≡ r) × (u ≡ p)) → variable_base ≤ get_or pool u 0 → get_or tab (get_or pool u 0 - variable_base) 0 ≡ 0
          go (inl h) = stop u (inr h.1)
          go (inr h) = stop u (inl h.1)

      pub x_low : x < 64
      x_low = omega (arith, G.named w w_low)

      x_free : get_or tab x 0 ≡ 0
      x_free = go side
        where
          is : get_or pool w 0 - variable_base ≡ x
          is = omega arith

          go : ((w ≡ p) × (u ≡ r)) ⊎ ((w ≡ r) × (u ≡ p)) → get_or tab x 0 ≡ 0
          go (inl h) = rw is at (stop w (inl h.0) (omega arith))
          go (inr h) = rw is at (stop w (inr h.0) (omega arith))

      term_w : term sig pool w ≡ vars x
      term_w = let e : get_or pool w 0 - variable_base ≡ x = omega arith in rw e at (term_var sig pool w w_low (omega arith))

      value : (σ : ℕ → List Item) → Solves σ v.binds → Top σ ↔ (σ x ≡ app σ (term sig pool u))
      value σ s = ((λ t. to side (down σ s t)), λ e. up σ s (from side e))
        where
          at : app σ (term sig pool w) ≡ σ x
          at = ap (app σ) term_w ∙ app_var σ x

          to : ((w ≡ p) × (u ≡ r)) ⊎ ((w ≡ r) × (u ≡ p)) → app σ (term sig pool p) ≡ app σ (term sig pool r) → σ x ≡ app σ (term sig pool u)
          to (inl h) e = sym at ∙ ap (λ (z : ℕ). app σ (term sig pool z)) h.0 ∙ e ∙ ap (λ (z : ℕ). app σ (term sig pool z)) (sym h.1)
          to (inr h) e = sym at ∙ ap (λ (z : ℕ). app σ (term sig pool z)) h.0 ∙ sym e ∙ ap (λ (z : ℕ). app σ (term sig pool z)) (sym h.1)

          from : ((w ≡ p) × (u ≡ r)) ⊎ ((w ≡ r) × (u ≡ p)) → σ x ≡ app σ (term sig pool u) → app σ (term sig pool p) ≡ app σ (term sig pool r)
          from (inl h) e = ap (λ (z : ℕ). app σ (term sig pool z)) (sym h.0) ∙ at ∙ e ∙ ap (λ (z : ℕ). app σ (term sig pool z)) h.1
          from (inr h) e = sym (ap (λ (z : ℕ). app σ (term sig pool z)) (sym h.0) ∙ at ∙ e ∙ ap (λ (z : ℕ). app σ (term sig pool z)) h.1)

      pub run_occurs : On x (mask_of ms 0 (term sig pool u)) → None sig pool root
      unfolding Top
      run_occurs o σ w₀ e =
          let h = v.goal.complete σ w₀ e in
          no_solution sig pool G tab ms v.binds v.held v.shape x u x_low x_free u_low less u_stop o σ w₀ h.0 ((value σ h.0).0 (h.1 n (omega arith)))

      pub run_bind : (On x (mask_of ms 0 (term sig pool u)) → ⊥) → UnifierState sig pool root K n (set tab x (u + 1)) (map (spread x (mask_of ms 0 (term sig pool u))) ms) cls
      unfolding Top
      run_bind o = record {
        binds = (x := term sig pool u) ∷ v.binds;
        held = held_bind sig pool G tab ms v.binds v.held v.shape x u x_low x_free u_low less u_stop o;
        goal = settled (arity sig) (term sig pool) (term sig pool 0) (term sig pool root) v.binds K n cls v.goal ((x := term sig pool u) ∷ v.binds)
            (λ σ w₀ s t. ((value σ s).0 t, s)) (λ σ s. (s.1, (value σ s.1).1 s.0));
        shape = shape_bind sig pool G tab ms v.binds v.held v.shape x u x_low x_free u_low less u_stop;
        classes = classes_less (n + 1) n cls (omega arith) v.classes;
        deep = v.deep;
        inside = λ i b. v.inside i (omega arith);
      }

    -- one symbol on both sides
    module _ (a : get_or pool p 0 < variable_base) (e : get_or pool p 0 ≡ get_or pool r 0) where
      pub run_merge : get_or cls p 0 ≢ get_or cls r 0 → (K' : List ℕ) (l l' : ℕ)
          → Pushed (arity sig) (items16 pool) K K' n (arity sig (get_or pool p 0)) (p + 1) (r + 1) 0 l l'
          → UnifierState sig pool root K' (n + arity sig (get_or pool p 0)) tab ms (map (swap (get_or cls p 0) (get_or cls r 0)) cls)
      run_merge d K' l l' h = record {
        binds = v.binds;
        held = v.held;
        goal = merged (arity sig) (term sig pool) (term sig pool 0) (term sig pool root) v.binds K n cls v.goal p r pl rl solve_p solve_r
            (get_or pool p 0) u₁ u₂ (term_sym sig pool p dp.low a) (rw (← e) at (term_sym sig pool r dr.low (omega arith)))
            (map (swap (get_or cls p 0) (get_or cls r 0)) cls) K' (n + arity sig (get_or pool p 0))
            (record { each = λ i b. each i b (join_each (n + 1) cls v.classes p r pl rl d i b) })
            (λ σ w q old i b. cpl σ w q old i b (dec_le n i))
            (λ σ m f. (
              (λ i b. rw (h.low i b) at (f i (omega arith))),
              h.sound σ m (λ x b c. f (n + x) (omega arith)) (rw (args_none (arity sig) (items16 pool) l, args_none (arity sig) (items16 pool) l') refl),
            ));
        shape = v.shape;
        classes = join_classes (n + 1) cls v.classes p r pl rl d (n + arity sig (get_or pool p 0)) (omega (arith, G.arities (get_or pool p 0)));
        deep = h.many ∙ v.deep;
        inside = λ i b. ins i b (dec_le n i);
      }
        where
          pl : p < 64
          pl = omega (arith, G.short, dp.low)

          rl : r < 64
          rl = omega (arith, G.short, dr.low)

          u₁ : List Item
          u₁ = args (arity sig) (items16 pool) (arity sig (get_or pool p 0)) (p + 1)

          u₂ : List Item
          u₂ = args (arity sig) (items16 pool) (arity sig (get_or pool p 0)) (r + 1)

          each : (i : ℕ) → i < 64 → ((get_or cls i 0 ≡ get_or cls p 0) × (get_or (map (swap (get_or cls p 0) (get_or cls r 0)) cls) i 0 ≡ get_or cls r 0)) ⊎ ((get_or cls i 0 ≢ get_or cls p 0) × (get_or (map (swap (get_or cls p 0) (get_or cls r 0)) cls) i 0 ≡ get_or cls i 0))
              → ((get_or cls i 0 ≡ get_or cls p 0) × (get_or (map (swap (get_or cls p 0) (get_or cls r 0)) cls) i 0 ≡ get_or cls r 0)) ⊎ (get_or (map (swap (get_or cls p 0) (get_or cls r 0)) cls) i 0 ≡ get_or cls i 0)
          each i b (inl k) = inl k
          each i b (inr k) = inr k.1

          cpl : (σ : ℕ → List Item) → Sub (arity sig) σ → app σ u₁ ≡ app σ u₂
              → ((i : ℕ) → i < n → GoalHolds (arity sig) (term sig pool) (term sig pool 0) (term sig pool root) σ (get_or K i 0))
              → (i : ℕ) → i < n + arity sig (get_or pool p 0) → Dec (n ≤ i) → GoalHolds (arity sig) (term sig pool) (term sig pool 0) (term sig pool root) σ (get_or K' i 0)
          cpl σ w q old i b (yes c) = let z : n + (i - n) ≡ i = omega arith in rw z at ((h.complete σ w q).1 (i - n) (omega arith) (omega arith))
          cpl σ w q old i b (no c) = rw (h.low i (omega arith)) (old i (omega arith))

          ins : (i : ℕ) → i < n + arity sig (get_or pool p 0) → Dec (n ≤ i) → Inside (arity sig) (items16 pool) (get_or K' i 0)
          ins i b (yes c) = let z : n + (i - n) ≡ i = omega arith in rw z at (h.inside (i - n) (omega arith) (omega arith))
          ins i b (no c) = rw (h.low i (omega arith)) (v.inside i (omega arith))
