-- Serves SCOPE.md, 'The solver's record': the values of the variables, from the table of bindings alone: each
-- followed to a depth; and their sizes.
use Rattle.std.specs.Prelude.{◌≡◌, ◌≢◌, List, [], ◌∷◌, ltb, length, get_or}
use Rattle.std.proofs.Math.Path.{refl}
use Rattle.std.proofs.Common.{sym, ap, ◌∙◌, subst, inl, inr, arith, length-append, lt-ltb, le-ltb}
use Prim.Native.Nat.{ℕ, zero, suc, ◌+◌, ◌-◌, ◌≤◌, ◌<◌, min}
use Rattle.std.proofs.Math.Decide.{dec_le}
use Rattle.theory.specs.Flat.{Item, sy, va}
use Rattle.theory.specs.Subst.{vars, app, app_agree, Occurs}
use Rattle.theory.specs.Unify.{Bind, full, GoodBindings, unbound, solved, Has, solves_has}
use Rattle.theory.specs.Order.{FollowingEnds, ends}
use Rattle.theory.specs.Items.{item16, items16}
use Rattle.laws.specs.Choice.{pick}
use Rattle.joining.specs.Masks.{WrittenOnly}
use Rattle.theory.specs.Nodes.{args}
use Rattle.joining.specs.Run.{Given, Tab, term, node_named}
use Rattle.theory.specs.ItemWalk.{extra, args_turn}
use Rattle.laws.specs.Sizes.{value_limit, variable_base}
use Rattle.terms.specs.Terms.{arity}

module _ (sig pool tab : List ℕ) where
  abbrev pub hop : (ℕ → List Item) → ℕ → ℕ → List Item
  hop f x zero = vars x
  hop f x (suc p) = app f (term sig pool p)

  -- the value of x, bindings followed d deep
  unfoldable pub value : ℕ → ℕ → List Item
  value zero x = vars x
  value (suc d) x = hop (value d) x (get_or tab x 0)

  pub value_zero : (x : ℕ) → value 0 x ≡ vars x
  unfolding value
  value_zero x = refl

  pub value_free : (d x : ℕ) → get_or tab x 0 ≡ 0 → value d x ≡ vars x
  unfolding value
  value_free zero x e = refl
  value_free (suc d) x e = rw e

  pub value_bound : (d x p : ℕ) → get_or tab x 0 ≡ suc p → value (suc d) x ≡ app (value d) (term sig pool p)
  unfolding value
  value_bound d x p e = rw e

  -- deep enough, it is the value under all bindings
  module _ (G : Given sig pool) (B : List Bind) (g : GoodBindings B) (t : Tab sig pool tab B) where
    at_end : (x : ℕ) → x < 64 → (e : ℕ) → get_or tab x 0 ≡ e → FollowingEnds B 0 (vars x) → vars x ≡ full B x
    at_end x b zero e h = sym (unbound x B (rw e at (t x b)))
    at_end x b (suc p) e h = absurd (h x (inl refl) (term sig pool p) (rw e at (t x b)))

    is : (y : ℕ) (l : List Item) → Occurs y l → (z : ℕ) → Occurs z (vars y) → Occurs z l
    is y l i z (inr x') = elim x' [ ]
    is y l i z (inl e) = rw e i

    within : (d y : ℕ) (l : List Item) → Occurs y l → FollowingEnds B d l → FollowingEnds B d (vars y)
    within zero y l i h = λ z j u k. h z (is y l i z j) u k
    within (suc d) y l i h = λ z j u k. h z (is y l i z j) u k

    step : (d x : ℕ) → x < 64 → (e : ℕ) → get_or tab x 0 ≡ e → FollowingEnds B (suc d) (vars x) → ((y : ℕ) → y < 64 → FollowingEnds B d (vars y) → value d y ≡ full B y) → hop (value d) x e ≡ full B x
    step d x b zero e h ih = sym (unbound x B (rw e at (t x b)))
    step d x b (suc p) e h ih =
        let k : Has x (term sig pool p) B = rw e at (t x b) in
        app_agree (value d) (full B) (term sig pool p) (λ y i. ih y (node_named sig pool G p y i) (within d y (term sig pool p) i (h x (inl refl) (term sig pool p) k)))
        ∙ sym (solves_has (full B) x (term sig pool p) B k (solved B g))

    pub value_ends : (d x : ℕ) → x < 64 → FollowingEnds B d (vars x) → value d x ≡ full B x
    unfolding value
    value_ends zero x b h = at_end x b (get_or tab x 0) refl h
    value_ends (suc d) x b h = step d x b (get_or tab x 0) refl h (value_ends d)

    ends_more : (d e : ℕ) (l : List Item) → d ≤ e → FollowingEnds B d l → FollowingEnds B e l
    ends_more zero zero l b h = h
    ends_more zero (suc e) l b h = λ y i u k. absurd (h y i u k)
    ends_more (suc d) zero l b h = absurd (omega arith)
    ends_more (suc d) (suc e) l b h = λ y i u k. ends_more d e u (omega arith) (h y i u k)

    pub value_full : length B ≤ 64 → (x : ℕ) → x < 64 → value 64 x ≡ full B x
    value_full few x b = value_ends 64 x b (ends_more (length B) 64 (vars x) few (ends B g (vars x)))

-- sizes: the items of app σ l, from a table of the sizes of the values
abbrev pub size : (ℕ → ℕ) → List Item → ℕ
size s [] = 0
size s (sy f ∷ l) = suc (size s l)
size s (va x ∷ l) = s x + size s l

pub size_app : (σ : ℕ → List Item) (l : List Item) → length (app σ l) ≡ size (λ x. length (σ x)) l
size_app σ [] = refl
size_app σ (sy f ∷ l) = rw (size_app σ l)
size_app σ (va x ∷ l) = simp (length-append, size_app σ l)

-- the entries may be cut at c
size_cut_lem : (c : ℕ) (s r : ℕ → ℕ) (l : List Item) → WrittenOnly l → ((y : ℕ) → y < 64 → s y ≡ min (r y) c) → min (size s l) c ≡ min (size r l) c
size_cut_lem c s r [] n h = refl
size_cut_lem c s r (sy f ∷ l) n h = omega (arith, size_cut_lem c s r l n h)
size_cut_lem c s r (va x ∷ l) n h = omega (arith, size_cut_lem c s r l (λ y i. n y (inr i)) h, h x (n x (inl refl)))

-- the size of an item, by a table
unfoldable pub weigh : List ℕ → ℕ → ℕ
weigh sz c = pick (ltb c variable_base) 1 (get_or sz (c - variable_base) 0)

pub weigh_sym : (sz : List ℕ) (c : ℕ) → c < variable_base → weigh sz c ≡ 1
unfolding weigh
weigh_sym sz c b = rw (lt-ltb c variable_base b)

pub weigh_var : (sz : List ℕ) (c : ℕ) → variable_base ≤ c → weigh sz c ≡ get_or sz (c - variable_base) 0
unfolding weigh
weigh_var sz c b = rw (le-ltb c variable_base b)

abbrev pub table : List ℕ → ℕ → ℕ
table sz x = get_or sz x 0

size_item : (sz : List ℕ) (c : ℕ) (l : List Item) → size (table sz) (item16 c ∷ l) ≡ weigh sz c + size (table sz) l
size_item sz c l = go (dec_le variable_base c)
  where
    go : Dec (variable_base ≤ c) → size (table sz) (item16 c ∷ l) ≡ weigh sz c + size (table sz) l
    go (yes v) = rw (le-ltb c variable_base v, weigh_var sz c v)
    go (no v) = let h : c < variable_base = omega arith in rw (lt-ltb c variable_base h, weigh_sym sz c h) (omega arith)

-- one more than a value may have: sizes are counted no further
abbrev pub size_cut : ℕ
size_cut = value_limit + 1

-- the count so far, no further than that
module _ (sig pool sz : List ℕ) where
  abbrev pub Counted : ℕ → ℕ → ℕ → ℕ → Type 0
  Counted p o i m = (m ≤ size_cut)
      ×
      (min (m + size (table sz) (args (arity sig) (items16 pool) o i)) size_cut ≡ min
      (size (table sz) (term sig pool p)) size_cut)

  pub counted_turn : (p o i m : ℕ) → o ≢ 0 → i < length pool → Counted p o i m → Counted p (o - 1 + extra sig (get_or pool i 0)) (i + 1) (min (m + weigh sz (get_or pool i 0)) size_cut)
  counted_turn p o i m n b h =
      let e = ap (size (table sz)) (args_turn sig pool o i n b) ∙ size_item sz (get_or pool i 0) (args (arity sig) (items16 pool) (o - 1 + extra sig (get_or pool i 0)) (i + 1)) in
      (omega arith, omega (arith, h.1, e))

  pub counted_end : (p o i m : ℕ) → args (arity sig) (items16 pool) o i ≡ [] → Counted p o i m → m ≡ min (size (table sz) (term sig pool p)) size_cut
  counted_end p o i m e h = omega (arith, h.0, h.1, ap (size (table sz)) e)

-- the sizes of the values, cut there
abbrev pub Sizes : List ℕ → List ℕ → List ℕ → ℕ → List ℕ → Type 0
Sizes sig pool tab d sz = (y : ℕ) → y < 64 → get_or sz y 0 ≡ min (length (value sig pool tab d y)) size_cut

-- one entry of the next round
unfoldable pub entry_size : List ℕ → List ℕ → List ℕ → ℕ → ℕ
entry_size sig pool sz zero = 1
entry_size sig pool sz (suc p) = min (size (table sz) (term sig pool p)) size_cut

pub sizes_step : (sig pool tab : List ℕ) → Given sig pool → (d : ℕ) (sz sz' : List ℕ) → Sizes sig pool tab d sz
    → ((y : ℕ) → y < 64 → get_or sz' y 0 ≡ entry_size sig pool sz (get_or tab y 0)) → Sizes sig pool tab (d + 1) sz'
unfolding entry_size
sizes_step sig pool tab G d sz sz' s h y b = h y b ∙ go (get_or tab y 0) refl
  where
    one : d + 1 ≡ suc d
    one = omega arith

    go : (e : ℕ) → get_or tab y 0 ≡ e → entry_size sig pool sz e ≡ min (length (value sig pool tab (d + 1) y)) size_cut
    go zero e = rw (value_free sig pool tab (d + 1) y e)
    go (suc p) e = size_cut_lem size_cut (table sz) (λ x. length (value sig pool tab d x)) (term sig pool p) (node_named sig pool G p) s
        ∙ ap (λ (n : ℕ). min n size_cut) (sym (size_app (value sig pool tab d) (term sig pool p)) ∙ ap length (sym (value_bound sig pool tab d y p e) ∙ ap (λ (k : ℕ). value sig pool tab k y) (sym one)))

-- a round that changes nothing is the last
pub sizes_stay : (sig pool tab : List ℕ) → Given sig pool → (d : ℕ) (sz : List ℕ) → Sizes sig pool tab d sz
    → ((y : ℕ) → y < 64 → get_or sz y 0 ≡ entry_size sig pool sz (get_or tab y 0)) → (k : ℕ) → Sizes sig pool tab (d + k) sz
sizes_stay sig pool tab G d sz s h zero = let e : d + 0 ≡ d = omega arith in rw e s
sizes_stay sig pool tab G d sz s h (suc k) =
    let e : d + suc k ≡ d + k + 1 = omega arith in rw e (sizes_step sig pool tab G (d + k) sz sz (sizes_stay sig pool tab G d sz s h k) h)

pub sizes_last : (sig pool tab : List ℕ) → Given sig pool → (d : ℕ) (sz sz' : List ℕ) → d ≤ 64 → Sizes sig pool tab d sz
    → ((y : ℕ) → y < 64 → get_or sz' y 0 ≡ entry_size sig pool sz (get_or tab y 0)) → ((y : ℕ) → y < 64 → get_or sz' y 0 ≡ get_or sz y 0) → Sizes sig pool tab 64 sz
sizes_last sig pool tab G d sz sz' b s h e =
    let k : d + (64 - d) ≡ 64 = omega arith in
    subst (λ (j : ℕ). Sizes sig pool tab j sz) k (sizes_stay sig pool tab G d sz s (λ y l. sym (e y l) ∙ h y l) (64 - d))

pub entry_none : (sig pool sz : List ℕ) (e : ℕ) → e ≡ 0 → 1 ≡ entry_size sig pool sz e
unfolding entry_size
entry_none sig pool sz e z = rw z

pub entry_some : (sig pool sz : List ℕ) (e n : ℕ) → e ≢ 0 → n ≡ min (size (table sz) (term sig pool (e - 1))) size_cut → n ≡ entry_size sig pool sz e
unfolding entry_size
entry_some sig pool sz zero n z h = absurd (z refl)
entry_some sig pool sz (suc e) n z h = let k : suc e - 1 ≡ e = omega arith in h ∙ ap (λ (j : ℕ). min (size (table sz) (term sig pool j)) size_cut) k

pub sizes_start : (sig pool tab sz : List ℕ) → ((y : ℕ) → y < 64 → get_or sz y 0 ≡ 1) → Sizes sig pool tab 0 sz
sizes_start sig pool tab sz h y b = h y b ∙ ap (λ (l : List Item). min (length l) size_cut) (sym (value_zero sig pool tab y))
