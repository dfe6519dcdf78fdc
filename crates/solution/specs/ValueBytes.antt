-- SCOPE.md, 'The solver's record': values in bytes.
use Rattle.std.specs.Prelude.{◌≡◌, refl, ◌⊎◌, ◌≢◌, List, [], ◌∷◌, ◌++◌, length, drop, take, Option, None, Some, SomeIff}
use Rattle.std.proofs.Common.{sym, ◌∙◌, inl, inr, append-nil, lt-ltb, le-ltb}
use Rattle.std.proofs.Math.Path.{ap}
use Prim.Native.Nat.{ℕ, zero, suc, ◌+◌, ◌-◌, ◌/◌, ◌%◌, ◌≤◌, ◌<◌}
use Rattle.std.proofs.Math.Decide.{dec_le}
use native.Mathlib.Omega.{arith}
use Rattle.std.proofs.Math.ListN.{get_or}
use Rattle.theory.specs.Flat.{Item}
use Rattle.theory.specs.Subst.{vars, app, app_append}
use Rattle.theory.specs.Items.{item16, items16, number}
use Rattle.theory.specs.Nodes.{args}
use Rattle.joining.specs.Run.{BindingTable, term}
use Rattle.definitions.specs.Records.{bytes}
use Rattle.theory.specs.ItemWalk.{extra, args_turn, args_end, Walk, walk_turn}
use Rattle.solution.specs.Values.{value, value_zero, value_free, value_bound}
use Rattle.solution.specs.Filling.{front, Filled, Filling, fill_start, fill_room, fill_turn, fill_end}
use Rattle.laws.specs.Sizes.{variable_base}
use Rattle.terms.specs.Terms.{arity}

pub bytes_append : (a b : List Item) → bytes (a ++ b) ≡ bytes a ++ bytes b
unfolding bytes
bytes_append [] b = refl
bytes_append (i ∷ a) b = ap (λ (r : List ℕ). number i / 256 ∷ number i % 256 ∷ r) (bytes_append a b)

module _ (sig pool tab : List ℕ) where
  unfoldable pub item_bytes : ℕ → ℕ → List ℕ
  item_bytes d c = bytes (app (value sig pool tab d) (item16 c ∷ []))

  unfoldable pub term_bytes : ℕ → ℕ → List ℕ
  term_bytes d p = bytes (app (value sig pool tab d) (term sig pool p))

  item_sym : (d c : ℕ) → c < variable_base → item_bytes d c ≡ c / 256 ∷ c % 256 ∷ []
  unfolding item_bytes bytes
  item_sym d c b = rw (lt-ltb c variable_base b)

  item_var : (d c : ℕ) → variable_base ≤ c → item_bytes d c ≡ bytes (value sig pool tab d (c - variable_base))
  unfolding item_bytes
  item_var d c b = rw (le-ltb c variable_base b, append-nil)

  bytes_var : (c : ℕ) → variable_base ≤ c → bytes (vars (c - variable_base)) ≡ c / 256 ∷ c % 256 ∷ []
  unfolding bytes
  bytes_var c b = let e : variable_base + (c - variable_base) ≡ c = omega arith in rw e

  pub item_plain : (d c : ℕ) → (variable_base ≤ c → (d ≡ 0) ⊎ (get_or tab (c - variable_base) 0 ≡ 0)) → item_bytes d c ≡ c / 256 ∷ c % 256 ∷ []
  item_plain d c h = go (dec_le variable_base c)
    where
      at : variable_base ≤ c → (d ≡ 0) ⊎ (get_or tab (c - variable_base) 0 ≡ 0) → value sig pool tab d (c - variable_base) ≡ vars (c - variable_base)
      at v (inl e) = ap (λ (k : ℕ). value sig pool tab k (c - variable_base)) e ∙ value_zero sig pool tab (c - variable_base)
      at v (inr e) = value_free sig pool tab d (c - variable_base) e

      go : Dec (variable_base ≤ c) → item_bytes d c ≡ c / 256 ∷ c % 256 ∷ []
      go (yes v) = item_var d c v ∙ ap bytes (at v (h v)) ∙ bytes_var c v
      go (no v) = item_sym d c (omega arith)

  pub item_bound : (d c e : ℕ) → variable_base ≤ c → d ≢ 0 → e ≢ 0 → get_or tab (c - variable_base) 0 ≡ e → item_bytes d c ≡ term_bytes (d - 1) (e - 1)
  unfolding term_bytes
  item_bound zero c e v n m h = absurd (n refl)
  item_bound (suc d) c zero v n m h = absurd (m refl)
  item_bound (suc d) c (suc e) v n m h =
      let k : suc d - 1 ≡ d = omega arith in
      let j : suc e - 1 ≡ e = omega arith in
      rw (k, j) (item_var (suc d) c v ∙ ap bytes (value_bound sig pool tab d (c - variable_base) e h))

  -- what is left to write where o terms are still open from i on
  abbrev pub rest : ℕ → ℕ → ℕ → List ℕ
  rest d o i = bytes (app (value sig pool tab d) (args (arity sig) (items16 pool) o i))

  -- a walk that writes
  pub record Putting (d p : ℕ) (out₀ out : List ℕ) (used o i : ℕ) : Type 0 where
    pub walk : Walk sig pool p o i
    pub filling : Filling (term_bytes d p) (rest d o i) out₀ out used

  pub putting_start : (d p : ℕ) (out : List ℕ) → Walk sig pool p 1 p → Putting d p out out 0 1 p
  unfolding term_bytes
  putting_start d p out w = record { walk = w; filling = fill_start (rest d 1 p) out }

  split : (d o i : ℕ) → o ≢ 0 → i < length pool → rest d o i ≡ item_bytes d (get_or pool i 0) ++ rest d (o - 1 + extra sig (get_or pool i 0)) (i + 1)
  unfolding item_bytes
  split d o i n b =
      let c = get_or pool i 0 in
      let r = args (arity sig) (items16 pool) (o - 1 + extra sig c) (i + 1) in
      ap (λ l. bytes (app (value sig pool tab d) l)) (args_turn sig pool o i n b)
      ∙ ap bytes (app_append (value sig pool tab d) (item16 c ∷ []) r) ∙ bytes_append (app (value sig pool tab d) (item16 c ∷ [])) (app (value sig pool tab d) r)

  module _ (d p : ℕ) (out₀ out : List ℕ) (used o i : ℕ) (h : Putting d p out₀ out used o i) (n : o ≢ 0) (b : i < length pool) where
    pub putting_room : used + length (item_bytes d (get_or pool i 0)) ≤ length (term_bytes d p)
    putting_room = fill_room (term_bytes d p) (rest d o i) out₀ out used (item_bytes d (get_or pool i 0)) (rest d (o - 1 + extra sig (get_or pool i 0)) (i + 1)) (split d o i n b) h.filling

    pub putting_turn : (out' : List ℕ) → length out' ≡ length out → out' ≡ take used out ++ front (item_bytes d (get_or pool i 0)) (drop used out)
        → Putting d p out₀ out' (used + length (item_bytes d (get_or pool i 0))) (o - 1 + extra sig (get_or pool i 0)) (i + 1)
    putting_turn out' l e = record {
      walk = walk_turn sig pool p o i h.walk n;
      filling = fill_turn (term_bytes d p) (rest d o i) out₀ out used (item_bytes d (get_or pool i 0)) (rest d (o - 1 + extra sig (get_or pool i 0)) (i + 1)) (split d o i n b) h.filling out' l e;
    }

  pub putting_end : (d p : ℕ) (out₀ out : List ℕ) (used o i : ℕ) → Putting d p out₀ out used o i → o ≡ 0 → Filled (term_bytes d p) out₀ out used
  unfolding bytes
  putting_end d p out₀ out used o i h z = fill_end (term_bytes d p) (rest d o i) out₀ out used (ap (λ l. bytes (app (value sig pool tab d) l)) (args_end sig pool o i z)) h.filling

-- a node as the table of bindings has it: 0 for none, or one more
abbrev pub plus_one : Option ℕ → ℕ
plus_one None = 0
plus_one (Some p) = p + 1

pub plus_one_sub : (o : Option ℕ) (e : ℕ) → SomeIff o (1 ≤ e) (e - 1) → plus_one o ≡ e
plus_one_sub None e h = let z : (1 ≤ e) → ⊥ = h in omega (arith, z)
plus_one_sub (Some p) e h = omega (arith, h)

-- where the item c leads, bindings followed d deep: 0, or one more than the node
pub record Goes (tab : List ℕ) (c d r : ℕ) : Type 0 where
  pub plain : r ≡ 0 → (sig pool : List ℕ) → item_bytes sig pool tab d c ≡ c / 256 ∷ c % 256 ∷ []
  pub bound : r ≢ 0 → (d ≢ 0)
      × ((sig pool : List ℕ) → item_bytes sig pool tab d c ≡ term_bytes sig pool tab (d - 1) (r - 1))
  pub from : get_or tab (c - variable_base) 0 ≡ r ⊎ (r ≡ 0)

pub goes_plain : (tab : List ℕ) (c d : ℕ) → (variable_base ≤ c → (d ≡ 0) ⊎ (get_or tab (c - variable_base) 0 ≡ 0)) → Goes tab c d 0
goes_plain tab c d h = record { plain = λ z sig pool. item_plain sig pool tab d c h; bound = λ n. absurd (n refl); from = inr refl }

pub goes_bound : (tab : List ℕ) (c d r : ℕ) → variable_base ≤ c → d ≢ 0 → r ≢ 0 → get_or tab (c - variable_base) 0 ≡ r → Goes tab c d r
goes_bound tab c d r v n m e = record { plain = λ z. absurd (m z); bound = λ k. (n, λ sig pool. item_bound sig pool tab d c r v n m e); from = inl e }

pub bound_goes : (tab : List ℕ) (c d r : ℕ) → variable_base ≤ c → d ≢ 0 → r ≡ get_or tab (c - variable_base) 0 → Goes tab c d r
bound_goes tab c d zero v n e = goes_plain tab c d (λ h. inr (sym e))
bound_goes tab c d (suc r) v n e = goes_bound tab c d (suc r) v n (λ z. omega (arith, z)) (sym e)

pub goes_inside : (tab pool : List ℕ) (c d r : ℕ) → Goes tab c d r → BindingTable tab pool → r ≢ 0 → r - 1 < length pool
goes_inside tab pool c d r g s n = go g.from
  where
    go : get_or tab (c - variable_base) 0 ≡ r ⊎ (r ≡ 0) → r - 1 < length pool
    go (inl e) = omega (arith, e, n, s.inside (c - variable_base))
    go (inr z) = absurd (n z)
