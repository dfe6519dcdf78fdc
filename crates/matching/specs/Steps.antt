-- Serves SCOPE.md, 'The relations themselves': what the functions of matching ensure of each step, and how a step
-- carries the walk on.
use Rattle.std.specs.Prelude.{◌≡◌, refl, Bool, true, false, ◌⊎◌, ◌≢◌, List, ℕ, ◌+◌, ◌-◌, ◌/◌, ◌≤◌, ◌<◌, length, get_or, drop, take, set, Option, Some, None, MatchOption}
use Rattle.std.proofs.Common.{sym, ap, ◌∙◌, inl, inr, arith, get_or-set_same, get_or-set_other}
use Rattle.std.proofs.Math.Decide.{ℕ_discrete}
use Rattle.theory.specs.Items.{items}
use Rattle.theory.specs.Nodes.{NextNode}
use Rattle.theory.specs.Relations.{Decided, Instance, Variant}
use Rattle.theory.specs.Subst.{vars}
use Rattle.matching.specs.Going.{Going, going_symbol, going_clash, going_new, going_old, going_differs}
use Rattle.laws.specs.Sizes.{variable_base}
use Rattle.terms.specs.Terms.{arity, item_at}

-- the term at item j of t ends before item e
pub record EndsAt (sig t : List ℕ) (j e : ℕ) : Type 0 where
  pub next : NextNode (arity sig) (items t) j e
  pub ahead : j < e
  pub low : e ≤ length t / 2

-- a pattern variable x against the items from j to e: tab' is the table afterwards
pub record Agreed (t : List ℕ) (tab tab' : List (Option ℕ)) (x j e : ℕ) (r : Bool) : Type 0 where
  pub new : get_or tab x None ≡ None → (r ≡ true) × (tab' ≡ set tab x (Some j))
  pub old : (q : ℕ) → get_or tab x None ≡ Some q → (tab' ≡ tab)
      × Decided r (take (e - j) (drop q (items t)) ≡ take (e - j) (drop j (items t)))

-- item i of the pattern against the target from item j on
pub record Stepped (sig p t : List ℕ) (tab tab' : List (Option ℕ)) (i j : ℕ) (r : Option ℕ) : Type 0 where
  pub told : MatchOption r (Instance sig p t → ⊥) (λ e. Going sig p t tab' (i + 1) e)
  pub kept : (y q : ℕ) → get_or tab' y None ≡ Some q → (get_or tab y None ≡ Some q) ⊎ ((q ≡ j) × (variable_base ≤ item_at p i))

-- a variable only against a variable
pub record Met (p t : List ℕ) (i j : ℕ) (r : Bool) : Type 0 where
  pub met : r ≡ true → variable_base ≤ item_at p i → variable_base ≤ item_at t j
  pub alone : r ≡ false → (variable_base ≤ item_at p i) × (item_at t j < variable_base)

module _ (sig p t : List ℕ) (tab : List (Option ℕ)) (i j : ℕ) (g : Going sig p t tab i j) (il : i < length p / 2) where
  pub stepped_clash : item_at p i < variable_base → item_at t j ≢ item_at p i → Stepped sig p t tab tab i j None
  stepped_clash f n = record { told = going_clash sig p t tab i j g il f n; kept = λ y q e. inl e }

  pub stepped_symbol : item_at p i < variable_base → item_at t j ≡ item_at p i → Stepped sig p t tab tab i j (Some (j + 1))
  stepped_symbol f e = record { told = going_symbol sig p t tab i j g il f e; kept = λ y q h. inl h }

  -- the table after a variable of the pattern
  module _ (f : variable_base ≤ item_at p i) (xl : item_at p i - variable_base < 32) (tab' : List (Option ℕ)) (e : ℕ) (n : EndsAt sig t j e) (r : Bool)
      (a : Agreed t tab tab' (item_at p i - variable_base) j e r) where
    abbrev x : ℕ
    x = item_at p i - variable_base

    kept_var : (y q : ℕ) → get_or tab' y None ≡ Some q → (get_or tab y None ≡ Some q) ⊎ ((q ≡ j) × (variable_base ≤ item_at p i))
    kept_var y q h = go (get_or tab x None) refl
      where
        at : tab' ≡ set tab x (Some j) → Dec (x ≡ y) → (get_or tab y None ≡ Some q) ⊎ ((q ≡ j) × (variable_base ≤ item_at p i))
        at s (yes d) =
            let e : Some j ≡ Some q
            = sym (get_or-set_same tab x (Some j) None (omega (arith, g.many))) ∙ ap (λ (z : ℕ). get_or (set tab x (Some j)) z None) d
            ∙ sym (ap (λ (l : List (Option ℕ)). get_or l y None) s) ∙ h in
            let k : q ≡ j = cc in inr (k, f)
        at s (no d) = inl (sym (get_or-set_other tab x y (Some j) None (λ z. d (sym z))) ∙ sym (ap (λ (l : List (Option ℕ)). get_or l y None) s) ∙ h)

        go : (b : Option ℕ) → get_or tab x None ≡ b → (get_or tab y None ≡ Some q) ⊎ ((q ≡ j) × (variable_base ≤ item_at p i))
        go None z = at (a.new z).1 (ℕ_discrete x y)
        go (Some b) z = inl (sym (ap (λ (l : List (Option ℕ)). get_or l y None) (a.old b z).0) ∙ h)

    pub stepped_agrees : r ≡ true → Stepped sig p t tab tab' i j (Some e)
    stepped_agrees h = record { told = go (get_or tab x None) refl; kept = kept_var }
      where
        go : (b : Option ℕ) → get_or tab x None ≡ b → Going sig p t tab' (i + 1) e
        go None z = rw (a.new z).1 (going_new sig p t tab i j g il f e n.next n.ahead n.low xl z)
        go (Some b) z = rw (a.old b z).0 (going_old sig p t tab i j g il f e n.next n.ahead n.low b z ((a.old b z).1.holds h))

    pub stepped_differs : r ≡ false → Stepped sig p t tab tab' i j None
    stepped_differs h = record { told = go (get_or tab x None) refl; kept = kept_var }
      where
        go : (b : Option ℕ) → get_or tab x None ≡ b → Instance sig p t → ⊥
        go None z = absurd (let k : true ≡ false = sym (a.new z).0 ∙ h in let o : ◌≡◌ {A = ℕ} 0 1 = cc in omega arith)
        go (Some b) z = going_differs sig p t tab i j g il f e n.next n.ahead n.low b z ((a.old b z).1.fails h)

-- the bindings are to variables
abbrev pub Lone : List ℕ → List (Option ℕ) → Type 0
Lone t tab = (y q : ℕ) → get_or tab y None ≡ Some q → variable_base ≤ item_at t q

pub lone_more : (sig p t : List ℕ) (tab tab' : List (Option ℕ)) (i j : ℕ) (r : Option ℕ) → Stepped sig p t tab tab' i j r → (variable_base ≤ item_at p i → variable_base ≤ item_at t j) → Lone t tab → Lone t tab'
lone_more sig p t tab tab' i j r s m l y q e = go (s.kept y q e)
  where
    go : (get_or tab y None ≡ Some q) ⊎ ((q ≡ j) × (variable_base ≤ item_at p i)) → variable_base ≤ item_at t q
    go (inl h) = l y q h
    go (inr h) = rw h.0 (m h.1)

-- what no substitution does no replacement of variables does
pub no_variant : (sig p t : List ℕ) → (Instance sig p t → ⊥) → Variant p t → ⊥
no_variant sig p t n r = n (record { by = λ y. vars (r.to y); sub = λ y. tt; turns = r.turns })
