-- SCOPE.md, 'The relations themselves': substitutions to terms of the signature. The substitutions of theory have
-- values that are terms by the arities, where a symbol that is not declared has arity 0. Here: such symbols change
-- nothing. Terms that stand in a relation do so by a substitution with declared symbols alone, and the recorded
-- unifier has no others.
use Rattle.std.specs.Prelude.{ℕ, zero, suc, ◌+◌, ◌*◌, ◌≤◌, ◌<◌, ◌≡◌, ◌↔◌, Bool, leb}
use Rattle.std.proofs.Math.Decide.{dec_lt}
use native.Mathlib.Omega.{arith}
use Rattle.std.proofs.Math.Path.{refl}
use Rattle.std.proofs.Common.{sym, ◌∙◌, inl, inr}
use Rattle.std.proofs.Math.Bool.{true, false}
use Rattle.std.proofs.Math.Option.{Option, some, none}
use mathlib.Core.List.{List, [], ◌∷◌, ◌++◌, map}
use Rattle.std.proofs.Math.Dec.{ltb}
use Rattle.std.proofs.Math.ListN.{length, get_or-eq_default}
use borrow.Author.Tests.{lt-ltb, le-ltb, ltb-true, leb-true}
use Rattle.laws.specs.Choice.{pick}
use Rattle.terms.specs.Terms.{declared, items_good, sig_refusal, refusal, numbers}
use Rattle.terms.proofs.TermLaws.{good}
use Rattle.theory.specs.Flat.{Item, sy, va, Terms}
use Rattle.theory.specs.Subst.{vars, app, app_agree, Occurs, Sub}
use Rattle.theory.specs.Unify.{Bind, full}
use Rattle.theory.specs.Fresh.{kept}
use Rattle.theory.specs.Items.{item16, codes, items, shift, moved_none}
use Rattle.theory.specs.CheckedItems.{fine}
use Rattle.theory.specs.Relations.{Instance, Unifiable}
use Rattle.theory.specs.Solver.{RightBindings}
use Rattle.definitions.specs.Relations.{Stands}
use Rattle.definitions.specs.Records.{Unifier}
use Rattle.definitions.specs.Decisions.{bindings?, bindings_right}
use Rattle.definitions.specs.Spelt.{taken}
use Rattle.laws.specs.Sizes.{variable_base, variable_end}
use Rattle.terms.specs.Terms.{arity}

module _ (sig : List ℕ) where
  -- every symbol of the items is declared
  abbrev pub Declared : List Item → Type 0
  Declared [] = Unit {0}
  Declared (sy f ∷ l) = (f < length sig) × Declared l
  Declared (va x ∷ l) = Declared l

  -- a substitution to terms of the signature: each value is one term of declared symbols
  pub record Proper (σ : ℕ → List Item) : Type 0 where
    pub sub : Sub (arity sig) σ
    pub names : (x : ℕ) → Declared (σ x)

  -- the five relations with such substitutions; a replacement of variables by variables is one (`renaming_proper`)
  abbrev pub StandsProper : ℕ → List ℕ → List ℕ → Type 0
  StandsProper zero t q = t ≡ q
  StandsProper (suc zero) t q = (to : ℕ → ℕ) × Proper (λ x. vars (to x)) × (app (λ x. vars (to x)) (items q) ≡ items t)
  StandsProper (suc (suc zero)) t q = (σ : ℕ → List Item) × Proper σ × (app σ (items q) ≡ items t)
  StandsProper (suc (suc (suc zero))) t q = (σ : ℕ → List Item) × Proper σ × (app σ (items t) ≡ items q)
  StandsProper (suc (suc (suc (suc r)))) t q = (θ : ℕ → List Item) × Proper θ
      × (app θ (items t) ≡ app θ (shift 32 (items q)))

  pub renaming_proper : (to : ℕ → ℕ) → Proper (λ x. vars (to x))
  renaming_proper to = record { sub = λ x. tt; names = λ x. tt }

  -- undeclared symbols exchanged for others: what that leaves as it is has none
  abbrev away : Item → Item
  away (va x) = va x
  away (sy f) = pick (ltb f (length sig)) (sy f) (sy (suc f))

  away_fixed : (l : List Item) → Declared l → map away l ≡ l
  away_fixed [] d = refl
  away_fixed (va x ∷ l) d = rw (away_fixed l d)
  away_fixed (sy f ∷ l) d = rw (lt-ltb f (length sig) d.0, away_fixed l d.1)

  fixed_away : (l : List Item) → map away l ≡ l → Declared l
  fixed_away [] e = tt
  fixed_away (va x ∷ l) e = fixed_away l (let b : map away l ≡ l = cc in b)
  fixed_away (sy f ∷ l) e = go (dec_lt f (length sig)) (fixed_away l (let b : map away l ≡ l = cc in b))
    where
      go : Dec (f < length sig) → Declared l → (f < length sig) × Declared l
      go (yes h) d = (h, d)
      go (no n) d =
          let m : length sig ≤ f = omega arith in
          let a : away (sy f) ≡ sy f = cc in
          let b : sy (suc f) ≡ sy f = rw (le-ltb f (length sig) m) at a in
          let c : suc f ≡ f = cc in absurd (omega arith)

  away_terms : (k : ℕ) (l : List Item) → Terms (arity sig) k l → Terms (arity sig) k (map away l)
  away_terms zero [] p = p
  away_terms zero (i ∷ l) p = absurd p
  away_terms (suc k) [] p = absurd p
  away_terms (suc k) (va x ∷ l) p = away_terms k l p
  away_terms (suc k) (sy f ∷ l) p = go (dec_lt f (length sig)) (away_terms (arity sig f + k) l p)
    where
      go : Dec (f < length sig) → Terms (arity sig) (arity sig f + k) (map away l) → Terms (arity sig) (suc k) (away (sy f) ∷ map away l)
      go (yes h) q = rw (lt-ltb f (length sig) h) q
      go (no n) q =
          let m : length sig ≤ f = omega arith in
          let u : arity sig f ≡ 0 = get_or-eq_default sig 0 (omega arith) in
          let v : arity sig (suc f) ≡ 0 = get_or-eq_default sig 0 (omega arith) in
          let w : arity sig f ≡ arity sig (suc f) = u ∙ sym v in
          rw (le-ltb f (length sig) m) (rw w at q)

  declared_append : (l m : List Item) → Declared (l ++ m) → Declared l × Declared m
  declared_append [] m d = (tt, d)
  declared_append (va x ∷ l) m d = declared_append l m d
  declared_append (sy f ∷ l) m d = let r = declared_append l m d.1 in ((d.0, r.0), r.1)

  declared_shift : (n : ℕ) (l : List Item) → Declared l → Declared (shift n l)
  declared_shift n [] d = tt
  declared_shift n (sy f ∷ l) d = (d.0, declared_shift n l d.1)
  declared_shift n (va x ∷ l) d = declared_shift n l d

  -- the values of the variables that occur stand in the outcome
  values_in : (σ : ℕ → List Item) (l : List Item) → Declared (app σ l) → (x : ℕ) → Occurs x l → Declared (σ x)
  values_in σ [] d x i = absurd i
  values_in σ (sy f ∷ l) d x i = values_in σ l d.1 x i
  values_in σ (va y ∷ l) d x (inl e) = rw e (declared_append (σ y) (app σ l) d).0
  values_in σ (va y ∷ l) d x (inr i) = values_in σ l (declared_append (σ y) (app σ l) d).1 x i

  declared? : (l : List Item) → Dec (Declared l)
  declared? [] = yes tt
  declared? (va x ∷ l) = declared? l
  declared? (sy f ∷ l) = go (dec_lt f (length sig)) (declared? l)
    where
      go : Dec (f < length sig) → Dec (Declared l) → Dec ((f < length sig) × Declared l)
      go (yes a) (yes b) = yes (a, b)
      go (yes a) (no n) = no (λ d. n d.1)
      go (no n) d = no (λ d. n d.0)

  -- a value with an undeclared symbol is dropped: that variable stays
  chosen : {P : Type 0} → Dec P → List Item → ℕ → List Item
  chosen (yes h) u x = u
  chosen (no n) u x = vars x

  tame : (ℕ → List Item) → ℕ → List Item
  tame σ x = chosen (declared? (σ x)) (σ x) x

  tame_proper : (σ : ℕ → List Item) → Sub (arity sig) σ → Proper (tame σ)
  unfolding tame chosen
  tame_proper σ w = record { sub = λ x. one x (declared? (σ x)); names = λ x. two x (declared? (σ x)) }
    where
      one : (x : ℕ) (d : Dec (Declared (σ x))) → Terms (arity sig) 1 (chosen d (σ x) x)
      one x (yes h) = w x
      one x (no n) = tt

      two : (x : ℕ) (d : Dec (Declared (σ x))) → Declared (chosen d (σ x) x)
      two x (yes h) = h
      two x (no n) = tt

  tame_same : (σ : ℕ → List Item) (x : ℕ) → Declared (σ x) → tame σ x ≡ σ x
  unfolding tame chosen
  tame_same σ x h = go (declared? (σ x))
    where
      go : (d : Dec (Declared (σ x))) → chosen d (σ x) x ≡ σ x
      go (yes k) = refl
      go (no n) = absurd (n h)

  items_declared : (t : List ℕ) → items_good (length sig) t ≡ true → Declared (items t)
  unfolding items_good codes numbers declared
  items_declared [] e = tt
  items_declared (h ∷ []) e = tt
  items_declared (h ∷ l ∷ r) e =
      let k = taken (declared (length sig) (h * 256 + l)) (items_good (length sig) r) e in
      rw (moved_none (h * 256 + l)) (go (h * 256 + l) (dec_lt (h * 256 + l) variable_base) k.0 (items_declared r k.1))
    where
      go : (c : ℕ) → Dec (c < variable_base) → declared (length sig) c ≡ true → Declared (items r) → Declared (item16 c ∷ items r)
      go c (no n) d i = let m : variable_base ≤ c = omega arith in rw (le-ltb c variable_base m) i
      go c (yes m) d i = rw (lt-ltb c variable_base m) (low (ltb c (length sig)) refl d, i)
        where
          low : (b : Bool) → ltb c (length sig) ≡ b → pick b true (pick (leb variable_base c) (ltb c variable_end) false) ≡ true → c < length sig
          low true e z = ltb-true c (length sig) e
          low false e z = absurd (let y = leb-true variable_base c (taken (leb variable_base c) (ltb c variable_end) z).0 in omega (arith, y, m))

  term_declared : (t : List ℕ) → refusal sig t ≡ 0 → Declared (items t)
  term_declared t h = items_declared t (good sig t h).symbols

  -- where some substitution turns q into t, one to terms of the signature does
  pub instance_declared : (q t : List ℕ) → refusal sig t ≡ 0 → Instance sig q t → (σ : ℕ → List Item) × Proper σ × (app σ (items q) ≡ items t)
  instance_declared q t a i =
      let d : Declared (app i.by (items q)) = rw i.turns (term_declared t a) in
      (tame i.by, tame_proper i.by i.sub, app_agree (tame i.by) i.by (items q) (λ x j. tame_same i.by x (values_in i.by (items q) d x j)) ∙ i.turns)

  module _ (s : sig_refusal sig ≡ 0) (t q : List ℕ) (a : refusal sig t ≡ 0) (b : refusal sig q ≡ 0) where
    -- the recorded unifier is one to terms of the signature
    pub unifier_declared : (θ : ℕ → List Item) → Unifier sig (items t) (shift 32 (items q)) θ → Proper θ
    unifier_declared θ u = record {
      sub = u.mgu.sub;
      names = λ x. fixed_away (θ x) (kept (arity sig) (items t) (shift 32 (items q)) θ u.mgu away (λ y. refl) away_terms
          (away_fixed (items t) (term_declared t a)) (away_fixed (shift 32 (items q)) (declared_shift 32 (items q) (term_declared q b))) x);
    }

    -- where some substitution makes both the same, one to terms of the signature does
    pub unifiable_declared : Unifiable sig t q → (θ : ℕ → List Item) × Proper θ × (app θ (items t) ≡ app θ (shift 32 (items q)))
    unifiable_declared u = go (bindings? sig t q) (bindings_right sig t q (fine sig t s a) (fine sig q s b))
      where
        go : (o : Option (List Bind)) → RightBindings (arity sig) (items t) (shift 32 (items q)) o → (θ : ℕ → List Item) × Proper θ × (app θ (items t) ≡ app θ (shift 32 (items q)))
        go none h = absurd (h u.by u.sub u.same)
        go (some B) h = (full B, unifier_declared (full B) (record { mgu = h.1; least = h.2 }), h.1.unifies)

    -- each relation is the same with substitutions to terms of the signature
    pub stands_declared : (r : ℕ) → Stands sig r t q ↔ StandsProper r t q
    stands_declared zero = ((λ e. e), (λ e. e))
    stands_declared (suc zero) = ((λ v. (v.to, renaming_proper v.to, v.turns)), (λ w. record { to = w.0; turns = w.2 }))
    stands_declared (suc (suc zero)) = (instance_declared q t a, (λ w. record { by = w.0; sub = w.1.sub; turns = w.2 }))
    stands_declared (suc (suc (suc zero))) = (instance_declared t q b, (λ w. record { by = w.0; sub = w.1.sub; turns = w.2 }))
    stands_declared (suc (suc (suc (suc r)))) = (unifiable_declared, (λ w. record { by = w.0; sub = w.1.sub; same = w.2 }))
