-- Serves SCOPE.md, 'Paths and keys': what the walks ask of a term, shown of the bytes of a checked term and its tree.
use Rattle.std.specs.Prelude.{ℕ, suc, ◌+◌, ◌≤◌, ◌<◌, ◌≡◌, refl, ◌⊎◌, List, [], ◌∷◌, ◌++◌, map, length}
use Rattle.std.proofs.Common.{sym, ap, ◌∙◌, inl, inr, arith}
use Rattle.std.proofs.Math.ListN.{get_or-eq_default}
use Rattle.keys.specs.Keys.{Tm, Args, node, nil, cons, end_of, size}
use Rattle.terms.specs.Terms.{numbers, Signed, refusal}
use Rattle.terms.specs.Terms.{arity}
use Rattle.definitions.specs.Trees.{count_args, items_t, items_a, IsSymbol, Variable, tree_of}
use Rattle.definitions.specs.Trees as Trees
use Rattle.definitions.specs.Spelt.{end_variable, end_symbol, shaped_count, term_tree, term_tree_is, tree_shaped}
use Rattle.definitions.specs.Spelt.{tree_spells, size_items}
use Rattle.paths.specs.TreeWalk.{ups_t, ends_t, ends_a, Eight, Eights}
use Rattle.paths.specs.Insert.{EndLabels}
use Rattle.paths.specs.StoredTrees.{Storable}
use Rattle.paths.specs.Ups.{ups_f, ArgumentsCounted, AllArgumentsCounted, ups_term}
use Rattle.paths.specs.Cand.{Wf, Wfs}

map_append : (f : ℕ → ℕ) (l m : List ℕ) → map f (l ++ m) ≡ map f l ++ map f m
map_append f [] m = refl
map_append f (x ∷ l) m = rw (map_append f l m)

ends_append : (l m : List ℕ) → EndLabels l → EndLabels m → EndLabels (l ++ m)
ends_append [] m p q = q
ends_append (x ∷ l) m p q = (p.0, ends_append l m p.1 q)

-- the ends of a tree's items
mutual
  unfolding items_t ends_t

  pub ends_items : (u : Tm) → map end_of (items_t u) ≡ ends_t u
  ends_items (node x us) = rw (ends_all us)

  ends_all : (us : Args) → map end_of (items_a us) ≡ ends_a us
  ends_all nil = refl
  ends_all (cons u us) = rw (map_append end_of (items_t u) (items_a us), ends_items u, ends_all us)

module _ (sig : List ℕ) (s : Signed sig) where
  mutual
    unfolding ArgumentsCounted Trees.Shaped

    pub shaped : (u : Tm) → Trees.Shaped sig u → ArgumentsCounted (arity sig) u
    shaped (node x us) w = (shaped_count sig s.short x us w, shapes us w.1)

    shapes : (us : Args) → Trees.Shapes sig us → AllArgumentsCounted (arity sig) us
    shapes nil w = tt
    shapes (cons u us) w = (shaped u w.0, shapes us w.1)

  -- the end of a symbol is the symbol; a variable's, the star, has no arity either
  pub end_of_lem : (x : ℕ) (us : Args) → (IsSymbol sig x × (count_args us ≡ arity sig x)) ⊎ (Variable x × (count_args us ≡ 0)) → (count_args us ≡ arity sig (end_of x)) × (end_of x < 257)
  end_of_lem x us (inl h) =
      let e = end_symbol x (omega (arith, h.0, s.short)) in
      (h.1 ∙ ap (arity sig) (sym e), omega (arith, e, h.0, s.short))
  end_of_lem x us (inr h) =
      let e = end_variable x h.0.0 in
      let z : arity sig 256 ≡ 0 = get_or-eq_default sig 0 s.short in
      (h.1 ∙ sym z ∙ ap (arity sig) (sym e), omega (arith, e))

  mutual
    unfolding Wf Trees.Shaped

    pub wf : (u : Tm) → Trees.Shaped sig u → Wf (arity sig) u
    wf (node x us) w = let e = end_of_lem x us w.0 in (e.0, s.eight (end_of x), e.1, wfs us w.1)

    wfs : (us : Args) → Trees.Shapes sig us → Wfs (arity sig) us
    wfs nil w = tt
    wfs (cons u us) w = (wf u w.0, wfs us w.1)

  mutual
    unfolding Eight Trees.Shaped count_args

    eight : (u : Tm) → Trees.Shaped sig u → Eight u
    eight (node x us) w = eights us 0 w.1 (omega (arith, shaped_count sig s.short x us w, s.eight x))

    eights : (us : Args) (i : ℕ) → Trees.Shapes sig us → i + count_args us ≤ 8 → Eights i us
    eights nil i w l = tt
    eights (cons u us) i w l = (omega arith, eight u w.0, eights us (suc i) w.1 (omega arith))

  mutual
    unfolding ends_t Trees.Shaped

    ends : (u : Tm) → Trees.Shaped sig u → EndLabels (ends_t u)
    ends (node x us) w = ((end_of_lem x us w.0).1, endss us w.1)

    endss : (us : Args) → Trees.Shapes sig us → EndLabels (ends_a us)
    endss nil w = tt
    endss (cons u us) w = ends_append (ends_t u) (ends_a us) (ends u w.0) (endss us w.1)

  pub fine : (u : Tm) → Trees.Shaped sig u → Storable u
  fine u w = record { eight = eight u w; ends = ends u w }

-- a checked term's tree, as the key table needs it
pub record Spelt (sig t : List ℕ) : Type 0 where
  pub shaped : ArgumentsCounted (arity sig) (tree_of sig t)
  pub wf : Wf (arity sig) (tree_of sig t)
  pub fine : Storable (tree_of sig t)
  pub items : items_t (tree_of sig t) ≡ numbers t
  pub short : size (tree_of sig t) ≤ 32
  pub ups : ups_f (arity sig) 0 (0 ∷ []) (numbers t) ≡ ups_t 0 0 (tree_of sig t)
  pub ends : map end_of (numbers t) ≡ ends_t (tree_of sig t)

pub spelt : (sig t : List ℕ) → Signed sig → refusal sig t ≡ 0 → Spelt sig t
spelt sig t s h =
    let u = tree_of sig t in
    let w = tree_shaped sig t s h in
    let e : numbers t ≡ items_t u = tree_spells sig t s h in
    let k = (term_tree sig t s h).short in
    let l = ap (λ (v : Tm). length (items_t v)) (term_tree_is sig t s h) in
    record {
      shaped = shaped sig s u w;
      wf = wf sig s u w;
      fine = fine sig s u w;
      items = sym e;
      short = omega (arith, size_items u, k, l);
      ups = rw e (ups_term u (arity sig) (shaped sig s u w));
      ends = rw e (ends_items u);
    }
