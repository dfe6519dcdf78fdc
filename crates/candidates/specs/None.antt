-- Serves SCOPE.md, 'Paths and keys' (candidates): from no slots the walk leaves none, so a walk may stop where a set
-- is empty.
use Rattle.std.specs.Prelude.{ℕ, suc, ◌*◌, ◌≡◌, refl, List, [], ◌∷◌, Bool, true, false, leb, ltb, length, get_or, replicate}
use Rattle.std.proofs.Common.{sym, arith, eqb-true}
use Rattle.std.specs.Int.Bits.{bit_and, bit_or, and_zero_r, or_zero_r, or_add_and}
use Rattle.std.proofs.lemmas.Nat.{and_le_l, and_le_r}
use Rattle.laws.specs.Choice.{pick}
use Rattle.slots.specs.Slots.{either, words8, none_in}
use Rattle.keys.specs.Keys.{Tm, Args, node, nil, cons}
use Rattle.chains.specs.Chains.{find}
use Rattle.keysets.specs.KeySets.{Sets, met, word}
use Rattle.paths.specs.Rep.{lab}
use Rattle.candidates.specs.Walk.{having, walk, walk_all}
use Rattle.laws.specs.Sizes.{key_limit, variable_base}

or_none : (a b : ℕ) → bit_or a b ≡ 0 → (a ≡ 0) × (b ≡ 0)
or_none a b h = let e = or_add_and a b in let p = and_le_l a b in let q = and_le_r a b in (omega (arith, e, p, q, h), omega (arith, e, p, q, h))

-- a set that has no slot is eight words of 0
pub none_words : (ws : List ℕ) → length ws ≡ 8 → none_in ws ≡ true → ws ≡ replicate 8 0
unfolding none_in
none_words [] l h = absurd (omega arith)
none_words (a ∷ []) l h = absurd (omega arith)
none_words (a ∷ b ∷ []) l h = absurd (omega arith)
none_words (a ∷ b ∷ c ∷ []) l h = absurd (omega arith)
none_words (a ∷ b ∷ c ∷ d ∷ []) l h = absurd (omega arith)
none_words (a ∷ b ∷ c ∷ d ∷ e ∷ []) l h = absurd (omega arith)
none_words (a ∷ b ∷ c ∷ d ∷ e ∷ f ∷ []) l h = absurd (omega arith)
none_words (a ∷ b ∷ c ∷ d ∷ e ∷ f ∷ g ∷ []) l h = absurd (omega arith)
none_words (a ∷ b ∷ c ∷ d ∷ e ∷ f ∷ g ∷ i ∷ j ∷ r) l h = absurd (omega arith)
none_words (a ∷ b ∷ c ∷ d ∷ e ∷ f ∷ g ∷ i ∷ []) l h =
    let o7 = or_none _ i (eqb-true _ _ h) in
    let o6 = or_none _ g o7.0 in
    let o5 = or_none _ f o6.0 in
    let o4 = or_none _ e o5.0 in
    let o3 = or_none _ d o4.0 in
    let o2 = or_none _ c o3.0 in
    let o1 = or_none a b o2.0 in
    rw (o1.0, o1.1, o2.1, o3.1, o4.1, o5.1, o6.1, o7.1)

met_zero : (σ : Sets) (k : ℕ) → met σ k (replicate 8 0) ≡ replicate 8 0
unfolding met words8
met_zero σ k = go (ltb k key_limit)
  where
    go : (b : Bool) → pick b (words8 (λ i. bit_and (word σ k i) (get_or (replicate {A = ℕ} 8 0) i 0))) (replicate {A = ℕ} 8 0) ≡ replicate {A = ℕ} 8 0
    go true = simp and_zero_r
    go false = refl

either_zero : either (replicate 8 0) (replicate 8 0) ≡ replicate 8 0
unfolding either words8
either_zero = rw or_zero_r

module _ (link label : List ℕ) (σ : Sets) (qv tv : Bool) where
  mutual
    unfolding walk

    pub walk_none : (q : Tm) (n : ℕ) → walk link label σ qv tv q n (replicate 8 0) ≡ replicate 8 0
    walk_none (node x us) n = go (leb variable_base x) qv tv (met_zero σ (find link label (lab n 256))) (walk_all_from us (find link label (lab n x) * 8) (having link label σ n x (replicate 8 0)) (met_zero σ (find link label (lab n x))))
      where
        A : List ℕ
        A = walk_all link label σ qv tv us (find link label (lab n x) * 8) (having link label σ n x (replicate 8 0))

        B : List ℕ
        B = having link label σ n 256 (replicate 8 0)

        go : (b c d : Bool) → B ≡ replicate {A = ℕ} 8 0 → A ≡ replicate {A = ℕ} 8 0 → pick b (pick c (replicate {A = ℕ} 8 0) B) (pick d (either A B) A) ≡ replicate {A = ℕ} 8 0
        go true true d p q = refl
        go true false d p q = p
        go false c true p q = rw (p, q) either_zero
        go false c false p q = q

    walk_all_from : (us : Args) (m : ℕ) (ws : List ℕ) → ws ≡ replicate 8 0 → walk_all link label σ qv tv us m ws ≡ replicate 8 0
    walk_all_from nil m ws e = e
    walk_all_from (cons u us) m ws e = walk_all_from us (suc m) (walk link label σ qv tv u m ws) (rw e (walk_none u m))

  pub walk_empty : (q : Tm) (n : ℕ) (ws : List ℕ) → length ws ≡ 8 → none_in ws ≡ true → ws ≡ walk link label σ qv tv q n ws
  walk_empty q n ws l h = let e = none_words ws l h in rw e (sym (walk_none q n))
