-- Serves SCOPE.md, 'Paths and keys' (candidates): what is in the set that the walk leaves: the walk through the
-- tables of paths/specs/Cand.antt, slot by slot.
use Rattle.std.specs.Prelude.{ℕ, zero, suc, ◌*◌, ◌/◌, ◌%◌, ◌<◌, min, max, ◌≡◌, refl, ◌⊎◌, ◌↔◌, List, Bool, true, false, T, leb, ltb, get_or, replicate}
use Rattle.std.proofs.Common.{inl, inr, ⊎_elim, arith, leb-false, lt-ltb, le-ltb, pow_pos}
use Rattle.std.proofs.Math.Decide.{ℕ_discrete, dec_lt}
use Rattle.std.proofs.Math.Nat.{div-eq_of_lt}
use Rattle.std.specs.Int.Bits.{bit_and}
use Rattle.laws.specs.Choice.{pick}
use Rattle.laws.specs.Digits.{bit, bit_and_lem}
use Rattle.slots.specs.Slots.{has, either, words8}
use Rattle.slots.proofs.SlotLaws.{get_or_words8, has_either}
use Rattle.keys.specs.Keys.{Tm, Args, node, nil, cons, end_of}
use Rattle.chains.specs.Chains.{find}
use Rattle.keysets.specs.KeySets.{Sets, met, word, mem}
use Rattle.definitions.specs.Spelt.{end_symbol}
use Rattle.paths.specs.Rep.{lab}
use Rattle.paths.specs.Cand.{At?, walk_t, walk_a}
use Rattle.candidates.specs.Walk.{having, walk, walk_all}
use Rattle.laws.specs.Sizes.{key_limit, slot_count, variable_base}

zero_bit : (i : ℕ) → bit 0 i ≡ 0
zero_bit i = rw (div-eq_of_lt (pow_pos i))

pub none_has : (s : ℕ) → has (replicate 8 0) s ≡ 0
unfolding has
none_has s = go (s / 64)
  where
    at : (i : ℕ) → get_or (replicate {A = ℕ} 8 0) i 0 ≡ 0
    at zero = refl
    at (suc zero) = refl
    at (suc (suc zero)) = refl
    at (suc (suc (suc zero))) = refl
    at (suc (suc (suc (suc zero)))) = refl
    at (suc (suc (suc (suc (suc zero))))) = refl
    at (suc (suc (suc (suc (suc (suc zero)))))) = refl
    at (suc (suc (suc (suc (suc (suc (suc zero))))))) = refl
    at (suc (suc (suc (suc (suc (suc (suc (suc i)))))))) = refl

    go : (i : ℕ) → bit (get_or (replicate {A = ℕ} 8 0) i 0) (s % 64) ≡ 0
    go i = rw (at i) (zero_bit (s % 64))

pub has_lt : (ws : List ℕ) (s : ℕ) → has ws s < 2
unfolding has
has_lt ws s = omega arith

-- the set of a key, met with another
pub met_has : (σ : Sets) (k : ℕ) (ws : List ℕ) (s : ℕ) → s < slot_count → (has (met σ k ws) s ≡ 1) ↔ ((has ws s ≡ 1) × (k < key_limit) × mem σ k s)
unfolding met
met_has σ k ws s l = go (dec_lt k key_limit)
  where
    inside : k < key_limit → has (words8 (λ i. bit_and (word σ k i) (get_or ws i 0))) s ≡ min (bit (word σ k (s / 64)) (s % 64)) (has ws s)
    inside h = unfold has in (rw (get_or_words8 (λ i. bit_and (word σ k i) (get_or ws i 0)) (s / 64) (omega arith)) (bit_and_lem (word σ k (s / 64)) (get_or ws (s / 64) 0) (s % 64)))

    go : Dec (k < key_limit) → (has (pick (ltb k key_limit) (words8 (λ i. bit_and (word σ k i) (get_or ws i 0))) (replicate 8 0)) s ≡ 1) ↔ ((has ws s ≡ 1) × (k < key_limit) × mem σ k s)
    go (yes h) = rw (lt-ltb k key_limit h) ((λ e. let i = inside h in (omega (arith, i, e, has_lt ws s), h, (h, l, omega (arith, i, e, has_lt ws s)))), (λ e. let i = inside h in omega (arith, i, e.0, e.2.2)))
    go (no h) = rw (le-ltb k key_limit (omega arith)) ((λ e. absurd (let z = none_has s in omega (arith, e, z))), (λ e. absurd (h e.1)))

either_has : (us vs : List ℕ) (s : ℕ) → s < slot_count → (has (either us vs) s ≡ 1) ↔ ((has us s ≡ 1) ⊎ (has vs s ≡ 1))
either_has us vs s l = ((λ z. to (ℕ_discrete (has us s) 1) z), ⊎_elim (λ z. omega (arith, e, z, has_lt us s, has_lt vs s)) (λ z. omega (arith, e, z, has_lt us s, has_lt vs s)))
  where
    e : has (either us vs) s ≡ max (has us s) (has vs s)
    e = has_either us vs s l

    to : Dec (has us s ≡ 1) → has (either us vs) s ≡ 1 → (has us s ≡ 1) ⊎ (has vs s ≡ 1)
    to (yes z) h = inl z
    to (no z) h = inr (omega (arith, e, h, has_lt us s, has_lt vs s, z))

-- ws is the set of the slots of which W holds
abbrev pub SlotsOf : List ℕ → (ℕ → Type 0) → Type 0
SlotsOf ws W = (s : ℕ) → s < slot_count → (has ws s ≡ 1) ↔ W s

module _ (link label : List ℕ) (σ : Sets) (qv tv : Bool) where
  having_has : (n e : ℕ) (ws : List ℕ) (W : ℕ → Type 0) → SlotsOf ws W → SlotsOf (having link label σ n e ws) (λ s. W s × At? qv tv link label (mem σ) n e s)
  having_has n e ws W h s l = let m = met_has σ (find link label (lab n e)) ws s l in
      ((λ z. let g = m.0 z in ((h s l).0 g.0, (g.1, g.2))), (λ z. m.1 ((h s l).1 z.0, z.1.0, z.1.1)))

  mutual
    unfolding walk walk_t

    -- slot s is in what the walk leaves exactly if the walk through the tables keeps it
    pub walk_has : (q : Tm) (n : ℕ) (ws : List ℕ) (W : ℕ → Type 0) → SlotsOf ws W → SlotsOf (walk link label σ qv tv q n ws) (walk_t qv tv link label (mem σ) q n W)
    walk_has (node x us) n ws W h s l =
        go (leb variable_base x) refl qv tv (h s l) (having_has n 256 ws W h s l)
        (λ z. rw z (walk_all_has us (find link label (lab n x) * 8) (having link label σ n x ws) (λ u. W u × At? qv tv link label (mem σ) n x u) (having_has n x ws W h) s l))
      where
        A : List ℕ
        A = walk_all link label σ qv tv us (find link label (lab n x) * 8) (having link label σ n x ws)

        B : List ℕ
        B = having link label σ n 256 ws

        R : Type 0
        R = walk_a qv tv link label (mem σ) us (find link label (lab n (end_of x)) * 8) (λ u. W u × At? qv tv link label (mem σ) n (end_of x) u) s

        S : Type 0
        S = At? qv tv link label (mem σ) n 256 s

        go : (b : Bool) → leb variable_base x ≡ b → (c d : Bool) → (has ws s ≡ 1) ↔ W s → (has B s ≡ 1) ↔ (W s × S) → (end_of x ≡ x → (has A s ≡ 1) ↔ R)
            → (has (pick b (pick c ws B) (pick d (either A B) A)) s ≡ 1) ↔ pick b (pick c (W s) (W s × S)) ((T d × W s × S) ⊎ R)
        go true e true d w v r = w
        go true e false d w v r = v
        go false e c true w v r = let g = r (end_symbol x (leb-false variable_base x e)) in
            ((λ z. ⊎_elim (λ y. inr (g.0 y)) (λ y. let k = v.0 y in inl (tt, k.0, k.1)) ((either_has A B s l).0 z)), ⊎_elim (λ y. (either_has A B s l).1 (inr (v.1 (y.1, y.2)))) (λ y. (either_has A B s l).1 (inl (g.1 y))))
        go false e c false w v r = let g = r (end_symbol x (leb-false variable_base x e)) in ((λ z. inr (g.0 z)), ⊎_elim (λ y. absurd y.0) (λ y. g.1 y))

    pub walk_all_has : (us : Args) (m : ℕ) (ws : List ℕ) (W : ℕ → Type 0) → SlotsOf ws W → SlotsOf (walk_all link label σ qv tv us m ws) (walk_a qv tv link label (mem σ) us m W)
    walk_all_has nil m ws W h s l = h s l
    walk_all_has (cons u us) m ws W h s l = walk_all_has us (suc m) (walk link label σ qv tv u m ws) (λ s. walk_t qv tv link label (mem σ) u m W s) (λ i k. walk_has u m ws W h i k) s l

  mutual
    unfolding walk

    -- nothing comes in
    pub walk_in : (q : Tm) (n : ℕ) (ws : List ℕ) (s : ℕ) → s < slot_count → has (walk link label σ qv tv q n ws) s ≡ 1 → has ws s ≡ 1
    walk_in (node x us) n ws s l h = go (leb variable_base x) qv tv h (λ z. walk_all_in us (find link label (lab n x) * 8) (having link label σ n x ws) s l z)
      where
        A : List ℕ
        A = walk_all link label σ qv tv us (find link label (lab n x) * 8) (having link label σ n x ws)

        B : List ℕ
        B = having link label σ n 256 ws

        from : (e : ℕ) → has (having link label σ n e ws) s ≡ 1 → has ws s ≡ 1
        from e z = ((met_has σ (find link label (lab n e)) ws s l).0 z).0

        go : (b c d : Bool) → has (pick b (pick c ws B) (pick d (either A B) A)) s ≡ 1 → (has A s ≡ 1 → has (having link label σ n x ws) s ≡ 1) → has ws s ≡ 1
        go true true d z f = z
        go true false d z f = from 256 z
        go false c true z f = ⊎_elim (λ y. from x (f y)) (λ y. from 256 y) ((either_has A B s l).0 z)
        go false c false z f = from x (f z)

    walk_all_in : (us : Args) (m : ℕ) (ws : List ℕ) (s : ℕ) → s < slot_count → has (walk_all link label σ qv tv us m ws) s ≡ 1 → has ws s ≡ 1
    walk_all_in nil m ws s l h = h
    walk_all_in (cons u us) m ws s l h = walk_in u m ws s l (walk_all_in us (suc m) (walk link label σ qv tv u m ws) s l h)
