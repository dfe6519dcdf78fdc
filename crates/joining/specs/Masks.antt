-- Serves SCOPE.md, 'The solver's record': sets of variables in one word, for the occurs check.
use Rattle.std.specs.Prelude.{ℕ, ◌/◌, ◌^◌, ◌<◌, ◌≡◌, refl, ◌⊎◌, ◌≢◌, ◌↔◌, Bool, true, false, List, [], ◌∷◌, map, eqb, length, get_or}
use Rattle.std.proofs.Common.{inl, inr, arith, eqb-true}
use Rattle.std.proofs.Math.Nat.{div-eq_of_lt}
use Rattle.std.proofs.Math.Decide.{ℕ_discrete}
use Rattle.std.specs.Int.Bits.{bit_or}
use Rattle.std.proofs.lemmas.Bool.{eqb-false}
use Rattle.theory.specs.Flat.{Item, sy, va}
use Rattle.theory.specs.Subst.{vars, app, Occurs, in_app, in_app_of}
use Rattle.theory.specs.Unify.{one, one_same, one_other, Bind, ◌:=◌, full, Unbound}
use Rattle.laws.specs.Choice.{pick}
use Rattle.laws.specs.Digits.{bit, bit_or_lem, bit_pow_same, bit_pow_other}
use Rattle.joining.specs.Classes.{get_or_map}

-- z is in the set w
abbrev pub On : ℕ → ℕ → Type 0
On z w = bit w z ≡ 1

pub on_none : (z : ℕ) → On z 0 → ⊥
on_none z h = let e : 0 / 2 ^ z ≡ 0 = div-eq_of_lt (lib.Pow.pow_pos z) in absurd (omega (arith, rw e at h))

pub on_or : (z a b : ℕ) → On z (bit_or a b) ↔ (On z a ⊎ On z b)
on_or z a b = (to, from)
  where
    to : On z (bit_or a b) → On z a ⊎ On z b
    to h = go (ℕ_discrete (bit a z) 1)
      where
        go : Dec (bit a z ≡ 1) → On z a ⊎ On z b
        go (yes e) = inl e
        go (no f) = inr (let k = bit_or_lem a b z in omega (arith, f))

    from : On z a ⊎ On z b → On z (bit_or a b)
    from (inl h) = let k = bit_or_lem a b z in omega arith
    from (inr h) = let k = bit_or_lem a b z in omega arith

pub on_one : (z y : ℕ) → On z (2 ^ y) ↔ (z ≡ y)
on_one z y = (to, λ e. rw e (bit_pow_same y))
  where
    to : On z (2 ^ y) → z ≡ y
    to h = go (ℕ_discrete z y)
      where
        go : Dec (z ≡ y) → z ≡ y
        go (yes e) = e
        go (no f) = absurd (omega (arith, bit_pow_other y z f))

-- the sets of the variables of l, together
unfoldable pub mask_of : List ℕ → ℕ → List Item → ℕ
mask_of ms acc [] = acc
mask_of ms acc (sy f ∷ l) = mask_of ms acc l
mask_of ms acc (va x ∷ l) = mask_of ms (bit_or acc (get_or ms x 0)) l

pub on_mask : (ms : List ℕ) (acc z : ℕ) (l : List Item) → On z (mask_of ms acc l) ↔ (On z acc ⊎ ((y : ℕ) × Occurs y l × On z (get_or ms y 0)))
unfolding mask_of
on_mask ms acc z [] = ((λ h. inl h), λ h. go h)
  where
    go : On z acc ⊎ ((y : ℕ) × Occurs y [] × On z (get_or ms y 0)) → On z acc
    go (inl h) = h
    go (inr h) = absurd h.1
on_mask ms acc z (sy f ∷ l) = on_mask ms acc z l
on_mask ms acc z (va x ∷ l) = let ih = on_mask ms (bit_or acc (get_or ms x 0)) z l in ((λ h. to (ih.0 h)), λ h. ih.1 (from h))
  where
    to : On z (bit_or acc (get_or ms x 0)) ⊎ ((y : ℕ) × Occurs y l × On z (get_or ms y 0)) → On z acc ⊎ ((y : ℕ) × Occurs y (va x ∷ l) × On z (get_or ms y 0))
    to (inl h) = go ((on_or z acc (get_or ms x 0)).0 h)
      where
        go : On z acc ⊎ On z (get_or ms x 0) → On z acc ⊎ ((y : ℕ) × Occurs y (va x ∷ l) × On z (get_or ms y 0))
        go (inl k) = inl k
        go (inr k) = inr (x, inl refl, k)
    to (inr h) = inr (h.0, inr h.1, h.2)

    from : On z acc ⊎ ((y : ℕ) × Occurs y (va x ∷ l) × On z (get_or ms y 0)) → On z (bit_or acc (get_or ms x 0)) ⊎ ((y : ℕ) × Occurs y l × On z (get_or ms y 0))
    from (inl h) = inl ((on_or z acc (get_or ms x 0)).1 (inl h))
    from (inr h) = go h.0 h.1 h.2
      where
        go : (y : ℕ) → (y ≡ x) ⊎ Occurs y l → On z (get_or ms y 0) → On z (bit_or acc (get_or ms x 0)) ⊎ ((y : ℕ) × Occurs y l × On z (get_or ms y 0))
        go y (inl e) k = inl ((on_or z acc (get_or ms x 0)).1 (inr (rw e at k)))
        go y (inr i) k = inr (y, i, k)

-- x became what has the set m
unfoldable pub spread : ℕ → ℕ → ℕ → ℕ
spread x m w = pick (eqb (bit w x) 1) (bit_or w m) w

pub on_spread : (x m w z : ℕ) → On z (spread x m w) ↔ (On z w ⊎ (On x w × On z m))
unfolding spread
on_spread x m w z = go (eqb (bit w x) 1) refl
  where
    go : (b : Bool) → eqb (bit w x) 1 ≡ b → On z (pick b (bit_or w m) w) ↔ (On z w ⊎ (On x w × On z m))
    go true e = ((λ h. to ((on_or z w m).0 h)), λ h. (on_or z w m).1 (from h))
      where
        to : On z w ⊎ On z m → On z w ⊎ (On x w × On z m)
        to (inl k) = inl k
        to (inr k) = inr (eqb-true (bit w x) 1 e, k)

        from : On z w ⊎ (On x w × On z m) → On z w ⊎ On z m
        from (inl k) = inl k
        from (inr k) = inr k.1
    go false e = ((λ h. inl h), λ h. from h)
      where
        from : On z w ⊎ (On x w × On z m) → On z w
        from (inl k) = k
        from (inr k) = absurd (eqb-false (bit w x) 1 e k.0)

in_one : (x z : ℕ) (v w : List Item) → x ≢ z → Occurs z (app (one x v) w) ↔ (Occurs z w ⊎ (Occurs x w × Occurs z v))
in_one x z v w n = ((λ h. let r = in_app (one x v) z w h in to r.0 r.1 r.2 (ℕ_discrete x r.0)), from)
  where
    is : (y : ℕ) → Occurs z (vars y) → z ≡ y
    is y (inr x'') = elim x'' [ ]
    is y (inl e) = e

    to : (y : ℕ) → Occurs y w → Occurs z (one x v y) → Dec (x ≡ y) → Occurs z w ⊎ (Occurs x w × Occurs z v)
    to y i j (yes e) = inr (rw e i, rw (one_same x v) at (rw (← e) at j))
    to y i j (no f) = inl (let k = is y (rw (one_other x v y f) at j) in rw k i)

    from : Occurs z w ⊎ (Occurs x w × Occurs z v) → Occurs z (app (one x v) w)
    from (inl i) = in_app_of (one x v) z z w i (rw (one_other x v z n) (inl refl))
    from (inr i) = in_app_of (one x v) z x w i.0 (rw (one_same x v) i.1)

-- the set of each variable: the variables with no binding in its value
abbrev pub VariableSets : List Bind → List ℕ → Type 0
VariableSets B ms = (y z : ℕ) → y < 64 → Unbound z B → On z (get_or ms y 0) ↔ Occurs z (full B y)

pub sets_start : (ms : List ℕ) → ((y : ℕ) → y < 64 → get_or ms y 0 ≡ 2 ^ y) → VariableSets [] ms
sets_start ms h y z b n = ((λ o. inl ((on_one z y).0 (rw (h y b) at o))), λ i. rw (h y b) ((on_one z y).1 (is i)))
  where
    is : Occurs z (vars y) → z ≡ y
    is (inr x') = elim x' [ ]
    is (inl e) = e

abbrev pub WrittenOnly : List Item → Type 0
WrittenOnly l = (y : ℕ) → Occurs y l → y < 64

-- the set of a term
pub sets_term : (B : List Bind) (ms : List ℕ) → VariableSets B ms → (l : List Item) → WrittenOnly l → (z : ℕ) → Unbound z B → On z (mask_of ms 0 l) ↔ Occurs z (app (full B) l)
sets_term B ms s l nm z n = ((λ o. to ((on_mask ms 0 z l).0 o)), λ i. let r = in_app (full B) z l i in (on_mask ms 0 z l).1 (inr (r.0, r.1, (s r.0 z (nm r.0 r.1) n).1 r.2)))
  where
    to : On z 0 ⊎ ((y : ℕ) × Occurs y l × On z (get_or ms y 0)) → Occurs z (app (full B) l)
    to (inl h) = absurd (on_none z h)
    to (inr h) = in_app_of (full B) z h.0 l h.1 ((s h.0 z (nm h.0 h.1) n).0 h.2)

pub sets_bind : (B : List Bind) (ms : List ℕ) → length ms ≡ 64 → VariableSets B ms → (x : ℕ) (u : List Item) → Unbound x B → WrittenOnly u → VariableSets ((x := u) ∷ B) (map (spread x (mask_of ms 0 u)) ms)
sets_bind B ms e s x u nx nm y z b n = rw (get_or_map (spread x (mask_of ms 0 u)) ms y (omega arith)) (
  (λ o. (in_one x z (app (full B) u) (full B y) n.0).1 (to ((on_spread x (mask_of ms 0 u) (get_or ms y 0) z).0 o))),
  (λ i. (on_spread x (mask_of ms 0 u) (get_or ms y 0) z).1 (from ((in_one x z (app (full B) u) (full B y) n.0).0 i))),
)
  where
    to : On z (get_or ms y 0) ⊎ (On x (get_or ms y 0) × On z (mask_of ms 0 u)) → Occurs z (full B y) ⊎ (Occurs x (full B y) × Occurs z (app (full B) u))
    to (inl o) = inl ((s y z b n.1).0 o)
    to (inr o) = inr ((s y x b nx).0 o.0, (sets_term B ms s u nm z n.1).0 o.1)

    from : Occurs z (full B y) ⊎ (Occurs x (full B y) × Occurs z (app (full B) u)) → On z (get_or ms y 0) ⊎ (On x (get_or ms y 0) × On z (mask_of ms 0 u))
    from (inl o) = inl ((s y z b n.1).1 o)
    from (inr o) = inr ((s y x b nx).1 o.0, (sets_term B ms s u nm z n.1).1 o.1)
