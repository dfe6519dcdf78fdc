-- SCOPE.md, 'Paths and keys': a key as bytes, 'steps of three bytes (symbol item, argument number) and then two
-- bytes, a symbol or 0xFFFF for the star'. In a Key arguments are numbered from 0 and the star is 256.
use Prim.Native.Nat.{ℕ, suc, ◌+◌, ◌-◌, ◌*◌, ◌/◌, ◌%◌, ◌≤◌, ◌<◌}
use Rattle.std.specs.Prelude.{◌≡◌, ◌⊎◌, Bool, ltb, leb}
use Rattle.std.proofs.Math.Path.{refl, ap}
use Rattle.std.proofs.Common.{sym, ◌∙◌, inl, inr}
use Rattle.std.proofs.Math.Logic.{⊎_elim}
use mathlib.Core.List.{List, [], ◌∷◌, ◌++◌, append_assoc}
use Rattle.std.proofs.Math.Bool.{true, false}
use native.Mathlib.Omega.{arith}
use Rattle.std.proofs.Math.Decide.{ℕ_discrete}
use borrow.Author.Tests.{lt-ltb, le-ltb, le-leb, ltb-true, eqb-true, eqb-false, eq-eqb, ne_eqb}
use Rattle.std.proofs.Math.Dec.{eqb}
use Rattle.std.proofs.Math.ListN.{length, length-append}
use Rattle.laws.specs.Choice.{pick}
use Rattle.laws.specs.Members.{In, in_append}
use Rattle.keys.specs.Keys.{Tm, Args, node, nil, cons, Place, root, step, Key, key, end_of, size, sizes, keys_t, keys_a}
use Rattle.keys.specs.Bytes.{step_good, end_good, steps_good, is_key}
use Rattle.terms.specs.Terms.{Signed, refusal}
use Rattle.definitions.specs.Trees.{count_args, items_t, IsSymbol, Variable, Shaped, Shapes, tree_of, keys_of}
use Rattle.definitions.specs.Spelt.{end_variable, end_symbol, clash, taken, tree_shaped, term_tree, term_tree_is}
use Rattle.definitions.specs.Spelt.{size_items}
use Rattle.terms.specs.Terms.{arity}

unfoldable pub place_bytes : Place → List ℕ
place_bytes root = []
place_bytes (step p f i) = place_bytes p ++ (f / 256 ∷ f % 256 ∷ suc i ∷ [])

unfoldable pub end_bytes : ℕ → List ℕ
end_bytes e = pick (eqb e 256) (255 ∷ 255 ∷ []) (e / 256 ∷ e % 256 ∷ [])

unfoldable pub key_bytes : Key → List ℕ
key_bytes (key p e) = place_bytes p ++ end_bytes e

-- and read again, after the steps p
unfoldable pub key_after : Place → List ℕ → Key
key_after p [] = key p 0
key_after p (h ∷ []) = key p 0
key_after p (h ∷ l ∷ []) = key p (pick (eqb (h * 256 + l) 65535) 256 (h * 256 + l))
key_after p (h ∷ l ∷ i ∷ r) = key_after (step p (h * 256 + l) (i - 1)) r

unfoldable pub key_of : List ℕ → Key
key_of k = key_after root k

-- symbols are below 256 and have at most 8 arguments
unfoldable pub FitsPlace : Place → Type 0
FitsPlace root = Unit {0}
FitsPlace (step p f i) = FitsPlace p × (f < 256) × (i < 8)

unfoldable pub KeyFits : Key → Type 0
KeyFits (key p e) = FitsPlace p × (e < 257)

after_place : (p : Place) (r : List ℕ) → FitsPlace p → key_after root (place_bytes p ++ r) ≡ key_after p r
unfolding place_bytes key_after FitsPlace
after_place root r w = refl
after_place (step p f i) r w =
    let a : f / 256 * 256 + f % 256 ≡ f = omega arith in
    let b : suc i - 1 ≡ i = omega arith in
    ap (key_after root) (append_assoc (place_bytes p) (f / 256 ∷ f % 256 ∷ suc i ∷ []) r) ∙ after_place p (f / 256 ∷ f % 256 ∷ suc i ∷ r) w.0 ∙ rw (a, b)

after_end : (p : Place) (e : ℕ) → e < 257 → key_after p (end_bytes e) ≡ key p e
unfolding end_bytes key_after
after_end p e l = go (ℕ_discrete e 256)
  where
    go : Dec (e ≡ 256) → key_after p (pick (eqb e 256) (255 ∷ 255 ∷ []) (e / 256 ∷ e % 256 ∷ [])) ≡ key p e
    go (yes z) = rw (eq-eqb e 256 z) (ap (key p) (sym z))
    go (no z) =
        let a : e / 256 * 256 + e % 256 ≡ e = omega arith in
        rw (ne_eqb e 256 z, a, ne_eqb e 65535 (λ q. omega arith))

-- a key is read back from its bytes
pub key_bytes_lem : (K : Key) → KeyFits K → key_of (key_bytes K) ≡ K
unfolding key_of key_bytes KeyFits
key_bytes_lem (key p e) w = after_place p (end_bytes e) w.0 ∙ after_end p e w.1

-- the bytes of a list are bytes
abbrev pub Bytes : List ℕ → Type 0
Bytes [] = Unit {0}
Bytes (b ∷ k) = (b < 256) × Bytes k

module _ (sig : List ℕ) (g : Signed sig) where
  end_back : (p : Place) (h l : ℕ) → h < 256 → l < 256 → end_good sig (h * 256 + l) ≡ true → key_bytes (key_after p (h ∷ l ∷ [])) ≡ place_bytes p ++ (h ∷ l ∷ [])
  unfolding key_bytes key_after end_bytes end_good
  end_back p h l b c e = ap (λ (r : List ℕ). place_bytes p ++ r) (go (ltb (h * 256 + l) (length sig)) refl e)
    where
      x : ℕ
      x = h * 256 + l

      go : (d : Bool) → ltb x (length sig) ≡ d → pick d true (eqb x 65535) ≡ true → end_bytes (pick (eqb x 65535) 256 x) ≡ h ∷ l ∷ []
      go true s z =
          let k : x < 256 = omega (arith, ltb-true x (length sig) s, g.short) in
          let a : x / 256 ≡ h = omega arith in
          let d : x % 256 ≡ l = omega arith in
          rw (ne_eqb x 65535 (λ q. omega arith), ne_eqb x 256 (λ q. omega arith), a, d)
      go false s z =
          let k : x ≡ 65535 = eqb-true x 65535 z in
          let a : h ≡ 255 = omega arith in
          let d : l ≡ 255 = omega arith in
          rw (z, a, d)

  steps_back : (p : Place) (k : List ℕ) → Bytes k → steps_good sig k ≡ true → key_bytes (key_after p k) ≡ place_bytes p ++ k
  unfolding steps_good key_after step_good place_bytes
  steps_back p [] b s = clash s
  steps_back p (h ∷ []) b s = clash s
  steps_back p (h ∷ l ∷ []) b s = end_back p h l b.0 b.1.0 s
  steps_back p (h ∷ l ∷ i ∷ r) b s =
      let z = taken (step_good sig (h * 256 + l) i) (steps_good sig r) s in
      steps_back (step p (h * 256 + l) (i - 1)) r b.1.1.1 z.1 ∙ append_assoc (place_bytes p) _ r ∙ ap (λ (t : List ℕ). place_bytes p ++ t) (again z.0)
    where
      again : step_good sig (h * 256 + l) i ≡ true → (h * 256 + l) / 256 ∷ (h * 256 + l) % 256 ∷ suc (i - 1) ∷ r ≡ h ∷ l ∷ i ∷ r
      again z =
          let y = taken (ltb (h * 256 + l) (length sig)) (pick (eqb i 0) false (leb i (arity sig (h * 256 + l)))) z in
          let n : i ≡ 0 → ⊥ = from (eqb i 0) refl y.1 in
          let bh : h < 256 = b.0 in
          let bl : l < 256 = b.1.0 in
          let a : (h * 256 + l) / 256 ≡ h = omega arith in
          let d : (h * 256 + l) % 256 ≡ l = omega arith in
          let e : suc (i - 1) ≡ i = omega arith in
          rw (a, d, e)
        where
          from : (c : Bool) → eqb i 0 ≡ c → pick c false (leb i (arity sig (h * 256 + l))) ≡ true → i ≡ 0 → ⊥
          from true e z q = clash z
          from false e z q = eqb-false i 0 e q

  -- bytes that are a key are those of the key that they are read as
  pub bytes_key : (k : List ℕ) → Bytes k → is_key sig k ≡ true → key_bytes (key_of k) ≡ k
  unfolding is_key key_of place_bytes
  bytes_key k b h = go (ltb 95 (length k)) h
    where
      go : (c : Bool) → pick c false (steps_good sig k) ≡ true → key_bytes (key_after root k) ≡ k
      go true z = clash z
      go false z = steps_back root k b z

-- the steps of a place
unfoldable steps : Place → ℕ
steps root = 0
steps (step p f i) = suc (steps p)

abbrev place : Key → Place
place (key p e) = p

length_place : (p : Place) → length (place_bytes p) ≡ 3 * steps p
unfolding place_bytes steps
length_place root = refl
length_place (step p f i) = rw length-append (omega (arith, length_place p))

length_end : (e : ℕ) → length (end_bytes e) ≡ 2
unfolding end_bytes
length_end e = go (eqb e 256)
  where
    go : (b : Bool) → length (pick b (255 ∷ 255 ∷ []) (e / 256 ∷ e % 256 ∷ [])) ≡ 2
    go true = refl
    go false = refl

-- a term of n items has no key of n steps
mutual
  unfolding keys_t size steps

  keys_steps : (p : Place) (u : Tm) (K : Key) → In K (keys_t p u) → steps (place K) < steps p + size u
  keys_steps p (node x us) K (inl e) = rw e (omega arith)
  keys_steps p (node x us) K (inr i) = omega (arith, args_steps p (end_of x) 0 us K i)

  args_steps : (p : Place) (f i : ℕ) (us : Args) (K : Key) → In K (keys_a p f i us) → steps (place K) < suc (steps p) + sizes us
  args_steps p f i nil K h = absurd h
  args_steps p f i (cons u us) K h = ⊎_elim (λ a. omega (arith, keys_steps (step p f i) u K a)) (λ a. omega (arith, args_steps p f (suc i) us K a))
      (in_append K (keys_t (step p f i) u) (keys_a p f (suc i) us) h)

no_keys : (p : Place) (f i : ℕ) (us : Args) (K : Key) → count_args us ≡ 0 → In K (keys_a p f i us) → ⊥
unfolding keys_t count_args
no_keys p f i nil K c h = h
no_keys p f i (cons u us) K c h = omega arith

module _ (sig : List ℕ) (g : Signed sig) where
  -- what the steps and the end of a term's key are
  Declared : Place → Type 0
  Declared root = Unit {0}
  Declared (step p f i) = Declared p × (f < length sig) × (i < arity sig f)

  Good : Key → Type 0
  Good (key p e) = Declared p × ((e < length sig) ⊎ (e ≡ 256))

  mutual
    unfolding keys_t Shaped Declared Good count_args

    keys_good : (p : Place) (u : Tm) → Declared p → Shaped sig u → (K : Key) → In K (keys_t p u) → Good K
    keys_good p (node x us) d w K h = go w.0 h (λ s l j. args_good p x 0 us d s (omega (arith, l)) w.1 K j)
      where
        go : (IsSymbol sig x × (count_args us ≡ arity sig x)) ⊎ (Variable x × (count_args us ≡ 0)) → (K ≡ key p (end_of x)) ⊎ In K (keys_a p (end_of x) 0 us)
            → (x < length sig → count_args us ≡ arity sig x → In K (keys_a p x 0 us) → Good K) → Good K
        go (inl s) h f = ⊎_elim (λ (z : K ≡ key p x). rw z (d, inl s.0)) (λ j. f s.0 s.1 j) (rw (end_symbol x (omega (arith, s.0, g.short))) at h)
        go (inr s) h f = ⊎_elim (λ (z : K ≡ key p 256). rw z (d, inr refl)) (λ j. absurd (no_keys p 256 0 us K s.1 j)) (rw (end_variable x s.0.0) at h)

    args_good : (p : Place) (f i : ℕ) (us : Args) → Declared p → f < length sig → i + count_args us ≤ arity sig f → Shapes sig us → (K : Key) → In K (keys_a p f i us) → Good K
    args_good p f i nil d s l w K h = absurd h
    args_good p f i (cons u us) d s l w K h = ⊎_elim (λ a. keys_good (step p f i) u (d, s, omega arith) w.0 K a) (λ a. args_good p f (suc i) us d s (omega arith) w.1 K a)
        (in_append K (keys_t (step p f i) u) (keys_a p f (suc i) us) h)

  step_good_lem : (f i : ℕ) → f < length sig → i < arity sig f → step_good sig f (suc i) ≡ true
  unfolding step_good
  step_good_lem f i a b = rw (lt-ltb f (length sig) a, ne_eqb (suc i) 0 (λ z. omega arith), le-leb (suc i) (arity sig f) b)

  place_good : (p : Place) (r : List ℕ) → Declared p → steps_good sig r ≡ true → steps_good sig (place_bytes p ++ r) ≡ true
  unfolding place_bytes steps_good Declared
  place_good root r d h = h
  place_good (step p f i) r d h =
      let a : f / 256 * 256 + f % 256 ≡ f = omega arith in
      ap (steps_good sig) (append_assoc (place_bytes p) (f / 256 ∷ f % 256 ∷ suc i ∷ []) r)
      ∙ place_good p (f / 256 ∷ f % 256 ∷ suc i ∷ r) d.0 (rw (a, step_good_lem f i d.1 d.2) h)

  end_good_lem : (e : ℕ) → (e < length sig) ⊎ (e ≡ 256) → steps_good sig (end_bytes e) ≡ true
  unfolding end_bytes steps_good end_good
  end_good_lem e (inl h) =
      let a : e / 256 * 256 + e % 256 ≡ e = omega arith in
      rw (ne_eqb e 256 (λ z. omega (arith, g.short)), a, lt-ltb e (length sig) h)
  end_good_lem e (inr h) = rw (eq-eqb e 256 h, le-ltb 65535 (length sig) (omega (arith, g.short)))

  declared_fits : (p : Place) → Declared p → FitsPlace p
  unfolding Declared FitsPlace
  declared_fits root d = tt
  declared_fits (step p f i) d = (declared_fits p d.0, omega (arith, d.1, g.short), omega (arith, d.2, g.eight f))

  good_key : (K : Key) → Good K → steps (place K) < 32 → (is_key sig (key_bytes K) ≡ true) × KeyFits K
  unfolding Good key_bytes is_key KeyFits
  good_key (key p e) d l =
      let n : length (place_bytes p ++ end_bytes e) ≤ 95 = rw length-append (omega (arith, length_place p, length_end e)) in (
        rw (le-ltb 95 (length (place_bytes p ++ end_bytes e)) n) (place_good p (end_bytes e) d.0 (end_good_lem e d.1)),
        (declared_fits p d.0, ⊎_elim (λ h. omega (arith, h, g.short)) (λ h. omega (arith, h)) d.1),
      )

  -- 'As bytes a key is 0 to 31 steps of three bytes and then two bytes': each key of a checked term is such bytes,
  -- and is read back from them
  pub term_keys : (t : List ℕ) → refusal sig t ≡ 0 → (K : Key) → In K (keys_of sig t) → (is_key sig (key_bytes K) ≡ true) × (key_of (key_bytes K) ≡ K)
  unfolding keys_of Declared steps
  term_keys t h K i =
      let u = tree_of sig t in
      let l = ap (λ (v : Tm). length (items_t v)) (term_tree_is sig t g h) in
      let r = good_key K (keys_good root u tt (tree_shaped sig t g h) K i) (omega (arith, keys_steps root u K i, size_items u, (term_tree sig t g h).short, l)) in
      (r.0, key_bytes_lem K r.1)
