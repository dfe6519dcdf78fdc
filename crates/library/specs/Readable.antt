-- The functions of Store say the sentences of SCOPE.md ('Store', 'Paths and keys', 'The relations themselves', 'The
-- solver's record'): what each list has, what each number counts, when solve is refused and what its record is. The
-- statements are for stores that calls lead to (Sound).
use Prim.Native.Nat.{ℕ, zero, suc, ◌+◌, ◌≤◌, ◌<◌}
use Rattle.std.proofs.Math.Decide.{ℕ_discrete, dec_lt}
use Rattle.std.proofs.Common.{arith, sym, ◌∙◌}
use Rattle.std.specs.Prelude.{◌≡◌, ◌⊎◌, ◌↔◌, Bool}
use Rattle.std.proofs.Math.Path.{refl}
use Rattle.std.proofs.Math.Logic.{inl, inr, ⊎_elim}
use Rattle.std.proofs.Math.Bool.{true, false}
use Rattle.std.proofs.Math.Option.{Option, some, none}
use mathlib.Core.List.{List, [], ◌∷◌, ◌++◌}
use Rattle.std.proofs.Math.Dec.{ltb}
use Rattle.std.proofs.Math.ListN.{length}
use borrow.Author.Tests.{lt-ltb, le-ltb, ltb-false, eq-eqb}
use Rattle.laws.specs.Choice.{pick}
use Rattle.laws.specs.Members.{In, NoDup, in_append, in_left, in_right, nodup_le}
use Rattle.terms.specs.Terms.{refusal}
use Rattle.terms.proofs.TermLaws.{signed}
use Rattle.keys.specs.Keys.{Key, HasKey}
use Rattle.theory.specs.Flat.{Item}
use Rattle.theory.specs.Unify.{Bind, full}
use Rattle.theory.specs.Items.{items, shift}
use Rattle.theory.specs.CheckedItems.{fine}
use Rattle.theory.specs.Relations.{Decided, Unifiable}
use Rattle.theory.specs.Solver.{RightBindings}
use Rattle.definitions.specs.Trees.{tree_of}
use Rattle.definitions.specs.Candidates.{is_candidate}
use Rattle.library.specs.Formulas.{has_key, formula, trees, stays_bytes}
use Rattle.library.specs.FormulasTable.{has_key_lem, formulas_bytes}
use Rattle.definitions.specs.KeyBytes.{key_of}
use Rattle.definitions.specs.Relations.{Stands}
use Rattle.definitions.specs.Decisions.{answer, stands, stands_right, bindings?, bindings_right}
use Rattle.definitions.specs.Records.{Unifier, Short, IsRecord, record_of, count_of, one_unifier, one_record}
use Rattle.definitions.specs.ReadBack.{read_fields, Reads, read_back, read_count}
use Rattle.definitions.specs.Spelt.{clash, taken, keys_stand}
use Rattle.library.specs.Store.{Store, slots_from, slots_with, holding, in_use, free_from, first_free, key?, keys_in}
use Rattle.library.specs.Store.{keys_from, keys_held, is_in, distinct, key_count, solve, keyed, candidates, answers}
use Rattle.library.specs.Store.{answered}
use Rattle.library.specs.Sound.{Sound, free_most}
use Rattle.definitions.specs.Answers.{refused, solved, long_from, recorded}
use Rattle.laws.specs.Sizes.{slot_count, value_limit}
use Rattle.terms.specs.Terms.{arity}

-- each number larger than those before it
abbrev pub Ascending : List ℕ → Type 0
Ascending [] = Unit {0}
Ascending (s ∷ l) = ((u : ℕ) → In u l → s < u) × Ascending l

pub ascending_nodup : (l : List ℕ) → Ascending l → NoDup l
ascending_nodup [] h = tt
ascending_nodup (s ∷ l) h = ((λ i. (let z = h.0 s i in omega arith)), ascending_nodup l h.1)

-- two lists of the same things, none twice, are equally long: the number of the things
pub same_number : {A : Type 0} (l m : List A) → NoDup l → NoDup m → ((a : A) → In a l ↔ In a m) → length l ≡ length m
same_number l m p q h = let a = nodup_le l m p (λ x. (h x).0) in let b = nodup_le m l q (λ x. (h x).1) in omega arith

module _ (p : ℕ → Bool) where
  listed_in : (k s u : ℕ) → In u (slots_from p k s) → (s ≤ u) × (u < s + k) × (p u ≡ true)
  unfolding slots_from
  listed_in zero s u i = absurd i
  listed_in (suc k) s u i = go (p s) refl i (listed_in k (suc s) u)
    where
      later : (suc s ≤ u) × (u < suc s + k) × (p u ≡ true) → (s ≤ u) × (u < s + suc k) × (p u ≡ true)
      later h = (omega (arith, h.0), omega (arith, h.1), h.2)

      go : (b : Bool) → p s ≡ b → In u (pick b (s ∷ slots_from p k (suc s)) (slots_from p k (suc s)))
          → (In u (slots_from p k (suc s)) → (suc s ≤ u) × (u < suc s + k) × (p u ≡ true)) → (s ≤ u)
          × (u < s + suc k) × (p u ≡ true)
      go true e (inl q) ih = (omega arith, omega arith, rw q e)
      go true e (inr j) ih = later (ih j)
      go false e j ih = later (ih j)

  into_listed : (k s u : ℕ) → s ≤ u → u < s + k → p u ≡ true → In u (slots_from p k s)
  unfolding slots_from
  into_listed zero s u a b e = absurd (omega arith)
  into_listed (suc k) s u a b e = go (ℕ_discrete u s) (p s) refl (λ c. into_listed k (suc s) u c (omega arith) e)
    where
      go : Dec (u ≡ s) → (b : Bool) → p s ≡ b → (suc s ≤ u → In u (slots_from p k (suc s)))
          → In u (pick b (s ∷ slots_from p k (suc s)) (slots_from p k (suc s)))
      go (yes q) true f ih = inl q
      go (yes q) false f ih = let g : p s ≡ true = rw (← q) e in clash (sym f ∙ g)
      go (no n) true f ih = inr (ih (omega (arith, n)))
      go (no n) false f ih = ih (omega (arith, n))

  ascending_from : (k s : ℕ) → Ascending (slots_from p k s)
  unfolding slots_from
  ascending_from zero s = tt
  ascending_from (suc k) s = go (p s) (ascending_from k (suc s))
    where
      go : (b : Bool) → Ascending (slots_from p k (suc s))
          → Ascending (pick b (s ∷ slots_from p k (suc s)) (slots_from p k (suc s)))
      go true h = ((λ u i. omega (arith, (listed_in k (suc s) u i).0)), h)
      go false h = h

  -- a list of slots is ascending, and has the slots 0 to 511 that pass the test
  pub slots_ascend : Ascending (slots_with p)
  slots_ascend = ascending_from slot_count 0

  pub slots_are : (s : ℕ) → In s (slots_with p) ↔ ((s < slot_count) × (p s ≡ true))
  slots_are s = ((λ i. (let h = listed_in slot_count 0 s i in (omega (arith, h.1), h.2))), (λ h. into_listed slot_count 0 s (omega arith) (omega (arith, h.0)) h.1))

none_some : (t : List ℕ) → none ≡ some t → ⊥
none_some t e = let z : ◌≡◌ {A = ℕ} 0 1 = cc in omega arith

same_term : (t u : List ℕ) → some t ≡ some u → t ≡ u
same_term t u e = cc

holding_is : (p : List ℕ → Bool) (o : Option (List ℕ))
    → (holding p o ≡ true) ↔ ((t : List ℕ) × (o ≡ some t) × (p t ≡ true))
holding_is p none = ((λ h. clash h), (λ h. absurd (none_some h.0 h.1)))
holding_is p (some t) = ((λ h. (t, refl, h)), (λ h. (let d : t ≡ h.0 = same_term t h.0 h.1 in rw d h.2)))

told : {P : Type 0} (b : Bool) → Decided b P → P → b ≡ true
told true d h = refl
told false d h = absurd (d.fails refl h)

-- `distinct` has the keys of its list,
pub is_in_in : (K : Key) (l : List Key) → is_in K l ≡ true → In K l
is_in_in K [] h = clash h
is_in_in K (L ∷ l) h = go (key? K L) h (is_in_in K l)
  where
    go : (d : Dec (K ≡ L)) → pick (answer d) true (is_in K l) ≡ true → (is_in K l ≡ true → In K l) → (K ≡ L) ⊎ In K l
    go (yes e) h ih = inl e
    go (no n) h ih = inr (ih h)

pub is_in_out : (K : Key) (l : List Key) → is_in K l ≡ false → In K l → ⊥
is_in_out K [] h i = i
is_in_out K (L ∷ l) h i = go (key? K L) h i (is_in_out K l)
  where
    go : (d : Dec (K ≡ L)) → pick (answer d) true (is_in K l) ≡ false → (K ≡ L) ⊎ In K l
        → (is_in K l ≡ false → In K l → ⊥) → ⊥
    go (yes e) h i ih = clash (sym h)
    go (no n) h (inl e) ih = n e
    go (no n) h (inr i) ih = ih h i

pub distinct_in : (K : Key) (l : List Key) → In K (distinct l) ↔ In K l
unfolding distinct
distinct_in K [] = ((λ i. i), (λ i. i))
distinct_in K (L ∷ l) = go (is_in L l) refl (distinct_in K l)
  where
    go : (b : Bool) → is_in L l ≡ b → In K (distinct l) ↔ In K l
        → In K (pick b (distinct l) (L ∷ distinct l)) ↔ ((K ≡ L) ⊎ In K l)
    go true e ih = ((λ i. inr (ih.0 i)), (λ i. ⊎_elim (λ (q : K ≡ L). ih.1 (rw q (is_in_in L l e))) ih.1 i))
    go false e ih = ((λ i. ⊎_elim (λ (q : K ≡ L). inl q) (λ j. inr (ih.0 j)) i), (λ i. ⊎_elim (λ (q : K ≡ L). inl q) (λ j. inr (ih.1 j)) i))

-- and none twice
pub distinct_nodup : (l : List Key) → NoDup (distinct l)
unfolding distinct
distinct_nodup [] = tt
distinct_nodup (L ∷ l) = go (is_in L l) refl (distinct_nodup l)
  where
    go : (b : Bool) → is_in L l ≡ b → NoDup (distinct l) → NoDup (pick b (distinct l) (L ∷ distinct l))
    go true e d = d
    go false e d = ((λ i. is_in_out L l e ((distinct_in L l).0 i)), d)

-- 'some value has over 2,048 items'
module _ (θ : ℕ → List Item) where
  short_from_lem : (k y : ℕ) → long_from θ k y ≡ false → (z : ℕ) → y ≤ z → z < y + k → length (θ z) ≤ value_limit
  unfolding long_from
  short_from_lem zero y e z a b = absurd (omega arith)
  short_from_lem (suc k) y e z a b = go (ltb value_limit (length (θ y))) refl e (ℕ_discrete z y) (λ f c. short_from_lem k (suc y) f z c (omega arith))
    where
      go : (c : Bool) → ltb value_limit (length (θ y)) ≡ c → pick c true (long_from θ k (suc y)) ≡ false → Dec (z ≡ y)
          → (long_from θ k (suc y) ≡ false → suc y ≤ z → length (θ z) ≤ value_limit) → length (θ z) ≤ value_limit
      go true f h d ih = clash (sym h)
      go false f h (yes q) ih = rw q (ltb-false value_limit (length (θ y)) f)
      go false f h (no n) ih = ih h (omega (arith, n))

  from_short : (k y : ℕ) → ((z : ℕ) → y ≤ z → z < y + k → length (θ z) ≤ value_limit) → long_from θ k y ≡ false
  unfolding long_from
  from_short zero y h = refl
  from_short (suc k) y h =
      let e : ltb value_limit (length (θ y)) ≡ false = le-ltb value_limit (length (θ y)) (h y (omega arith) (omega arith)) in
      rw (e, from_short k (suc y) (λ z a b. h z (omega arith) (omega arith)))

  pub long_short : (long_from θ 64 0 ≡ false) ↔ Short θ
  long_short = ((λ e z b. short_from_lem 64 0 e z (omega arith) (omega arith)), (λ h. from_short 64 0 (λ z a b. h z (omega arith))))

module _ (st : Store) where
  -- 'the smallest slot not in use', 512 where all are
  below_free : (k s u : ℕ) → s ≤ u → u < free_from st k s → in_use st u ≡ true
  unfolding free_from
  below_free zero s u a b = absurd (omega arith)
  below_free (suc k) s u a b = go (ℕ_discrete u s) (in_use st s) refl b (λ c. below_free k (suc s) u c)
    where
      go : Dec (u ≡ s) → (c : Bool) → in_use st s ≡ c → u < pick c (free_from st k (suc s)) s
          → (suc s ≤ u → u < free_from st k (suc s) → in_use st u ≡ true) → in_use st u ≡ true
      go (yes q) true e l ih = rw q e
      go (no n) true e l ih = ih (omega (arith, n)) l
      go (yes q) false e l ih = absurd (omega arith)
      go (no n) false e l ih = absurd (omega arith)

  at_free : (k s : ℕ) → free_from st k s < s + k → in_use st (free_from st k s) ≡ false
  unfolding free_from
  at_free zero s b = absurd (omega arith)
  at_free (suc k) s b = go (in_use st s) refl b (at_free k (suc s))
    where
      go : (c : Bool) → in_use st s ≡ c → pick c (free_from st k (suc s)) s < s + suc k
          → (free_from st k (suc s) < suc s + k → in_use st (free_from st k (suc s)) ≡ false)
          → in_use st (pick c (free_from st k (suc s)) s) ≡ false
      go true e l ih = ih (omega (arith, l))
      go false e l ih = e

  pub free_smallest : (u : ℕ) → u < first_free st → in_use st u ≡ true
  free_smallest u l = below_free slot_count 0 u (omega arith) l

  pub free_unused : first_free st < slot_count → in_use st (first_free st) ≡ false
  free_unused l = at_free slot_count 0 (omega arith)

  pub free_none : (first_free st ≡ slot_count) ↔ ((u : ℕ) → u < slot_count → in_use st u ≡ true)
  free_none = ((λ e u l. free_smallest u (omega arith)), (λ h. go h (dec_lt (first_free st) slot_count)))
    where
      go : ((u : ℕ) → u < slot_count → in_use st u ≡ true) → Dec (first_free st < slot_count) → first_free st ≡ slot_count
      go h (yes l) = clash (sym (free_unused l) ∙ h (first_free st) l)
      go h (no n) = let b = free_most st slot_count 0 in omega (arith, n, b)

module _ (st : Store) (h : Sound st) where
  held_below : (s : ℕ) (t : List ℕ) → st.held s ≡ some t → s < slot_count
  held_below s t e = go (dec_lt s slot_count)
    where
      go : Dec (s < slot_count) → s < slot_count
      go (yes l) = l
      go (no n) = absurd (none_some t (sym (h.bounded s (omega (arith, n))) ∙ e))

  -- a slot in use holds a term
  pub use_held : (s : ℕ) → (in_use st s ≡ true) ↔ ((t : List ℕ) × (st.held s ≡ some t))
  unfolding in_use
  use_held s = (from, into)
    where
      from : pick (ltb s slot_count) (holding (λ t. true) (st.held s)) false ≡ true → (t : List ℕ)
          × (st.held s ≡ some t)
      from e = let w = (holding_is (λ t. true) (st.held s)).0 (taken (ltb s slot_count) (holding (λ t. true) (st.held s)) e).1 in (w.0, w.1)

      into : (t : List ℕ) × (st.held s ≡ some t)
          → pick (ltb s slot_count) (holding (λ t. true) (st.held s)) false ≡ true
      into w = rw (lt-ltb s slot_count (held_below s w.0 w.1), w.1)

  -- the slots in use whose term passes a test
  holding_slots : (p : List ℕ → Bool) (s : ℕ)
      → In s (slots_with (λ u. holding p (st.held u))) ↔ ((t : List ℕ) × (st.held s ≡ some t) × (p t ≡ true))
  holding_slots p s =
      let a = slots_are (λ u. holding p (st.held u)) s in
      let b = holding_is p (st.held s) in
      ((λ i. b.0 (a.0 i).1), (λ w. a.1 (held_below s w.0 w.1, b.1 w)))

  -- the answers of a retrieval: the slots whose term stands in the relation
  pub answers_are : (r : ℕ) (q : List ℕ) → refusal st.signature q ≡ 0 → (s : ℕ)
      → In s (answers st r q) ↔ ((t : List ℕ) × (st.held s ≡ some t) × Stands st.signature r t q)
  unfolding answers
  answers_are r q c s =
      let a = holding_slots (λ t. stands st.signature r t q) s in
      ((λ i. (let w = a.0 i in (w.0, w.1, (right w.0 w.1).holds w.2))), (λ w. a.1 (w.0, w.1, told (stands st.signature r w.0 q) (right w.0 w.1) w.2)))
    where
      right : (t : List ℕ) → st.held s ≡ some t → Decided (stands st.signature r t q) (Stands st.signature r t q)
      right t e = stands_right st.signature r t q h.signed (h.checked s t e) c

  pub answers_ascend : (r : ℕ) (q : List ℕ) → Ascending (answers st r q)
  unfolding answers
  answers_ascend r q = slots_ascend (λ s. holding (λ t. stands st.signature r t q) (st.held s))

  -- the slots with a key: those whose term has it
  pub keyed_are : (k : List ℕ) (s : ℕ)
      → In s (keyed st k) ↔ ((t : List ℕ) × (st.held s ≡ some t) × HasKey (tree_of st.signature t) (key_of k))
  unfolding keyed
  keyed_are k s =
      let a = holding_slots (λ t. has_key (tree_of st.signature t) (key_of k)) s in (
        (λ i. (let w = a.0 i in (w.0, w.1, (has_key_lem (tree_of st.signature w.0) (key_of k)).0 w.2))),
        (λ w. a.1 (w.0, w.1, (has_key_lem (tree_of st.signature w.0) (key_of k)).1 w.2)),
      )

  pub keyed_ascend : (k : List ℕ) → Ascending (keyed st k)
  unfolding keyed
  keyed_ascend k = slots_ascend (λ s. holding (λ t. has_key (tree_of st.signature t) (key_of k)) (st.held s))

  -- the candidates: the slots that 001's formula has
  pub candidates_are : (r : ℕ) (q : List ℕ) → refusal st.signature q ≡ 0 → (s : ℕ)
      → In s (candidates st r q) ↔ (formula r (trees st.signature st.held) (tree_of st.signature q) s ≡ true)
  unfolding candidates stays_bytes
  candidates_are r q c s =
      let a = holding_slots (λ t. is_candidate st.signature r q t) s in
      let b = holding_is (λ t. is_candidate st.signature r q t) (st.held s) in
      let e = formulas_bytes st.signature (signed st.signature h.signed) st.held h.checked q c r s ∙ stay (st.held s) in
      ((λ i. e ∙ b.1 (a.0 i)), (λ f. a.1 (b.0 (sym e ∙ f))))
    where
      stay : (o : Option (List ℕ))
          → stays_bytes st.signature r q o ≡ holding (λ t. is_candidate st.signature r q t) o
      stay none = refl
      stay (some t) = refl

  pub candidates_ascend : (r : ℕ) (q : List ℕ) → Ascending (candidates st r q)
  unfolding candidates
  candidates_ascend r q = slots_ascend (λ s. holding (λ t. is_candidate st.signature r q t) (st.held s))

  -- the number of candidates is the number of those slots: any list of them, none twice, is as long
  pub candidates_many : (r : ℕ) (q : List ℕ) → refusal st.signature q ≡ 0 → (l : List ℕ) → NoDup l
      → ((s : ℕ) → In s l ↔ (formula r (trees st.signature st.held) (tree_of st.signature q) s ≡ true))
      → length (candidates st r q) ≡ length l
  candidates_many r q c l d f = same_number (candidates st r q) l (ascending_nodup (candidates st r q) (candidates_ascend r q)) d
      (λ s. (let a = candidates_are r q c s in ((λ i. (f s).1 (a.0 i)), (λ i. a.1 ((f s).0 i)))))

  -- the distinct keys of the stored terms
  in_keys : (o : Option (List ℕ)) (K : Key)
      → In K (keys_in st.signature o) ↔ ((t : List ℕ) × (o ≡ some t) × HasKey (tree_of st.signature t) K)
  in_keys none K = ((λ i. absurd i), (λ w. absurd (none_some w.0 w.1)))
  in_keys (some t) K =
      ((λ i. (t, refl, (keys_stand st.signature t K).0 i)), (λ w. (let d : t ≡ w.0 = same_term t w.0 w.1 in (keys_stand st.signature t K).1 (rw d w.2))))

  abbrev pub KeyHeld : Key → Type 0
  KeyHeld K = (s : ℕ) × (t : List ℕ) × (st.held s ≡ some t) × HasKey (tree_of st.signature t) K

  keys_from_lem : (k s : ℕ) (K : Key) → In K (keys_from st k s) → KeyHeld K
  unfolding keys_from
  keys_from_lem zero s K i = absurd i
  keys_from_lem (suc k) s K i =
      ⊎_elim (λ j. (let w = (in_keys (st.held s) K).0 j in (s, w.0, w.1, w.2))) (λ j. keys_from_lem k (suc s) K j) (in_append K (keys_in st.signature (st.held s)) (keys_from st k (suc s)) i)

  into_keys : (k s : ℕ) (K : Key) (u : ℕ) (t : List ℕ) → s ≤ u → u < s + k → st.held u ≡ some t
      → HasKey (tree_of st.signature t) K → In K (keys_from st k s)
  unfolding keys_from
  into_keys zero s K u t a b e w = absurd (omega arith)
  into_keys (suc k) s K u t a b e w = go (ℕ_discrete u s) (λ c. into_keys k (suc s) K u t c (omega arith) e w)
    where
      go : Dec (u ≡ s) → (suc s ≤ u → In K (keys_from st k (suc s)))
          → In K (keys_in st.signature (st.held s) ++ keys_from st k (suc s))
      go (yes q) ih = in_left K (keys_in st.signature (st.held s)) (keys_from st k (suc s)) ((in_keys (st.held s) K).1 (t, rw (← q) e, w))
      go (no n) ih = in_right K (keys_in st.signature (st.held s)) (keys_from st k (suc s)) (ih (omega (arith, n)))

  pub keys_are : (K : Key) → In K (distinct (keys_held st)) ↔ KeyHeld K
  keys_are K =
      let a = distinct_in K (keys_held st) in
      ((λ i. keys_from_lem slot_count 0 K (a.0 i)), (λ w. a.1 (into_keys slot_count 0 K w.0 w.1 (omega arith) (omega (arith, held_below w.0 w.1 w.2)) w.2 w.3)))

  -- their number: any list of them, none twice, is as long
  pub keys_many : (l : List Key) → NoDup l → ((K : Key) → In K l ↔ KeyHeld K) → key_count st ≡ length l
  keys_many l d f = same_number (distinct (keys_held st)) l (distinct_nodup (keys_held st)) d (λ K. (let a = keys_are K in ((λ i. (f K).1 (a.0 i)), (λ i. a.1 ((f K).0 i)))))

-- what solve answers where it answers a record
pub record Solved (sig t q : List ℕ) (room n : ℕ) (w : List ℕ) : Type 0 where
  pub is : IsRecord sig t q w
  pub short : Short is.by
  pub reads : Reads sig t q (read_fields w)
  pub count : n ≡ length (read_fields w)
  pub fits : length w ≤ room

not_none : (a b : Bool) (n : ℕ) (w : List ℕ) → pick a (refused 14) (pick b (refused 15) (solved n w)) ≡ refused 13 → ⊥
not_none true b n w e = let z : ◌≡◌ {A = ℕ} 14 13 = cc in omega arith
not_none false true n w e = let z : ◌≡◌ {A = ℕ} 15 13 = cc in omega arith
not_none false false n w e = let z : ◌≡◌ {A = ℕ} 0 1 = cc in omega arith

only_solved : (a b : Bool) (m n : ℕ) (v w : List ℕ)
    → pick a (refused 14) (pick b (refused 15) (solved m v)) ≡ solved n w → (a ≡ false) × (b ≡ false) × (m ≡ n)
    × (v ≡ w)
only_solved true b m n v w e = absurd (let z : ◌≡◌ {A = ℕ} 0 1 = cc in omega arith)
only_solved false true m n v w e = absurd (let z : ◌≡◌ {A = ℕ} 0 1 = cc in omega arith)
only_solved false false m n v w e = (refl, refl, cc, cc)

only_long : (a b : Bool) (n : ℕ) (w : List ℕ) → pick a (refused 14) (pick b (refused 15) (solved n w)) ≡ refused 14
    → a ≡ true
only_long true b n w e = refl
only_long false true n w e = absurd (let z : ◌≡◌ {A = ℕ} 15 14 = cc in omega arith)
only_long false false n w e = absurd (let z : ◌≡◌ {A = ℕ} 0 1 = cc in omega arith)

short_same : (θ η : ℕ → List Item) → ((x : ℕ) → θ x ≡ η x) → Short θ → Short η
short_same θ η h s y b = rw (← h y) (s y b)

long_true : (θ : ℕ → List Item) → (Short θ → ⊥) → long_from θ 64 0 ≡ true
long_true θ n = go (long_from θ 64 0) refl
  where
    go : (b : Bool) → long_from θ 64 0 ≡ b → b ≡ true
    go true e = refl
    go false e = absurd (n ((long_short θ).0 e))

module _ (st : Store) (h : Sound st) (s : ℕ) (t : List ℕ) (e : st.held s ≡ some t) (q : List ℕ) (c : refusal st.signature q ≡ 0) (room : ℕ) where
  solve_is : answered st (solve s q room) ≡ recorded (bindings? st.signature t q) room
  unfolding answered
  solve_is = rw ((use_held st h s).1 (t, e), e, eq-eqb (refusal st.signature q) 0 c)

  found : RightBindings (arity st.signature) (items t) (shift 32 (items q)) (bindings? st.signature t q)
  found = bindings_right st.signature t q (fine st.signature t h.signed (h.checked s t e)) (fine st.signature q h.signed c)

  -- '13, NONE: solve, and no unifier exists'
  pub solve_none : (answered st (solve s q room) ≡ refused 13) ↔ (Unifiable st.signature t q → ⊥)
  solve_none = rw solve_is (go (bindings? st.signature t q) found)
    where
      go : (o : Option (List Bind)) → RightBindings (arity st.signature) (items t) (shift 32 (items q)) o
          → (recorded o room ≡ refused 13) ↔ (Unifiable st.signature t q → ⊥)
      go none g = ((λ d u. g u.by u.sub u.same), (λ n. refl))
      go (some B) g = (
        (λ d. absurd (not_none (long_from (full B) 64 0) (ltb room (length (record_of (full B)))) (count_of (full B)) (record_of (full B)) d)),
        (λ n. absurd (n (record { by = full B; sub = g.1.sub; same = g.1.unifies }))),
      )

  -- and where a record is answered, it is the record, short enough, and reads back as the most general unifier
  pub solve_solved : (n : ℕ) (w : List ℕ) → answered st (solve s q room) ≡ solved n w
      → Solved st.signature t q room n w
  solve_solved n w d = go (bindings? st.signature t q) found (sym solve_is ∙ d)
    where
      go : (o : Option (List Bind)) → RightBindings (arity st.signature) (items t) (shift 32 (items q)) o
          → recorded o room ≡ solved n w → Solved st.signature t q room n w
      go none g f = absurd (let z : ◌≡◌ {A = ℕ} 0 1 = cc in omega arith)
      go (some B) g f =
          let k = only_solved (long_from (full B) 64 0) (ltb room (length (record_of (full B)))) (count_of (full B)) n (record_of (full B)) w f in
          let u : Unifier st.signature (items t) (shift 32 (items q)) (full B) = record { mgu = g.1; least = g.2 } in
          let ft = fine st.signature t h.signed (h.checked s t e) in
          let fq = fine st.signature q h.signed c in
          record {
            is = record { by = full B; unifier = u; is = sym k.3 };
            short = (long_short (full B)).0 k.0;
            reads = rw (← k.3) (read_back st.signature t q ft fq (full B) u);
            count = rw (← k.3, ← k.2) (read_count st.signature t q ft fq (full B) u);
            fits = rw (← k.3) (ltb-false room (length (record_of (full B))) k.1);
          }

  -- '14, LONG: solve, and some value has over 2,048 items'
  pub solve_long : (answered st (solve s q room) ≡ refused 14) ↔
      ((θ : ℕ → List Item) × Unifier st.signature (items t) (shift 32 (items q)) θ × (Short θ → ⊥))
  solve_long = rw solve_is (go (bindings? st.signature t q) found)
    where
      go : (o : Option (List Bind)) → RightBindings (arity st.signature) (items t) (shift 32 (items q)) o
          → (recorded o room ≡ refused 14) ↔
          ((θ : ℕ → List Item) × Unifier st.signature (items t) (shift 32 (items q)) θ × (Short θ → ⊥))
      go none g = ((λ d. absurd (let z : ◌≡◌ {A = ℕ} 13 14 = cc in omega arith)), (λ w. absurd (g w.0 w.1.mgu.sub w.1.mgu.unifies)))
      go (some B) g = (from, into)
        where
          u : Unifier st.signature (items t) (shift 32 (items q)) (full B)
          u = record { mgu = g.1; least = g.2 }

          from : recorded (some B) room ≡ refused 14 → (θ : ℕ → List Item)
              × Unifier st.signature (items t) (shift 32 (items q)) θ × (Short θ → ⊥)
          from d =
              let l = only_long (long_from (full B) 64 0) (ltb room (length (record_of (full B)))) (count_of (full B)) (record_of (full B)) d in
              (full B, u, λ k. clash (sym ((long_short (full B)).1 k) ∙ l))

          into : (θ : ℕ → List Item) × Unifier st.signature (items t) (shift 32 (items q)) θ × (Short θ → ⊥)
              → recorded (some B) room ≡ refused 14
          into w =
              let x = one_unifier st.signature (items t) (shift 32 (items q)) (full B) w.0 u w.1 in
              rw (long_true (full B) (λ k. w.2 (short_same (full B) w.0 x k)))

  -- '15, ROOM: the answer buffer is shorter than the answer'
  pub solve_room : (w : List ℕ) (r : IsRecord st.signature t q w) → Short r.by → room < length w
      → answered st (solve s q room) ≡ refused 15
  solve_room w r k l = solve_is ∙ go (bindings? st.signature t q) found
    where
      go : (o : Option (List Bind)) → RightBindings (arity st.signature) (items t) (shift 32 (items q)) o
          → recorded o room ≡ refused 15
      go none g = absurd (g r.by r.unifier.mgu.sub r.unifier.mgu.unifies)
      go (some B) g =
          let u : Unifier st.signature (items t) (shift 32 (items q)) (full B) = record { mgu = g.1; least = g.2 } in
          let x = one_unifier st.signature (items t) (shift 32 (items q)) r.by (full B) r.unifier u in
          let v : w ≡ record_of (full B) = one_record st.signature t q w (record_of (full B)) r (record { by = full B; unifier = u; is = refl }) in
          let m : room < length (record_of (full B)) = rw (← v) l in
          rw ((long_short (full B)).1 (short_same r.by (full B) x k), lt-ltb room (length (record_of (full B))) m)

  -- where there is a record, short enough, and room for it, that record is answered
  pub solve_writes : (w : List ℕ) (r : IsRecord st.signature t q w) → Short r.by → length w ≤ room
      → answered st (solve s q room) ≡ solved (length (read_fields w)) w
  solve_writes w r k l = solve_is ∙ go (bindings? st.signature t q) found
    where
      go : (o : Option (List Bind)) → RightBindings (arity st.signature) (items t) (shift 32 (items q)) o
          → recorded o room ≡ solved (length (read_fields w)) w
      go none g = absurd (g r.by r.unifier.mgu.sub r.unifier.mgu.unifies)
      go (some B) g =
          let u : Unifier st.signature (items t) (shift 32 (items q)) (full B) = record { mgu = g.1; least = g.2 } in
          let x = one_unifier st.signature (items t) (shift 32 (items q)) r.by (full B) r.unifier u in
          let v : w ≡ record_of (full B) = one_record st.signature t q w (record_of (full B)) r (record { by = full B; unifier = u; is = refl }) in
          let m : length (record_of (full B)) ≤ room = rw (← v) l in
          let n = read_count st.signature t q (fine st.signature t h.signed (h.checked s t e)) (fine st.signature q h.signed c) (full B) u in
          rw ((long_short (full B)).1 (short_same r.by (full B) x k), le-ltb room (length (record_of (full B))) m, n, v)
