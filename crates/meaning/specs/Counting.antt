-- SCOPE.md, 'Numbers of refusal': the number of distinct keys of a store is the number that the key table counts by;
-- refusal 12.
use Prim.Native.Nat.{ℕ, zero, suc, ◌+◌, ◌≤◌, ◌<◌}
use Rattle.std.specs.Prelude.{◌≡◌, refl, ◌↔◌, List, ◌++◌, Bool, true, false, ltb}
use Rattle.std.proofs.Common.{subst, arith, ne_eqb, lt-ltb, le-ltb}
use Rattle.std.proofs.Math.Logic.{⊎_elim}
use Rattle.std.proofs.Math.Option.{Option, some, none}
use Rattle.std.proofs.Math.Decide.{ℕ_discrete, dec_lt}
use Rattle.laws.specs.Choice.{pick}
use Rattle.laws.specs.Members.{In, in_append, in_left, in_right}
use Rattle.keys.specs.Keys.{Place, Key, key}
use Rattle.terms.specs.Terms.{refusal}
use Rattle.definitions.specs.Spelt.{clash, keys_stand}
use Rattle.library.specs.Store.{Store, keys_in, keys_from, keys_held, distinct, key_count, put}
use Rattle.library.specs.Readable.{distinct_in, distinct_nodup}
use Rattle.paths.specs.Insert.{RK}
use Rattle.paths.specs.StoredTrees.{Stored, KeyIn}
use Rattle.paths.specs.Count.{Distinct}
use Rattle.layout.specs.Tables.{Tables}
use Rattle.store.specs.Tables.{ups_of, ends_of, room_for}
use Rattle.store.specs.TablesHold.{stored_tree, changed}
use Rattle.store.specs.Changes.{KeysOf, room_means}
use Rattle.meaning.specs.Stand.{Stand, trees_of}
use Rattle.laws.specs.Sizes.{key_limit, slot_count}

module _ (st : Store) where
  -- a key of what a slot holds
  in_keys : (o : Option (List ℕ)) (P : Place) (e : ℕ) → In (key P e) (keys_in st.signature o) ↔ KeyIn (stored_tree st.signature o) P e
  in_keys none P e = ((λ i. i), (λ i. i))
  in_keys (some t) P e = keys_stand st.signature t (key P e)

  keys_from_lem : (k s : ℕ) (K : Key) → In K (keys_from st k s) → (u : ℕ) × RK (Stored (trees_of st)) u K
  unfolding keys_from
  keys_from_lem zero s K h = absurd h
  keys_from_lem (suc k) s (key P e) h =
      ⊎_elim (λ i. (s, (in_keys (st.held s) P e).0 i)) (λ i. keys_from_lem k (suc s) (key P e) i) (in_append (key P e) (keys_in st.signature (st.held s)) (keys_from st k (suc s)) h)

  into_keys : (k s : ℕ) (K : Key) (u : ℕ) → s ≤ u → u < s + k → RK (Stored (trees_of st)) u K → In K (keys_from st k s)
  unfolding keys_from
  into_keys zero s K u a b h = absurd (omega arith)
  into_keys (suc k) s (key P e) u a b h = go (ℕ_discrete u s) (λ q. into_keys k (suc s) (key P e) u q (omega arith) h)
    where
      go : Dec (u ≡ s) → (suc s ≤ u → In (key P e) (keys_from st k (suc s))) → In (key P e) (keys_in st.signature (st.held s) ++ keys_from st k (suc s))
      go (yes q) ih = in_left (key P e) (keys_in st.signature (st.held s)) (keys_from st k (suc s)) ((in_keys (st.held s) P e).1 (rw q at h))
      go (no q) ih = in_right (key P e) (keys_in st.signature (st.held s)) (keys_from st k (suc s)) (ih (omega arith))

  slot_low : ((s : ℕ) → slot_count ≤ s → st.held s ≡ none) → (u : ℕ) (K : Key) → RK (Stored (trees_of st)) u K → u < slot_count
  slot_low b u (key P e) h = go (dec_lt u slot_count)
    where
      go : Dec (u < slot_count) → u < slot_count
      go (yes l) = l
      go (no l) = absurd (subst (λ (o : Option (List ℕ)). KeyIn (stored_tree st.signature o) P e) (b u (omega arith)) h)

  -- the distinct keys of the stored terms are as many as key_count says
  pub key_count_lem : ((s : ℕ) → slot_count ≤ s → st.held s ≡ none) → Distinct (Stored (trees_of st)) (key_count st)
  key_count_lem b = record {
    keys = distinct (keys_held st);
    nodup = distinct_nodup (keys_held st);
    from = λ K i. keys_from_lem slot_count 0 K ((distinct_in K (keys_held st)).0 i);
    into = λ u K h. (distinct_in K (keys_held st)).1 (into_keys slot_count 0 K u (omega arith) (omega (arith, slot_low b u K h)) h);
    many = refl;
  }

-- REFUSAL 12: the table's test for free keys is the store's test of its number of distinct keys
put_bounded : (T : Tables) (st : Store) (s : ℕ) (o : Option (List ℕ)) → Stand T st → s < slot_count → (u : ℕ) → slot_count ≤ u → (put st s o).held u ≡ none
unfolding put
put_bounded T st s o h l u g = rw (ne_eqb u s (λ q. omega arith)) (h.holds.beyond u g)

put_keys : (st : Store) (s : ℕ) (t : List ℕ) → Distinct (Stored (trees_of (put st s (some t)))) (key_count (put st s (some t))) → Distinct (KeysOf st.signature (changed st.held s (some t))) (key_count (put st s (some t)))
unfolding put changed
put_keys st s t d = d

pub room_test : (T : Tables) (st : Store) (s : ℕ) (t : List ℕ) → Stand T st → s < slot_count → st.held s ≡ none → refusal st.signature t ≡ 0
    → ltb key_limit (key_count (put st s (some t))) ≡ pick (room_for T.link T.label (ups_of st.signature t) (ends_of st.signature t)) false true
room_test T st s t h l e r =
    let N = key_count (put st s (some t)) in
    let d = put_keys st s t (key_count_lem (put st s (some t)) (put_bounded T st s (some t) h l)) in
    go (room_for T.link T.label (ups_of st.signature t) (ends_of st.signature t)) N (room_means T st.signature st.held t s N h.holds r e d)
  where
    go : (b : Bool) (n : ℕ) → (b ≡ true) ↔ (n ≤ key_limit) → ltb key_limit n ≡ pick b false true
    go true n k = le-ltb key_limit n (k.0 refl)
    go false n k = lt-ltb key_limit n (more (dec_lt key_limit n))
      where
        more : Dec (key_limit < n) → key_limit < n
        more (yes q) = q
        more (no q) = clash (k.1 (omega arith))
