-- SCOPE.md, 'Numbers of refusal' (14 and 15): the longest answers. A listing has at most 1,024 bytes, and a record
-- whose values have at most 2,048 items each at most 262,464: with that much room no call is refused with 15, on any
-- store.
use Prim.Native.Nat.{ℕ, zero, suc, ◌+◌, ◌*◌, ◌%◌, ◌≤◌}
use native.Mathlib.Omega.{arith}
use Rattle.std.specs.Prelude.{◌≡◌, refl, Bool, true, false, List, ◌∷◌, ltb, eqb}
use Rattle.std.proofs.Math.Option.{Option, some, none}
use Rattle.std.proofs.Math.ListN.{length, length-append}
use Rattle.std.proofs.Common.{ltb-true}
use Rattle.laws.specs.Choice.{pick}
use Rattle.laws.specs.Sizes.{slot_count, value_limit}
use Rattle.terms.specs.Terms.{items_good, span, refusal}
use Rattle.keys.specs.Bytes.{is_key}
use Rattle.theory.specs.Flat.{Item}
use Rattle.theory.specs.Subst.{vars}
use Rattle.theory.specs.Unify.{Bind, ◌:=◌, full}
use Rattle.theory.specs.Matcher.{items?}
use Rattle.definitions.specs.Trees.{tree_of}
use Rattle.definitions.specs.KeyBytes.{key_of}
use Rattle.definitions.specs.Decisions.{stands, bindings?}
use Rattle.definitions.specs.Records.{unless_decided, listed_from, field_bytes, bytes, written_fields, record_of, count_of}
use Rattle.definitions.specs.Records.{Short, IsRecord}
use Rattle.definitions.specs.ReadBack.{length_bytes}
use Rattle.definitions.specs.Answers.{refused, done, slots, found, fits, solved, long_from, recorded}
use Rattle.library.specs.Formulas.{has_key}
use Rattle.library.specs.Store.{Store, slots_from, slots_with, holding, in_use, with_key, retrieve, solve, keyed}
use Rattle.library.specs.Store.{candidates, answers, solving_held, answered}
use Rattle.library.specs.Readable.{long_short}

-- two bytes for each of 512 slots
abbrev pub listing_most : ℕ
listing_most = 2 * slot_count

-- a field: the tag, two bytes of length, the variable's two and 2,048 items of two; a record: 64 fields
abbrev pub field_most : ℕ
field_most = 5 + 2 * value_limit

abbrev pub record_most : ℕ
record_most = 64 * field_most

-- a record whose values have at most 2,048 items each
pub length_field : (y : ℕ) (l : List Item) → length (field_bytes (y := l)) ≡ 5 + 2 * length l
unfolding field_bytes bytes
length_field y l = omega (arith, length_bytes l)

module _ (θ : ℕ → List Item) (h : Short θ) where
  fields_most : (k y : ℕ) → y + k ≤ 64 → length (written_fields (listed_from θ k y)) ≤ field_most * k
  unfolding listed_from written_fields
  fields_most zero y b = omega arith
  fields_most (suc k) y b = go (items? (θ y) (vars y)) (fields_most k (y + 1) (omega arith))
    where
      go : (d : Dec (θ y ≡ vars y)) → length (written_fields (listed_from θ k (y + 1))) ≤ field_most * k
          → length (written_fields (unless_decided d (y := θ y) (listed_from θ k (y + 1)))) ≤ field_most * suc k
      go (yes e) ih = omega arith
      go (no n) ih = omega (arith, length-append (field_bytes (y := θ y)) (written_fields (listed_from θ k (y + 1))), length_field y (θ y), h y (omega arith), ih)

  pub unifier_most : length (record_of θ) ≤ record_most
  unfolding record_of
  unifier_most = omega (arith, fields_most 64 0 (omega arith))

pub record_most_lem : (sig t q w : List ℕ) (r : IsRecord sig t q w) → Short r.by → length w ≤ record_most
record_most_lem sig t q w r h = rw r.is (unifier_most r.by h)

-- a listing
slots_most : (p : ℕ → Bool) (k s : ℕ) → length (slots_from p k s) ≤ k
unfolding slots_from
slots_most p zero s = omega arith
slots_most p (suc k) s = go (p s) (slots_most p k (suc s))
  where
    go : (b : Bool) → length (slots_from p k (suc s)) ≤ k → length (pick b (s ∷ slots_from p k (suc s)) (slots_from p k (suc s))) ≤ suc k
    go true ih = omega arith
    go false ih = omega arith

pub slots_room : (p : ℕ → Bool) → 2 * length (slots_with p) ≤ 2 * slot_count
slots_room p = omega (arith, slots_most p slot_count 0)

pub listing_most_lem : (p : ℕ → Bool) → 2 * length (slots_with p) ≤ listing_most
listing_most_lem p = slots_room p

-- WITH THAT MUCH ROOM 15 is not given
term_other : (sig t : List ℕ) → refusal sig t ≡ 15 → ⊥
unfolding refusal
term_other sig t = go (ltb 64 (length t)) (eqb (length t) 0) (eqb (length t % 2) 1) (items_good (length sig) t) (eqb (span sig t 1) (length t))
  where
    go : (a b c d e : Bool) → pick {A = ℕ} a 5 (pick b 6 (pick c 6 (pick d (pick e 0 8) 7))) ≡ 15 → ⊥
    go true b c d e z = omega arith
    go false true c d e z = omega arith
    go false false true d e z = omega arith
    go false false false true true z = omega arith
    go false false false true false z = omega arith
    go false false false false e z = omega arith

number_same : (m n : ℕ) → refused m ≡ refused n → m ≡ n
number_same m n e = cc

not_done : (a b n : ℕ) (w : List ℕ) → done a b w ≡ refused n → ⊥
not_done a b n w e = let z : ◌≡◌ {A = ℕ} 0 1 = cc in omega arith

fits_roomy : (l : List ℕ) (room a b : ℕ) (w : List ℕ) → 2 * length l ≤ room → fits l room (done a b w) ≡ refused 15 → ⊥
fits_roomy l room a b w h = go (ltb room (2 * length l)) refl
  where
    go : (c : Bool) → ltb room (2 * length l) ≡ c → pick c (refused 15) (done a b w) ≡ refused 15 → ⊥
    go true e z = let g = ltb-true room (2 * length l) e in omega (arith, g, h)
    go false e z = not_done a b 15 w z

recorded_roomy : (o : Option (List Bind)) (room : ℕ) → record_most ≤ room → recorded o room ≡ refused 15 → ⊥
recorded_roomy none room h z = let e = number_same 13 15 z in omega arith
recorded_roomy (some B) room h z = go (long_from (full B) 64 0) refl (ltb room (length (record_of (full B)))) refl z
  where
    go : (a : Bool) → long_from (full B) 64 0 ≡ a → (b : Bool) → ltb room (length (record_of (full B))) ≡ b
        → pick a (refused 14) (pick b (refused 15) (solved (count_of (full B)) (record_of (full B)))) ≡ refused 15 → ⊥
    go true e b f z = let g = number_same 14 15 z in omega arith
    go false e true f z =
        let l = ltb-true room (length (record_of (full B))) f in
        let m = unifier_most (full B) ((long_short (full B)).0 e) in
        omega (arith, l, m, h)
    go false e false f z = not_done (count_of (full B)) (length (record_of (full B))) 15 (record_of (full B)) z

pub solve_roomy : (st : Store) (s : ℕ) (q : List ℕ) (room : ℕ) → record_most ≤ room
    → answered st (solve s q room) ≡ refused 15 → ⊥
unfolding answered
solve_roomy st s q room h = go (in_use st s) (st.held s)
  where
    checked : (t : List ℕ) (b : Bool) → pick b (recorded (bindings? st.signature t q) room) (refused (refusal st.signature q)) ≡ refused 15 → ⊥
    checked t true z = recorded_roomy (bindings? st.signature t q) room h z
    checked t false z = term_other st.signature q (number_same (refusal st.signature q) 15 z)

    go : (b : Bool) (o : Option (List ℕ)) → pick b (solving_held st.signature o q room) (refused 4) ≡ refused 15 → ⊥
    go true none z = let e = number_same 4 15 z in omega arith
    go true (some t) z = checked t (eqb (refusal st.signature q) 0) z
    go false o z = let e = number_same 4 15 z in omega arith

pub retrieve_roomy : (st : Store) (r : ℕ) (q : List ℕ) (room : ℕ) → listing_most ≤ room
    → answered st (retrieve r q room) ≡ refused 15 → ⊥
unfolding answered answers
retrieve_roomy st r q room h = go (ltb 4 r) (eqb (refusal st.signature q) 0)
  where
    most : 2 * length (answers st r q) ≤ room
    most = omega (arith, slots_room (λ s. holding (λ t. stands st.signature r t q) (st.held s)), h)

    go : (a b : Bool) → pick a (refused 3) (pick b (fits (answers st r q) room (found (length (candidates st r q)) (answers st r q))) (refused (refusal st.signature q))) ≡ refused 15 → ⊥
    go true b z = let e = number_same 3 15 z in omega arith
    go false true z = fits_roomy (answers st r q) room _ _ _ most z
    go false false z = term_other st.signature q (number_same (refusal st.signature q) 15 z)

pub key_roomy : (st : Store) (k : List ℕ) (room : ℕ) → listing_most ≤ room
    → answered st (with_key k room) ≡ refused 15 → ⊥
unfolding answered keyed
key_roomy st k room h = go (is_key st.signature k)
  where
    most : 2 * length (keyed st k) ≤ room
    most = omega (arith, slots_room (λ s. holding (λ t. has_key (tree_of st.signature t) (key_of k)) (st.held s)), h)

    go : (a : Bool) → pick a (fits (keyed st k) room (slots (keyed st k))) (refused 9) ≡ refused 15 → ⊥
    go true z = fits_roomy (keyed st k) room _ _ _ most z
    go false z = let e = number_same 9 15 z in omega arith
