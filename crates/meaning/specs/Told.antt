-- Serves the demands (SCOPE.md, 'What the contracts owe'): what an answer that is not refused tells of the store, and
-- what the fields of a record give each variable.
use Rattle.std.specs.Prelude.{ℕ, zero, suc, ◌+◌, ◌*◌, ◌%◌, ◌≤◌, ◌<◌, ◌≡◌, refl, Bool, true, false, ◌⊎◌, ◌≢◌, List, [], ◌∷◌, ◌++◌, ltb, eqb, length, get_or, take, drop}
use Rattle.std.proofs.Common.{sym, ap, ◌∙◌, inl, inr, arith, eqb-true, eq-eqb, ne_eqb, lt-ltb, ltb-false, take_at}
use Rattle.std.proofs.Math.Option.{Option, some, none}
use Rattle.std.proofs.lemmas.Bool.{eqb-false}
use Rattle.std.proofs.lemmas.List.Edits.{sets, sets-eq}
use Rattle.laws.specs.Choice.{pick}
use Rattle.terms.specs.Terms.{refusal}
use Rattle.keys.specs.Bytes.{is_key}
use Rattle.theory.specs.Flat.{Item}
use Rattle.theory.specs.Subst.{vars, app, app_app, app_agree}
use Rattle.theory.specs.Unify.{Bind, ◌:=◌, full, Has, Unbound, not_both}
use Rattle.theory.specs.Match.{once, Once, agrees_has, agrees_once}
use Rattle.theory.specs.Solver.{once_cases}
use Rattle.definitions.specs.Spelt.{clash}
use Rattle.definitions.specs.Decisions.{bindings?}
use Rattle.definitions.specs.Records.{record_of, count_of}
use Rattle.definitions.specs.ReadBack.{FieldsAscend, Octets}
use Rattle.definitions.specs.Answers.{Answer, refused, slot, slots, found, solved, refusal_in, long_from, recorded}
use Rattle.layout.specs.Layout.{term_of}
use Rattle.library.specs.Sound.{Sound, free_most}
use Rattle.library.specs.Readable.{use_held}
use Rattle.library.specs.Store.{Store, holding, in_use, first_free, put, key_count, keyed, answered, after, answers}
use Rattle.library.specs.Store.{candidates, insert, delete, with_key, retrieve, solve}
use Rattle.slots.specs.Slots.{listed}
use Rattle.listing.proofs.Listing.{length_listed}
use Rattle.laws.specs.Sizes.{key_limit, slot_count, lengths_start, terms_start}

-- the first bytes of a list replaced
pub front_bytes : (w out : List ℕ) → length w ≤ length out → sets out 0 w ≡ w ++ drop (length w) out
front_bytes w out h = let z : 0 + length w ≡ length w = omega arith in rw z at (sets-eq w out 0 (omega arith))

-- and read again
pub front_read : (w rest out : List ℕ) (n : ℕ) → n ≡ length w → out ≡ w ++ rest → take n out ≡ w
front_read w rest out n e f = rw (e, f) (take_at w rest (length w) refl)

-- a retrieval that is not refused
pub record Retrieved (st : Store) (relation room : ℕ) (q : List ℕ) : Type 0 where
  pub is : answered st (retrieve relation q room) ≡ found (length (candidates st relation q)) (answers st relation q)
  pub checked : refusal st.signature q ≡ 0
  pub fits : length (listed (answers st relation q)) ≤ room

pub retrieve_found : (st : Store) (relation room : ℕ) (q : List ℕ) → refusal_in (answered st (retrieve relation q room)) ≡ 0 → Retrieved st relation room q
unfolding answered
retrieve_found st relation room q = go (ltb 4 relation) refl (eqb (refusal st.signature q) 0) refl (ltb room (2 * length (answers st relation q))) refl
  where
    x : Answer
    x = found (length (candidates st relation q)) (answers st relation q)

    go : (a : Bool) → ltb 4 relation ≡ a → (b : Bool) → eqb (refusal st.signature q) 0 ≡ b → (c : Bool) → ltb room (2 * length (answers st relation q)) ≡ c
        → refusal_in (answered st (retrieve relation q room)) ≡ 0 → Retrieved st relation room q
    go true e b f c g z = absurd (let y = rw e at z in let u : ◌≡◌ {A = ℕ} 3 0 = y in omega arith)
    go false e false f c g z = absurd (eqb-false (refusal st.signature q) 0 f (rw (e, f) at z))
    go false e true f true g z = absurd (let y = rw (e, f, g) at z in let u : ◌≡◌ {A = ℕ} 15 0 = y in omega arith)
    go false e true f false g z = record {
      is = rw (e, f, g);
      checked = eqb-true (refusal st.signature q) 0 f;
      fits = (let l = ltb-false room (2 * length (answers st relation q)) g in omega (arith, l, length_listed (answers st relation q)));
    }

-- a solve that is not refused
pub record Written (st : Store) (s room : ℕ) (q : List ℕ) : Type 0 where
  pub fields : ℕ
  pub bytes : List ℕ
  pub is : answered st (solve s q room) ≡ solved fields bytes

pub solve_found : (st : Store) → Sound st → (s room : ℕ) (t q : List ℕ) → st.held s ≡ some t → refusal st.signature q ≡ 0 → refusal_in (answered st (solve s q room)) ≡ 0 → Written st s room q
unfolding answered
solve_found st g s room t q e c z = go (bindings? st.signature t q) is (sym (ap refusal_in is) ∙ z)
  where
    is : answered st (solve s q room) ≡ recorded (bindings? st.signature t q) room
    is = rw ((use_held st g s).1 (t, e), e, eq-eqb (refusal st.signature q) 0 c)

    last : (B : List Bind) (a b : Bool) → answered st (solve s q room) ≡ pick a (refused 14) (pick b (refused 15) (solved (count_of (full B)) (record_of (full B))))
        → refusal_in (pick a (refused 14) (pick b (refused 15) (solved (count_of (full B)) (record_of (full B))))) ≡ 0 → Written st s room q
    last B true b h y = absurd (let u : ◌≡◌ {A = ℕ} 14 0 = y in omega arith)
    last B false true h y = absurd (let u : ◌≡◌ {A = ℕ} 15 0 = y in omega arith)
    last B false false h y = record { fields = count_of (full B); bytes = record_of (full B); is = h }

    go : (o : Option (List Bind)) → answered st (solve s q room) ≡ recorded o room → refusal_in (recorded o room) ≡ 0 → Written st s room q
    go none h y = absurd (let u : ◌≡◌ {A = ℕ} 13 0 = y in omega arith)
    go (some B) h y = last B (long_from (full B) 64 0) (ltb room (length (record_of (full B)))) h y

-- a key question that is not refused
pub record KeyTold (st : Store) (room : ℕ) (k : List ℕ) : Type 0 where
  pub is : answered st (with_key k room) ≡ slots (keyed st k)
  pub fits : length (listed (keyed st k)) ≤ room

pub key_found : (st : Store) (room : ℕ) (k : List ℕ) → refusal_in (answered st (with_key k room)) ≡ 0 → KeyTold st room k
unfolding answered
key_found st room k = go (is_key st.signature k) refl (ltb room (2 * length (keyed st k))) refl
  where
    go : (a : Bool) → is_key st.signature k ≡ a → (b : Bool) → ltb room (2 * length (keyed st k)) ≡ b
        → refusal_in (answered st (with_key k room)) ≡ 0 → KeyTold st room k
    go false e b f z = absurd (let y = rw e at z in let u : ◌≡◌ {A = ℕ} 9 0 = y in omega arith)
    go true e true f z = absurd (let y = rw (e, f) at z in let u : ◌≡◌ {A = ℕ} 15 0 = y in omega arith)
    go true e false f z = record {
      is = rw (e, f);
      fits = (let l = ltb-false room (2 * length (keyed st k)) f in omega (arith, l, length_listed (keyed st k)));
    }

-- the slots of a store with one changed
pub put_same : (st : Store) (s : ℕ) (o : Option (List ℕ)) → (put st s o).held s ≡ o
unfolding put
put_same st s o = rw (eq-eqb s s refl)

pub put_other : (st : Store) (s : ℕ) (o : Option (List ℕ)) (u : ℕ) → u ≢ s → (put st s o).held u ≡ st.held u
unfolding put
put_other st s o u n = rw (ne_eqb u s n)

pub put_signature : (st : Store) (s : ℕ) (o : Option (List ℕ)) → (put st s o).signature ≡ st.signature
unfolding put
put_signature st s o = refl

-- an insert that is not refused
pub record Inserted (st : Store) (t : List ℕ) : Type 0 where
  pub is : answered st (insert t) ≡ slot (first_free st)
  pub below : first_free st < slot_count
  pub next : after st (insert t) ≡ put st (first_free st) (some t)

pub insert_found : (st : Store) (t : List ℕ) → refusal_in (answered st (insert t)) ≡ 0 → Inserted st t
unfolding answered after
insert_found st t = go (eqb (refusal st.signature t) 0) refl (eqb (first_free st) slot_count) refl (ltb key_limit (key_count (put st (first_free st) (some t)))) refl
  where
    go : (a : Bool) → eqb (refusal st.signature t) 0 ≡ a → (b : Bool) → eqb (first_free st) slot_count ≡ b
        → (c : Bool) → ltb key_limit (key_count (put st (first_free st) (some t))) ≡ c
        → refusal_in (answered st (insert t)) ≡ 0 → Inserted st t
    go false e b f c g z = absurd (eqb-false (refusal st.signature t) 0 e (rw e at z))
    go true e true f c g z = absurd (let y = rw (e, f) at z in let u : ◌≡◌ {A = ℕ} 11 0 = y in omega arith)
    go true e false f true g z = absurd (let y = rw (e, f, g) at z in let u : ◌≡◌ {A = ℕ} 12 0 = y in omega arith)
    go true e false f false g z = record {
      is = rw (e, f, g);
      below = (let n = eqb-false (first_free st) slot_count f in omega (arith, n, free_most st slot_count 0));
      next = rw (e, f, g);
    }

-- a slot that is not in use holds nothing
pub unused_none : (st : Store) (s : ℕ) → s < slot_count → in_use st s ≡ false → st.held s ≡ none
unfolding in_use
unused_none st s l e = go (st.held s) (rw (lt-ltb s slot_count l) at e)
  where
    go : (o : Option (List ℕ)) → holding (λ t. true) o ≡ false → o ≡ none
    go none h = refl
    go (some t) h = clash (sym h)

-- a delete that is not refused
pub record Vacated (st : Store) (s : ℕ) : Type 0 where
  pub is : answered st (delete s) ≡ slot s
  pub used : in_use st s ≡ true
  pub next : after st (delete s) ≡ put st s none

pub delete_found : (st : Store) (s : ℕ) → refusal_in (answered st (delete s)) ≡ 0 → Vacated st s
unfolding answered after
delete_found st s = go (in_use st s) refl
  where
    go : (a : Bool) → in_use st s ≡ a → refusal_in (answered st (delete s)) ≡ 0 → Vacated st s
    go false e z = absurd (let y = rw e at z in let u : ◌≡◌ {A = ℕ} 4 0 = y in omega arith)
    go true e z = record { is = rw e; used = e; next = rw e }

-- THE FIELDS OF A RECORD: ascending, so that each variable has at most one, and that one's value
ascends_unbound : (x b : ℕ) (r : List Bind) → x < b → FieldsAscend b r → Unbound x r
ascends_unbound x b [] l a = tt
ascends_unbound x b ((y := u) ∷ r) l a = ((λ e. omega (arith, e, l, a.0)), ascends_unbound x (suc y) r (omega (arith, l, a.0)) a.1)

ascends_once : (b : ℕ) (r : List Bind) → FieldsAscend b r → Once r
ascends_once b [] a = tt
ascends_once b ((y := u) ∷ r) a = (ascends_unbound y (suc y) r (omega arith) a.1, ascends_once (suc y) r a.1)

pub field_value : (r : List Bind) → FieldsAscend 0 r → (y : ℕ) (u : List Item) → Has y u r → once r y ≡ u
field_value r a y u h = agrees_has (once r) y u r h (agrees_once (λ x. 0) r (ascends_once 0 r a))

pub field_none : (r : List Bind) (y : ℕ) → Unbound y r → once r y ≡ vars y
field_none r y n = go (once_cases r y)
  where
    go : Has y (once r y) r ⊎ (Unbound y r × (once r y ≡ vars y)) → once r y ≡ vars y
    go (inl h) = absurd (not_both y (once r y) r n h)
    go (inr p) = p.1

-- what absorbs σ on each variable does so on all items
pub absorbs_all : (θ σ : ℕ → List Item) → ((y : ℕ) → app θ (σ y) ≡ θ y) → (l : List Item) → app θ (app σ l) ≡ app θ l
absorbs_all θ σ h l = app_app θ σ l ∙ app_agree (λ y. app θ (σ y)) θ l (λ y i. h y)

-- THE TERMS OF TABLES OF BYTES are bytes
octets_take : (n : ℕ) (w : List ℕ) → Octets w → Octets (take n w)
octets_take zero w o = tt
octets_take (suc n) [] o = tt
octets_take (suc n) (b ∷ w) o = (o.0, octets_take n w o.1)

octets_drop : (n : ℕ) (w : List ℕ) → Octets w → Octets (drop n w)
octets_drop zero w o = o
octets_drop (suc n) [] o = tt
octets_drop (suc n) (b ∷ w) o = octets_drop n w o.1

pub term_octets : (b : List ℕ) (s : ℕ) → Octets b → Octets (term_of b s)
unfolding term_of
term_octets b s o = octets_take (get_or b (lengths_start + s) 0 % 65) (drop (terms_start + 64 * s) b) (octets_drop (terms_start + 64 * s) b o)
