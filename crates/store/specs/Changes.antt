-- SCOPE.md, 'Store': insert and delete of the tables are insert and delete of the store, in the smallest free slot;
-- refusal 12.
use Rattle.std.specs.Prelude.{ℕ, zero, suc, ◌+◌, ◌*◌, ◌≤◌, ◌<◌, ◌≡◌, refl, ◌↔◌, List, [], map, true, false, ltb, eqb, length, take}
use Rattle.std.proofs.Common.{sym, ap, ◌∙◌, subst, inl, inr, arith, eq-eqb, ne_eqb, lt-ltb, le-ltb, length-append, take_all}
use Rattle.std.proofs.Math.Option.{Option, some, none}
use Rattle.std.proofs.Math.Decide.{ℕ_discrete, dec_lt}
use Rattle.std.proofs.lemmas.List.{length-map}
use Rattle.std.proofs.lemmas.List.Edits.{sets}
use Rattle.std.proofs.Math.Seq.{length-sets}
use Rattle.laws.specs.Choice.{pick}
use Rattle.slots.specs.Slots.{has, inserted, removed, others, Next}
use Rattle.terms.specs.Terms.{numbers, Signed, refusal}
use Rattle.terms.proofs.TermLaws.{good}
use Rattle.keys.specs.Keys.{Tm, Args, node, nil, cons, Place, Key, key, end_of, size, sizes}
use Rattle.definitions.specs.Trees.{items_t, tree_of}
use Rattle.definitions.specs.Spelt.{size_items}
use Rattle.keysets.specs.KeySets.{mem}
use Rattle.paths.specs.Free.{frees, room}
use Rattle.paths.specs.TreeWalk.{ups_t, ups_a, ends_t, key_list}
use Rattle.paths.specs.Insert.{RK, With}
use Rattle.paths.specs.Locate.{num_list, missing, located as located_keys, lack_of}
use Rattle.paths.specs.StoredTrees.{Stored, KeyIn, put_tree, Storable, fine_back, fine_nodup, fine_in}
use Rattle.paths.specs.SpeltKeys.{spelt}
use Rattle.paths.specs.Count.{Distinct, keys_refused}
use Rattle.termkeys.specs.TermKeysMean.{GoodSt, insert_means, delete_means, fill_nums}
use Rattle.layout.specs.Layout.{term_of, used_of, is_used, with_term}
use Rattle.layout.proofs.LayoutLaws.{signature_good, length_with_term}
use Rattle.layout.specs.Tables.{Tables}
use Rattle.store.specs.Tables.{index_of, ups_of, ends_of, no_numbers, located, room_for, with_keys, without_keys}
use Rattle.store.specs.Tables.{without_term, least_from, free_slot, inserted_at, deleted_at}
use Rattle.store.specs.Kept.{with_signature, with_term_same, with_term_other, insert_same, insert_other}
use Rattle.store.specs.Kept.{insert_words, remove_same, remove_other, remove_words, has_others}
use Rattle.store.specs.TablesHold.{Slots, changed, changed_same, changed_other, filled, stored_tree, stored_trees}
use Rattle.store.specs.TablesHold.{trees_changed, good_same, Holds}
use Rattle.laws.specs.Sizes.{key_limit, slot_count}

-- the outline of a checked term is that of its tree
mutual
  unfolding ups_t size

  ups_length : (t : Tm) (n u : ℕ) → length (ups_t n u t) ≡ size t
  ups_length (node x us) n u = ap suc (ups_a_length us (suc n) n 0)

  ups_a_length : (us : Args) (m n i : ℕ) → length (ups_a m n i us) ≡ sizes us
  ups_a_length nil m n i = refl
  ups_a_length (cons t us) m n i =
      omega (arith, length-append (ups_t m (suc (n * 8 + i)) t) (ups_a (m + size t) n (suc i) us), ups_length t m (suc (n * 8 + i)), ups_a_length us (m + size t) n (suc i))

pub record Drawn (sig t : List ℕ) : Type 0 where
  pub fine : Storable (tree_of sig t)
  pub ups : ups_of sig t ≡ ups_t 0 0 (tree_of sig t)
  pub ends : ends_of sig t ≡ ends_t (tree_of sig t)
  pub same : length (ups_t 0 0 (tree_of sig t)) ≡ length (ends_t (tree_of sig t))
  pub few : length (ups_t 0 0 (tree_of sig t)) ≤ 32

pub drawn : (sig t : List ℕ) → Signed sig → refusal sig t ≡ 0 → Drawn sig t
unfolding ups_of ends_of
drawn sig t g h =
    let p = spelt sig t g h in
    let u = tree_of sig t in
    let a = ups_length u 0 0 in
    let b = size_items u in
    let i : length (items_t u) ≡ length (numbers t) = ap length p.items in
    let m = length-map (numbers t) end_of in
    let e : length (ends_t u) ≡ length (map end_of (numbers t)) = sym (ap length p.ends) in
    record {
      fine = p.fine;
      ups = p.ups;
      ends = rw p.ups (take_all (length (ups_t 0 0 u)) (map end_of (numbers t)) (omega (arith, a, b, i, m)) ∙ p.ends);
      same = omega (arith, a, b, i, m, e);
      few = (let s = p.short in omega (arith, a, s));
    }

-- the smallest slot that holds nothing, or 512
pub record Smallest (st : Slots) (s : ℕ) : Type 0 where
  pub most : s ≤ slot_count
  pub free : s < slot_count → st s ≡ none
  pub before : (x : ℕ) → x < s → st x ≡ none → ⊥

digit : (ws : List ℕ) (x : ℕ) → (has ws x ≡ 1 → ⊥) → has ws x ≡ 0
unfolding has
digit ws x q = omega arith

least_next : (k : ℕ) (ws : List ℕ) (from : ℕ) → from + k ≡ slot_count → Next ws from (least_from ws from k)
unfolding least_from
least_next zero ws from e = record { above = λ h. omega arith; most = omega arith; member = λ h. absurd (omega arith); passed = λ x a b. absurd (omega arith) }
least_next (suc k) ws from e = go (ℕ_discrete (has ws from) 1) (least_next k ws (suc from) (omega arith))
  where
    go : Dec (has ws from ≡ 1) → Next ws (suc from) (least_from ws (suc from) k) → Next ws from (pick (eqb (has ws from) 1) from (least_from ws (suc from) k))
    go (yes h) n = rw (eq-eqb (has ws from) 1 h) (record { above = λ l. omega arith; most = omega arith; member = λ l. h; passed = λ x a b. absurd (omega arith) })
    go (no h) n = rw (ne_eqb (has ws from) 1 h) (record {
      above = λ l. (let a = n.above l in omega arith);
      most = n.most;
      member = n.member;
      passed = λ x a b. first x a b (ℕ_discrete x from);
    })
      where
        first : (x : ℕ) → from ≤ x → x < least_from ws (suc from) k → Dec (x ≡ from) → has ws x ≡ 0
        first x a b (yes z) = rw z (digit ws from h)
        first x a b (no z) = n.passed x (omega arith) b

empty_slot : (o : Option (List ℕ)) → filled o ≡ 0 → o ≡ none
empty_slot none h = refl
empty_slot (some t) h = absurd (omega arith)

pub smallest : (T : Tables) (sig : List ℕ) (st : Slots) → Holds T sig st → Smallest st (free_slot T.used)
unfolding free_slot
smallest T sig st h = record {
  most = n.most;
  free = λ l. empty_slot (st r) (let a = n.member l in let b = has_others T.used r h.words l in let c = h.slots r l in omega (arith, a, b, c));
  before = λ x l e. let m = n.most in let q : x < slot_count = omega arith in
      let a = n.passed x (omega arith) l in let b = has_others T.used x h.words q in let c = h.slots x q ∙ ap filled e in omega (arith, a, b, c);
}
  where
    r : ℕ
    r = least_from (others (used_of T.used)) 0 slot_count

    n : Next (others (used_of T.used)) 0 r
    n = least_next slot_count (others (used_of T.used)) 0 refl

-- the missing keys of a term, counted
room_count : (link label : List ℕ) (sig t : List ℕ) → Drawn sig t
    → missing (take (length (ups_of sig t)) (located link label (ups_of sig t) (ends_of sig t))) ≡ missing (num_list link label [] (ups_t 0 0 (tree_of sig t)) (ends_t (tree_of sig t)))
unfolding located no_numbers
room_count link label sig t d =
    let u = tree_of sig t in
    let z : 0 + length (ups_t 0 0 u) ≡ length (ups_t 0 0 u) = omega arith in
    let f = rw z at (fill_nums link label (ups_t 0 0 u) (ends_t u) no_numbers 0 (fine_back u d.fine) (let w = d.few in omega arith) d.same) in
    rw (d.ups, d.ends) (ap missing f)

-- refusal 12 is decided on the chain of free keys
room_frees : (T : Tables) (sig : List ℕ) (st : Slots) (t : List ℕ) → Holds T sig st → Drawn sig t
    → (room_for T.link T.label (ups_of sig t) (ends_of sig t) ≡ true) ↔ (missing (num_list T.link T.label [] (ups_t 0 0 (tree_of sig t)) (ends_t (tree_of sig t))) ≤ frees T.label)
unfolding room_for
room_frees T sig st t h d = rw (room_count T.link T.label sig t d) (room T.link T.label _ h.index.rep.chains)

-- INSERT
insert_index : (T : Tables) (sig : List ℕ) (st : Slots) (t : List ℕ) (s : ℕ) → Holds T sig st → Drawn sig t → s < slot_count → st s ≡ none → room_for T.link T.label (ups_of sig t) (ends_of sig t) ≡ true
    → GoodSt (with_keys (index_of T) (ups_of sig t) (ends_of sig t) s) (stored_trees sig (changed st s (some t)))
unfolding with_keys no_numbers
insert_index T sig st t s h d l e r =
    let u = tree_of sig t in
    let m = (room_frees T sig st t h d).0 r in
    let g = insert_means (index_of T) (stored_trees sig st) s u no_numbers h.index l (ap (stored_tree sig) e) d.fine (let w = d.few in omega arith) d.same m in
    rw (d.ups, d.ends) (good_same _ _ _ (trees_changed sig st s (some t)) g)

pub insert_holds : (T : Tables) (sig : List ℕ) (st : Slots) (t : List ℕ) (s : ℕ) → Holds T sig st → refusal sig t ≡ 0 → s < slot_count → st s ≡ none → room_for T.link T.label (ups_of sig t) (ends_of sig t) ≡ true
    → Holds (inserted_at T t s) sig (changed st s (some t))
unfolding inserted_at
insert_holds T sig st t s h r l e m =
    let b = T.bytes in
    let u = T.used in
    let k = (good sig t r).short in
    let S : Signed sig = subst Signed h.signature (signature_good b) in
    record {
      bytes = (let z = length_with_term b s t in let y = h.bytes in omega (arith, z, y));
      used = (let z = length-sets u 0 (used_of (inserted (used_of u) s)) in let y = h.used in omega (arith, z, y));
      words = insert_words u s h.used l h.words;
      signature = with_signature b s t h.bytes l k ∙ h.signature;
      slots = λ x g. slot x g (ℕ_discrete x s);
      beyond = λ x g. changed_other st s (some t) x (λ z. omega arith) ∙ h.beyond x g;
      terms = λ x v g. term x v g (ℕ_discrete x s);
      index = rw h.signature (insert_index T sig st t s h (drawn sig t S r) l e m);
    }
  where
    slot : (x : ℕ) → x < slot_count → Dec (x ≡ s) → has (used_of (sets T.used 0 (used_of (inserted (used_of T.used) s)))) x ≡ filled (changed st s (some t) x)
    slot x g (yes z) = rw (changed_same st s (some t) x z, z) (insert_same T.used s h.used l h.words)
    slot x g (no z) = rw (changed_other st s (some t) x z) (insert_other T.used s h.used l h.words x g z ∙ h.slots x g)

    term : (x : ℕ) (v : List ℕ) → changed st s (some t) x ≡ some v → Dec (x ≡ s) → (term_of (with_term T.bytes s t) x ≡ v) × (refusal sig v ≡ 0)
    term x v g (yes z) =
        let w : t ≡ v = (let y = sym (changed_same st s (some t) x z) ∙ g in cc) in
        rw (z, ← w) (with_term_same T.bytes s t h.bytes l (good sig t r).short, r)
    term x v g (no z) =
        let y : st x ≡ some v = sym (changed_other st s (some t) x z) ∙ g in
        let q = h.terms x v y in
        (with_term_other T.bytes s t h.bytes l (good sig t r).short x (low x v y (dec_lt x slot_count)) z ∙ q.0, q.1)
      where
        low : (x : ℕ) (v : List ℕ) → st x ≡ some v → Dec (x < slot_count) → x < slot_count
        low x v y (yes p) = p
        low x v y (no p) = absurd (let a = h.beyond x (omega arith) in let z : ◌≡◌ {A = ℕ} 0 1 = cc in omega arith)

-- DELETE
delete_index : (T : Tables) (sig : List ℕ) (st : Slots) (t : List ℕ) (s : ℕ) → Holds T sig st → Drawn sig t → s < slot_count → st s ≡ some t
    → GoodSt (without_keys (index_of T) (ups_of sig t) (ends_of sig t) s) (stored_trees sig (changed st s none))
unfolding without_keys located no_numbers
delete_index T sig st t s h d l e =
    let u = tree_of sig t in
    let g = delete_means (index_of T) (stored_trees sig st) s u no_numbers h.index l (ap (stored_tree sig) e) d.fine (let w = d.few in omega arith) d.same in
    rw (d.ups, d.ends) (good_same _ _ _ (trees_changed sig st s none) g)

pub delete_holds : (T : Tables) (sig : List ℕ) (st : Slots) (t : List ℕ) (s : ℕ) → Holds T sig st → s < slot_count → st s ≡ some t → Holds (deleted_at T s) sig (changed st s none)
unfolding deleted_at without_term
delete_holds T sig st t s h l e =
    let u = T.used in
    let q = h.terms s t e in
    let S : Signed sig = subst Signed h.signature (signature_good T.bytes) in
    record {
      bytes = h.bytes;
      used = (let z = length-sets u 0 (used_of (removed (used_of u) s)) in let y = h.used in omega (arith, z, y));
      words = remove_words u s h.used l h.words;
      signature = h.signature;
      slots = λ x g. slot x g (ℕ_discrete x s);
      beyond = λ x g. changed_other st s none x (λ z. omega arith) ∙ h.beyond x g;
      terms = λ x v g. term x v g (ℕ_discrete x s);
      index = rw (h.signature, q.0, eq-eqb (refusal sig t) 0 q.1) (delete_index T sig st t s h (drawn sig t S q.1) l e);
    }
  where
    slot : (x : ℕ) → x < slot_count → Dec (x ≡ s) → has (used_of (sets T.used 0 (used_of (removed (used_of T.used) s)))) x ≡ filled (changed st s none x)
    slot x g (yes z) = rw (changed_same st s none x z, z) (remove_same T.used s h.used l h.words)
    slot x g (no z) = rw (changed_other st s none x z) (remove_other T.used s h.used l h.words x g z ∙ h.slots x g)

    term : (x : ℕ) (v : List ℕ) → changed st s none x ≡ some v → Dec (x ≡ s) → (term_of T.bytes x ≡ v) × (refusal sig v ≡ 0)
    term x v g (yes z) = absurd (let y = sym (changed_same st s none x z) ∙ g in let w : ◌≡◌ {A = ℕ} 0 1 = cc in omega arith)
    term x v g (no z) = h.terms x v (sym (changed_other st s none x z) ∙ g)

-- a slot is in use exactly where the store holds something there
pub use_means : (T : Tables) (sig : List ℕ) (st : Slots) (s : ℕ) → Holds T sig st → is_used T.used s ≡ eqb (filled (st s)) 1
unfolding is_used
use_means T sig st s h = go (dec_lt s slot_count)
  where
    go : Dec (s < slot_count) → pick (ltb s slot_count) (eqb (has (used_of T.used) s) 1) false ≡ eqb (filled (st s)) 1
    go (yes l) = rw (lt-ltb s slot_count l, h.slots s l)
    go (no l) = rw (le-ltb s slot_count (omega arith), h.beyond s (omega arith))

-- REFUSAL 12: a term goes in exactly where the store with it would have at most 4,096 distinct keys
with_stored : (st : ℕ → Option Tm) (s : ℕ) (t : Tm) → st s ≡ none → Storable t → (u : ℕ) (P : Place) (x : ℕ) → Stored (put_tree st s (some t)) u P x ↔ With (Stored st) s (key_list [] (ups_t 0 0 t) (ends_t t)) u P x
unfolding put_tree
with_stored st s t e f u P x = go (ℕ_discrete u s)
  where
    go : Dec (u ≡ s) → KeyIn (pick (eqb u s) (some t) (st u)) P x ↔ With (Stored st) s (key_list [] (ups_t 0 0 t) (ends_t t)) u P x
    go (yes q) = rw (eq-eqb u s q) ((λ h. inr (q, (fine_in t f (key P x)).0 h)), back)
      where
        back : With (Stored st) s (key_list [] (ups_t 0 0 t) (ends_t t)) u P x → KeyIn (some t) P x
        back (inl h) = absurd (subst (λ (o : Option Tm). KeyIn o P x) (ap st q ∙ e) h)
        back (inr h) = (fine_in t f (key P x)).1 h.1
    go (no q) = rw (ne_eqb u s q) ((λ h. inl h), back)
      where
        back : With (Stored st) s (key_list [] (ups_t 0 0 t) (ends_t t)) u P x → KeyIn (st u) P x
        back (inl h) = h
        back (inr h) = absurd (q h.0)

distinct_iff : (R Q : ℕ → Place → ℕ → Type 0) (n : ℕ) → ((s : ℕ) (P : Place) (x : ℕ) → R s P x ↔ Q s P x) → Distinct R n → Distinct Q n
distinct_iff R Q n e d = record {
  keys = d.keys;
  nodup = d.nodup;
  from = λ K i. let w = d.from K i in (w.0, to w.0 K w.1);
  into = λ s K h. d.into s K (fro s K h);
  many = d.many;
}
  where
    to : (s : ℕ) (K : Key) → RK R s K → RK Q s K
    to s (key P x) h = (e s P x).0 h

    fro : (s : ℕ) (K : Key) → RK Q s K → RK R s K
    fro s (key P x) h = (e s P x).1 h

abbrev pub KeysOf : List ℕ → Slots → ℕ → Place → ℕ → Type 0
KeysOf sig st = Stored (stored_trees sig st)

pub room_means : (T : Tables) (sig : List ℕ) (st : Slots) (t : List ℕ) (s N : ℕ) → Holds T sig st → refusal sig t ≡ 0 → st s ≡ none → Distinct (KeysOf sig (changed st s (some t))) N
    → (room_for T.link T.label (ups_of sig t) (ends_of sig t) ≡ true) ↔ (N ≤ key_limit)
room_means T sig st t s N h r e d =
    ((λ q. let m = f.0 q in fits (dec_lt key_limit N) m), (λ q. f.1 (enough (dec_lt (frees T.label) M) q)))
  where
    S : Signed sig
    S = subst Signed h.signature (signature_good T.bytes)

    w : Drawn sig t
    w = drawn sig t S r

    u : Tm
    u = tree_of sig t

    M : ℕ
    M = missing (num_list T.link T.label [] (ups_t 0 0 u) (ends_t u))

    f : (room_for T.link T.label (ups_of sig t) (ends_of sig t) ≡ true) ↔ (M ≤ frees T.label)
    f = room_frees T sig st t h w

    seen : (a : ℕ) (P : Place) (x : ℕ) → KeysOf sig (changed st s (some t)) a P x ↔ Stored (put_tree (stored_trees sig st) s (some u)) a P x
    seen a P x = (
      (λ (q : KeyIn (stored_trees sig (changed st s (some t)) a) P x). subst (λ (o : Option Tm). KeyIn o P x) (sym (trees_changed sig st s (some t) a)) q),
      (λ (q : KeyIn (put_tree (stored_trees sig st) s (some u) a) P x). subst (λ (o : Option Tm). KeyIn o P x) (trees_changed sig st s (some t) a) q),
    )

    d' : Distinct (With (Stored (stored_trees sig st)) s (key_list [] (ups_t 0 0 u) (ends_t u))) N
    d' = distinct_iff _ _ N (with_stored (stored_trees sig st) s u (ap (stored_tree sig) e) w.fine) (distinct_iff _ _ N seen d)

    k : (frees T.label < M) ↔ (key_limit < N)
    k = keys_refused T.link T.label (mem (index_of T).sets) (Stored (stored_trees sig st)) h.index.rep h.index.full s (key_list [] (ups_t 0 0 u) (ends_t u)) M N (fine_nodup u w.fine)
        (lack_of T.label _ _ (located_keys T.link T.label (mem (index_of T).sets) (Stored (stored_trees sig st)) h.index.rep (ups_t 0 0 u) (ends_t u) [] [] tt (fine_back u w.fine) w.fine.ends)) d'

    fits : Dec (key_limit < N) → M ≤ frees T.label → N ≤ key_limit
    fits (yes p) m = absurd (let z = k.1 p in omega (arith, z))
    fits (no p) m = omega arith

    enough : Dec (frees T.label < M) → N ≤ key_limit → M ≤ frees T.label
    enough (yes p) q = absurd (let z = k.0 p in omega (arith, z))
    enough (no p) q = omega arith
