-- SCOPE.md, 'Numbers of refusal': 'given exactly when' and 'of the refusals that apply, the first in rank is given',
-- for every call on a store that calls lead to. The conditions are in Applies.
use Rattle.std.specs.Prelude.{ℕ, zero, suc, ◌+◌, ◌*◌, ◌≤◌, ◌<◌, ◌≡◌, ◌⊎◌, ◌↔◌, Bool, List, ltb, eqb, length}
use Rattle.std.proofs.Math.Decide.{ℕ_discrete, dec_lt}
use Rattle.std.proofs.Common.{arith, sym, ap, ◌∙◌}
use Rattle.std.proofs.Math.Path.{refl}
use Rattle.std.proofs.Math.Logic.{inl, inr, ⊎_elim}
use Rattle.std.proofs.Math.Bool.{true, false}
use Rattle.std.proofs.Math.Option.{Option, some, none}
use borrow.Author.Tests.{ltb-true, ltb-false, eq-eqb, ne_eqb, eqb-true, eqb-false}
use Rattle.laws.specs.Choice.{pick}
use Rattle.refusals.specs.declared.Refusal.{Refusal}
use Rattle.refusals.specs.Refusals.{number_of, rank}
use Rattle.refusals.specs.Numbers.{number_some}
use Rattle.terms.specs.Terms.{sig_refusal, refusal}
use Rattle.keys.specs.Keys.{Key, HasKey}
use Rattle.keys.specs.Bytes.{is_key}
use Rattle.theory.specs.Flat.{Item}
use Rattle.theory.specs.Items.{items, shift}
use Rattle.definitions.specs.Ranks.{First, Rows, end, row, part, AppliesIn, ranked, Gives, at_end, at_row, past_row}
use Rattle.definitions.specs.Ranks.{at_part, past_part, rank_one, applies_named}
use Rattle.definitions.specs.Conditions.{NoSignature, signature_rows, term_rows}
use Rattle.definitions.specs.FirstRefusal.{signature_first, refusal_first}
use Rattle.definitions.specs.Trees.{tree_of}
use Rattle.definitions.specs.Spelt.{clash}
use Rattle.definitions.specs.Records.{Unifier, IsRecord, Short, one_unifier, one_record}
use Rattle.definitions.specs.Decisions.{record?, Record?, record_right}
use Rattle.definitions.specs.Answers.{Answer, refused, done, refuse, slot, fits, long_from, refusal_in}
use Rattle.library.specs.IsKey.{key_decided}
use Rattle.library.specs.Store.{Store, in_use, first_free, put, keys_held, distinct, key_count, Call, open_with}
use Rattle.library.specs.Store.{insert, delete, with_key, retrieve, solve, keyed, answers, answered}
use Rattle.library.specs.Sound.{Sound, sound_put, use_below, free_most}
use Rattle.library.specs.Readable.{ascending_nodup, same_number, distinct_nodup, long_short, free_none}
use Rattle.library.specs.Readable.{free_unused, use_held, answers_are, answers_ascend, keyed_are, keyed_ascend}
use Rattle.library.specs.Readable.{keys_are, solve_none, solve_long, solve_room as room_answered, solve_writes}
use Rattle.library.specs.Applies.{Number, WithKey, Standing, StoredKey, NoSlot, AllUsed, ManyKeys, NoUnifier}
use Rattle.library.specs.Applies.{LongValue, ShortListing, ShortRecord, rows_of, AppliesNumber, Applies}
use Rattle.laws.specs.Sizes.{key_limit, slot_count, value_limit}

-- how many things are P is one number
numbers_same : {A : Type 0} (P : A → Type 0) (m n : ℕ) → Number P m → Number P n → m ≡ n
numbers_same P m n x y =
    let e = same_number x.list y.list x.once y.once (λ a. ((λ i. (y.exactly a).1 ((x.exactly a).0 i)), (λ i. (x.exactly a).1 ((y.exactly a).0 i)))) in
    sym x.many ∙ e ∙ y.many

-- a number of refusal that is not 0 is one
pub refused_is : (a : Answer) (n : ℕ) → (n ≡ 0 → ⊥) → refusal_in a ≡ n → a ≡ refused n
refused_is (refused m) n z e = ap refused e
refused_is (done a b w) n z e = absurd (z (sym e))

same_held : (o : Option (List ℕ)) (t u : List ℕ) → o ≡ some t → o ≡ some u → t ≡ u
same_held o t u e f = let g : some t ≡ some u = sym e ∙ f in cc

-- some value is long, where not all are short
long_some : (θ : ℕ → List Item) (k y : ℕ) → long_from θ k y ≡ true → (z : ℕ) × (z < y + k) × (value_limit < length (θ z))
unfolding long_from
long_some θ zero y e = clash e
long_some θ (suc k) y e = go (ltb value_limit (length (θ y))) refl e (long_some θ k (suc y))
  where
    go : (b : Bool) → ltb value_limit (length (θ y)) ≡ b → pick b true (long_from θ k (suc y)) ≡ true
        → (long_from θ k (suc y) ≡ true → (z : ℕ) × (z < suc y + k) × (value_limit < length (θ z))) → (z : ℕ)
        × (z < y + suc k) × (value_limit < length (θ z))
    go true f h ih = (y, omega arith, ltb-true value_limit (length (θ y)) f)
    go false f h ih = let r = ih h in (r.0, omega (arith, r.1), r.2)

-- WHAT THE TESTS OF A CALL GIVE, one after another: a test that refuses is true exactly where its row applies
row_if : {w : Refusal} {A : Type 0} {l : Rows} (b : Bool) (x : Answer) → (b ≡ true → A)
    → (b ≡ false → (A → ⊥) × Gives l (refusal_in x))
    → Gives (row w A l) (refusal_in (pick b (refuse w) x))
row_if true x f g = at_row (f refl)
row_if false x f g = past_row (g refl).0 (g refl).1

row_unless : {w : Refusal} {A : Type 0} {l : Rows} (b : Bool) (x : Answer)
    → (b ≡ true → (A → ⊥) × Gives l (refusal_in x)) → (b ≡ false → A)
    → Gives (row w A l) (refusal_in (pick b x (refuse w)))
row_unless true x f g = past_row (f refl).0 (f refl).1
row_unless false x f g = at_row (g refl)

-- a term or a question, and what is tested after it
term_rows_lem : (sig t : List ℕ) {l : Rows} (x : Answer) → (refusal sig t ≡ 0 → Gives l (refusal_in x))
    → Gives (part (term_rows sig t) l) (refusal_in (pick (eqb (refusal sig t) 0) x (refused (refusal sig t))))
term_rows_lem sig t {l = l} x g = go (ℕ_discrete (refusal sig t) 0)
  where
    go : Dec (refusal sig t ≡ 0)
        → Gives (part (term_rows sig t) l) (refusal_in (pick (eqb (refusal sig t) 0) x (refused (refusal sig t))))
    go (yes e) = rw (eq-eqb (refusal sig t) 0 e) (past_part (refusal_first sig t) e (g e))
    go (no n) = rw (ne_eqb (refusal sig t) 0 n) (at_part (refusal_first sig t) n)

-- the listing of just the slots that are P
listing_rows : (P : ℕ → Type 0) (l : List ℕ) (room : ℕ) (x : Answer) → Number P (length l) → refusal_in x ≡ 0
    → Gives (row Refusal.Room (ShortListing P room) end) (refusal_in (fits l room x))
listing_rows P l room x c z = row_if (ltb room (2 * length l)) x (λ e. (length l, c, ltb-true room (2 * length l) e)) (λ e. (long e, rw z at_end))
  where
    long : ltb room (2 * length l) ≡ false → ShortListing P room → ⊥
    long e (n, y, s) = omega (arith, ltb-false room (2 * length l) e, s, numbers_same P n (length l) y c)

module _ (st : Store) (h : Sound st) where
  in_use_lem : (s : ℕ) → in_use st s ≡ true → NoSlot st s → ⊥
  in_use_lem s e (inl l) = omega (arith, use_below st s e, l)
  in_use_lem s e (inr n) = n ((use_held st h s).0 e)

  not_in_use : (s : ℕ) → in_use st s ≡ false → NoSlot st s
  not_in_use s e = inr (λ u. clash (sym e ∙ (use_held st h s).1 u))

  open_rows : (sig : List ℕ) → Gives (rows_of st (open_with sig)) (refusal_in (answered st (open_with sig)))
  unfolding answered
  open_rows sig = row_unless (eqb (sig_refusal sig) 0) _ (λ e. (never (eqb-true (sig_refusal sig) 0 e), at_end)) (λ e. some (eqb-false (sig_refusal sig) 0 e) (signature_first sig).given)
    where
      never : sig_refusal sig ≡ 0 → NoSignature sig → ⊥
      never e a = omega (arith, ((signature_first sig).first 2 (inl (refl, a))).0, e)

      some : (sig_refusal sig ≡ 0 → ⊥) → (sig_refusal sig ≡ 0) ⊎ AppliesIn (signature_rows sig) (sig_refusal sig)
          → NoSignature sig
      some n (inl z) = absurd (n z)
      some n (inr (inl a)) = a.1
      some n (inr (inr a)) = absurd a

  delete_rows : (s : ℕ) → Gives (rows_of st (delete s)) (refusal_in (answered st (delete s)))
  unfolding answered
  delete_rows s = row_unless (in_use st s) _ (λ e. (in_use_lem s e, at_end)) (not_in_use s)

  key_rows : (k : List ℕ) (room : ℕ) → Gives (rows_of st (with_key k room)) (refusal_in (answered st (with_key k room)))
  unfolding answered
  key_rows k room = row_unless (is_key st.signature k) _ (λ e. ((λ n. n ((key_decided st.signature k).holds e)), listing_rows (WithKey st k) (keyed st k) room _ listed refl)) (key_decided st.signature k).fails
    where
      listed : Number (WithKey st k) (length (keyed st k))
      listed = record { list = keyed st k; once = ascending_nodup (keyed st k) (keyed_ascend st h k); exactly = keyed_are st h k; many = refl }

  retrieve_rows : (r : ℕ) (q : List ℕ) (room : ℕ)
      → Gives (rows_of st (retrieve r q room)) (refusal_in (answered st (retrieve r q room)))
  unfolding answered
  retrieve_rows r q room = row_if (ltb 4 r) _ (ltb-true 4 r) (λ e. ((λ l. omega (arith, ltb-false 4 r e, l)), term_rows_lem st.signature q _ (λ z. listing_rows (Standing st r q) (answers st r q) room _ (listed z) refl)))
    where
      listed : refusal st.signature q ≡ 0 → Number (Standing st r q) (length (answers st r q))
      listed e = record { list = answers st r q; once = ascending_nodup (answers st r q) (answers_ascend st h r q); exactly = answers_are st h r q e; many = refl }

  -- with t in the smallest free slot, the keys of the stored terms are the old ones and those of t
  module _ (t : List ℕ) (l : first_free st < slot_count) where
    stored_after : (K : Key)
        → StoredKey (put st (first_free st) (some t)) K ↔ (StoredKey st K ⊎ HasKey (tree_of st.signature t) K)
    unfolding put
    stored_after K = (from, ⊎_elim old new)
      where
        from : StoredKey (put st (first_free st) (some t)) K → StoredKey st K ⊎ HasKey (tree_of st.signature t) K
        from (s, u, e, k) = go (ℕ_discrete s (first_free st)) e
          where
            go : Dec (s ≡ first_free st) → pick (eqb s (first_free st)) (some t) (st.held s) ≡ some u
                → StoredKey st K ⊎ HasKey (tree_of st.signature t) K
            go (yes z) e = let f : some t ≡ some u = rw (eq-eqb s (first_free st) z) at e in let g : t ≡ u = cc in inr (rw g k)
            go (no z) e = let f : st.held s ≡ some u = rw (ne_eqb s (first_free st) z) at e in inl (s, u, f, k)

        old : StoredKey st K → StoredKey (put st (first_free st) (some t)) K
        old (s, u, e, k) = (s, u, rw (ne_eqb s (first_free st) apart) e, k)
          where
            apart : s ≡ first_free st → ⊥
            apart z = clash (sym (free_unused st l) ∙ (use_held st h (first_free st)).1 (u, rw (← z) e))

        new : HasKey (tree_of st.signature t) K → StoredKey (put st (first_free st) (some t)) K
        new k = (first_free st, t, rw (eq-eqb (first_free st) (first_free st) refl), k)

    counted : refusal st.signature t ≡ 0
        → Number (λ K. StoredKey st K ⊎ HasKey (tree_of st.signature t) K)
        (key_count (put st (first_free st) (some t)))
    counted c =
        let st' = put st (first_free st) (some t) in
        let g = sound_put st h (first_free st) (some t) l (λ u e. (let d : t ≡ u = cc in rw (← d) c)) in
        record {
          list = distinct (keys_held st');
          once = distinct_nodup (keys_held st');
          exactly = λ K. (let a = keys_are st' g K in let b = stored_after K in ((λ i. b.0 (a.0 i)), (λ w. a.1 (b.1 w))));
          many = refl;
        }

  insert_rows : (t : List ℕ) → Gives (rows_of st (insert t)) (refusal_in (answered st (insert t)))
  unfolding answered
  insert_rows t = term_rows_lem st.signature t _ (λ e. row_if (eqb (first_free st) slot_count) _ (λ f. full (eqb-true (first_free st) slot_count f)) (λ f. (not_full (eqb-false (first_free st) slot_count f), count e (eqb-false (first_free st) slot_count f))))
    where
      full : first_free st ≡ slot_count → AllUsed st
      full f s l = (use_held st h s).0 ((free_none st).0 f s l)

      not_full : (first_free st ≡ slot_count → ⊥) → AllUsed st → ⊥
      not_full m f = m ((free_none st).1 (λ s l. (use_held st h s).1 (f s l)))

      many : ℕ
      many = key_count (put st (first_free st) (some t))

      count : refusal st.signature t ≡ 0 → (first_free st ≡ slot_count → ⊥)
          → Gives (row Refusal.Keys (ManyKeys st t) end)
          (refusal_in (pick (ltb key_limit many) (refuse Refusal.Keys) (slot (first_free st))))
      count e m = row_if (ltb key_limit many) _ (λ l. (many, c, ltb-true key_limit many l)) (λ l. (few l, at_end))
        where
          c : Number (λ K. StoredKey st K ⊎ HasKey (tree_of st.signature t) K) many
          c = counted t (omega (arith, m, free_most st slot_count 0)) e

          few : ltb key_limit many ≡ false → ManyKeys st t → ⊥
          few l (n, y, s) = omega (arith, ltb-false key_limit many l, s, numbers_same (λ K. StoredKey st K ⊎ HasKey (tree_of st.signature t) K) n many y c)

  -- solve, where the slot holds t and the question is a term
  module _ (s : ℕ) (q : List ℕ) (room : ℕ) (t : List ℕ) (e : st.held s ≡ some t) (g : refusal st.signature q ≡ 0) where
    abbrev c : Call
    c = solve s q room

    -- the rows after those of the question
    abbrev rest : Rows
    rest = row Refusal.Nothing (NoUnifier st s q)
        (row Refusal.Long (LongValue st s q)
        (row Refusal.Room (ShortRecord st s q room) end))

    module _ (v : List ℕ) (i : IsRecord st.signature t q v) where
      unifies : NoUnifier st s q → ⊥
      unifies (u, f, n) = let d = same_held (st.held s) t u e f in n (rw (← d) (record { by = i.by; sub = i.unifier.mgu.sub; same = i.unifier.mgu.unifies }))

      no_long : Short i.by → LongValue st s q → ⊥
      no_long k (u, f, θ, x, y, b, l) =
          let d = same_held (st.held s) t u e f in
          let z : Unifier st.signature (items t) (shift 32 (items q)) θ = rw d x in
          omega (arith, l, k y b, ap length (one_unifier st.signature (items t) (shift 32 (items q)) i.by θ i.unifier z y))

      no_short : (room < length v → ⊥) → ShortRecord st s q room → ⊥
      no_short m (u, w, f, j, l) =
          let d = same_held (st.held s) t u e f in
          let x : IsRecord st.signature t q w = rw d j in
          m (omega (arith, l, ap length (one_record st.signature t q v w i x)))

      record_rows : (b : Bool) → long_from i.by 64 0 ≡ b → Dec (room < length v)
          → Gives rest (refusal_in (answered st c))
      record_rows true a d =
          let w = long_some i.by 64 0 a in
          rw ((solve_long st h s t e q g room).1 (i.by, i.unifier, λ k. clash (sym ((long_short i.by).1 k) ∙ a)))
          (past_row unifies (at_row (t, e, i.by, i.unifier, w.0, omega (arith, w.1), w.2)))
      record_rows false a (yes l) =
          let k = (long_short i.by).0 a in
          rw (room_answered st h s t e q g room v i k l) (past_row unifies (past_row (no_long k) (at_row (t, v, e, i, l))))
      record_rows false a (no m) =
          let k = (long_short i.by).0 a in
          rw (solve_writes st h s t e q g room v i k (omega (arith, m))) (past_row unifies (past_row (no_long k) (past_row (no_short m) at_end)))

    -- there is a record, or no unifier
    unifier_rows : (o : Option (List ℕ)) → Record? st.signature t q o → Gives rest (refusal_in (answered st c))
    unifier_rows (some v) i = record_rows v i (long_from i.by 64 0) refl (dec_lt room (length v))
    unifier_rows none n = rw ((solve_none st h s t e q g room).1 n) (at_row (t, e, n))

    question_rows : Gives rest (refusal_in (answered st c))
    question_rows = unifier_rows (record? st.signature t q) (record_right st.signature t q h.signed (h.checked s t e) g)

  question_refused : (s : ℕ) (q : List ℕ) (room : ℕ) → in_use st s ≡ true → (refusal st.signature q ≡ 0 → ⊥)
      → refusal_in (answered st (solve s q room)) ≡ refusal st.signature q
  unfolding answered
  question_refused s q room a n = let w = (use_held st h s).0 a in rw (a, w.1, ne_eqb (refusal st.signature q) 0 n)

  solve_rows : (s : ℕ) (q : List ℕ) (room : ℕ)
      → Gives (rows_of st (solve s q room)) (refusal_in (answered st (solve s q room)))
  unfolding answered
  solve_rows s q room = go (in_use st s) refl (ℕ_discrete (refusal st.signature q) 0)
    where
      go : (b : Bool) → in_use st s ≡ b → Dec (refusal st.signature q ≡ 0)
          → Gives (rows_of st (solve s q room)) (refusal_in (answered st (solve s q room)))
      go false a d = rw a (at_row (not_in_use s a))
      go true a (no n) = rw (question_refused s q room a n) (past_row (in_use_lem s a) (at_part (refusal_first st.signature q) n))
      go true a (yes g) = let w = (use_held st h s).0 a in past_row (in_use_lem s a) (past_part (refusal_first st.signature q) g (question_rows s q room w.0 w.1 g))

  call_rows : (c : Call) → Gives (rows_of st c) (refusal_in (answered st c))
  call_rows (open_with sig) = open_rows sig
  call_rows (insert t) = insert_rows t
  call_rows (delete s) = delete_rows s
  call_rows (with_key k room) = key_rows k room
  call_rows (retrieve r q room) = retrieve_rows r q room
  call_rows (solve s q room) = solve_rows s q room

  -- each call tests in the order of rank
  in_rank : (c : Call) → ranked (rows_of st c) ≡ true
  unfolding rank
  in_rank (open_with sig) = refl
  in_rank (insert t) = refl
  in_rank (delete s) = refl
  in_rank (with_key k room) = refl
  in_rank (retrieve r q room) = refl
  in_rank (solve s q room) = refl

  -- 'of the refusals that apply, the first in rank is given': a call's number is the first in rank that applies, and
  -- 0 where none does
  pub refused_first : (c : Call) → First (AppliesNumber st c) (refusal_in (answered st c))
  refused_first c = (call_rows c).in_order (in_rank c)

  -- 'given exactly when': a call is refused with a name exactly when that refusal applies and none that applies ranks
  -- before it
  pub refused_exactly : (c : Call) (why : Refusal)
      → (answered st c ≡ refuse why) ↔
      (Applies st c why × ((w : Refusal) → Applies st c w → rank (number_of why) ≤ rank (number_of w)))
  refused_exactly c why = (from, into)
    where
      f : First (AppliesNumber st c) (refusal_in (answered st c))
      f = refused_first c

      from : answered st c ≡ refuse why → Applies st c why
          × ((w : Refusal) → Applies st c w → rank (number_of why) ≤ rank (number_of w))
      from e = (go f.given, (λ w a. rw (← n) (f.first (number_of w) a).1))
        where
          n : refusal_in (answered st c) ≡ number_of why
          n = ap refusal_in e

          go : (refusal_in (answered st c) ≡ 0) ⊎ AppliesNumber st c (refusal_in (answered st c)) → Applies st c why
          go (inl z) = absurd (number_some why (sym n ∙ z))
          go (inr p) = rw n at p

      into : Applies st c why × ((w : Refusal) → Applies st c w → rank (number_of why) ≤ rank (number_of w))
          → answered st c ≡ refuse why
      into (a, least) = refused_is (answered st c) (number_of why) (number_some why) (go f.given)
        where
          go : (refusal_in (answered st c) ≡ 0) ⊎ AppliesNumber st c (refusal_in (answered st c))
              → refusal_in (answered st c) ≡ number_of why
          go (inl z) = absurd (omega (arith, z, (f.first (number_of why) a).0))
          go (inr p) =
              let w = applies_named (rows_of st c) (refusal_in (answered st c)) p in
              let q : Applies st c w.0 = rw w.1 at p in
              let l : rank (number_of w.0) ≤ rank (number_of why) = rw w.1 at (f.first (number_of why) a).1 in
              w.1 ∙ ap number_of (rank_one w.0 why (omega (arith, l, least w.0 q)))

  -- and is not refused exactly when none applies
  pub refused_never : (c : Call) → (refusal_in (answered st c) ≡ 0) ↔ ((why : Refusal) → Applies st c why → ⊥)
  refused_never c = ((λ z why a. omega (arith, z, ((refused_first c).first (number_of why) a).0)), (λ n. ⊎_elim (λ z. z) (λ p. absurd (named n p)) (refused_first c).given))
    where
      named : ((why : Refusal) → Applies st c why → ⊥) → AppliesNumber st c (refusal_in (answered st c)) → ⊥
      named n p = let w = applies_named (rows_of st c) (refusal_in (answered st c)) p in n w.0 (rw w.1 at p)
