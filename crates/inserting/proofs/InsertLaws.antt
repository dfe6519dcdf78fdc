-- The ways out of insert, over plain contents of the tables.
use Prim.Native.Nat.{ℕ, zero, suc, ◌+◌, ◌≤◌, ◌<◌}
use mathlib.Core.Path.{◌≡◌, refl, sym, ap, ◌∙◌}
use mathlib.Core.List.{List, []}
use mathlib.Core.Bool.{Bool, true, false}
use native.Mathlib.Omega.{arith}
use native.Mathlib.Decide.{ℕ_discrete, dec_lt}
use borrow.Author.Tests.{lt-ltb, le-ltb, ne_eqb, eq-eqb}
use lib.Dec.{eqb}
use lib.ListN.{take, replicate}
use lib.Seq.{sets}
use Rattle.laws.specs.Choice.{pick}
use Rattle.slots.specs.Slots.{has, inserted, others, Next, next_above}
use Rattle.std.specs.Prelude.{Ok, Err}
use Rattle.refusals.specs.declared.Refusal.{Refusal}
use Rattle.refusals.specs.Refusals.{number_of}
use Rattle.terms.specs.Terms.{refusal}
use Rattle.definitions.specs.Answers.{refuse, slot}
use Rattle.keysets.specs.KeySets.{Sets}
use Rattle.paths.specs.Insert.{St}
use Rattle.layout.specs.Layout.{signature_of, used_of, with_term}
use Rattle.layout.specs.Tables.{Tables, held, ample}
use Rattle.termkeys.specs.Fill.{tables, Both, tables_and, ins_fill}
use Rattle.calls.specs.Outcome.{outcome, told}
use Rattle.store.specs.Tables.{ups_of, ends_of, Outlined, no_numbers, room_for, with_keys, least_from, free_slot, renewed, inserted_at}
use Rattle.store.specs.Calls.{insert_answer, inserting}
use Rattle.calls.proofs.Public.{too_short, refuses, answers, bad, fine}
use Rattle.laws.specs.Sizes.{slot_count}

-- the least slot
least_is : (k : ℕ) (ws : List ℕ) (from r : ℕ) → from + k ≡ slot_count → Next ws from r → r ≡ least_from ws from k
unfolding least_from
least_is zero ws from r e n = let a = next_above ws from r n (omega arith) in let b = n.most in omega arith
least_is (suc k) ws from r e n = go (ℕ_discrete (has ws from) 1) (least_is k ws (suc from) r (omega arith))
  where
    go : Dec (has ws from ≡ 1) → (Next ws (suc from) r → r ≡ least_from ws (suc from) k) → r ≡ pick (eqb (has ws from) 1) from (least_from ws (suc from) k)
    go (yes h) ih = rw (eq-eqb (has ws from) 1 h) (same (dec_lt from r))
      where
        same : Dec (from < r) → r ≡ from
        same (yes l) = absurd (let z = n.passed from (omega arith) l in omega (arith, z))
        same (no l) = let a = next_above ws from r n (omega arith) in omega arith
    go (no h) ih = rw (ne_eqb (has ws from) 1 h) (ih (record {
      above = λ l. over (ℕ_discrete r from);
      most = n.most;
      member = n.member;
      passed = λ x p q. n.passed x (omega arith) q;
    }))
      where
        over : Dec (r ≡ from) → suc from ≤ r
        over (yes p) = absurd (h (rw p at (n.member (omega arith))))
        over (no p) = let a = next_above ws from r n (omega arith) in omega arith

pub free_slot_lem : (u ws vs : List ℕ) (s : ℕ) → ws ≡ used_of u → vs ≡ others ws → Next vs 0 s → s ≡ free_slot u
unfolding free_slot
free_slot_lem u ws vs s e f n = let m : Next (others (used_of u)) 0 s = rw (f, e) at n in least_is slot_count (others (used_of u)) 0 s refl m

pub insert_short : (T : Tables) (t : List ℕ) → ample T ≡ false → outcome (Err Refusal.Table) T [] ≡ told [] (inserting T t)
unfolding inserting
insert_short T t a = too_short T (inserted_at T t (free_slot T.used)) [] _ a

module _ (T : Tables) (sig t : List ℕ) (a : ample T ≡ true) (g : sig ≡ signature_of T.bytes) where
  out_by : (w : Refusal) → insert_answer T t ≡ refuse w → outcome (Err w) T [] ≡ told [] (inserting T t)
  unfolding inserting
  out_by w x = refuses T (inserted_at T t (free_slot T.used)) [] _ w a x

  pub insert_bad : (w : Refusal) → number_of w ≡ refusal sig t → outcome (Err w) T [] ≡ told [] (inserting T t)
  unfolding insert_answer
  insert_bad w e = out_by w (bad (refusal (signature_of T.bytes) t) (Err w) (rw g at e) w _ refl)

  module _ (e : 0 ≡ refusal sig t) where
    good : eqb (refusal (signature_of T.bytes) t) 0 ≡ true
    good = fine (refusal (signature_of T.bytes) t) (Ok tt) (rw g at e) refl

    pub insert_full : slot_count ≡ free_slot T.used → outcome (Err Refusal.Full) T [] ≡ told [] (inserting T t)
    unfolding insert_answer
    insert_full h = out_by Refusal.Full (rw (good, le-ltb (free_slot T.used) slot_count (omega (arith, h))))

    module _ (s : ℕ) (h : s ≡ free_slot T.used) (us es : List ℕ) (n : ℕ) (r : Bool) (l : s < slot_count) (o : Outlined sig t n us es) (p : r ≡ room_for T.link T.label (take n us) (take n es)) where
      -- all is good but the room for the keys
      to_room : (x : Bool) → r ≡ x → insert_answer T t ≡ pick x (slot s) (refuse Refusal.Keys)
      unfolding insert_answer
      to_room x q =
          let room : room_for T.link T.label (ups_of (signature_of T.bytes) t) (ends_of (signature_of T.bytes) t) ≡ x = rw (← g, ← o.hang, ← o.stand) (sym p ∙ q) in
          rw (good, lt-ltb (free_slot T.used) slot_count (rw h at l), room, ← h)

      pub insert_crowded : r ≡ false → outcome (Err Refusal.Keys) T [] ≡ told [] (inserting T t)
      insert_crowded q = out_by Refusal.Keys (to_room false q)

      pub insert_done : (ks b' u' l' k' c' d' e' f' ws vs : List ℕ) → r ≡ true
          → tables_and (tables k' l' c' d' e' f') ks ≡ ins_fill (tables T.link T.label T.s0 T.s1 T.s2 T.s3) (replicate 32 0) s 0 (take n us) (take n es)
          → b' ≡ with_term T.bytes s t → ws ≡ used_of T.used → vs ≡ inserted ws s → u' ≡ sets T.used 0 (used_of vs)
          → outcome (Ok (record { first = s; second = 0 })) (held b' u' l' k' c' d' e' f') [] ≡ told [] (inserting T t)
      unfolding inserting inserted_at with_keys no_numbers
      insert_done ks b' u' l' k' c' d' e' f' ws vs q i v w x y =
          let keys = ap (λ (z : Both). z.st) i in
          answers T (inserted_at T t (free_slot T.used)) [] _ s 0 [] (held b' u' l' k' c' d' e' f') [] a (to_room true q)
          (rw (v, y, x, w, ← h, ← g, ← o.hang, ← o.stand) (ap (λ (τ : St Sets). renewed (with_term T.bytes s t) (sets T.used 0 (used_of (inserted (used_of T.used) s))) τ) keys)) refl
