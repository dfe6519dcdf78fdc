-- The ways out of delete, over plain contents of the tables.
use Prim.Native.Nat.{ℕ, ◌≤◌, ◌<◌}
use mathlib.Core.Path.{◌≡◌, refl, sym, ap, ◌∙◌}
use mathlib.Core.List.{List, []}
use mathlib.Core.Bool.{Bool, true, false}
use native.Mathlib.Omega.{arith}
use native.Mathlib.Decide.{dec_lt}
use borrow.Author.Tests.{lt-ltb, le-ltb}
use lib.Dec.{ltb, eqb}
use lib.Seq.{sets}
use Rattle.laws.specs.Choice.{pick}
use Rattle.slots.specs.Slots.{has, removed}
use Rattle.slots.specs.Sets.{has_beyond}
use Rattle.std.specs.Prelude.{Ok, Err}
use Rattle.refusals.specs.declared.Refusal.TheVariants as Refusal
use Rattle.keysets.specs.KeySets.{Sets}
use Rattle.paths.specs.Insert.{St}
use Rattle.layout.specs.Layout.{used_of, is_used}
use Rattle.layout.specs.Tables.{Tables, held, ample}
use Rattle.termkeys.specs.Fill.{tables, del_fill}
use Rattle.calls.specs.Outcome.{outcome, told}
use Rattle.store.specs.Kept.{length_used}
use Rattle.store.specs.Tables.{index_of, KeysIn, renewed, deleted_at}
use Rattle.store.specs.Calls.{deleting}
use Rattle.calls.proofs.Public.{too_short, refuses, answers}
use Rattle.laws.specs.Sizes.{slot_count}

pub used_is : (u ws : List ℕ) (s : ℕ) (r : Bool) → ws ≡ used_of u → r ≡ eqb (has ws s) 1 → r ≡ is_used u s
unfolding is_used
used_is u ws s r e f = go (dec_lt s slot_count)
  where
    go : Dec (s < slot_count) → r ≡ pick (ltb s slot_count) (eqb (has (used_of u) s) 1) false
    go (yes h) = rw (lt-ltb s slot_count h, f, e)
    go (no h) = let b : slot_count ≤ s = omega arith in rw (le-ltb s slot_count b, f, e, has_beyond (used_of u) s (length_used u) b)

module _ (T : Tables) (s : ℕ) where
  pub delete_short : ample T ≡ false → outcome (Err Refusal.Table) T [] ≡ told [] (deleting T s)
  unfolding deleting
  delete_short a = too_short T (deleted_at T s) [] _ a

  module _ (ws : List ℕ) (r : Bool) (a : ample T ≡ true) (e : ws ≡ used_of T.used) (f : r ≡ eqb (has ws s) 1) where
    pub delete_none : r ≡ false → outcome (Err Refusal.Slot) T [] ≡ told [] (deleting T s)
    unfolding deleting
    delete_none h = let z = sym (used_is T.used ws s r e f) ∙ h in refuses T (deleted_at T s) [] _ Refusal.Slot a (rw z)

    pub delete_done : (u' l' k' c' d' e' f' vs ks : List ℕ) (n : ℕ) → r ≡ true → KeysIn T.bytes T.link T.label s n ks
        → tables k' l' c' d' e' f' ≡ del_fill (tables T.link T.label T.s0 T.s1 T.s2 T.s3) ks s n
        → vs ≡ removed ws s → u' ≡ sets T.used 0 (used_of vs) → outcome (Ok (record { first = s; second = 0 })) (held T.bytes u' l' k' c' d' e' f') [] ≡ told [] (deleting T s)
    unfolding deleting deleted_at
    delete_done u' l' k' c' d' e' f' vs ks n h K p x y =
        let z = sym (used_is T.used ws s r e f) ∙ h in
        let keys = p ∙ K.drops (index_of T) refl refl in
        answers T (deleted_at T s) [] _ s 0 [] (held T.bytes u' l' k' c' d' e' f') [] a (rw z)
        (rw (y, x, e) (ap (λ (τ : St Sets). renewed T.bytes (sets T.used 0 (used_of (removed (used_of T.used) s))) τ) keys)) refl
