-- The ways out of the key question, over plain contents of the tables.
use Prim.Native.Nat.{ℕ, ◌*◌, ◌≤◌, ◌<◌}
use mathlib.Core.Path.{◌≡◌, refl, sym, ◌∙◌}
use mathlib.Core.List.{List}
use mathlib.Core.Bool.{Bool, true, false}
use borrow.Author.Tests.{lt-ltb, le-ltb}
use lib.ListN.{length}
use Rattle.slots.specs.Slots.{members, listed, listed_into, into_none, into_all}
use Rattle.refusals.specs.declared.Refusal.TheVariants as Refusal
use Rattle.keys.specs.Bytes.{is_key}
use Rattle.keysets.specs.KeySets.{four, met}
use Rattle.layout.specs.Layout.{signature_of, used_of}
use Rattle.layout.specs.Tables.{Tables, ample}
use Rattle.std.specs.Prelude.{Ok, Err}
use Rattle.calls.specs.Outcome.{outcome, told}
use Rattle.store.specs.Tables.{key_number, slots_of_key}
use Rattle.store.specs.Calls.{key_question}
use Rattle.calls.proofs.Public.{too_short, refuses, answers}

pub ask_short : (T : Tables) (k out : List ℕ) → ample T ≡ false → outcome (Err Refusal.Table) T out ≡ told out (key_question T k (length out))
unfolding key_question
ask_short T k out a = too_short T T out _ a

module _ (T : Tables) (sig k out : List ℕ) (r : Bool) (a : ample T ≡ true) (g : sig ≡ signature_of T.bytes) (e : r ≡ is_key sig k) where
  key_is : (b : Bool) → r ≡ b → is_key (signature_of T.bytes) k ≡ b
  key_is b f = rw g at (sym e ∙ f)

  pub ask_bad : r ≡ false → outcome (Err Refusal.Key) T out ≡ told out (key_question T k (length out))
  unfolding key_question
  ask_bad f = refuses T T out _ Refusal.Key a (rw (key_is false f))

  module _ (ws vs out' : List ℕ) (m n : ℕ) (f : r ≡ true) (x : m ≡ key_number T.link T.label k) (y : ws ≡ used_of T.used) (w : vs ≡ met (four T.s0 T.s1 T.s2 T.s3) m ws)
      (h : n ≡ length (members vs)) (o : out' ≡ listed_into vs out) where
    slots_are : vs ≡ slots_of_key T k
    unfolding slots_of_key
    slots_are = rw (w, y, x)

    pub ask_room : length out < 2 * n → outcome (Err Refusal.Room) T out' ≡ told out (key_question T k (length out))
    unfolding key_question
    ask_room l =
        let z = lt-ltb (length out) (2 * length (members vs)) (rw h at l) in
        rw (o, into_none vs out (rw h at l)) (refuses T T out _ Refusal.Room a (rw (key_is true f, ← slots_are, z)))

    pub ask_done : 2 * n ≤ length out → outcome (Ok (record { first = n; second = 0 })) T out' ≡ told out (key_question T k (length out))
    unfolding key_question
    ask_done l =
        let z = le-ltb (length out) (2 * length (members vs)) (rw h at l) in
        answers T T out _ n 0 (listed (members vs)) T out' a (rw (key_is true f, ← slots_are, z, h)) refl (o ∙ into_all vs out (rw h at l))
