-- SCOPE.md, 'Store' and 'Numbers of refusal': what opening, insert, delete and the key question mean on all tables:
-- the answer, the refusals in their order, and the tables afterwards. What comes out of a call is `told` of these
-- (calls/specs/Outcome.antt).
use Rattle.std.specs.Prelude.{ℕ, List, ltb, eqb}
use Rattle.laws.specs.Choice.{pick}
use Rattle.slots.specs.Slots.{members}
use Rattle.refusals.specs.declared.Refusal.TheVariants as Refusal
use Rattle.terms.specs.Terms.{sig_refusal, refusal}
use Rattle.keys.specs.Bytes.{is_key}
use Rattle.definitions.specs.Answers.{Answer, refused, refuse, opened, slot, slots, fits}
use Rattle.layout.specs.Layout.{signature_of, is_used}
use Rattle.layout.specs.Tables.{Tables}
use Rattle.calls.specs.Outcome.{Result, result, guarded}
use Rattle.store.specs.Tables.{ups_of, ends_of, room_for, opened_with, free_slot, inserted_at, deleted_at, slots_of_key}
use Rattle.laws.specs.Sizes.{slot_count}

-- 2, or everything empty
unfoldable pub opening : Tables → List ℕ → Result
opening T sig = result (guarded T (pick (eqb (sig_refusal sig) 0) opened (refused (sig_refusal sig)))) T
    (opened_with T sig)

-- 5 to 8, 11, 12, or the term in the smallest slot not in use
unfoldable pub insert_answer : Tables → List ℕ → Answer
insert_answer T t = let sig = signature_of T.bytes in
    pick (eqb (refusal sig t) 0)
    (pick (ltb (free_slot T.used) slot_count)
    (pick (room_for T.link T.label (ups_of sig t) (ends_of sig t)) (slot (free_slot T.used)) (refuse Refusal.Keys))
    (refuse Refusal.Full))
    (refused (refusal sig t))

unfoldable pub inserting : Tables → List ℕ → Result
inserting T t = result (guarded T (insert_answer T t)) T (inserted_at T t (free_slot T.used))

-- 4, or the slot free again
unfoldable pub deleting : Tables → ℕ → Result
deleting T s = result (guarded T (pick (is_used T.used s) (slot s) (refuse Refusal.Slot))) T (deleted_at T s)

-- 9, 15, or the slots with the key, ascending; no table changes
unfoldable pub key_question : Tables → List ℕ → ℕ → Result
key_question T k room = let ms = members (slots_of_key T k) in
    result (guarded T (pick (is_key (signature_of T.bytes) k) (fits ms room (slots ms)) (refuse Refusal.Key))) T T
