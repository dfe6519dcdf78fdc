-- The ways out of a call by its order: the arm says which order it is, or of which four; a call that lists nothing leaves the buffer.
use Prim.Native.Nat.{ℕ}
use mathlib.Core.Path.{◌≡◌, refl, sym, ap, ◌∙◌}
use mathlib.Core.Bool.{Bool, true, false}
use mathlib.Core.List.{List, []}
use lib.Dec.{ltb, eqb}
use Rattle.laws.specs.Choice.{pick}
use Rattle.refusals.specs.declared.Refusal.TheVariants as Refusal
use Rattle.terms.specs.Terms.{sig_refusal, refusal}
use Rattle.definitions.specs.Answers.{Answer, refused, refuse, opened, slot, written}
use Rattle.layout.specs.Layout.{signature_of, is_used}
use Rattle.layout.specs.Tables.{Tables, ample}
use Rattle.std.specs.Prelude.{Ok, Err}
use Rattle.calls.specs.Outcome.{Reply, Outcome, outcome, Result, guarded, told, refused_told}
use Rattle.store.specs.Calls.{opening, inserting, insert_answer, deleting}
use Rattle.store.specs.Tables.{ups_of, ends_of, room_for, free_slot}
use Rattle.calls.specs.declared.Order.{Order}
use Rattle.calls.specs.declared.Order.TheVariants.{Open, Insert, Delete, WithKey, Retrieve, Solve, Nothing}
use Rattle.orders.specs.Orders.{asked, ordered}
use Rattle.laws.specs.Sizes.{slot_count}

-- ask
pub asked_told : (o o' : Order) (T : Tables) (t : List ℕ) (room : ℕ) (out : List ℕ) (x : Outcome) → o ≡ o' → x ≡ told out (asked o' T t room) → x ≡ told out (asked o T t room)
asked_told o o' T t room out x e f = f ∙ ap (λ z. told out (asked z T t room)) (sym e)

pub log_told : (o : Order) (T : Tables) (t : List ℕ) (room : ℕ) (out : List ℕ) → (o ≡ WithKey → ⊥) → ((r : ℕ) → o ≡ Retrieve r → ⊥) → ((s : ℕ) → o ≡ Solve s → ⊥)
    → outcome (Err Refusal.Log) T out ≡ told out (asked o T t room)
log_told Open T t room out k r s = refused_told Refusal.Log T T out (refuse Refusal.Log) refl
log_told Insert T t room out k r s = refused_told Refusal.Log T T out (refuse Refusal.Log) refl
log_told (Delete n) T t room out k r s = refused_told Refusal.Log T T out (refuse Refusal.Log) refl
log_told Nothing T t room out k r s = refused_told Refusal.Log T T out (refuse Refusal.Log) refl
log_told WithKey T t room out k r s = absurd (k refl)
log_told (Retrieve n) T t room out k r s = absurd (r n refl)
log_told (Solve n) T t room out k r s = absurd (s n refl)

-- call, by ask
pub unchanging_told : (o : Order) (T : Tables) (t : List ℕ) (room : ℕ) (out : List ℕ) (x : Outcome) → (o ≡ Open → ⊥) → (o ≡ Insert → ⊥) → ((s : ℕ) → o ≡ Delete s → ⊥)
    → x ≡ told out (asked o T t room) → x ≡ told out (ordered o T t room)
unchanging_told WithKey T t room out x p i d e = e
unchanging_told (Retrieve r) T t room out x p i d e = e
unchanging_told (Solve s) T t room out x p i d e = e
unchanging_told Nothing T t room out x p i d e = e
unchanging_told Open T t room out x p i d e = absurd (p refl)
unchanging_told Insert T t room out x p i d e = absurd (i refl)
unchanging_told (Delete s) T t room out x p i d e = absurd (d s refl)

-- a call that writes nothing says so of every buffer
quiet : (r : Reply) (S : Tables) (out : List ℕ) (R : Result) → written R.answer ≡ [] → outcome r S [] ≡ told [] R → outcome r S out ≡ told out R
quiet (Ok n) S out R w e = rw w (ap (λ (o : Outcome). record o { out = out }) e)
quiet (Err v) S out R w e = rw w (ap (λ (o : Outcome). record o { out = out }) e)

either : (b : Bool) (x y : Answer) → written x ≡ [] → written y ≡ [] → written (pick b x y) ≡ []
either true x y f g = f
either false x y f g = g

guarded_writes : (T : Tables) (x : Answer) → written x ≡ [] → written (guarded T x) ≡ []
guarded_writes T x h = either (ample T) x (refuse Refusal.Table) h refl

open_writes : (T : Tables) (t : List ℕ) → written (opening T t).answer ≡ []
unfolding opening
open_writes T t = guarded_writes T (pick (eqb (sig_refusal t) 0) opened (refused (sig_refusal t))) (either (eqb (sig_refusal t) 0) opened (refused (sig_refusal t)) refl refl)

insert_writes : (T : Tables) (t : List ℕ) → written (inserting T t).answer ≡ []
unfolding inserting insert_answer
insert_writes T t =
    let sig = signature_of T.bytes in
    let s = slot (free_slot T.used) in
    let room = room_for T.link T.label (ups_of sig t) (ends_of sig t) in
    let roomy = pick room s (refuse Refusal.Keys) in
    let free = pick (ltb (free_slot T.used) slot_count) roomy (refuse Refusal.Full) in
    let no = refused (refusal sig t) in
    guarded_writes T (insert_answer T t)
    (either (eqb (refusal sig t) 0) free no
    (either (ltb (free_slot T.used) slot_count) roomy (refuse Refusal.Full) (either room s (refuse Refusal.Keys) refl refl) refl) refl)

delete_writes : (T : Tables) (s : ℕ) → written (deleting T s).answer ≡ []
unfolding deleting
delete_writes T s = guarded_writes T (pick (is_used T.used s) (slot s) (refuse Refusal.Slot)) (either (is_used T.used s) (slot s) (refuse Refusal.Slot) refl refl)

-- call, by the store
renamed : (o o' : Order) (T : Tables) (t : List ℕ) (room : ℕ) (out : List ℕ) (x : Outcome) → o ≡ o' → x ≡ told out (ordered o' T t room) → x ≡ told out (ordered o T t room)
renamed o o' T t room out x e f = f ∙ ap (λ z. told out (ordered z T t room)) (sym e)

pub open_told : (o : Order) (T S : Tables) (t : List ℕ) (room : ℕ) (out : List ℕ) (r : Reply) → o ≡ Open → outcome r S [] ≡ told [] (opening T t) → outcome r S out ≡ told out (ordered o T t room)
open_told o T S t room out r e f = renamed o Open T t room out (outcome r S out) e (quiet r S out (opening T t) (open_writes T t) f)

pub insert_told : (o : Order) (T S : Tables) (t : List ℕ) (room : ℕ) (out : List ℕ) (r : Reply) → o ≡ Insert → outcome r S [] ≡ told [] (inserting T t) → outcome r S out ≡ told out (ordered o T t room)
insert_told o T S t room out r e f = renamed o Insert T t room out (outcome r S out) e (quiet r S out (inserting T t) (insert_writes T t) f)

pub delete_told : (o : Order) (s : ℕ) (T S : Tables) (t : List ℕ) (room : ℕ) (out : List ℕ) (r : Reply) → o ≡ Delete s → outcome r S [] ≡ told [] (deleting T s) → outcome r S out ≡ told out (ordered o T t room)
delete_told o s T S t room out r e f = renamed o (Delete s) T t room out (outcome r S out) e (quiet r S out (deleting T s) (delete_writes T s) f)
