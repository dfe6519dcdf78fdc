use Prim.Native.Nat.{ℕ, ◌+◌, ◌-◌, ◌*◌, ◌/◌, ◌%◌, ◌<◌, ◌≤◌}
use mathlib.Core.Path.{◌≡◌, ◌∙◌}
use mathlib.Core.List.{[], ◌∷◌}
use native.Mathlib.Omega.{arith}
use lib.ListN.{length}
use Rattle.laws.specs.Sizes.{slot_count}
use Rattle.slots.specs.Slots.{members}
use Rattle.listing.proofs.Listing.{left_slot, list_rest, list_turn, list_end, pair_is}
use Rattle.listing.proofs.write.Goals as goal

pub overflow_cast-slot : goal.overflow_cast-slot
overflow_cast-slot c = let b = left_slot _ _ _ _ c.in-Some.ensures.steps.0 in omega (arith, b)

pub loop-i-preserved : goal.loop-i-preserved
loop-i-preserved c =
    let l = c.loop-i in
    let s = c.in-Some.ensures.steps in
    let slot : ℕ = c.in-Some.slot in
    let b : slot < slot_count = left_slot _ _ _ _ s.0 in
    let two : c.copy_from_slice.new.self ≡ slot / 256 ∷ slot % 256 ∷ [] =
    c.copy_from_slice.ensures.after ∙ c.to_be_bytes.ensures ∙ pair_is _ _ _ _ (omega (arith, b)) (omega (arith, b)) in
    let g : 2 * l.i-iterator.count + 2 - 2 * l.i-iterator.count ≡ 2 = omega arith in
    let room : 2 * length (members c.args.set.words) ≤ length l.out = omega (arith, c.requires, l.auto.out) in
    rw (s.2, s.1)
    (list_rest _ _ _ _ _ l.invariant.0 l.invariant.1 _ _ s.0, list_turn _ _ _ _ _ l.invariant.0 l.invariant.1 _ _ s.0 _ _ g two room)

pub returns : goal.returns
returns c = let l = c.loop-i in list_end _ _ _ _ _ l.invariant.0 l.invariant.1 c.in-None.ensures.steps.0.0
