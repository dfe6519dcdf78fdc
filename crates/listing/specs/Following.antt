-- SCOPE.md, 'Paths and keys': the least slot of a set from a number on, or none; and the slots that a walk over a set
-- has before it.
use Rattle.std.specs.Prelude.{ℕ, ◌-◌, ◌<◌, ◌≡◌, refl, List, Option, Some, None}
use Rattle.std.proofs.Common.{ap, arith}
use Rattle.slots.specs.Slots.{Next, next_one, members_from}
use Rattle.laws.specs.Sizes.{slot_count}
use Rattle.listing.specs.declared.Ascending.{Ascending}

abbrev pub NextSlot : List ℕ → ℕ → Option ℕ → Type 0
NextSlot ws from None = Next ws from slot_count
NextSlot ws from (Some slot) = (slot < slot_count) × Next ws from slot

-- it leaves one answer
pub next_slot_one : (ws : List ℕ) (from : ℕ) (a b : Option ℕ) → NextSlot ws from a → NextSlot ws from b → a ≡ b
next_slot_one ws from None None h k = refl
next_slot_one ws from None (Some b) h k = absurd (omega (arith, k.0, next_one ws from slot_count b h k.1))
next_slot_one ws from (Some a) None h k = absurd (omega (arith, h.0, next_one ws from a slot_count h.1 k))
next_slot_one ws from (Some a) (Some b) h k = ap (λ (z : ℕ). Some z) (next_one ws from a b h.1 k.1)

abbrev pub left : Ascending → List ℕ
left m = members_from m.set.words m.from (slot_count - m.from)
