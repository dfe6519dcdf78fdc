use mathlib.Core.Path.{refl}
use Rattle.slots.specs.Slots.{members}
use Rattle.listing.proofs.members.Goals as goal

pub returns : goal.returns
unfolding members
returns c = (refl, refl, refl)
