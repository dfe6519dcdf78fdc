use Rattle.std.proofs.Common.{◌+◌, ◌*◌, ◌-◌, ◌≤◌, ◌<◌}
use Rattle.laws.specs.Sizes.{answer_room}
use Rattle.cases.proofs.main.Given as goal

abbrev pub invariant-loop-place : goal.invariant-loop-place
invariant-loop-place l = (l.n ≤ 65536) × (l.place.round < 16777216) × (l.place.room ≤ answer_room)

abbrev pub decreases-loop-place : goal.decreases-loop-place
decreases-loop-place l = l.n * 16777216 + 16777216 - (l.place.at * 16777216 + l.place.round)
