use Rattle.std.proofs.Common.{◌≡◌, ◌<◌, drop}
use Rattle.caselines.specs.Said.{sum_from, checksum_of}
use Rattle.caselines.proofs.checksum.Given as goal

abbrev pub invariant-loop-b : goal.invariant-loop-b
invariant-loop-b l = (l.sum < 65521) × (sum_from l.sum (drop l.b-index l.bytes) ≡ checksum_of l.bytes)
