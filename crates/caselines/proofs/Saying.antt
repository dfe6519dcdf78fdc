-- Laws of the checksum of Said.antt, one byte after another.
use Rattle.std.proofs.Common.{drop_of_length-le}
use Prim.Native.Nat.{ℕ, ◌+◌, ◌*◌, ◌%◌, ◌≤◌, ◌<◌}
use mathlib.Core.Path.{◌≡◌, refl}
use mathlib.Core.List.{List}
use native.Mathlib.Numerals.{add-one}
use lib.ListN.{length, drop, get_or}
use lib.Seq.{drop-cons}
use Rattle.caselines.specs.Said.{sum_from}

-- one byte more of a checksum
pub sum_turn : (s i : ℕ) (bytes : List ℕ) → i < length bytes → sum_from s (drop i bytes) ≡ sum_from ((s * 31 + get_or bytes i 0) % 65521) (drop (i + 1) bytes)
unfolding sum_from
sum_turn s i bytes h = rw (add-one, drop-cons bytes i 0 h) refl

pub sum_end : (s i : ℕ) (bytes : List ℕ) → length bytes ≤ i → sum_from s (drop i bytes) ≡ s
unfolding sum_from
sum_end s i bytes h = rw (drop_of_length-le bytes h) refl
