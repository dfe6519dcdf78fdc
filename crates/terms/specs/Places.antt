-- SCOPE.md, 'Term bytes': 'the part of the caller's own bytes where it stands'. A place is a block of memory and an
-- offset in it; a slice's place is that of its first byte. What follows of it: proofs/PlaceLaws.antt.
use Rattle.std.specs.Prelude.{ℕ, ◌+◌}

-- the place of a part that begins n bytes after a place
abbrev pub part_place : ℕ × ℕ → ℕ → ℕ × ℕ
part_place place n = (place.0, n + place.1)
