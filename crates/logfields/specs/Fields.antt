-- SCOPE.md, 'The log program': the field that starts at a place of the input.
use Rattle.std.specs.Prelude.{ℕ, ◌+◌, ◌-◌, ◌*◌, List, length, get_or, ltb, leb}
use Rattle.laws.specs.Choice.{pick}
use Rattle.logfields.specs.declared.field.Field.{Field}
use Rattle.logfields.specs.declared.field.Field.TheVariants.{End, Cut, Whole}

-- the length that the second and third byte of a field say
abbrev pub length_at : List ℕ → ℕ → ℕ
length_at s at = get_or s (at + 1) 0 * 256 + get_or s (at + 2) 0

-- nothing left: End; a head or a payload that runs past the end: Cut; else the tag, and where the payload stands
unfoldable pub field_at : List ℕ → ℕ → Field
field_at s at =
    pick (leb (length s) at) End
    (pick (ltb (length s - at) 3) Cut
    (pick (ltb (length s - at - 3) (length_at s at)) Cut
    (Whole (get_or s at 0) (at + 3) (length_at s at))))
