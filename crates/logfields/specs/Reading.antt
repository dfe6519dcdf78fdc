-- SCOPE.md, 'The log program': the fields of a log, one after another.
use Rattle.std.specs.Prelude.{ℕ, zero, suc, ◌+◌, ◌-◌, List, [], ◌∷◌, length}
use Rattle.logfields.specs.Fields.{field_at}
use Rattle.logfields.specs.declared.field.Field.{Field}
use Rattle.logfields.specs.declared.field.Field.TheVariants.{End, Cut, Whole}
use Rattle.logfields.specs.declared.reader.Taken.{Taken}

-- where the field after a field starts: past its payload; after a cut field nothing is read, nor after the end
abbrev pub past : Field → ℕ → ℕ
past End end = end
past Cut end = end
past (Whole tag start n) end = start + n

abbrev pub place_after : List ℕ → ℕ → ℕ
place_after s at = past (field_at s at) (length s)

-- the field at a place, and the place after it
abbrev pub taken_at : List ℕ → ℕ → Taken
taken_at s at = record { field = field_at s at; place = place_after s at }

-- a field before those that follow it; at the end there is none
unfoldable pub field_before : Field → List Field → List Field
field_before End fs = []
field_before Cut fs = Cut ∷ fs
field_before (Whole tag start n) fs = Whole tag start n ∷ fs

-- at most k fields from a place on
unfoldable pub fields_within : ℕ → List ℕ → ℕ → List Field
fields_within zero s at = []
fields_within (suc k) s at = field_before (field_at s at) (fields_within k s (place_after s at))

-- the fields from a place on, up to the first cut one: never more than there are bytes
unfoldable pub fields_from : List ℕ → ℕ → List Field
fields_from s at = fields_within (length s - at) s at

-- the fields of a log
abbrev pub fields_of : List ℕ → List Field
fields_of s = fields_from s 0

-- the field number i of a list, and the end where there is none
unfoldable pub field_or : List Field → ℕ → Field
field_or [] i = End
field_or (f ∷ fs) zero = f
field_or (f ∷ fs) (suc i) = field_or fs i

-- the place where a reader stands that has taken i fields from a place on
unfoldable pub place_of : List ℕ → ℕ → ℕ → ℕ
place_of s at zero = at
place_of s at (suc i) = place_of s (place_after s at) i
