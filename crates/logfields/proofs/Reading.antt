-- Laws of a log's fields: each field that is taken is the first of those that are left.
use Prim.Native.Nat.{ℕ, zero, suc, ◌-◌, ◌≤◌, ◌<◌}
use mathlib.Core.Path.{◌≡◌, refl, sym, ap, ◌∙◌}
use mathlib.Core.List.{List, [], ◌∷◌}
use native.Mathlib.Omega.{arith}
use lib.ListN.{length}
use Rattle.logfields.specs.Fields.{field_at}
use Rattle.logfields.specs.Reading.{past, place_after, taken_at, field_before, fields_within, fields_from, field_or, place_of}
use Rattle.logfields.specs.declared.field.Field.{Field}
use Rattle.logfields.specs.declared.reader.Taken.{Taken}
use Rattle.logfields.specs.declared.field.Field.TheVariants.{End, Cut, Whole}
use Rattle.logfields.proofs.Fields.{field_end, field_inside}

-- nothing is left at the end
within_done : (k : ℕ) (s : List ℕ) (at : ℕ) → length s ≤ at → fields_within k s at ≡ []
unfolding fields_within field_before
within_done zero s at h = refl
within_done (suc k) s at h = rw (sym (field_end s at h)) refl

-- the fields do not depend on how many there may be
step_enough : (j k : ℕ) (s : List ℕ) (at : ℕ) (f : Field) → f ≡ field_at s at → (at < past f (length s) → fields_within j s (past f (length s)) ≡ fields_within k s (past f (length s)))
    → field_before f (fields_within j s (past f (length s))) ≡ field_before f (fields_within k s (past f (length s)))
unfolding field_before
step_enough j k s at End e r = refl
step_enough j k s at Cut e r = ap (λ l. Cut ∷ l) (within_done j s (length s) (omega arith) ∙ sym (within_done k s (length s) (omega arith)))
step_enough j k s at (Whole tag start n) e r =
    let w = field_inside s at tag start n (sym e) in
    ap (λ l. Whole tag start n ∷ l) (r (omega (arith, w.starts)))

within_enough : (j k : ℕ) (s : List ℕ) (at : ℕ) → length s - at ≤ j → length s - at ≤ k → fields_within j s at ≡ fields_within k s at
unfolding fields_within
within_enough zero k s at h g = sym (within_done k s at (omega arith))
within_enough (suc j) zero s at h g = within_done (suc j) s at (omega arith)
within_enough (suc j) (suc k) s at h g = step_enough j k s at (field_at s at) refl (λ less. within_enough j k s (place_after s at) (omega arith) (omega arith))

-- what is left at a place: the field there, and what is left at the place after it
pub next_first : (s : List ℕ) (at : ℕ) → fields_from s at ≡ field_before (field_at s at) (fields_from s (place_after s at))
unfolding fields_from fields_within
next_first s at =
    within_enough (length s - at) (suc (length s)) s at (omega arith) (omega arith)
    ∙ step_enough (length s) (length s - place_after s at) s at (field_at s at) refl (λ less. within_enough (length s) (length s - place_after s at) s (place_after s at) (omega arith) (omega arith))

-- past the end a reader finds the end, however often it is asked
stays_end : (i : ℕ) (s : List ℕ) (at : ℕ) → length s ≤ at → End ≡ field_at s (place_of s at i)
unfolding place_of
stays_end zero s at h = field_end s at h
stays_end (suc i) s at h = stays_end i s (place_after s at) (let e : place_after s at ≡ length s = ap (λ f. past f (length s)) (sym (field_end s at h)) in omega arith)

first_is : (f : Field) (fs : List Field) → field_or (field_before f fs) 0 ≡ f
unfolding field_or field_before
first_is End fs = refl
first_is Cut fs = refl
first_is (Whole tag start n) fs = refl

later_is : (i : ℕ) (s : List ℕ) (f : Field) (fs : List Field) → field_or fs i ≡ field_at s (place_of s (past f (length s)) i) → field_or (field_before f fs) (suc i) ≡ field_at s (place_of s (past f (length s)) i)
unfolding field_or field_before
later_is i s End fs e = stays_end i s (length s) (omega arith)
later_is i s Cut fs e = e
later_is i s (Whole tag start n) fs e = e

-- the fields that a reader takes one after another from a place on are those of the log from there, in their order, and then the end
pub taken_in_order : (i : ℕ) (s : List ℕ) (at : ℕ) → field_or (fields_from s at) i ≡ field_at s (place_of s at i)
unfolding place_of
taken_in_order zero s at = ap (λ l. field_or l 0) (next_first s at) ∙ first_is (field_at s at) (fields_from s (place_after s at))
taken_in_order (suc i) s at =
    ap (λ l. field_or l (suc i)) (next_first s at)
    ∙ later_is i s (field_at s at) (fields_from s (place_after s at)) (taken_in_order i s (place_after s at))

-- what a reader gives next: nothing at the end, and else the first field of those that are left
pub next_none : (s : List ℕ) (at : ℕ) (t : Taken) → t ≡ taken_at s at → t.field ≡ End → (fields_from s at ≡ []) × (fields_from s t.place ≡ [])
unfolding fields_from field_before
next_none s at t e g =
    let f : field_at s at ≡ End = sym (ap (λ x. x.field) e) ∙ g in
    let p : t.place ≡ length s = ap (λ x. x.place) e ∙ ap (λ x. past x (length s)) f in
    (next_first s at ∙ ap (λ x. field_before x (fields_from s (place_after s at))) f, within_done (length s - t.place) s t.place (omega (arith, p)))

before_some : (f : Field) (fs : List Field) → (f ≡ End → ⊥) → field_before f fs ≡ f ∷ fs
unfolding field_before
before_some End fs h = absurd (h refl)
before_some Cut fs h = refl
before_some (Whole tag start n) fs h = refl

pub next_some : (s : List ℕ) (at : ℕ) (t : Taken) → t ≡ taken_at s at → (t.field ≡ End → ⊥) → fields_from s at ≡ t.field ∷ fields_from s t.place
next_some s at t e g =
    let f = ap (λ x. x.field) e in let p = ap (λ x. x.place) e in
    rw (f, p) (next_first s at ∙ before_some (field_at s at) (fields_from s (place_after s at)) (λ z. g (f ∙ z)))
