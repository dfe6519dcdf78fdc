-- Laws of the field at a place: what each answer of the tests is, and what a whole field says of the input.
use Prim.Native.Nat.{ℕ, ◌+◌, ◌-◌, ◌≤◌, ◌<◌}
use mathlib.Core.Path.{◌≡◌, refl, sym, ap, ◌∙◌}
use mathlib.Core.List.{List}
use native.Mathlib.Omega.{arith}
use native.Mathlib.Decide.{dec_le, dec_lt}
use lib.ListN.{length, get_or}
use borrow.Author.Tests.{le-leb, lt-leb, lt-ltb, le-ltb}
use Rattle.logfields.specs.Fields.{field_at, length_at}
use Rattle.logfields.specs.Reading.{past, place_after, taken_at}
use Rattle.logfields.specs.declared.reader.Taken.{Taken}
use Rattle.logfields.specs.declared.field.Field.{Field}
use Rattle.logfields.specs.declared.field.Field.TheVariants.{End, Cut, Whole}

pub field_end : (s : List ℕ) (at : ℕ) → length s ≤ at → End ≡ field_at s at
unfolding field_at
field_end s at h = rw (le-leb (length s) at h)

pub field_headless : (s : List ℕ) (at : ℕ) → at < length s → length s - at < 3 → Cut ≡ field_at s at
unfolding field_at
field_headless s at h g = rw (lt-leb (length s) at h, lt-ltb (length s - at) 3 g)

pub field_cut : (s : List ℕ) (at n : ℕ) → at < length s → 3 ≤ length s - at → n ≡ length_at s at → length s - at - 3 < n → Cut ≡ field_at s at
unfolding field_at
field_cut s at n h g e k = rw (lt-leb (length s) at h, le-ltb (length s - at) 3 g, ← e, lt-ltb (length s - at - 3) n k)

pub field_whole : (s : List ℕ) (at n : ℕ) → at < length s → 3 ≤ length s - at → n ≡ length_at s at → n ≤ length s - at - 3 → Whole (get_or s at 0) (at + 3) n ≡ field_at s at
unfolding field_at
field_whole s at n h g e k = rw (lt-leb (length s) at h, le-ltb (length s - at) 3 g, ← e, le-ltb (length s - at - 3) n k)

-- where the payload of a whole field stands
pub record Inside (s : List ℕ) (at start n : ℕ) : Type 0 where
  pub starts : start ≡ at + 3
  pub within : start + n ≤ length s

pub field_inside : (s : List ℕ) (at tag start n : ℕ) → field_at s at ≡ Whole tag start n → Inside s at start n
field_inside s at tag start n e = go (dec_le (length s) at) (dec_lt (length s - at) 3) (dec_lt (length s - at - 3) (length_at s at))
  where
    no_end : End ≡ field_at s at → ⊥
    no_end p = let z : ◌≡◌ {A = ℕ} 0 1 = cc in omega arith

    no_cut : Cut ≡ field_at s at → ⊥
    no_cut p = let z : ◌≡◌ {A = ℕ} 0 1 = cc in omega arith

    go : Dec (length s ≤ at) → Dec (length s - at < 3) → Dec (length s - at - 3 < length_at s at) → Inside s at start n
    go (yes a) b k = absurd (no_end (field_end s at a))
    go (no a) (yes b) k = absurd (no_cut (field_headless s at (omega arith) b))
    go (no a) (no b) (yes k) = absurd (no_cut (field_cut s at (length_at s at) (omega arith) (omega arith) refl k))
    go (no a) (no b) (no k) =
        let w = field_whole s at (length_at s at) (omega arith) (omega arith) refl (omega arith) in
        let p : start ≡ at + 3 = cc in
        let q : n ≡ length_at s at = cc in
        record { starts = p; within = omega arith }

-- the place after the field at a place lies within the log
pub past_within : (s : List ℕ) (at : ℕ) (f : Field) → f ≡ field_at s at → past f (length s) ≤ length s
past_within s at End e = omega arith
past_within s at Cut e = omega arith
past_within s at (Whole tag start n) e = (field_inside s at tag start n (sym e)).within

pub taken_is : (s : List ℕ) (at : ℕ) (f : Field) (p : ℕ) → f ≡ field_at s at → p ≡ past f (length s) → ◌≡◌ {A = Taken} (record { field = f; place = p }) (taken_at s at)
taken_is s at f p e g = let h : p ≡ place_after s at = g ∙ ap (λ x. past x (length s)) e in λ i. record { field = e i; place = h i }

pub past_whole : (f : Field) (tag start n end : ℕ) → f ≡ Whole tag start n → past f end ≡ start + n
past_whole f tag start n end e = ap (λ x. past x end) e

-- before the end, what is taken moves the reader on, and within the log
pub record Onward (s : List ℕ) (at place : ℕ) : Type 0 where
  pub on : at < place
  pub in_log : place ≤ length s

past_onward : (s : List ℕ) (at : ℕ) (f : Field) → at < length s → f ≡ field_at s at → Onward s at (past f (length s))
past_onward s at End h e = record { on = h; in_log = omega arith }
past_onward s at Cut h e = record { on = h; in_log = omega arith }
past_onward s at (Whole tag start n) h e = let w = field_inside s at tag start n (sym e) in record { on = omega (arith, w.starts); in_log = w.within }

pub taken_onward : (s : List ℕ) (at : ℕ) (t : Taken) → at < length s → t ≡ taken_at s at → Onward s at t.place
taken_onward s at t h e =
    let w = past_onward s at (field_at s at) h refl in
    let p : t.place ≡ place_after s at = ap (λ x. x.place) e in
    record { on = omega (arith, w.on); in_log = omega (arith, w.in_log) }

-- a whole field that was taken, and the place after it
pub record TakenWhole (s : List ℕ) (at start n place : ℕ) : Type 0 where
  pub inside : Inside s at start n
  pub place_is : place ≡ start + n

pub taken_whole : (s : List ℕ) (at tag start n : ℕ) (t : Taken) → t ≡ taken_at s at → t.field ≡ Whole tag start n → TakenWhole s at start n t.place
taken_whole s at tag start n t e g =
    let f : field_at s at ≡ Whole tag start n = sym (ap (λ x. x.field) e) ∙ g in
    record { inside = field_inside s at tag start n f; place_is = ap (λ x. x.place) e ∙ past_whole (field_at s at) tag start n (length s) f }
