-- What the tests of a call tell, and the ways out of every call, over plain contents of the tables.
use Prim.Native.Nat.{ℕ}
use mathlib.Core.Path.{◌≡◌, sym, ap, ◌∙◌}
use mathlib.Core.List.{List}
use mathlib.Core.Bool.{Bool, true, false}
use borrow.Author.Tests.{ne_eqb, eq-eqb}
use lib.Dec.{eqb}
use lib.ListN.{length}
use lib.Seq.{sets}
use Rattle.laws.specs.Choice.{pick}
use Rattle.refusals.specs.declared.Refusal.{Refusal}
use Rattle.std.specs.Prelude.{Ok, Err}
use Rattle.refusals.specs.Refusals.{Checked, number_of, checked_number}
use Rattle.refusals.specs.Numbers.{number_some}
use Rattle.definitions.specs.Answers.{Answer, refused, done, refuse}
use Rattle.layout.specs.Layout.{long_enough, Long}
use Rattle.layout.specs.Tables.{Tables, ample}
use Rattle.layout.proofs.LayoutLaws.{long}
use Rattle.calls.specs.Outcome.{outcome, told, result, guarded, refused_told, done_told}

-- what the test of the lengths tells; r is what it answered
module _ (T : Tables) (r : Bool) (e : r ≡ long_enough (length T.bytes) (length T.used) (length T.label) (length T.link) (length T.s0) (length T.s1) (length T.s2) (length T.s3)) where
  pub ample_not : r ≡ false → ample T ≡ false
  unfolding ample
  ample_not f = sym e ∙ f

  pub ample_is : r ≡ true → ample T ≡ true
  unfolding ample
  ample_is f = sym e ∙ f

pub lengths : (b u l k c d e f : ℕ) (r : Bool) → r ≡ long_enough b u l k c d e f → r ≡ true → Long b u l k c d e f
lengths b u l k c d e f r p q = long b u l k c d e f (sym p ∙ q)

-- THE WAYS OUT of a call that looks at the tables' lengths first
module _ (T S : Tables) (out : List ℕ) (x : Answer) where
  pub too_short : ample T ≡ false → outcome (Err Refusal.Table) T out ≡ told out (result (guarded T x) T S)
  too_short a = refused_told Refusal.Table T S out (guarded T x) (rw a)

  pub refuses : (w : Refusal) → ample T ≡ true → x ≡ refuse w → outcome (Err w) T out ≡ told out (result (guarded T x) T S)
  refuses w a e = refused_told w T S out (guarded T x) (rw a e)

  pub answers : (p q : ℕ) (w : List ℕ) (S' : Tables) (out' : List ℕ) → ample T ≡ true → x ≡ done p q w → S' ≡ S → out' ≡ sets out 0 w → outcome (Ok (record { first = p; second = q })) S' out' ≡ told out (result (guarded T x) T S)
  answers p q w S' out' a e f g = done_told p q w T S S' out out' (guarded T x) (rw a e) f g

-- what a check of number n has shown
module _ (n : ℕ) (k : Checked) (e : checked_number k ≡ n) where
  pub bad : (w : Refusal) (a : Answer) → k ≡ Err w → pick (eqb n 0) a (refused n) ≡ refuse w
  bad w a f = let z : number_of w ≡ n = sym (ap checked_number f) ∙ e in rw (ne_eqb n 0 (λ y. number_some w (z ∙ y)), z)

  pub fine : k ≡ Ok tt → eqb n 0 ≡ true
  fine f = eq-eqb n 0 (sym e ∙ ap checked_number f)

  pub checked_taken : k ≡ Ok tt → n ≡ 0
  checked_taken f = sym e ∙ ap checked_number f
