-- The law of what a case lends: the call of main.rt is that of Lent.antt.
use Prim.Native.Nat.{ℕ, ◌≤◌}
use mathlib.Core.Path.{◌≡◌, refl, sym, ap, ◌∙◌}
use mathlib.Core.List.{List, ◌++◌}
use lib.ListN.{length, take, drop}
use lib.Seq.{length-take-le}
use Rattle.layout.specs.Tables.{Tables, held}
use Rattle.std.specs.Prelude.{Ok, Err}
use Rattle.calls.specs.Outcome.{Reply, Outcome, outcome, told}
use Rattle.calls.specs.declared.Order.{Order}
use Rattle.orders.specs.Orders.{ordered}
use Rattle.casetext.specs.declared.Case.{Case}
use Rattle.cases.specs.declared.Place.{Place}
use Rattle.caselines.specs.Said.{order_of}
use Rattle.cases.specs.Lent.{lent_length, case_outcome}

-- what comes out with the parts behind that were not lent
module _ (b u l k c d e f out : List ℕ) where
  behind : Outcome → Outcome
  behind o = record {
    refused = o.refused;
    first = o.first;
    second = o.second;
    after = held (o.after.bytes ++ b) (o.after.used ++ u) (o.after.label ++ l) (o.after.link ++ k) (o.after.s0 ++ c) (o.after.s1 ++ d) (o.after.s2 ++ e) (o.after.s3 ++ f);
    out = o.out ++ out;
  }

  put_behind : (reply : Reply) (T : Tables) (o : List ℕ) → outcome reply (held (T.bytes ++ b) (T.used ++ u) (T.label ++ l) (T.link ++ k) (T.s0 ++ c) (T.s1 ++ d) (T.s2 ++ e) (T.s3 ++ f)) (o ++ out) ≡ behind (outcome reply T o)
  unfolding behind
  put_behind (Ok n) T o = refl
  put_behind (Err w) T o = refl

pub lend_made : (case : Case) (place : Place) (given b u l k c d e f out : List ℕ) (n0 n1 n2 n3 n4 n5 n6 n7 : ℕ) (order : Order) (reply : Reply) (S : Tables) (o : List ℕ)
    → n0 ≡ lent_length place.short 0 (length b) → n1 ≡ lent_length place.short 1 (length u) → n2 ≡ lent_length place.short 2 (length l) → n3 ≡ lent_length place.short 3 (length k)
    → n4 ≡ lent_length place.short 4 (length c) → n5 ≡ lent_length place.short 5 (length d) → n6 ≡ lent_length place.short 6 (length e) → n7 ≡ lent_length place.short 7 (length f)
    → order ≡ order_of case.word case.number
    → place.room ≤ length out
    → outcome reply S o ≡ told (take place.room out) (ordered order (held (take n0 b) (take n1 u) (take n2 l) (take n3 k) (take n4 c) (take n5 d) (take n6 e) (take n7 f)) (take case.length given) (length (take place.room out)))
    → outcome reply (held (S.bytes ++ drop n0 b) (S.used ++ drop n1 u) (S.label ++ drop n2 l) (S.link ++ drop n3 k) (S.s0 ++ drop n4 c) (S.s1 ++ drop n5 d) (S.s2 ++ drop n6 e) (S.s3 ++ drop n7 f)) (o ++ drop place.room out)
    ≡ case_outcome case place given (held b u l k c d e f) out
unfolding behind
lend_made case place given b u l k c d e f out n0 n1 n2 n3 n4 n5 n6 n7 order reply S o e0 e1 e2 e3 e4 e5 e6 e7 eo h made =
    let m : outcome reply S o ≡ told (take place.room out) (ordered order (held (take n0 b) (take n1 u) (take n2 l) (take n3 k) (take n4 c) (take n5 d) (take n6 e) (take n7 f)) (take case.length given) place.room)
    = rw (length-take-le place.room out h) at made in
    let g = put_behind (drop n0 b) (drop n1 u) (drop n2 l) (drop n3 k) (drop n4 c) (drop n5 d) (drop n6 e) (drop n7 f) (drop place.room out) reply S o ∙ ap (behind (drop n0 b) (drop n1 u) (drop n2 l) (drop n3 k) (drop n4 c) (drop n5 d) (drop n6 e) (drop n7 f) (drop place.room out)) m in
    rw (sym e0, sym e1, sym e2, sym e3, sym e4, sym e5, sym e6, sym e7, sym eo) g
