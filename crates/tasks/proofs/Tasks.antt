-- Laws of the order that a field's bytes give: each way out of `task_at` is the operation at the place.
use Prim.Native.Nat.{ℕ, ◌+◌, ◌-◌, ◌≤◌}
use mathlib.Core.Path.{◌≡◌, refl, sym, ap, ◌∙◌}
use mathlib.Core.Option.{none}
use mathlib.Core.List.{List}
use native.Mathlib.Omega.{arith}
use borrow.Author.Tests.{le-ltb}
use lib.Dec.{eqb}
use lib.ListN.{length, drop, length-drop}
use lib.Seq.{length-take-le}
use Rattle.std.proofs.Common.{◌⊎◌, inl, inr}
use Rattle.laws.specs.Choice.{pick}
use Rattle.laws.proofs.Lists.{part_rest}
use Rattle.laws.specs.Sizes.{input_limit}
use Rattle.logfields.specs.declared.field.Field.{Field}
use Rattle.logfields.specs.declared.field.Field.TheVariants.{End, Cut, Whole}
use Rattle.logfields.specs.declared.reader.Taken.{Taken}
use Rattle.logfields.specs.Fields.{field_at}
use Rattle.logfields.specs.Reading.{taken_at}
use Rattle.logfields.proofs.Fields.{taken_whole, past_within}
use Rattle.calls.specs.declared.Order.{Order}
use Rattle.calls.specs.declared.Order.TheVariants.{Nothing}
use Rattle.tasks.specs.Operations.{first_operation, later_operation, payload, operation_in}
use Rattle.tasks.specs.Ordered.{fixed_part, InLog, operation_of, Ordered, operation_at, place_past}

-- THE FIELD AT A PLACE: where its order's rest ends, and which operation it is
pub record Tasked (s : List ℕ) (at : ℕ) (order : Order) (start end : ℕ) : Type 0 where
  pub ordered : start ≤ end
  pub within : end ≤ length s
  pub past : end ≡ place_past s at
  pub logged : InLog order
  pub operation : operation_of order (payload s start (end - start)) ≡ operation_at s at

module _ (s : List ℕ) (at : ℕ) where
  module _ (t : Taken) (h : length s ≤ input_limit) (e : t ≡ taken_at s at) where
    place_is : t.place ≡ place_past s at
    unfolding place_past
    place_is = rw (le-ltb input_limit (length s) h) (ap (λ x. x.place) e)

    in_log : t.place ≤ length s
    in_log = omega (arith, past_within s at (field_at s at) refl, ap (λ x. x.place) e)

    call_is : (f : Field) → t.field ≡ f → operation_in (eqb at 0) s f ≡ operation_at s at
    unfolding operation_at
    call_is f g =
        let w : f ≡ field_at s at = sym g ∙ ap (λ x. x.field) e in
        rw (le-ltb input_limit (length s) h) (ap (operation_in (eqb at 0) s) w)

    -- nothing more, or a cut field
    pub task_none : (t.field ≡ End) ⊎ (t.field ≡ Cut) → Tasked s at Nothing 0 t.place
    task_none g = record { ordered = omega arith; within = in_log; past = place_is; logged = tt; operation = none_is g }
      where
        none_is : (t.field ≡ End) ⊎ (t.field ≡ Cut) → none ≡ operation_at s at
        none_is (inl g) = call_is End g
        none_is (inr g) = call_is Cut g

    pub task_whole : (tag start n : ℕ) (order : Order) (k : ℕ) → t.field ≡ Whole tag start n → k ≡ fixed_part order
        → Ordered order (payload s start (t.place - start)) (pick (eqb at 0) (first_operation tag (payload s start (t.place - start))) (later_operation tag (payload s start (t.place - start))))
        → Tasked s at order (start + k) t.place
    task_whole tag start n order k g q z =
        let w = taken_whole s at tag start n t e g in
        let m : t.place - start ≡ n = omega (arith, w.place_is) in
        let o : Ordered order (payload s start n) (operation_in (eqb at 0) s (Whole tag start n)) = rw m at z in
        let b : length (payload s start n) ≡ n = length-take-le n (drop start s) (omega (arith, length-drop start s, w.inside.within)) in
        let l : k ≤ n = omega (arith, o.fixed, b, q) in
        let r : t.place - (start + k) ≡ n - k = omega (arith, w.place_is) in
        let x : payload s (start + k) (t.place - (start + k)) ≡ drop (fixed_part order) (payload s start n) = rw (r, ← q) (part_rest s start k n l) in
        record {
          ordered = omega (arith, w.place_is);
          within = in_log;
          past = place_is;
          logged = o.logged;
          operation = ap (operation_of order) x ∙ (o.operation ∙ call_is (Whole tag start n) g);
        }
