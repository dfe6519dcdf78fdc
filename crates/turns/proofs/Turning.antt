-- Laws of one turn: the line and the stop by order are those of Turns.
use Prim.Native.Nat.{ℕ, ◌-◌}
use mathlib.Core.Path.{◌≡◌, refl, ap, ◌∙◌}
use mathlib.Core.Bool.{Bool, false}
use mathlib.Core.Option.{none}
use mathlib.Core.List.{List}
use native.Mathlib.Omega.{arith}
use borrow.Author.Tests.{ne_eqb}
use lib.ListN.{length}
use Rattle.laws.specs.Choice.{pick}
use Rattle.refusals.specs.declared.Refusal.{Refusal}
use Rattle.refusals.specs.Refusals.{number_of}
use Rattle.refusals.specs.Numbers.{number_some}
use Rattle.layout.specs.Tables.{Tables}
use Rattle.std.specs.Prelude.{Ok, Err}
use Rattle.calls.specs.declared.Numbers.{Numbers}
use Rattle.calls.specs.Outcome.{Reply, Outcome, outcome, told}
use Rattle.calls.specs.declared.Order.{Order}
use Rattle.calls.specs.declared.Order.TheVariants.{Open, Insert, Delete, WithKey, Retrieve, Solve, Nothing}
use Rattle.orders.specs.Orders.{ordered}
use Rattle.lines.specs.Lines.{Put}
use Rattle.tasks.specs.Operations.{payload}
use Rattle.tasks.specs.Ordered.{InLog, operation_of, operation_at, place_past}
use Rattle.answerlines.specs.Spoken.{spoken, ending, stopping}
use Rattle.turns.specs.Turns.{result_of, line_of, stops_after, made_at, line_at, Turned}

-- an order is the call that it is
ordered_is : (room : ℕ) (order : Order) (T : Tables) (t : List ℕ) → InLog order → ordered order T t room ≡ result_of room T (operation_of order t)
ordered_is room Open T t h = refl
ordered_is room Insert T t h = refl
ordered_is room (Delete s) T t h = refl
ordered_is room WithKey T t h = absurd h
ordered_is room (Retrieve r) T t h = refl
ordered_is room (Solve s) T t h = refl
ordered_is room Nothing T t h = refl

module _ (room : ℕ) (t out : List ℕ) (S : Tables) where
  line_done : (order : Order) (v : Numbers) → InLog order → (order ≡ Nothing → ⊥) → spoken order (Ok v) out ≡ line_of (operation_of order t) (outcome (Ok v) S out)
  line_done Open v h n = refl
  line_done Insert v h n = refl
  line_done (Delete s) v h n = refl
  line_done WithKey v h n = absurd h
  line_done (Retrieve r) v h n = refl
  line_done (Solve s) v h n = refl
  line_done Nothing v h n = absurd (n refl)

  line_refused : (order : Order) (w : Refusal) → InLog order → spoken order (Err w) out ≡ line_of (operation_of order t) (outcome (Err w) S out)
  line_refused Open w h = rw (ne_eqb (number_of w) 0 (number_some w))
  line_refused Insert w h = rw (ne_eqb (number_of w) 0 (number_some w))
  line_refused (Delete s) w h = rw (ne_eqb (number_of w) 0 (number_some w))
  line_refused WithKey w h = absurd h
  line_refused (Retrieve r) w h = rw (ne_eqb (number_of w) 0 (number_some w))
  line_refused (Solve s) w h = rw (ne_eqb (number_of w) 0 (number_some w))
  line_refused Nothing w h = refl

  stop_done : (order : Order) (v : Numbers) → InLog order → (order ≡ Nothing → ⊥) → false ≡ stops_after (operation_of order t) (outcome (Ok v) S out).refused
  stop_done Open v h n = refl
  stop_done Insert v h n = refl
  stop_done (Delete s) v h n = refl
  stop_done WithKey v h n = absurd h
  stop_done (Retrieve r) v h n = refl
  stop_done (Solve s) v h n = refl
  stop_done Nothing v h n = absurd (n refl)

  stop_refused : (order : Order) (w : Refusal) → InLog order → ending order ≡ stops_after (operation_of order t) (outcome (Err w) S out).refused
  stop_refused Open w h = rw (ne_eqb (number_of w) 0 (number_some w))
  stop_refused Insert w h = refl
  stop_refused (Delete s) w h = refl
  stop_refused WithKey w h = absurd h
  stop_refused (Retrieve r) w h = refl
  stop_refused (Solve s) w h = refl
  stop_refused Nothing w h = refl

  -- what is no order is refused
  module _ (T : Tables) (out₀ : List ℕ) where
    some_order : (order : Order) (v : Numbers) → outcome (Ok v) S out ≡ told out₀ (result_of room T (operation_of order t)) → order ≡ Nothing → ⊥
    some_order order v e n =
        let f : outcome (Ok v) S out ≡ told out₀ (result_of room T none) = rw n at e in
        let z : ◌≡◌ {A = ℕ} 0 16 = ap (λ (o : Outcome). o.refused) f in
        omega arith

    line_is : (order : Order) (reply : Reply) → InLog order → outcome reply S out ≡ told out₀ (result_of room T (operation_of order t)) → spoken order reply out ≡ line_of (operation_of order t) (outcome reply S out)
    line_is order (Ok v) h e = line_done order v h (some_order order v e)
    line_is order (Err w) h e = line_refused order w h

    stop_is : (order : Order) (reply : Reply) → InLog order → outcome reply S out ≡ told out₀ (result_of room T (operation_of order t)) → stopping order reply ≡ stops_after (operation_of order t) (outcome reply S out).refused
    stop_is order (Ok v) h e = stop_done order v h (some_order order v e)
    stop_is order (Err w) h e = stop_refused order w h

tables_in : (reply : Reply) (S : Tables) (out : List ℕ) (o : Outcome) → outcome reply S out ≡ o → (S ≡ o.after) × (out ≡ o.out)
tables_in (Ok v) S out o e = (ap (λ (x : Outcome). x.after) e, ap (λ (x : Outcome). x.out) e)
tables_in (Err w) S out o e = (ap (λ (x : Outcome). x.after) e, ap (λ (x : Outcome). x.out) e)

-- A TURN, from the contracts of its four calls
pub turn_made : (s : List ℕ) (at : ℕ) (T : Tables) (out₀ line₀ : List ℕ) (S : Tables) (out line : List ℕ) (written next : ℕ)
    (order : Order) (start end : ℕ) (reply : Reply) (stop : Bool)
    → end ≡ place_past s at
    → operation_of order (payload s start (end - start)) ≡ operation_at s at
    → InLog order
    → outcome reply S out ≡ told out₀ (ordered order T (payload s start (end - start)) (length out₀))
    → Put line₀ line 0 (spoken order reply out) written
    → stop ≡ stopping order reply
    → next ≡ pick stop (length s) end
    → Turned s at T out₀ line₀ S out line written next
turn_made s at T out₀ line₀ S out line written next order start end reply stop past c inside made put halt go =
    let room = length out₀ in
    let t = payload s start (end - start) in
    let e : outcome reply S out ≡ told out₀ (result_of room T (operation_of order t)) = rw (← ordered_is room order T t inside) made in
    let m : outcome reply S out ≡ made_at s at T out₀ = rw c at e in
    let w = tables_in reply S out (made_at s at T out₀) m in
    let l : spoken order reply out ≡ line_at s at T out₀ = line_is room t out S T out₀ order reply inside e ∙ rw (c, m) refl in
    let h : stop ≡ stops_after (operation_at s at) (made_at s at T out₀).refused = halt ∙ (stop_is room t out S T out₀ order reply inside e ∙ rw (c, m) refl) in
    record { tables = w.0; buffer = w.1; text = rw (← l) put; place = go ∙ rw (h, past) refl }
