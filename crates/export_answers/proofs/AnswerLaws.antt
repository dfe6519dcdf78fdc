-- What the exported functions tell: of a call over the tables, of one pair.
use Prim.Native.Nat.{ℕ}
use mathlib.Core.Path.{◌≡◌, sym, ap, ◌∙◌}
use mathlib.Core.List.{List}
use lib.ListN.{length}
use borrow.Author.Tests.{eq-eqb, ne_eqb}
use Rattle.refusals.specs.Numbers.{number_some}
use Rattle.theory.specs.Relations.{Unifiable as Unifies}
use Rattle.pairs.specs.Pairs.{pair_refusal, Answers}
use Rattle.refusals.specs.declared.Refusal.{Refusal}
use Rattle.std.specs.Prelude.{Bool, true, false, Result, Ok, Err}
use Rattle.export_answers.specs.Pair.{paired_number, paired_answer, Told}
use Rattle.definitions.specs.Answers.{first_in, second_in}
use Rattle.layout.specs.Tables.{Tables}
use Rattle.calls.specs.Outcome.{Reply, Outcome, outcome, told}
use Rattle.library.specs.Store.{Call, room_of}
use Rattle.meaning.specs.Runs.{carried, Tells, TellsFirst, TellsBoth, told_number}
use Rattle.export_answers.specs.Replies.{reply_number, first_told, second_of}

-- the answer about one pair, as it goes to C
pub told_pair : (sig s q : List ℕ) (a : Result Bool Refusal) (r was is : ℕ) → Answers sig s q a → r ≡ paired_number a → is ≡ paired_answer a was → (r ≡ pair_refusal sig s q) × Told r was is (Unifies sig s q)
told_pair sig s q (Ok true) r was is h e f = (e ∙ sym h.0, record { refused = λ n. absurd (n e); yes = λ z p. f; no = λ z n. absurd (n h.1) })
told_pair sig s q (Ok false) r was is h e f = (e ∙ sym h.0, record { refused = λ n. absurd (n e); yes = λ z p. absurd (h.1 p); no = λ z n. f })
told_pair sig s q (Err why) r was is h e f = (e ∙ h, record { refused = λ n. f; yes = λ z p. absurd (number_some why (sym e ∙ z)); no = λ z n. absurd (number_some why (sym e ∙ z)) })

-- A CALL OVER THE TABLES, whichever it is: x is its answer, r the number that goes to C
module _ (T S : Tables) (out₀ out : List ℕ) (c : Call) (x : Reply) (r : ℕ) (h : outcome x S out ≡ told out₀ (carried T c)) (e : r ≡ reply_number x) where
  pub tells : length out₀ ≡ room_of c → Tells T out₀ c S out r
  tells l = go x h e
    where
      go : (x : Reply) → outcome x S out ≡ told out₀ (carried T c) → r ≡ reply_number x → Tells T out₀ c S out r
      go (Ok n) h e =
          record { room = l; number = e ∙ ap (λ (o : Outcome). o.refused) h; tables = ap (λ (o : Outcome). o.after) h; bytes = ap (λ (o : Outcome). o.out) h }
      go (Err why) h e =
          record { room = l; number = e ∙ ap (λ (o : Outcome). o.refused) h; tables = ap (λ (o : Outcome). o.after) h; bytes = ap (λ (o : Outcome). o.out) h }

  first_told_lem : (was is : ℕ) → is ≡ first_told x was → is ≡ told_number r (first_in (carried T c).answer) was
  unfolding told_number
  first_told_lem was is f = go x h e f
    where
      go : (x : Reply) → outcome x S out ≡ told out₀ (carried T c) → r ≡ reply_number x → is ≡ first_told x was → is ≡ told_number r (first_in (carried T c).answer) was
      go (Ok n) h e f = rw (eq-eqb r 0 e) (f ∙ ap (λ (o : Outcome). o.first) h)
      go (Err why) h e f = rw (ne_eqb r 0 (λ z. number_some why (sym e ∙ z))) f

  second_told : (was is : ℕ) → is ≡ second_of x was → is ≡ told_number r (second_in (carried T c).answer) was
  unfolding told_number
  second_told was is f = go x h e f
    where
      go : (x : Reply) → outcome x S out ≡ told out₀ (carried T c) → r ≡ reply_number x → is ≡ second_of x was → is ≡ told_number r (second_in (carried T c).answer) was
      go (Ok n) h e f = rw (eq-eqb r 0 e) (f ∙ ap (λ (o : Outcome). o.second) h)
      go (Err why) h e f = rw (ne_eqb r 0 (λ z. number_some why (sym e ∙ z))) f

  pub tells_first : length out₀ ≡ room_of c → (was is : ℕ) → is ≡ first_told x was → TellsFirst T out₀ c S out r was is
  tells_first l was is f = (tells l, first_told_lem was is f)

  pub tells_both : length out₀ ≡ room_of c → (was is was' is' : ℕ) → is ≡ first_told x was → is' ≡ second_of x was'
      → TellsBoth T out₀ c S out r was is was' is'
  tells_both l was is was' is' f g = (tells l, first_told_lem was is f, second_told was' is' g)
