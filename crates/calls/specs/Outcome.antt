-- SCOPE.md, 'Numbers of refusal' and 'Store': what comes out of any call over the lent tables, said once. A call's
-- contract is one equation: `outcome` of what it answered and left is `told` of what the call means. So any two
-- answers that it permits coincide.
use Rattle.std.specs.Prelude.{ℕ, ◌≡◌, refl, List, Result as Either, Ok, Err}
use Rattle.std.proofs.Common.{sym, ap, ◌∙◌}
use Rattle.std.proofs.lemmas.List.Edits.{sets}
use Rattle.laws.specs.Choice.{pick}
use Rattle.refusals.specs.declared.Refusal.{Refusal}
use Rattle.refusals.specs.Refusals.{number_of}
use Rattle.refusals.specs.Numbers.{number_some, number_one}
use Rattle.definitions.specs.Answers.{Answer, refused, done, refusal_in, first_in, second_in, written, unless, refuse}
use Rattle.layout.specs.Tables.{Tables, ample}
use Rattle.calls.specs.declared.Numbers.{Numbers}

-- what a call answers: two numbers, or why it is refused
abbrev pub Reply : Type 0
Reply = Either Numbers Refusal

-- the number of the refusal or 0, up to two numbers, and the lent tables and the answer buffer afterwards
pub record Outcome : Type 0 where
  pub refused : ℕ
  pub first : ℕ
  pub second : ℕ
  pub after : Tables
  pub out : List ℕ

-- what a call answered, with the tables and the buffer as it left them
abbrev pub outcome : Reply → Tables → List ℕ → Outcome
outcome (Ok n) T out = record { refused = 0; first = n.first; second = n.second; after = T; out = out }
outcome (Err why) T out = record { refused = number_of why; first = 0; second = 0; after = T; out = out }

-- what a call means: its answer, and the tables afterwards
pub record Result : Type 0 where
  pub answer : Answer
  pub after : Tables

-- 'each refusal leaves tables and answer buffer untouched': T the tables before, S those of a call that is not refused
abbrev pub result : Answer → Tables → Tables → Result
result a T S = record { answer = a; after = unless a T S }

-- TABLE: 'a lent table is shorter than docs/TABLES.md says' goes before all else
abbrev pub guarded : Tables → Answer → Answer
guarded T a = pick (ample T) a (refuse Refusal.Table)

-- what comes out of it, where out is the buffer before
abbrev pub told : List ℕ → Result → Outcome
told out r = record {
  refused = refusal_in r.answer;
  first = first_in r.answer;
  second = second_in r.answer;
  after = r.after;
  out = sets out 0 (written r.answer);
}

-- THE WAYS OUT of a call: x is its answer by definition
pub refused_told : (why : Refusal) (T S : Tables) (out : List ℕ) (x : Answer) → x ≡ refused (number_of why) → outcome (Err why) T out ≡ told out (result x T S)
refused_told why T S out x e = rw e

pub done_told : (a b : ℕ) (w : List ℕ) (T S S' : Tables) (out out' : List ℕ) (x : Answer) → x ≡ done a b w → S' ≡ S → out' ≡ sets out 0 w → outcome (Ok (record { first = a; second = b })) S' out' ≡ told out (result x T S)
done_told a b w T S S' out out' x e f g = rw (e, f, g)

same_numbers : (m n : Numbers) → m.first ≡ n.first → m.second ≡ n.second → m ≡ n
same_numbers m n e f = ap (λ x. record m { first = x }) e ∙ ap (λ x. record n { second = x }) f

-- ANY TWO outcomes that a call's equation permits coincide: the answer, the tables and the buffer
reply_one : (r r' : Reply) (S S' : Tables) (out out' : List ℕ) → outcome r S out ≡ outcome r' S' out' → r ≡ r'
reply_one (Ok n) (Ok n') S S' out out' e =
    ap (λ (m : Numbers). Ok m) (same_numbers n n' (ap (λ (o : Outcome). o.first) e) (ap (λ (o : Outcome). o.second) e))
reply_one (Ok n) (Err v) S S' out out' e = absurd (number_some v (sym (ap (λ (o : Outcome). o.refused) e)))
reply_one (Err w) (Ok n) S S' out out' e = absurd (number_some w (ap (λ (o : Outcome). o.refused) e))
reply_one (Err w) (Err v) S S' out out' e = ap (λ z. Err z) (number_one w v (ap (λ (o : Outcome). o.refused) e))

left : (r : Reply) (S : Tables) (out : List ℕ) → ((outcome r S out).after ≡ S) × ((outcome r S out).out ≡ out)
left (Ok n) S out = (refl, refl)
left (Err w) S out = (refl, refl)

pub outcome_one : (r r' : Reply) (S S' : Tables) (out out' : List ℕ) (o : Outcome) → outcome r S out ≡ o → outcome r' S' out' ≡ o → (r ≡ r') × (S ≡ S') × (out ≡ out')
outcome_one r r' S S' out out' o e f = let g = e ∙ sym f in (
  reply_one r r' S S' out out' g,
  sym (left r S out).0 ∙ ap (λ (o : Outcome). o.after) g ∙ (left r' S' out').0,
  sym (left r S out).1 ∙ ap (λ (o : Outcome). o.out) g ∙ (left r' S' out').1,
)
