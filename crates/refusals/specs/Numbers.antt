-- SCOPE.md, 'Numbers of refusal': none is 0, and each names one refusal. A new name has its place in `names` and its
-- line in `back`.
use Rattle.std.specs.Prelude.{ℕ, ◌≡◌, refl, Bool, true, false, List, [], ◌∷◌, ltb, eqb, Ok, Err, is_err}
use Rattle.std.proofs.Common.{sym, ap, ◌∙◌, arith, ltb-true}
use Rattle.laws.specs.Choice.{pick}
use Rattle.refusals.specs.declared.Refusal.{Refusal}
use Rattle.refusals.specs.Refusals.{Checked, number_of, checked_number}

abbrev pub names : List Refusal
names =
    Refusal.Table ∷ Refusal.Signature ∷ Refusal.Relation ∷ Refusal.Slot
    ∷ Refusal.Size ∷ Refusal.Odd ∷ Refusal.Symbol ∷ Refusal.Shape
    ∷ Refusal.Key ∷ Refusal.Argument ∷ Refusal.Full ∷ Refusal.Keys
    ∷ Refusal.Nothing ∷ Refusal.Long ∷ Refusal.Room ∷ Refusal.Log ∷ []

-- the name of a list that has a number, Table where none has
abbrev named : List Refusal → ℕ → Refusal
named [] n = Refusal.Table
named (w ∷ l) n = pick (eqb n (number_of w)) w (named l n)

back : (w : Refusal) → named names (number_of w) ≡ w
back Refusal.Table = refl
back Refusal.Signature = refl
back Refusal.Relation = refl
back Refusal.Slot = refl
back Refusal.Size = refl
back Refusal.Odd = refl
back Refusal.Symbol = refl
back Refusal.Shape = refl
back Refusal.Key = refl
back Refusal.Argument = refl
back Refusal.Full = refl
back Refusal.Keys = refl
back Refusal.Nothing = refl
back Refusal.Long = refl
back Refusal.Room = refl
back Refusal.Log = refl

pub number_one : (w v : Refusal) → number_of w ≡ number_of v → w ≡ v
number_one w v h = sym (back w) ∙ ap (named names) h ∙ back v

-- a test that every name of a list passes
abbrev pub all : (Refusal → Bool) → List Refusal → Bool
all p [] = true
all p (w ∷ l) = pick (p w) (all p l) false

both : (b c : Bool) → pick b c false ≡ true → (b ≡ true) × (c ≡ true)
both true c h = (refl, h)
both false c h = absurd (let z : ◌≡◌ {A = ℕ} 0 1 = cc in omega arith)

passed : (p : Refusal → Bool) (l : List Refusal) (n : ℕ) → all p l ≡ true → p Refusal.Table ≡ true → p (named l n) ≡ true
passed p [] n h t = t
passed p (w ∷ l) n h t = let k = both (p w) (all p l) h in go (eqb n (number_of w)) k.0 (passed p l n k.1 t)
  where
    go : (c : Bool) → p w ≡ true → p (named l n) ≡ true → p (pick c w (named l n)) ≡ true
    go true e f = e
    go false e f = f

-- what every name passes, each refusal passes: one computed test for all of them
pub every : (p : Refusal → Bool) → all p names ≡ true → (w : Refusal) → p w ≡ true
every p h w = rw (back w) at (passed p names (number_of w) h (both (p Refusal.Table) _ h).0)

pub number_some : (w : Refusal) → number_of w ≡ 0 → ⊥
number_some w h = omega (arith, ltb-true 0 (number_of w) (every (λ v. ltb 0 (number_of v)) refl w), h)

-- what a check answers is told by its number: two answers that a check may give are one
pub checked_one : (n : ℕ) (a b : Checked) → checked_number a ≡ n → checked_number b ≡ n → a ≡ b
checked_one n (Ok _) (Ok _) e f = refl
checked_one n (Ok _) (Err v) e f = absurd (number_some v (f ∙ sym e))
checked_one n (Err w) (Ok _) e f = absurd (number_some w (e ∙ sym f))
checked_one n (Err w) (Err v) e f = ap (λ z. Err z) (number_one w v (e ∙ sym f))

-- a check that refuses has a number, and one that does not has none
pub err_refused : (k : Checked) (n : ℕ) → checked_number k ≡ n → is_err k ≡ true → n ≡ 0 → ⊥
err_refused (Ok _) n e f z = absurd (let y : ◌≡◌ {A = Bool} false true = f in cc)
err_refused (Err w) n e f z = number_some w (e ∙ z)

pub ok_taken : (k : Checked) (n : ℕ) → checked_number k ≡ n → is_err k ≡ false → n ≡ 0
ok_taken (Ok _) n e f = sym e
ok_taken (Err w) n e f = absurd (let y : ◌≡◌ {A = Bool} true false = f in cc)
