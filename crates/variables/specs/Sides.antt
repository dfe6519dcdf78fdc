-- SCOPE.md, 'Term bytes': the variable that a written number stands for.
use Rattle.std.specs.Prelude.{◌≡◌, ℕ, ◌+◌, ◌<◌}
use Rattle.std.proofs.Common.{ap, sym, arith}
use Rattle.variables.specs.declared.OwnVariable.{OwnVariable}
use Rattle.variables.specs.declared.WrittenVariable.{WrittenVariable}
use Rattle.variables.specs.declared.Side.{Side}
use Rattle.variables.specs.declared.Side.TheVariants.{Stored, Question}
use Rattle.variables.specs.declared.Bank.TheVariants as Bank
use Rattle.variables.specs.Banks.{bank_of}
use Rattle.laws.specs.Sizes.{variable_base}

-- '0x8000 + v is variable v': the number v, one of n, of the item c
abbrev pub OfItem : ℕ → ℕ → ℕ → Type 0
OfItem n c v = (v < n) × (variable_base + v ≡ c)

-- one of 32 on its own side, moved by that side's bank
abbrev pub StandsFor : ℕ → Side → Type 0
StandsFor w (Stored v) = (v.0 < 32) × (bank_of Bank.Stored + v.0 ≡ w)
StandsFor w (Question v) = (v.0 < 32) × (bank_of Bank.Question + v.0 ≡ w)

own_one : {bank : ℕ} (u v : OwnVariable bank) → u.0 ≡ v.0 → u ≡ v
own_one u v e = ap (λ z. record { 0 = z }) e

written_one : (u v : WrittenVariable) → u.0 ≡ v.0 → u ≡ v
written_one u v e = ap (λ z. record { 0 = z }) e

-- an item is one variable of each kind
own_item_one : {bank : ℕ} (n c : ℕ) (u v : OwnVariable bank) → OfItem n c u.0 → OfItem n c v.0 → u ≡ v
own_item_one n c u v h k = own_one u v (omega (arith, h.1, k.1))

pub stored_item_one : (n c : ℕ) (u v : OwnVariable 0) → OfItem n c u.0 → OfItem n c v.0 → u ≡ v
stored_item_one = own_item_one

pub question_item_one : (n c : ℕ) (u v : OwnVariable 32) → OfItem n c u.0 → OfItem n c v.0 → u ≡ v
question_item_one = own_item_one

pub written_item_one : (n c : ℕ) (u v : WrittenVariable) → OfItem n c u.0 → OfItem n c v.0 → u ≡ v
written_item_one n c u v h k = written_one u v (omega (arith, h.1, k.1))

-- a written number stands for one variable
pub stands_one : (w : ℕ) (a b : Side) → StandsFor w a → StandsFor w b → a ≡ b
stands_one w (Stored u) (Stored v) h k = ap (λ z. Stored z) (own_one u v (omega (arith, h.1, k.1)))
stands_one w (Stored u) (Question v) h k = absurd (omega (arith, h.0, h.1, k.1))
stands_one w (Question u) (Stored v) h k = absurd (omega (arith, k.0, k.1, h.1))
stands_one w (Question u) (Question v) h k = ap (λ z. Question z) (own_one u v (omega (arith, h.1, k.1)))

-- what `written` says of a variable of either side, by the bank of its type
abbrev pub written_from : {bank : ℕ} → OwnVariable bank → ℕ
written_from {bank = bank} v = bank + v.0

abbrev pub AsWritten : Side → ℕ → Type 0
AsWritten (Stored v) w = (v.0 < 32) × (w ≡ written_from v)
AsWritten (Question v) w = (v.0 < 32) × (w ≡ written_from v)

-- each side's type has its side's bank, so what a variable is written as stands for it
pub written_stands : (w : ℕ) (s : Side) → AsWritten s w → StandsFor w s
written_stands w (Stored v) h = (h.0, sym h.1)
written_stands w (Question v) h = (h.0, sym h.1)
