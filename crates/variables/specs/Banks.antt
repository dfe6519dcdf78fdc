-- SCOPE.md, 'Term bytes': how far the variables of each side are moved where both sides appear in one written term.
use Rattle.std.specs.Prelude.{ℕ}
use Rattle.variables.specs.declared.Bank.{Bank}
use Rattle.variables.specs.declared.Bank.TheVariants.{Stored, Question}

-- 'a stored variable v is written 0x8000 + v and a question variable v is written 0x8000 + 32 + v'
abbrev pub bank_of : Bank → ℕ
bank_of Stored = 0
bank_of Question = 32
