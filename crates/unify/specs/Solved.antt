-- Serves SCOPE.md, 'The solver's record': what solving answers, read as a code and a table.
use Rattle.std.specs.Prelude.{◌≡◌, refl, List, [], ℕ, Result, Ok, Err, is_ok, eqb}
use Rattle.unify.specs.declared.Apart.{Apart}
use Rattle.unify.specs.declared.Apart.TheVariants.{Clash, Circle}

-- 0 where the two unify, 1 for a clash, 2 for a circle
abbrev pub code_of : Result (List ℕ) Apart → ℕ
code_of (Ok tab) = 0
code_of (Err Clash) = 1
code_of (Err Circle) = 2

-- the table of bindings, where there is one
abbrev pub table_of : Result (List ℕ) Apart → List ℕ
table_of (Ok tab) = tab
table_of (Err why) = []

pub ok_code : (r : Result (List ℕ) Apart) → is_ok r ≡ eqb (code_of r) 0
ok_code (Ok tab) = refl
ok_code (Err Clash) = refl
ok_code (Err Circle) = refl
