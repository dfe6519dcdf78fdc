use mathlib.Core.Path.{◌≡◌, sym}
use mathlib.Core.Logic.{◌⊎◌}
use native.Mathlib.Omega.{arith}
use borrow.Author.Rules.{rules}
use borrow.Author.Tests.{tests}
use Rattle.std.proofs.Common.{⊎_elim}
use Prim.Native.Nat.{◌+◌, ◌≤◌, ◌<◌}
use Rattle.laws.specs.Sizes.{variable_base, variable_end}
use Rattle.variables.specs.Banks.{bank_of}
use Rattle.items.specs.Decoding.{as_symbol, as_variable, as_other}
use Rattle.items.proofs.code.Goals as goal

pub returns-then-not-contains : goal.returns-then-not-contains
returns-then-not-contains c =
    let a = c.args in
    let d : (a.c < variable_base) ⊎ (variable_end ≤ a.c) = search (rules, tests) in
    ⊎_elim (λ h. sym (as_symbol (bank_of a.bank) a.c h)) (λ h. sym (as_other (bank_of a.bank) a.c h)) d

pub returns-in-Stored : goal.returns-in-Stored
returns-in-Stored c = let a = c.args in
    let o = c.of_item.ensures in
    let v = as_variable 0 a.c (omega (arith, o)) (omega (arith, o)) in
    let w : c.written.result.0 ≡ 0 + c.of_item.result.0 = c.written.ensures in
    rw c.in-Stored.is (omega (arith, v, o, w, c.item.ensures))

pub returns-in-Question : goal.returns-in-Question
returns-in-Question c = let a = c.args in
    let o = c.of_item-in-Question.ensures in
    let v = as_variable 32 a.c (omega (arith, o)) (omega (arith, o)) in
    let w : c.written-in-Question.result.0 ≡ 32 + c.of_item-in-Question.result.0 = c.written-in-Question.ensures in
    rw c.in-Question.is (omega (arith, v, o, w, c.item-in-Question.ensures))
