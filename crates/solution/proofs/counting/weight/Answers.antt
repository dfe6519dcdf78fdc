use Prim.Native.Nat.{ℕ, ◌-◌}
use mathlib.Core.Path.{◌≡◌, sym, ap, ◌∙◌}
use native.Mathlib.Omega.{arith}
use lib.ListN.{get_or}
use Rattle.laws.specs.Sizes.{variable_base}
use Rattle.solution.specs.Values.{weigh_sym, weigh_var}
use Rattle.solution.proofs.counting.weight.Goals as goal

pub returns-then-c-lt-VARIABLE : goal.returns-then-c-lt-VARIABLE
returns-then-c-lt-VARIABLE c = let s = c in (sym (weigh_sym s.args.sz.now s.args.c c.if-c-lt-VARIABLE.true), omega arith)

pub returns-else-c-lt-VARIABLE : goal.returns-else-c-lt-VARIABLE
returns-else-c-lt-VARIABLE c = let s = c in
    let place : c.index.result ≡ s.args.c - variable_base = omega (arith, c.of_item.ensures.1, c.index.ensures) in
    (ap (λ (k : ℕ). get_or s.args.sz.now k 0) place ∙ sym (weigh_var s.args.sz.now s.args.c c.if-c-lt-VARIABLE.false), omega (arith, c.told-sz))
