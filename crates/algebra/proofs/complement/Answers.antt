use Prim.Native.Nat.{◌-◌, ◌^◌}
use borrow.Author.Rules.{rules}
use borrow.Author.Tests.{tests}
use lib.ListN.{get_or}
use Rattle.slots.specs.Slots.{others}
use Rattle.slots.proofs.Made.{made8}
use Rattle.algebra.proofs.complement.Goals as goal

pub returns : goal.returns
unfolding others
returns c =
    let us = c.args.set.words in
    made8 _ (λ i. 2 ^ 64 - 1 - get_or us i 0) (λ x y q k. search (rules, tests)) c.from_fn.ensures.items
