use borrow.Author.Rules.{rules}
use borrow.Author.Tests.{tests}
use lib.Bits.{bit_or}
use lib.ListN.{get_or}
use Rattle.slots.specs.Slots.{either}
use Rattle.slots.proofs.Made.{made8}
use Rattle.algebra.proofs.or.Goals as goal

pub returns : goal.returns
unfolding either
returns c =
    let us = c.args.set.words in
    let vs = c.args.other.words in
    made8 _ (λ i. bit_or (get_or us i 0) (get_or vs i 0)) (λ x y q k. search (rules, tests)) c.from_fn.ensures.items
