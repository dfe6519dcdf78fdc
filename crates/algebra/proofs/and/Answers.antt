use borrow.Author.Rules.{rules}
use borrow.Author.Tests.{tests}
use mathlib.Core.Path.{sym, ◌∙◌}
use lib.Bits.{bit_and}
use lib.ListN.{get_or}
use Rattle.slots.proofs.Made.{made8}
use Rattle.algebra.proofs.Words.{both_words}
use Rattle.algebra.proofs.and.Goals as goal

pub returns : goal.returns
returns c =
    let us = c.args.set.words in
    let vs = c.args.other.words in
    made8 _ (λ i. bit_and (get_or us i 0) (get_or vs i 0)) (λ x y q k. search (rules, tests)) c.from_fn.ensures.items
    ∙ sym (both_words us vs (search rules) (search rules))
