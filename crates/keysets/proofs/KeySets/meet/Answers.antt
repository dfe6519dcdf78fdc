use borrow.Author.Rules.{rules}
use borrow.Author.Tests.{tests}
use mathlib.Core.Path.{◌∙◌}
use lib.Bits.{bit_and}
use lib.ListN.{get_or}
use Rattle.slots.proofs.Made.{made8}
use Rattle.keysets.proofs.KeySetLaws.{met_none, met_at}
use Rattle.keysets.proofs.KeySets.meet.Goals as goal

pub returns-then-k-ge-KEYS : goal.returns-then-k-ge-KEYS
returns-then-k-ge-KEYS c = c.empty.ensures ∙ met_none _ _ _ c.if-k-ge-KEYS.true

pub returns : goal.returns
returns c =
    let us = c.words-own.result.now in
    let vs = c.args.within.words in
    made8 _ (λ i. bit_and (get_or us i 0) (get_or vs i 0)) (λ x y q k. search (rules, tests)) c.from_fn.ensures.items
    ∙ met_at _ c.args.k us vs c.if-k-ge-KEYS.false c.words-own.ensures.0
