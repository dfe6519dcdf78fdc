use Rattle.layout.proofs.LayoutLaws.{signature_good}
use Rattle.store.proofs.Parts.{keys_none, keys_some}
use Rattle.store.proofs.keys_in.Goals as goal

pub returns-then-not-is_term : goal.returns-then-not-is_term
returns-then-not-is_term c = keys_none _ _ _ _ _ _ _ c.signature-sig.ensures c.term-t.ensures.0 c.is_term.ensures _ (c.if-not-is_term.true)

pub outline_of-requires : goal.outline_of-requires
outline_of-requires c = (rw c.signature-sig.ensures (signature_good _), c.term-t.ensures.1)

pub numbers_of-requires : goal.numbers_of-requires
numbers_of-requires c = let p = c.requires in let o = c.outline_of.ensures in (p.1, p.2, o.few, o.room.0, o.room.1, p.4)

pub shape_of-keys : goal.shape_of-keys
shape_of-keys c = c.numbers_of.auto.keys

pub returns : goal.returns
returns c = keys_some _ _ _ _ _ _ _ c.signature-sig.ensures c.term-t.ensures.0 c.is_term.ensures _ _ _ _ _ (c.if-not-is_term.false) c.outline_of.ensures c.numbers_of.ensures
