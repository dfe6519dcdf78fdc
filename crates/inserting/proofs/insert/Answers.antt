use Rattle.std.specs.Prelude.{◌≡◌, refl, Ok, length}
use Rattle.std.proofs.Common.{sym, ◌∙◌, arith}
use Rattle.std.proofs.lemmas.Result.{err_from_is_err_and}
use Rattle.std.proofs.lemmas.List.{length-take-le}
use Rattle.layout.proofs.LayoutLaws.{signature_good}
use Rattle.terms.proofs.TermLaws.{checked_good}
use Rattle.calls.proofs.Public.{ample_not, ample_is, lengths}
use Rattle.store.proofs.Parts.{sized}
use Rattle.inserting.proofs.InsertLaws.{free_slot_lem, insert_short, insert_bad, insert_full, insert_crowded, insert_done}
use Rattle.inserting.proofs.insert.Goals as goal

pub returns-then-not-lengths_suffice : goal.returns-then-not-lengths_suffice
returns-then-not-lengths_suffice c = insert_short _ _ (ample_not _ _ c.lengths_suffice.ensures c.if-not-lengths_suffice.true)

pub returns-in_err-check : goal.returns-in_err-check
returns-in_err-check c =
    let p = err_from_is_err_and c.from_residual.result c.from_residual.ensures.1 in
    rw (p.1, p.2) (insert_bad _ _ _ (ample_is _ _ c.lengths_suffice.ensures c.if-not-lengths_suffice.false) c.signature-sig.ensures _ c.in_err-check.ensures)

pub outline_of-o-requires : goal.outline_of-o-requires
outline_of-o-requires c = (rw c.signature-sig.ensures (signature_good _), (checked_good _ _ (Ok tt) c.in_ok-check.ensures refl).short)

pub returns-in_default : goal.returns-in_default
returns-in_default c = insert_full _ _ _ (ample_is _ _ c.lengths_suffice.ensures c.if-not-lengths_suffice.false) c.signature-sig.ensures c.in_ok-check.ensures (free_slot_lem _ _ _ _ c.slots_used-set.ensures c.complement.ensures c.in_default.ensures)

pub returns-then-not-fits : goal.returns-then-not-fits
returns-then-not-fits c =
    let n = c.in-Some.ensures in
    insert_crowded _ _ _ (ample_is _ _ c.lengths_suffice.ensures c.if-not-lengths_suffice.false) c.signature-sig.ensures c.in_ok-check.ensures _ (free_slot_lem _ _ _ _ c.slots_used-set.ensures c.complement.ensures n.1) _ _ _ _ n.0 c.outline_of-o.ensures c.fits.ensures c.if-not-fits.true

pub insert_all-requires : goal.insert_all-requires
insert_all-requires c =
    let o = c.outline_of-o.result in
    let e = c.outline_of-o.ensures in
    let a : length o.ups ≡ 32 = e.room.0 in
    let b : length o.ends ≡ 32 = e.room.1 in
    let p = length-take-le o.items o.ups (omega (arith, a, e.few)) in
    let q = length-take-le o.items o.ends (omega (arith, b, e.few)) in
    (sized _ _ _ _ _ _ _ _ (lengths _ _ _ _ _ _ _ _ _ c.lengths_suffice.ensures c.if-not-lengths_suffice.false), omega (arith, c.in-Some.ensures.0), p ∙ sym q, omega (arith, p, e.few), omega arith)

pub put_term-requires : goal.put_term-requires
put_term-requires c = ((lengths _ _ _ _ _ _ _ _ _ c.lengths_suffice.ensures c.if-not-lengths_suffice.false).bytes, omega (arith, c.in-Some.ensures.0), (checked_good _ _ (Ok tt) c.in_ok-check.ensures refl).short)

pub returns : goal.returns
returns c =
    let n = c.in-Some.ensures in
    insert_done _ _ _ (ample_is _ _ c.lengths_suffice.ensures c.if-not-lengths_suffice.false) c.signature-sig.ensures c.in_ok-check.ensures _ (free_slot_lem _ _ _ _ c.slots_used-set.ensures c.complement.ensures n.1) _ _ _ _ n.0 c.outline_of-o.ensures c.fits.ensures _ _ _ _ _ _ _ _ _ _ _ c.if-not-fits.false c.insert_all.ensures c.put_term.ensures c.slots_used-set.ensures c.insert.ensures c.put_used.ensures
