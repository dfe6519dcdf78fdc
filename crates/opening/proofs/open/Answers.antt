use Rattle.std.specs.Prelude.{refl, Ok}
use Rattle.std.proofs.Common.{arith}
use Rattle.std.proofs.lemmas.Result.{err_from_is_err_and}
use Rattle.terms.proofs.TermLaws.{checked_signed}
use Rattle.layout.proofs.LayoutLaws.{cleared}
use Rattle.calls.proofs.Public.{ample_not, ample_is, lengths}
use Rattle.opening.proofs.OpenLaws.{open_short, open_bad, open_done}
use Rattle.opening.proofs.open.Goals as goal

pub returns-then-not-lengths_suffice : goal.returns-then-not-lengths_suffice
returns-then-not-lengths_suffice c = open_short _ _ (ample_not _ _ c.lengths_suffice.ensures c.if-not-lengths_suffice.true)

pub returns-in_err-check_signature : goal.returns-in_err-check_signature
returns-in_err-check_signature c =
    let p = err_from_is_err_and c.from_residual.result c.from_residual.ensures.1 in
    rw (p.1, p.2) (open_bad _ _ _ (ample_is _ _ c.lengths_suffice.ensures c.if-not-lengths_suffice.false) c.in_err-check_signature.ensures)

pub put_signature-requires : goal.put_signature-requires
put_signature-requires c = ((lengths _ _ _ _ _ _ _ _ _ c.lengths_suffice.ensures c.if-not-lengths_suffice.false).bytes, (checked_signed _ (Ok tt) c.in_ok-check_signature.ensures refl).short)

pub clear-requires : goal.clear-requires
clear-requires c = omega (arith, (lengths _ _ _ _ _ _ _ _ _ c.lengths_suffice.ensures c.if-not-lengths_suffice.false).used)

pub clear-requires-2 : goal.clear-requires-2
clear-requires-2 c = omega (arith, (lengths _ _ _ _ _ _ _ _ _ c.lengths_suffice.ensures c.if-not-lengths_suffice.false).labels)

pub free_all-requires : goal.free_all-requires
free_all-requires c = (lengths _ _ _ _ _ _ _ _ _ c.lengths_suffice.ensures c.if-not-lengths_suffice.false).links

pub clear-requires-3 : goal.clear-requires-3
clear-requires-3 c = omega (arith, (lengths _ _ _ _ _ _ _ _ _ c.lengths_suffice.ensures c.if-not-lengths_suffice.false).l0)

pub clear-requires-4 : goal.clear-requires-4
clear-requires-4 c = omega (arith, (lengths _ _ _ _ _ _ _ _ _ c.lengths_suffice.ensures c.if-not-lengths_suffice.false).l1)

pub clear-requires-5 : goal.clear-requires-5
clear-requires-5 c = omega (arith, (lengths _ _ _ _ _ _ _ _ _ c.lengths_suffice.ensures c.if-not-lengths_suffice.false).l2)

pub clear-requires-6 : goal.clear-requires-6
clear-requires-6 c = omega (arith, (lengths _ _ _ _ _ _ _ _ _ c.lengths_suffice.ensures c.if-not-lengths_suffice.false).l3)

pub returns : goal.returns
returns c =
    let L = lengths _ _ _ _ _ _ _ _ _ c.lengths_suffice.ensures c.if-not-lengths_suffice.false in
    open_done _ _ _ _ _ _ _ _ _ _ (ample_is _ _ c.lengths_suffice.ensures c.if-not-lengths_suffice.false) c.in_ok-check_signature.ensures L.links c.put_signature.ensures (cleared _ _ _ c.clear.ensures) (cleared _ _ _ c.clear-2.ensures) c.free_all.ensures (cleared _ _ _ c.clear-3.ensures) (cleared _ _ _ c.clear-4.ensures) (cleared _ _ _ c.clear-5.ensures) (cleared _ _ _ c.clear-6.ensures)
