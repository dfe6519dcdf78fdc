use native.Mathlib.Omega.{arith}
use Rattle.logfields.proofs.Fields.{taken_whole}
use Rattle.tasks.proofs.Tasks.{task_none, task_whole}
use Rattle.tasks.proofs.task_at.Goals as goal

pub slice_bounds-order_of-end : goal.slice_bounds-order_of-end
slice_bounds-order_of-end c = let w = taken_whole _ _ _ _ _ _ c.read-field.ensures c.in-Whole.is in omega (arith, w.inside.within, w.place_is)

pub returns-in-End : goal.returns-in-End
returns-in-End c = let t = task_none _ _ _ c.if-input-gt-INPUT.false c.read-field.ensures c.in-End.is in (t.ordered, t.within, t.past, t.logged, t.operation)

pub returns-in-Whole : goal.returns-in-Whole
returns-in-Whole c = let t = task_whole _ _ _ c.if-input-gt-INPUT.false c.read-field.ensures _ _ _ _ _ c.in-Whole.is c.fixed.ensures c.order_of-order.ensures in (t.ordered, t.within, t.past, t.logged, t.operation)
