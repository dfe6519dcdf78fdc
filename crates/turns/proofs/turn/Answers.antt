use Rattle.std.proofs.Common.{refl}
use Rattle.turns.proofs.Turning.{turn_made}
use Rattle.turns.proofs.turn.Goals as goal

pub returns-then-stops : goal.returns-then-stops
returns-then-stops c = turn_made _ _ _ _ _ _ _ _ _ _ c.task_at-task.result.order c.task_at-task.result.start c.task_at-task.result.end c.call-reply.result c.stops.result c.task_at-task.ensures.2 c.task_at-task.ensures.4 c.task_at-task.ensures.3 c.call-reply.ensures c.say-length.ensures c.stops.ensures (rw c.if-stops.true refl)

pub returns-else-stops : goal.returns-else-stops
returns-else-stops c = turn_made _ _ _ _ _ _ _ _ _ _ c.task_at-task.result.order c.task_at-task.result.start c.task_at-task.result.end c.call-reply.result c.stops.result c.task_at-task.ensures.2 c.task_at-task.ensures.4 c.task_at-task.ensures.3 c.call-reply.ensures c.say-length.ensures c.stops.ensures (rw c.if-stops.false refl)
