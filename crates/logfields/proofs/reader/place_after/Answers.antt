use native.Mathlib.Omega.{arith}
use Rattle.logfields.proofs.Fields.{past_whole}
use Rattle.logfields.proofs.reader.place_after.Goals as goal

pub overflow_add-result : goal.overflow_add-result
overflow_add-result c = let w = past_whole _ _ _ _ c.args.end c.in-Whole.is in omega (arith, w)

pub returns-in-Whole : goal.returns-in-Whole
returns-in-Whole c = let w = past_whole _ _ _ _ c.args.end c.in-Whole.is in omega (arith, w)
