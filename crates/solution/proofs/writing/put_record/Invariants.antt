use Prim.Native.Nat.{◌-◌}
use Rattle.solution.specs.Filling.{Filling}
use Rattle.solution.specs.RecordFields.{fields_from, record_bytes}
use Rattle.solution.proofs.writing.put_record.Given as goal

abbrev pub invariant-loop-y : goal.invariant-loop-y
invariant-loop-y l = Filling (record_bytes l.sig l.pool l.tab) (fields_from l.sig l.pool l.tab (64 - l.y) l.y) l.initial.out l.out l.used
