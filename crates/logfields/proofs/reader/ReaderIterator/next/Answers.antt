use Rattle.std.proofs.Common.{rules}
use Rattle.logfields.proofs.Reading.{next_none, next_some}
use Rattle.logfields.proofs.reader.ReaderIterator.next.Goals as goal

pub returns-in-End-clause-steps : goal.returns-in-End-clause-steps
returns-in-End-clause-steps c = next_none _ _ _ c.take_at-field.ensures c.in-End.is

pub returns-in_default : goal.returns-in_default
returns-in_default c =
    let e = next_some _ _ _ c.take_at-field.ensures c.in_default.not-End in
    record { steps = e; goes = search rules }
