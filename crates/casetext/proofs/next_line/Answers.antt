use Rattle.std.proofs.Common.{arith}
use Rattle.casetext.proofs.Reading.{line_from}
use Rattle.casetext.proofs.next_line.Goals as goal

pub returns : goal.returns
returns c = (line_from _ _ _ _ (omega (arith, c.requires)) c.line_length.ensures c.min.ensures, omega (arith, c.requires, c.min.ensures), omega (arith, c.min.ensures))
