use Rattle.std.proofs.Common.{arith}
use Rattle.casetext.proofs.Reading.{word_from, word_within}
use Rattle.casetext.proofs.word_end.Goals as goal

pub returns : goal.returns
returns c = (word_from _ _ _ c.word_length.ensures, omega arith, word_within _ _ _ c.requires c.word_length.ensures)
