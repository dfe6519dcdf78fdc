use Rattle.casetext.proofs.Reading.{case_made, bytes_made, grown_length}
use Rattle.std.proofs.Common.{arith}
use Rattle.casetext.proofs.case_at.Goals as goal

pub returns : goal.returns
returns c = (case_made c.args.text.now c.args.at c.word_end.result c.past_blank-second.result c.word_end-2.result c.past_blank-third.result c.word_end-shown.result c.past_blank-from.result c.word_end-to.result c.word_at-word.result c.word_end.ensures.0 c.past_blank-second.ensures.0 c.word_end-2.ensures.0 c.past_blank-third.ensures.0 c.word_end-shown.ensures.0 c.past_blank-from.ensures.0 c.word_end-to.ensures.0 c.word_at-word.ensures c.args.round c.number-number.result c.length_of.result c.left_after.result c.next_line.result c.number-number.ensures.0 c.length_of.ensures.0 c.left_after.ensures.0 c.next_line.ensures.0, bytes_made c.args.text.now c.args.at c.word_end.result c.past_blank-second.result c.word_end-2.result c.past_blank-third.result c.word_end-shown.result c.past_blank-from.result c.word_end-to.result c.word_at-word.result c.word_end.ensures.0 c.past_blank-second.ensures.0 c.word_end-2.ensures.0 c.past_blank-third.ensures.0 c.word_end-shown.ensures.0 c.past_blank-from.ensures.0 c.word_end-to.ensures.0 c.word_at-word.ensures c.args.round _ _ c.read_hex.ensures.0 c.grow.ensures, grown_length c.word_at-word.result c.args.round c.read_hex.new.given c.grow.new.given c.grow.ensures c.read_hex.ensures.1, omega arith, omega arith, omega arith, omega arith, omega arith)
