use native.Mathlib.Omega.{arith}
use Rattle.keysets.specs.Tables.{sets_of}
use Rattle.candidates.proofs.CandidateLaws.{candidates_end}
use Rattle.candidates.proofs.candidates.Goals as goal

pub returns : goal.returns
returns c = let d = c.decode-n in let a = c.args in
    candidates_end a.tables.link.now a.tables.label.now (sets_of a.tables.sets) _ _ _ _ a.sig.now a.question.now d.new.out _ d.result a.used.words _ d.ensures.0 d.ensures.1 (omega arith) c.rule_of.ensures.0 c.rule_of.ensures.1 (c.narrow.ensures a.sig.now c.find_ends.ensures.1)
