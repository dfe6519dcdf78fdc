use Rattle.unifiable.specs.Pool.{loaded_cut, ready, term_stored, term_question}
use Rattle.solution.proofs.record.Goals as goal

pub record_pool-requires : goal.record_pool-requires
record_pool-requires c = let a = c.args in
    let l = c.load_both-m.ensures in
    rw (loaded_cut a.sig.now a.stored.now a.question.now _ _ l, l.root) (ready a.sig.now a.stored.now a.question.now c.requires)

pub returns : goal.returns
returns c = let a = c.args in
    let A = c.requires in
    let l = c.load_both-m.ensures in
    rw (loaded_cut a.sig.now a.stored.now a.question.now _ _ l, l.root, term_stored a.sig.now a.stored.now a.question.now A, term_question a.sig.now a.stored.now a.question.now A) at c.record_pool.ensures
