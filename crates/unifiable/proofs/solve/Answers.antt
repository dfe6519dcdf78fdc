use Rattle.unifiable.specs.Pool.{loaded_cut, ready, answer}
use Rattle.unifiable.proofs.solve.Goals as goal

pub unify-requires : goal.unify-requires
unify-requires c = let a = c.args in
    let l = c.load_both-m.ensures in
    rw (loaded_cut a.sig.now a.stored.now a.question.now _ _ l, l.root) (ready a.sig.now a.stored.now a.question.now c.requires)

pub returns : goal.returns
returns c = let a = c.args in
    let l = c.load_both-m.ensures in
    answer a.sig.now a.stored.now a.question.now c.requires _ _ (rw (loaded_cut a.sig.now a.stored.now a.question.now _ _ l, l.root) at c.unify.ensures)
