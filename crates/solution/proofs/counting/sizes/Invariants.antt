use Rattle.solution.specs.Values.{Sizes}
use Rattle.solution.proofs.counting.sizes.Given as goal

abbrev pub invariant-loop : goal.invariant-loop
invariant-loop l = Sizes l.sig l.pool l.tab l.counter l.old
