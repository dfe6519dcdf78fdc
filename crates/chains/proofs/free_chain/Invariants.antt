use Rattle.chains.specs.FreeChain.{FreeChain}
use Rattle.chains.proofs.free_chain.Given as goal

abbrev pub invariant-loop-i : goal.invariant-loop-i
invariant-loop-i l = FreeChain l.initial.link l.link l.i
