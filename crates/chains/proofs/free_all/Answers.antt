use native.Mathlib.Omega.{arith}
use Rattle.chains.proofs.FreeChainLaws.{freed, heads_filled}
use Rattle.chains.proofs.free_all.Goals as goal

pub returns : goal.returns
returns c = freed _ _ _ c.requires c.free_chain.ensures
    (heads_filled _ _ (omega (arith, c.free_chain.ensures.same, c.requires)) (c.fill.ensures.after (λ y e. e)))
