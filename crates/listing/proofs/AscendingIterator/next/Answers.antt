use borrow.Author.Rules.{rules}
use mathlib.Core.Path.{◌≡◌}
use mathlib.Core.List.{◌∷◌}
use Prim.Native.Nat.{◌+◌}
use Rattle.listing.specs.Following.{left}
use Rattle.listing.proofs.Listing.{left_some, left_none}
use Rattle.listing.proofs.AscendingIterator.next.Goals as goal

pub returns-in_err-slot-clause-steps : goal.returns-in_err-slot-clause-steps
returns-in_err-slot-clause-steps c =
    let e = left_none _ _ c.in_err-slot.ensures in
    rw c.from_residual.ensures (e, e)

pub returns-clause-steps : goal.returns-clause-steps
returns-clause-steps c = let n = c.in_ok-slot.ensures in left_some _ _ _ n.0 n.1

pub returns-clause-goes : goal.returns-clause-goes
returns-clause-goes c =
    let n = c.in_ok-slot.ensures in
    let e : left c.args.self.now ≡ c.in_ok-slot.slot ∷ left (record { set = c.args.self.now.set; from = c.in_ok-slot.slot + 1 }) = left_some _ _ _ n.0 n.1 in
    search rules
