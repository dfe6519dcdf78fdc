use mathlib.Core.Path.{◌≡◌}
use lib.ListN.{take}
use lib.Seq.{sets}
use Rattle.variables.specs.Banks.{bank_of}
use Rattle.items.specs.Decoding.{decoded}
use Rattle.items.proofs.load.Given as goal

abbrev pub invariant-loop-i : goal.invariant-loop-i
invariant-loop-i l = l.out ≡ sets l.initial.out l.at (take l.i (decoded (bank_of l.bank) l.t))
