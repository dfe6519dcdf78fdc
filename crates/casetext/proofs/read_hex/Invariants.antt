use Rattle.std.proofs.Common.{◌≡◌, length}
use Rattle.casetext.specs.CaseText.{HexRead}
use Rattle.casetext.proofs.read_hex.Given as goal

abbrev pub invariant-loop-i : goal.invariant-loop-i
invariant-loop-i l = HexRead l.i l.text l.from l.to l.given × (length l.given ≡ 512)
