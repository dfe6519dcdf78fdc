use native.Mathlib.Omega.{arith}
use Prim.Native.Nat.{◌%◌, ◌/◌, ◌<◌, ◌^◌}
use mathlib.Core.Path.{sym}
use lib.ListN.{get_or}
use Rattle.std.proofs.Math.Pow.{pow-lt}
use Rattle.laws.specs.Digits.{one_shl}
use Rattle.slots.specs.Slots.{removed}
use Rattle.slots.specs.Sets.{remove_beyond}
use Rattle.slots.proofs.SlotLaws.{clear_turned}
use borrow.Author.Rules.{rules}
use Rattle.slots.proofs.SlotSet.remove.Goals as goal

pub returns-then-s-lt-CAPACITY : goal.returns-then-s-lt-CAPACITY
unfolding removed
returns-then-s-lt-CAPACITY c =
    let k : c.args.s % 64 < 64 = omega arith in
    let w : get_or c.args.self.words (c.args.s / 64) 0 < 2 ^ 64 = search rules in
    rw (one_shl (c.args.s % 64) k, ← clear_turned _ (2 ^ (c.args.s % 64)) w (pow-lt k))

pub returns-else-s-lt-CAPACITY : goal.returns-else-s-lt-CAPACITY
returns-else-s-lt-CAPACITY c = sym (remove_beyond c.args.self.words c.args.s (search rules) c.if-s-lt-CAPACITY.false)
