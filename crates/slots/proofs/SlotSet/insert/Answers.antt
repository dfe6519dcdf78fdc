use native.Mathlib.Omega.{arith}
use Prim.Native.Nat.{◌%◌}
use mathlib.Core.Path.{sym}
use Rattle.laws.specs.Digits.{one_shl}
use Rattle.slots.specs.Slots.{inserted}
use Rattle.slots.specs.Sets.{insert_beyond}
use borrow.Author.Rules.{rules}
use Rattle.slots.proofs.SlotSet.insert.Goals as goal

pub returns-then-s-lt-CAPACITY : goal.returns-then-s-lt-CAPACITY
unfolding inserted
returns-then-s-lt-CAPACITY c = rw (one_shl (c.args.s % 64) (omega arith))

pub returns-else-s-lt-CAPACITY : goal.returns-else-s-lt-CAPACITY
returns-else-s-lt-CAPACITY c = sym (insert_beyond c.args.self.words c.args.s (search rules) c.if-s-lt-CAPACITY.false)
