use mathlib.Core.Path.{◌≡◌, refl, sym}
use native.Mathlib.Omega.{arith}
use borrow.Author.Rules.{rules}
use borrow.Author.Tests.{ne_eqb, le-ltb}
use Rattle.slots.specs.Slots.{has}
use Rattle.slots.specs.Sets.{has_beyond}
use Rattle.slots.proofs.SlotSet.contains.Goals as goal

pub returns-then-s-lt-CAPACITY : goal.returns-then-s-lt-CAPACITY
unfolding has
returns-then-s-lt-CAPACITY c = refl

pub returns-else-s-lt-CAPACITY : goal.returns-else-s-lt-CAPACITY
returns-else-s-lt-CAPACITY c =
    let z = has_beyond c.args.self.words c.args.s (search rules) c.if-s-lt-CAPACITY.false in
    rw (le-ltb c.args.s 512 c.if-s-lt-CAPACITY.false) (sym (ne_eqb (has c.args.self.words c.args.s) 1 (λ (e : has c.args.self.words c.args.s ≡ 1). omega (arith, e, z))))
