use native.Mathlib.Omega.{arith}
use mathlib.Core.Path.{sym}
use lib.Seq.{length-take-le}
use Rattle.store.proofs.Parts.{none_are, room_early, room_late}
use Rattle.store.proofs.fits.Goals as goal

pub returns-then-roomy : goal.returns-then-roomy
returns-then-roomy c = room_early _ _ _ _ _ _ (length-take-le c.args.o.items c.args.o.ups (omega (arith, c.requires))) c.roomy.ensures c.if-roomy.true

pub numbers_of-requires : goal.numbers_of-requires
numbers_of-requires c = let p = c.requires in (p.0, p.1, p.2, p.3, p.4, none_are)

pub slice_bounds-keys-end : goal.slice_bounds-keys-end
slice_bounds-keys-end c = omega (arith, c.numbers_of.auto.keys, c.requires.2)

pub slice_bounds-missing-end : goal.slice_bounds-missing-end
slice_bounds-missing-end c = sym (length-take-le c.args.o.items c.numbers_of.new.keys (omega (arith, c.numbers_of.auto.keys, c.requires.2)))

pub returns : goal.returns
returns c = room_late _ _ _ _ _ _ _ _ (length-take-le c.args.o.items c.args.o.ups (omega (arith, c.requires))) c.numbers_of.ensures.1 c.missing.ensures.0 c.roomy-2.ensures
