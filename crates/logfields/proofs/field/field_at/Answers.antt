use native.Mathlib.Omega.{arith}
use Rattle.logfields.proofs.Fields.{field_end, field_headless, field_cut, field_whole}
use Rattle.logfields.proofs.field.field_at.Goals as goal

pub returns-then-input-at : goal.returns-then-input-at
returns-then-input-at c = field_end _ _ c.if-input-at.true

pub returns-then-left-lt3 : goal.returns-then-left-lt3
returns-then-left-lt3 c = field_headless _ _ c.if-input-at.false c.if-left-lt3.true

pub returns-then-left-length : goal.returns-then-left-length
returns-then-left-length c = field_cut _ _ _ c.if-input-at.false c.if-left-lt3.false (omega (arith, c.from_be_bytes-length.ensures)) c.if-left-length.true

pub returns : goal.returns
returns c = field_whole _ _ _ c.if-input-at.false c.if-left-lt3.false (omega (arith, c.from_be_bytes-length.ensures)) c.if-left-length.false
