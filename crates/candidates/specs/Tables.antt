-- That the tables of a KeyTables are as long as they must be.
use Rattle.candidates.specs.declared.KeyTables.{KeyTables}
use Rattle.termkeys.specs.Fill.{Sized}

abbrev pub TablesSized : KeyTables → Type 0
TablesSized t = Sized t.link.now t.label.now t.sets.s0.now t.sets.s1.now t.sets.s2.now t.sets.s3.now
