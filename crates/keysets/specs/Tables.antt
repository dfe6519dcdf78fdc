-- The sets that the four tables of a KeySets hold, and that the tables are as long as they must be.
use Rattle.keysets.specs.declared.KeySets.{KeySets}
use Rattle.keysets.specs.KeySets.{Sets, four, SetTablesLong}

abbrev pub sets_of : KeySets → Sets
sets_of t = four t.s0.now t.s1.now t.s2.now t.s3.now

abbrev pub TablesLong : KeySets → Type 0
TablesLong t = SetTablesLong t.s0.now t.s1.now t.s2.now t.s3.now
