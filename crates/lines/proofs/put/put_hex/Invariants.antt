use lib.ListN.{take}
use Rattle.lines.specs.Lines.{Put, hex}
use Rattle.lines.proofs.put.put_hex.Given as goal

abbrev pub invariant-loop-byte : goal.invariant-loop-byte
invariant-loop-byte l = Put l.initial.line l.line l.at (hex (take l.byte-index l.bytes)) l.next
