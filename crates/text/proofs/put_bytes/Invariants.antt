use lib.ListN.{take}
use Rattle.text.specs.Inside.{Written}
use Rattle.text.proofs.put_bytes.Given as goal

-- the first i bytes are written
abbrev pub invariant-loop-byte : goal.invariant-loop-byte
invariant-loop-byte l = Written l.initial.text l.at (take l.byte-index l.bytes) l.text l.end
