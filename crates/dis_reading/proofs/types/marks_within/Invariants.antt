use Rattle.std.proofs.Common.{◌≡◌, drop}
use Rattle.dis_format.specs.Objects.{map_stands}
use Rattle.dis_reading.proofs.types.marks_within.Given as goal

abbrev pub invariant-loop-byte : goal.invariant-loop-byte
invariant-loop-byte l = map_stands l.left (drop l.byte-index l.map) ≡ map_stands l.words l.map
