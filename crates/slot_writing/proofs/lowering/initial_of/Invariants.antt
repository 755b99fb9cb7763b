use Rattle.std.proofs.Common.{◌≡◌, drop}
use Rattle.typed_meaning.specs.Program.{initial_of}
use Rattle.slot_writing.proofs.lowering.initial_of.Given as goal

abbrev pub invariant-loop-initial : goal.invariant-loop-initial
invariant-loop-initial l = initial_of l.number l.initials ≡ initial_of l.number (drop l.initial-index l.initials)
