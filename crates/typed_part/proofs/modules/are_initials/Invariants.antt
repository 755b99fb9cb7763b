use Rattle.std.proofs.Common.{◌≡◌, drop}
use Rattle.typed_part.specs.Part.{all, is_initial}
use Rattle.typed_part.proofs.modules.are_initials.Given as goal

abbrev pub invariant-loop-initial : goal.invariant-loop-initial
invariant-loop-initial l = all is_initial (drop l.initial-index l.initials) ≡ all is_initial l.initials
