use Rattle.std.proofs.Common.{◌≡◌, drop}
use Rattle.typed_part.specs.Part.{is_name}
use Rattle.typed_part.proofs.modules.is_name.Given as goal

abbrev pub invariant-loop-c : goal.invariant-loop-c
invariant-loop-c l = is_name (drop l.c-index l.chars) ≡ is_name l.chars
