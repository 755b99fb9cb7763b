use Rattle.std.proofs.Common.{◌≡◌, take}
use Rattle.dis_objects.proofs.links.to_text.Given as goal

abbrev pub invariant-loop-c : goal.invariant-loop-c
invariant-loop-c l = l.text ≡ take l.c-index l.chars
