use Rattle.std.proofs.Common.{◌≡◌, ◌++◌, drop}
use Rattle.system_model.specs.World.{without}
use Rattle.sys_print.proofs.outside.without.Given as goal

abbrev pub invariant-loop-m : goal.invariant-loop-m
invariant-loop-m l = l.kept.items ++ without l.n (drop l.m-index l.ms) ≡ without l.n l.ms
